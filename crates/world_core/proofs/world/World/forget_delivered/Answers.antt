use Rattle.blake2_hash.specs.Blake2b.{blake2b}
use Rattle.world_core.proofs.WorldsStand.{stands_of}
use Rattle.world_core.proofs.world.World.forget_delivered.Goals as goal

pub returns : goal.returns
returns g c w h =
    stands_of g.S.Row.Crdt.join g.S.Schema.words _ _ (record {
      nodes = h.nodes;
      post = c.forget_delivered.ensures g.S.Schema.words w.messages w.marks h.post;
      clocks = h.clocks;
      roles = h.roles;
      redundancy = h.redundancy;
      wanted = h.wanted;
      applied = h.applied;
      requests = h.requests;
      few = h.fits.requests;
      whole = record {
        sound = record { versions = h.sound.versions; gapless = h.sound.gapless; greatest = h.sound.greatest; messages = h.sound.messages; requests = h.sound.requests; different = h.sound.different };
        stocked = c.steps_keep_blocks.ensures.forgotten (blake2b 32) g.S.Row.Crdt.join g.S.Schema.words w h.stocked;
      };
    })
