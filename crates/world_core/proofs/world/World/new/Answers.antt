use Rattle.std.proofs.Common.{refl, arith}
use Rattle.blake2_hash.specs.Blake2b.{blake2b}
use Rattle.world_core.proofs.WorldsStand.{stands_of}
use Rattle.world_core.proofs.world.World.new.Goals as goal

pub returns-clause-stands : goal.returns-clause-stands
returns-clause-stands g c =
    stands_of g.S.Row.Crdt.join g.S.Schema.words _ _ (record {
      nodes = c.new.ensures;
      post = c.new-2.ensures g.S.Schema.words;
      clocks = c.new-3.ensures;
      roles = c.new-4.ensures;
      redundancy = refl;
      wanted = tt;
      applied = refl;
      requests = c.new-5.ensures;
      few = omega arith;
      whole = record { sound = c.empty_world_is_sound.ensures; stocked = c.steps_keep_blocks.ensures.first (blake2b 32) g.S.Row.Crdt.join g.S.Schema.words };
    })
