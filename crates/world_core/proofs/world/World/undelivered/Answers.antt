use Rattle.world_core.proofs.world.World.undelivered.Goals as goal

pub returns : goal.returns
returns g c w h = c.undelivered.ensures g.S.Schema.words w.messages w.marks h.post
