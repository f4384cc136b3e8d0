use Rattle.world_core.proofs.world.World.sent.Goals as goal

pub returns : goal.returns
returns g c w h = c.sent.ensures g.S.Schema.words w.messages w.marks h.post
