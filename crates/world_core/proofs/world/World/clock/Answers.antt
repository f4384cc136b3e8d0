use Rattle.world_core.proofs.world.World.clock.Goals as goal

pub returns : goal.returns
returns g c w h = c.now.ensures w.time w.skew_of h.clocks
