use Rattle.world_core.proofs.WorldsChange.{spread_plays}
use Rattle.world_core.proofs.world.World.spread.Goals as goal

pub returns-clause-plays : goal.returns-clause-plays
returns-clause-plays g c = spread_plays g.S.Row.Crdt.join g.S.Schema.words g.met.S.Schema.laws c.args.self.now c.silent.result c.silent.ensures c.args.wanted c.requires
