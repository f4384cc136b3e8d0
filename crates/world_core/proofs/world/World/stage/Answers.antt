use Rattle.world_core.proofs.WorldsChange.{staged_plays}
use Rattle.world_core.proofs.world.World.stage.Goals as goal

pub returns-clause-plays : goal.returns-clause-plays
returns-clause-plays g c =
    staged_plays g.S.Row.Crdt.join g.S.Schema.words g.met.S.Schema.laws c.args.self.now c.silent.result c.silent.ensures c.args.node c.args.role c.in_ok-self.field-0 (c.requires.low, c.requires.high) c.in_ok-self.ensures.staged
