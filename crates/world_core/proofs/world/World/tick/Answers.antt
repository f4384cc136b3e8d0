use Rattle.world_core.proofs.WorldsChange.{tick_plays, tick_exceeds}
use Rattle.world_core.proofs.world.World.tick.Goals as goal
use Rattle.std.proofs.lemmas.Result.{err_from_is_err_and}

pub returns-in_err-tick-clause-causes : goal.returns-in_err-tick-clause-causes
returns-in_err-tick-clause-causes g c =
    let p = err_from_is_err_and c.from_residual.result c.from_residual.ensures.1 in
    rw (p.1, p.2) (c.in_err-tick.ensures.full.0, tick_exceeds g.S.Row.Crdt.join g.S.Schema.words c.args.self.now c.args.ms c.in_err-tick.ensures.full.1)

pub returns-clause-plays : goal.returns-clause-plays
returns-clause-plays g c = tick_plays g.S.Row.Crdt.join g.S.Schema.words g.met.S.Schema.laws c.args.self.now c.silent.result c.silent.ensures c.args.ms c.tick.new.self c.in_ok-tick.ensures.ticked
