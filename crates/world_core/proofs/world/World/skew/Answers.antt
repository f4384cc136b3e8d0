use Rattle.std.proofs.lemmas.Result.{err_from_is_err_and}
use Rattle.world_core.proofs.WorldsChange.{skew_plays, skew_exceeds}
use Rattle.world_core.proofs.world.World.skew.Goals as goal

pub returns-in_err-skew-clause-causes : goal.returns-in_err-skew-clause-causes
returns-in_err-skew-clause-causes g c =
    let p = err_from_is_err_and c.from_residual.result c.from_residual.ensures.1 in
    rw (p.1, p.2) (c.in_err-skew.ensures.full.0, skew_exceeds g.S.Row.Crdt.join g.S.Schema.words c.args.self.now c.args.node c.args.ms c.in_err-skew.ensures.full.1)

pub returns-clause-plays : goal.returns-clause-plays
returns-clause-plays g c = skew_plays g.S.Row.Crdt.join g.S.Schema.words g.met.S.Schema.laws c.args.self.now c.silent.result c.silent.ensures c.args.node c.args.ms c.skew.new.self c.in_ok-skew.ensures.skewed
