use Rattle.std.proofs.Common.{refl}
use Rattle.k2v_world.proofs.Causes.{handed_on}
use Rattle.k2v_world.proofs.Delivers.{has_next, delivered_plays, next_overflows, step_overflows}
use Rattle.k2v_world.proofs.world.ItemWorld.delivers.Goals as goal

pub goes_on-requires : goal.goes_on-requires
goes_on-requires c = record { stands = has_next c.args.self.now _ c.args.message c.in_ok-report.report c.in_ok-report.ensures.steps refl refl c.requires.stands }

pub returns-in_err-report-clause-causes : goal.returns-in_err-report-clause-causes
returns-in_err-report-clause-causes c =
    handed_on c.from_residual.result c.in_err-report.field-0.0 c.from_residual.ensures.1 (step_overflows c.args.self.now c.args.message) c.in_err-report.ensures.causes

pub returns-in_err-told-clause-causes : goal.returns-in_err-told-clause-causes
returns-in_err-told-clause-causes c =
    handed_on c.from_residual-in_err-told.result c.in_err-told.field-0.0 c.from_residual-in_err-told.ensures.1
    (next_overflows c.args.self.now _ c.args.message c.in_ok-report.report c.in_ok-report.ensures.steps refl refl) c.in_err-told.ensures.causes

pub returns-clause-plays : goal.returns-clause-plays
returns-clause-plays c = λ s d.
    rw (c.in_ok-append.ensures.ok.0, c.in_ok-lines.ensures.lines, c.of_cluster.ensures)
    (delivered_plays c.args.self.now _ c.args.message c.in_ok-report.report c.in_ok-report.ensures.steps refl refl c.goes_on.new.self c.in_ok-told.told _ c.in_ok-told.ensures.plays refl s d)
