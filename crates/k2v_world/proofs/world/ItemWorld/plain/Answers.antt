use Rattle.std.proofs.Common.{refl}
use Rattle.k2v_world.proofs.Causes.{handed_on}
use Rattle.k2v_world.proofs.Plain.{quiet_brings, quiet_plays, step_overflows}
use Rattle.k2v_world.proofs.world.ItemWorld.plain.Goals as goal

pub step-requires-clause-stocked : goal.step-requires-clause-stocked
step-requires-clause-stocked c = quiet_brings c.args.step c.requires.quiet

pub returns-in_err-report-clause-causes : goal.returns-in_err-report-clause-causes
returns-in_err-report-clause-causes c =
    handed_on c.from_residual.result c.in_err-report.field-0.0 c.from_residual.ensures.1 (step_overflows c.args.self.now c.args.step) c.in_err-report.ensures.causes

pub returns-clause-plays : goal.returns-clause-plays
returns-clause-plays c = quiet_plays c.args.self.now _ c.args.step c.in_ok-report.report c.in_ok-report.ensures.steps refl c.requires.quiet refl c.told.result c.told.ensures.tells
