use Rattle.std.proofs.Common.{refl}
use Rattle.cluster_machine.specs.declared.step.Step.TheVariants.{Restart}
use Rattle.k2v_world.proofs.Causes.{handed_on}
use Rattle.k2v_world.proofs.Plain.{restart_plays, step_overflows}
use Rattle.k2v_world.proofs.world.ItemWorld.restart.Goals as goal

pub returns-in_err-report-clause-causes : goal.returns-in_err-report-clause-causes
returns-in_err-report-clause-causes c =
    handed_on c.from_residual.result c.in_err-report.field-0.0 c.from_residual.ensures.1 (step_overflows c.args.self.now (Restart c.args.node)) c.in_err-report.ensures.causes

pub returns-clause-plays : goal.returns-clause-plays
returns-clause-plays c =
    rw (c.end_all.ensures, c.as_slice.ensures) (restart_plays c.args.self.now _ c.args.node c.in_ok-report.report c.in_ok-report.ensures.steps refl refl c.told.result c.told.ensures.tells)
