use Rattle.std.proofs.Common.{refl}
use Rattle.k2v_world.proofs.Causes.{handed_on}
use Rattle.k2v_world.proofs.Opens.{opened_stands, opens_plays, opens_overflows}
use Rattle.k2v_world.proofs.world.ItemWorld.opens.Goals as goal

pub step-requires-2-clause-stands : goal.step-requires-2-clause-stands
step-requires-2-clause-stands c = opened_stands c.args.self.now c.args.node c.args.order c.step.new.self c.in_ok-step.field-0 c.in_ok-step.ensures.steps c.requires.stands

pub returns-in_err-report-clause-causes : goal.returns-in_err-report-clause-causes
returns-in_err-report-clause-causes c =
    handed_on c.from_residual-in_err-report.result c.in_err-report.field-0.0 c.from_residual-in_err-report.ensures.1
    (opens_overflows c.args.self.now c.args.node c.args.order c.step.new.self c.in_ok-step.field-0 c.in_ok-step.ensures.steps c.requests-number.result c.in_ok-phase.phase c.in_ok-phase.ensures.is c.requests-number.ensures)
    c.in_err-report.ensures.causes

pub returns-clause-plays : goal.returns-clause-plays
returns-clause-plays c =
    rw c.in_ok-cluster_lines.ensures.lines (
    opens_plays c.args.self.now c.args.node c.args.order c.step.new.self c.in_ok-step.field-0 c.in_ok-step.ensures.steps c.requests-number.result c.in_ok-phase.phase c.in_ok-phase.ensures.is c.requests-number.ensures
    _ c.in_ok-report.report c.args.bucket _ c.in_ok-report.ensures.steps refl c.in_ok-push.ensures.ok c.requires.bucket refl)
