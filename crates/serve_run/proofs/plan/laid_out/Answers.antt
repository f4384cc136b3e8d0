use Rattle.std.proofs.Common.{refl}
use Rattle.lab_outside.specs.declared.exit.Status.TheVariants.{Refused}
use Rattle.layout_command.proofs.Stated.{enough_ok, stated_reason}
use Rattle.serve_run.specs.Plan.{settings_with}
use Rattle.serve_run.proofs.plan.laid_out.Goals as goal

pub returns-in-Ok-clause-computed : goal.returns-in-Ok-clause-computed
returns-in-Ok-clause-computed c = (
  enough_ok (settings_with c.args.roles.now.list c.args.wanted) c.compute.result c.compute.ensures.nodes c.compute.ensures.zones c.in-Ok.certified c.in-Ok.is,
  c.in-Ok.ensures.certified,
)

pub returns-in_ok-reason-in-Err-clause-causes : goal.returns-in_ok-reason-in-Err-clause-causes
returns-in_ok-reason-in-Err-clause-causes c =
    stated_reason (settings_with c.args.roles.now.list c.args.wanted) c.compute.result c.compute.ensures.nodes c.compute.ensures.zones Refused c.in_ok-reason-in-Err.field-0 c.in-Err.fault
    c.in-Err.is c.in_ok-reason-in-Err.ensures.told refl c.in_ok-reason-in-Err.ensures.text
    c.compute.ensures.none
