use Rattle.std.proofs.Common.{◌++◌, ◌∙◌, sym, ap, map}
use Rattle.std.specs.List.{remove}
use Rattle.layout_text.specs.Changes.{coming_of, comings_of}
use Rattle.serve_run.specs.Plan.{coming_in}
use Rattle.serve_run.specs.Stop.{IsOfComings}
use Rattle.serve_run.proofs.Input.{handed_on}
use Rattle.serve_run.proofs.Planned.{first_said, comings_stop}
use Rattle.serve_run.proofs.plan.planned.Goals as goal

pub returns-in_err-change-clause-causes : goal.returns-in_err-change-clause-causes
returns-in_err-change-clause-causes c =
    let parts = ap (λ xs. map coming_in c.comings.changes ++ xs) (sym (first_said c.comings.comings c.remove.result c.remove.ensures.value)) ∙ c.comings.invariant.same in
    handed_on (IsOfComings (comings_of c.args.comings)) c.from_residual.result c.in_err-change.field-0.0 c.from_residual.ensures.1
    (comings_stop c.comings.changes (coming_of c.remove.result) (comings_of (remove c.comings.comings 0)) (comings_of c.args.comings) c.comings.invariant.computed parts c.in_err-change.field-0.0 c.in_err-change.ensures.causes)
