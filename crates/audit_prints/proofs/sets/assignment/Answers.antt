use Rattle.std.proofs.Common.{◌≡◌, List, IsTrue, length, ap, subst, ◌∙◌}
use Rattle.std.specs.List.{list_all, list_any}
use Rattle.layout_roles.specs.Zones.{set_ascends}
use Rattle.layout_roles.specs.Fits.{NodeSet, Fits}
use Rattle.audit_model.specs.Printed.{sets_from}
use Rattle.audit_prints.specs.Sets.{has_high}
use Rattle.audit_prints.proofs.Fitting.{high_unfit, fitting_ascend, fitting_whole}
use Rattle.audit_prints.proofs.Given.{some_found, none_found}
use Rattle.audit_prints.proofs.sets.assignment.Goals as goal

pub invariant_of-result : goal.invariant_of-result
invariant_of-result c =
    let roles = c.args.roles.now.list in
    let given = sets_from 0 c.args.saids.now in
    let is : c.in-Some.sets ≡ given = some_found (λ (sets : List NodeSet). sets ≡ given) c.in_ok-sets.field-0 c.in-Some.sets c.in-Some.is c.in_ok-sets.ensures.some in
    let fit : Fits roles c.args.r c.args.size given = subst (Fits roles c.args.r c.args.size) (c.as_slice.ensures ∙ is) (c.fits.ensures.0 c.if-fits.true) in
    record {
      whole = ap (λ (sets : List NodeSet). length sets) is ∙ fitting_whole roles c.args.r c.args.size given fit;
      ascending = ap (list_all set_ascends) is ∙ fitting_ascend roles c.args.r c.args.size c.args.saids.now fit;
    }

pub returns-in-None-clause-none : goal.returns-in-None-clause-none
returns-in-None-clause-none c =
    let given = sets_from 0 c.args.saids.now in
    high_unfit c.args.roles.now.list c.args.roles.now.numbered c.args.r c.args.size given (none_found (IsTrue (list_any has_high given)) c.in_ok-sets.field-0 c.in-None.is c.in_ok-sets.ensures.none)
