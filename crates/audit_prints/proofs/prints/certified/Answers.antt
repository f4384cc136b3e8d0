use Rattle.std.proofs.Common.{◌≤◌, arith}
use Rattle.layout_roles.specs.declared.assignment.Assignment.{Assignment}
use Rattle.layout_roles.specs.Fits.{Fits}
use Rattle.audit_model.specs.Printed.{sets_from}
use Rattle.audit_prints.proofs.Bounds.{size_bounded}
use Rattle.audit_prints.proofs.Given.{some_found}
use Rattle.audit_prints.proofs.prints.certified.Goals as goal

pub overflow_add-size : goal.overflow_add-size
overflow_add-size c =
    let roles = c.args.stage.now.roles.list in
    let r = c.zones_wanted-r.result in
    let given = sets_from 0 c.more_lines-saids.result.now in
    let fit = some_found (λ (_ : Assignment). Fits roles r c.args.size given) c.in_ok-sets.field-0 c.in-Some.sets c.in-Some.is c.in_ok-sets.ensures.fit in
    let low : c.args.size ≤ 1125899906842624 = size_bounded roles r c.args.size given c.requires c.args.stage.now.bounded fit in
    omega arith
