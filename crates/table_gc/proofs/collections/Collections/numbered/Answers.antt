use Rattle.std.proofs.Common.{◌≡◌, Some, None, ap, sym, ◌∙◌}
use Rattle.gc_model.specs.Collecting.{numbered}
use Rattle.table_gc.proofs.Numbering.{none_found, one_found}
use Rattle.table_gc.proofs.collections.Collections.numbered.Goals as goal

pub returns-in-Some : goal.returns-in-Some
returns-in-Some c =
    let v = c.at.result.now in
    let is : v.number ≡ c.args.number = rw (c.as_slice.ensures, c.at.ensures) at c.in-Some.ensures.found in
    let found : numbered c.args.number c.args.self.now ≡ Some v = rw (← c.self.view_is) (one_found c.args.number 0 c.self.inside.list c.in-Some.i v c.self.invariant.numbered.rises c.at.ensures is) in
    sym found

pub returns-in-None : goal.returns-in-None
returns-in-None c =
    let none : numbered c.args.number c.args.self.now ≡ None = rw (← c.self.view_is) (none_found c.args.number c.self.inside.list (rw c.as_slice.ensures at c.in-None.ensures.absent)) in
    sym none
