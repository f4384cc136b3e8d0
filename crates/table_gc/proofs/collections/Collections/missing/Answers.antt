use Rattle.std.proofs.Common.{◌≡◌, Some, None, IfOk, sym, ap, subst, ◌∙◌}
use Rattle.gc_model.specs.Collecting.{numbered, missing_at}
use Rattle.table_gc.proofs.Numbering.{none_found, one_found}
use Rattle.table_gc.proofs.collections.Collections.missing.Goals as goal

pub returns-in-Some-clause-nodes : goal.returns-in-Some-clause-nodes
returns-in-Some-clause-nodes c =
    let v = c.at.result.now in
    let is : v.number ≡ c.args.number = rw (c.as_slice.ensures, c.at.ensures) at c.in-Some.ensures.found in
    let found : numbered c.args.number c.args.self.now ≡ Some v = rw (← c.self.view_is) (one_found c.args.number 0 c.self.inside.list c.in-Some.i v c.self.invariant.numbered.rises c.at.ensures is) in
    subst (λ ns. IfOk c.missing.result (λ nodes. nodes.items ≡ ns)) (sym (ap missing_at found)) c.missing.ensures.nodes

pub returns-in-None-clause-nodes : goal.returns-in-None-clause-nodes
returns-in-None-clause-nodes c =
    let none : numbered c.args.number c.args.self.now ≡ None = rw (← c.self.view_is) (none_found c.args.number c.self.inside.list (rw c.as_slice.ensures at c.in-None.ensures.absent)) in
    c.new.ensures.items ∙ sym (ap missing_at none)
