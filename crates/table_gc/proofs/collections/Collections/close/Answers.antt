use Rattle.std.proofs.Common.{◌≡◌, List, ap, sym, subst, ◌∙◌}
use Rattle.gc_model.specs.Collecting.{Open, number_of}
use Rattle.gc_model.specs.declared.collection.Collection.{Collection}
use Rattle.numbered_list.proofs.Numbering.{one_left_out, none_left_out, numbered_left}
use Rattle.table_gc.specs.Keys.{AreKeyed, Removes}
use Rattle.table_gc.proofs.Keyed.{keyed_left}
use Rattle.table_gc.proofs.collections.Collections.close.Goals as goal

pub invariant_of-self : goal.invariant_of-self
invariant_of-self c =
    let v = c.remove-closed.result in
    let is : v.number ≡ c.args.number = rw (c.as_slice.ensures, c.remove-closed.ensures.value) at c.in-Some.ensures.found in
    let left = c.remove-closed.ensures.rest ∙ one_left_out number_of c.args.number 0 c.self.inside.list c.in-Some.i v c.self.invariant.numbered.rises c.remove-closed.ensures.value is in
    record {
      numbered = rw left (numbered_left number_of c.args.number c.self.inside.begun c.self.inside.list c.self.invariant.numbered);
      keyed = subst (AreKeyed c.remove.new.keys) (sym left)
          (keyed_left c.args.number c.in-Some.i v c.self.inside.list c.self.inside.keys c.remove.new.keys c.self.invariant.numbered.rises c.remove-closed.ensures.value is
          (subst (λ key. Removes key c.args.number c.self.inside.keys c.remove.new.keys) c.as_slice-in-Some.ensures c.remove.ensures) c.self.invariant.keyed);
    }

pub returns-in-Some : goal.returns-in-Some
returns-in-Some c =
    let whole : List Collection → Open = λ cs. record { begun = c.self.inside.begun; collections = cs } in
    let v = c.remove-closed.result in
    let is : v.number ≡ c.args.number = rw (c.as_slice.ensures, c.remove-closed.ensures.value) at c.in-Some.ensures.found in
    rw (← c.self.view_is)
    (ap whole (c.remove-closed.ensures.rest ∙ one_left_out number_of c.args.number 0 c.self.inside.list c.in-Some.i v c.self.invariant.numbered.rises c.remove-closed.ensures.value is))

pub returns-in-None : goal.returns-in-None
returns-in-None c =
    let whole : List Collection → Open = λ cs. record { begun = c.self.inside.begun; collections = cs } in
    rw (← c.self.view_is)
    (ap whole (sym (none_left_out number_of c.args.number c.self.inside.list (rw c.as_slice.ensures at c.in-None.ensures.absent))))
