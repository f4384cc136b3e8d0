use Rattle.std.proofs.Common.{◌≡◌, List, Some, None, ap, sym, subst, ◌∙◌}
use Rattle.std.specs.Prelude.{slice_set}
use Rattle.gc_model.specs.Rounds.{is_closed}
use Rattle.gc_model.specs.Collecting.{Open, numbered, changed, closed, told, number_of}
use Rattle.gc_model.specs.declared.collection.Collection.{Collection}
use Rattle.table_gc.proofs.Answering.{end_found, end_nowhere, answered_closed, answered_open}
use Rattle.numbered_list.proofs.Numbering.{none_changed, one_changed, one_left_out, numbered_left, set_numbered, set_same}
use Rattle.table_gc.proofs.Numbering.{none_found, one_found, told_key, told_number, on_err}
use Rattle.table_gc.specs.Keys.{AreKeyed, Removes}
use Rattle.table_gc.proofs.Keyed.{keyed_left, keyed_set}
use Rattle.table_gc.proofs.collections.Collections.tombed.Goals as goal

-- ---- an answer that closes the collection

pub invariant_of-self : goal.invariant_of-self
invariant_of-self c =
    let r = c.remove-closed.result in
    let is_r : r.number ≡ c.args.number = rw (c.as_slice.ensures, c.remove-closed.ensures.value) at c.in-Some.ensures.found in
    let left = c.remove-closed.ensures.rest ∙ one_left_out number_of c.args.number 0 c.self.inside.list c.in-Some.i r c.self.invariant.numbered.rises c.remove-closed.ensures.value is_r in
    record {
      numbered = rw left (numbered_left number_of c.args.number c.self.inside.begun c.self.inside.list c.self.invariant.numbered);
      keyed = subst (AreKeyed c.remove.new.keys) (sym left)
          (keyed_left c.args.number c.in-Some.i r c.self.inside.list c.self.inside.keys c.remove.new.keys c.self.invariant.numbered.rises c.remove-closed.ensures.value is_r
          (subst (λ key. Removes key c.args.number c.self.inside.keys c.remove.new.keys) c.as_slice-then-is_closed.ensures c.remove.ensures) c.self.invariant.keyed);
    }

pub returns-then-is_closed-clause-end : goal.returns-then-is_closed-clause-end
returns-then-is_closed-clause-end c =
    let v = c.at.result.now in
    let is : v.number ≡ c.args.number = rw (c.as_slice.ensures, c.at.ensures) at c.in-Some.ensures.found in
    let found : numbered c.args.number c.args.self.now ≡ Some v = rw (← c.self.view_is) (one_found c.args.number 0 c.self.inside.list c.in-Some.i v c.self.invariant.numbered.rises c.at.ensures is) in
    let leads = c.end_of-end.ensures ∙ sym (end_found c.args.number c.args.round c.args.node c.args.newest c.args.self.now v found) in
    leads

pub returns-then-is_closed-clause-ok : goal.returns-then-is_closed-clause-ok
returns-then-is_closed-clause-ok c =
    let whole : List Collection → Open = λ cs. record { begun = c.self.inside.begun; collections = cs } in
    let v = c.at.result.now in
    let is : v.number ≡ c.args.number = rw (c.as_slice.ensures, c.at.ensures) at c.in-Some.ensures.found in
    let found : numbered c.args.number c.args.self.now ≡ Some v = rw (← c.self.view_is) (one_found c.args.number 0 c.self.inside.list c.in-Some.i v c.self.invariant.numbered.rises c.at.ensures is) in
    let leads = c.end_of-end.ensures ∙ sym (end_found c.args.number c.args.round c.args.node c.args.newest c.args.self.now v found) in
    let r = c.remove-closed.result in
    let is_r : r.number ≡ c.args.number = rw (c.as_slice.ensures, c.remove-closed.ensures.value) at c.in-Some.ensures.found in
    let here : whole c.remove-closed.new.self ≡ closed c.args.number c.args.self.now = rw (← c.self.view_is)
    (ap whole (c.remove-closed.ensures.rest ∙ one_left_out number_of c.args.number 0 c.self.inside.list c.in-Some.i r c.self.invariant.numbered.rises c.remove-closed.ensures.value is_r)) in
    here ∙ sym (answered_closed c.args.number c.args.round c.args.node c.args.newest c.args.now c.args.self.now (ap is_closed (sym leads) ∙ (sym c.is_closed.ensures ∙ c.if-is_closed.true)))

-- ---- an answer that doesn't

pub invariant_of-self-in_err-tell-in-Some : goal.invariant_of-self-in_err-tell-in-Some
invariant_of-self-in_err-tell-in-Some c =
    record {
      numbered = set_numbered number_of c.self.inside.begun c.self.inside.list c.in-Some.i c.at_mut.result.now c.tell.new.collection c.at_mut.ensures.value (ap (λ k. k.number) c.in_err-tell-in-Some.ensures.err) c.self.invariant.numbered;
      keyed = keyed_set c.in-Some.i c.at_mut.result.now c.tell.new.collection c.self.inside.list c.self.inside.keys c.at_mut.ensures.value (ap (λ k. k.number) c.in_err-tell-in-Some.ensures.err) (ap (λ k. k.key) c.in_err-tell-in-Some.ensures.err) c.self.invariant.keyed;
    }

pub returns-in_err-tell-in-Some-clause-err : goal.returns-in_err-tell-in-Some-clause-err
returns-in_err-tell-in-Some-clause-err c =
    let whole : List Collection → Open = λ cs. record { begun = c.self.inside.begun; collections = cs } in
    let here : whole (slice_set c.self.inside.list c.in-Some.i c.tell.new.collection) ≡ c.args.self.now = rw (← c.self.view_is)
    (ap whole (set_same c.self.inside.list c.in-Some.i c.at_mut.result.now c.tell.new.collection c.at_mut.ensures.value c.in_err-tell-in-Some.ensures.err)) in
    on_err c.from_residual.result here

pub invariant_of-self-in-Some : goal.invariant_of-self-in-Some
invariant_of-self-in-Some c =
    let w = c.at_mut.result.now in
    let same = ap (λ k. k.number) c.in_ok-tell-in-Some.ensures.ok ∙ told_number c.args.round c.args.node c.args.newest c.args.now w in
    record {
      numbered = set_numbered number_of c.self.inside.begun c.self.inside.list c.in-Some.i w c.tell.new.collection c.at_mut.ensures.value same c.self.invariant.numbered;
      keyed = keyed_set c.in-Some.i w c.tell.new.collection c.self.inside.list c.self.inside.keys c.at_mut.ensures.value same
          (ap (λ k. k.key) c.in_ok-tell-in-Some.ensures.ok ∙ told_key c.args.round c.args.node c.args.newest c.args.now w) c.self.invariant.keyed;
    }

pub returns-in_ok-tell-in-Some-clause-end : goal.returns-in_ok-tell-in-Some-clause-end
returns-in_ok-tell-in-Some-clause-end c =
    let v = c.at.result.now in
    let is : v.number ≡ c.args.number = rw (c.as_slice.ensures, c.at.ensures) at c.in-Some.ensures.found in
    let found : numbered c.args.number c.args.self.now ≡ Some v = rw (← c.self.view_is) (one_found c.args.number 0 c.self.inside.list c.in-Some.i v c.self.invariant.numbered.rises c.at.ensures is) in
    let leads = c.end_of-end.ensures ∙ sym (end_found c.args.number c.args.round c.args.node c.args.newest c.args.self.now v found) in
    leads

pub returns-in_ok-tell-in-Some-clause-ok : goal.returns-in_ok-tell-in-Some-clause-ok
returns-in_ok-tell-in-Some-clause-ok c =
    let whole : List Collection → Open = λ cs. record { begun = c.self.inside.begun; collections = cs } in
    let v = c.at.result.now in
    let is : v.number ≡ c.args.number = rw (c.as_slice.ensures, c.at.ensures) at c.in-Some.ensures.found in
    let found : numbered c.args.number c.args.self.now ≡ Some v = rw (← c.self.view_is) (one_found c.args.number 0 c.self.inside.list c.in-Some.i v c.self.invariant.numbered.rises c.at.ensures is) in
    let leads = c.end_of-end.ensures ∙ sym (end_found c.args.number c.args.round c.args.node c.args.newest c.args.self.now v found) in
    let w = c.at_mut.result.now in
    let is_w : w.number ≡ c.args.number = rw (c.as_slice.ensures, c.at_mut.ensures.value) at c.in-Some.ensures.found in
    let f = told c.args.round c.args.node c.args.newest c.args.now in
    let here : whole (slice_set c.self.inside.list c.in-Some.i c.tell.new.collection) ≡ changed f c.args.number c.args.self.now = rw (← c.self.view_is)
    (ap whole (one_changed number_of f c.args.number 0 c.self.inside.list c.in-Some.i w c.tell.new.collection c.self.invariant.numbered.rises c.at_mut.ensures.value is_w c.in_ok-tell-in-Some.ensures.ok)) in
    here ∙ sym (answered_open c.args.number c.args.round c.args.node c.args.newest c.args.now c.args.self.now (ap is_closed (sym leads) ∙ (sym c.is_closed.ensures ∙ c.if-is_closed.false)))

-- ---- an answer for no open collection

pub returns-in-None-clause-end : goal.returns-in-None-clause-end
returns-in-None-clause-end c =
    let absent = rw c.as_slice.ensures at c.in-None.ensures.absent in
    let none : numbered c.args.number c.args.self.now ≡ None = rw (← c.self.view_is) (none_found c.args.number c.self.inside.list absent) in
    sym (end_nowhere c.args.number c.args.round c.args.node c.args.newest c.args.self.now none)

pub returns-in-None-clause-ok : goal.returns-in-None-clause-ok
returns-in-None-clause-ok c =
    let whole : List Collection → Open = λ cs. record { begun = c.self.inside.begun; collections = cs } in
    let absent = rw c.as_slice.ensures at c.in-None.ensures.absent in
    let none : numbered c.args.number c.args.self.now ≡ None = rw (← c.self.view_is) (none_found c.args.number c.self.inside.list absent) in
    let f = told c.args.round c.args.node c.args.newest c.args.now in
    let here : c.args.self.now ≡ changed f c.args.number c.args.self.now = rw (← c.self.view_is) (ap whole (sym (none_changed number_of f c.args.number c.self.inside.list absent))) in
    here ∙ sym (answered_open c.args.number c.args.round c.args.node c.args.newest c.args.now c.args.self.now (ap is_closed (end_nowhere c.args.number c.args.round c.args.node c.args.newest c.args.self.now none)))
