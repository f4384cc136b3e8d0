use Rattle.std.proofs.Common.{◌≡◌, List, refl, sym, ap}
use Rattle.std.proofs.lemmas.Result.{on_ok_weaker, on_err_weaker}
use Rattle.gc_model.specs.Collecting.{Open, in_second, number_of}
use Rattle.gc_model.specs.declared.collection.Collection.{Collection}
use Rattle.numbered_list.proofs.Numbering.{none_changed, one_changed, set_numbered, set_same, either_number}
use Rattle.table_gc.proofs.Keyed.{either_key, keyed_set}
use Rattle.table_gc.proofs.collections.Collections.second.Goals as goal

pub invariant_of-self : goal.invariant_of-self
invariant_of-self c =
    let v = c.at_mut.result.now in
    let same = either_number number_of c.begin_second.result in_second v c.begin_second.new.collection refl c.begin_second.ensures.ok c.begin_second.ensures.err in
    record {
      numbered = set_numbered number_of c.self.inside.begun c.self.inside.list c.in-Some.i v c.begin_second.new.collection c.at_mut.ensures.value same c.self.invariant.numbered;
      keyed = keyed_set c.in-Some.i v c.begin_second.new.collection c.self.inside.list c.self.inside.keys c.at_mut.ensures.value same
          (either_key c.begin_second.result in_second v c.begin_second.new.collection refl c.begin_second.ensures.ok c.begin_second.ensures.err) c.self.invariant.keyed;
    }

pub returns-in-Some-clause-ok : goal.returns-in-Some-clause-ok
returns-in-Some-clause-ok c =
    let whole : List Collection → Open = λ cs. record { begun = c.self.inside.begun; collections = cs } in
    let v = c.at_mut.result.now in
    let is : v.number ≡ c.args.number = rw (c.as_slice.ensures, c.at_mut.ensures.value) at c.in-Some.ensures.found in
    rw (← c.self.view_is)
    (on_ok_weaker c.begin_second.result
    (λ e. ap whole (one_changed number_of in_second c.args.number 0 c.self.inside.list c.in-Some.i v c.begin_second.new.collection c.self.invariant.numbered.rises c.at_mut.ensures.value is e))
    c.begin_second.ensures.ok)

pub returns-in-Some-clause-err : goal.returns-in-Some-clause-err
returns-in-Some-clause-err c =
    let whole : List Collection → Open = λ cs. record { begun = c.self.inside.begun; collections = cs } in
    rw (← c.self.view_is)
    (on_err_weaker c.begin_second.result
    (λ e. ap whole (set_same c.self.inside.list c.in-Some.i c.at_mut.result.now c.begin_second.new.collection c.at_mut.ensures.value e))
    c.begin_second.ensures.err)

pub returns-in-None-clause-ok : goal.returns-in-None-clause-ok
returns-in-None-clause-ok c =
    let whole : List Collection → Open = λ cs. record { begun = c.self.inside.begun; collections = cs } in
    rw (← c.self.view_is)
    (ap whole (sym (none_changed number_of in_second c.args.number c.self.inside.list (rw c.as_slice.ensures at c.in-None.ensures.absent))))
