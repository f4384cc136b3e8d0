use Rattle.std.proofs.Common.{◌≡◌, List, sym, ap}
use Rattle.std.proofs.lemmas.Result.{on_ok_weaker, on_err_weaker}
use Rattle.numbered_list.proofs.Numbering.{none_changed, one_changed, set_numbered, set_same, either_number}
use Rattle.block_resync.specs.Outbox.{Outbox, number_of, item_confirmed}
use Rattle.block_resync.specs.declared.item.Item.{Item}
use Rattle.block_resync.proofs.Numbering.{same_number}
use Rattle.block_resync.proofs.resync.Resync.confirm.Goals as goal

pub invariant_of-self : goal.invariant_of-self
invariant_of-self c =
    let v = c.at_mut.result.now in
    let same = either_number number_of c.confirm.result (item_confirmed c.args.node) v c.confirm.new.self (same_number c.args.node v) c.confirm.ensures.ok c.confirm.ensures.err in
    set_numbered number_of c.self.inside.pushed c.self.inside.items c.in-Some.i v c.confirm.new.self c.at_mut.ensures.value same c.self.invariant

pub returns-in-Some-clause-ok : goal.returns-in-Some-clause-ok
returns-in-Some-clause-ok c =
    let whole : List Item → Outbox = λ items. record { pushed = c.self.inside.pushed; items = items } in
    let v = c.at_mut.result.now in
    let is : v.number ≡ c.args.number = rw (c.as_slice.ensures, c.at_mut.ensures.value) at c.in-Some.ensures.found in
    rw (← c.self.view_is)
    (on_ok_weaker c.confirm.result
    (λ e. ap whole (one_changed number_of (item_confirmed c.args.node) c.args.number 0 c.self.inside.items c.in-Some.i v c.confirm.new.self c.self.invariant.rises c.at_mut.ensures.value is e))
    c.confirm.ensures.ok)

pub returns-in-Some-clause-err : goal.returns-in-Some-clause-err
returns-in-Some-clause-err c =
    let whole : List Item → Outbox = λ items. record { pushed = c.self.inside.pushed; items = items } in
    rw (← c.self.view_is)
    (on_err_weaker c.confirm.result
    (λ e. ap whole (set_same c.self.inside.items c.in-Some.i c.at_mut.result.now c.confirm.new.self c.at_mut.ensures.value e))
    c.confirm.ensures.err)

pub returns-in-None-clause-ok : goal.returns-in-None-clause-ok
returns-in-None-clause-ok c =
    let whole : List Item → Outbox = λ items. record { pushed = c.self.inside.pushed; items = items } in
    rw (← c.self.view_is)
    (sym (ap whole (none_changed number_of (item_confirmed c.args.node) c.args.number c.self.inside.items (rw c.as_slice.ensures at c.in-None.ensures.absent))))
