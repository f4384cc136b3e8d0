use Rattle.std.proofs.Common.{◌≡◌, List, ap, sym, ◌∙◌}
use Rattle.numbered_list.proofs.Numbering.{one_left_out, numbered_left}
use Rattle.block_resync.specs.Outbox.{Outbox, number_of, two_of_each}
use Rattle.block_resync.specs.declared.item.Item.{Item}
use Rattle.block_resync.proofs.Numbering.{none_found, one_found}
use Rattle.block_resync.proofs.resync.Resync.done.Goals as goal

pub invariant_of-self : goal.invariant_of-self
invariant_of-self c =
    let v = c.at.result.now in
    let is : v.number ≡ c.args.number = rw (c.as_slice.ensures, c.at.ensures) at c.in-Some.ensures.found in
    rw (c.remove.ensures.rest ∙ one_left_out number_of c.args.number 0 c.self.inside.items c.in-Some.i v c.self.invariant.rises c.at.ensures is)
    (numbered_left number_of c.args.number c.self.inside.pushed c.self.inside.items c.self.invariant)

pub returns-then-done-clause-done : goal.returns-then-done-clause-done
returns-then-done-clause-done c =
    let v = c.at.result.now in
    let is : v.number ≡ c.args.number = rw (c.as_slice.ensures, c.at.ensures) at c.in-Some.ensures.found in
    rw (← c.self.view_is)
    (c.has_two_of_each-done.ensures
    ∙ sym (one_found (two_of_each c.args.sets.now) c.args.number 0 c.self.inside.items c.in-Some.i v c.self.invariant.rises c.at.ensures is))

pub returns-then-done-clause-after : goal.returns-then-done-clause-after
returns-then-done-clause-after c =
    let whole : List Item → Outbox = λ items. record { pushed = c.self.inside.pushed; items = items } in
    let v = c.at.result.now in
    let is : v.number ≡ c.args.number = rw (c.as_slice.ensures, c.at.ensures) at c.in-Some.ensures.found in
    rw (c.if-done.true, ← c.self.view_is)
    (ap whole (c.remove.ensures.rest ∙ one_left_out number_of c.args.number 0 c.self.inside.items c.in-Some.i v c.self.invariant.rises c.at.ensures is))

pub returns-else-done-clause-done : goal.returns-else-done-clause-done
returns-else-done-clause-done c =
    let v = c.at.result.now in
    let is : v.number ≡ c.args.number = rw (c.as_slice.ensures, c.at.ensures) at c.in-Some.ensures.found in
    rw (← c.self.view_is)
    (c.has_two_of_each-done.ensures
    ∙ sym (one_found (two_of_each c.args.sets.now) c.args.number 0 c.self.inside.items c.in-Some.i v c.self.invariant.rises c.at.ensures is))

pub returns-in-None-clause-done : goal.returns-in-None-clause-done
returns-in-None-clause-done c =
    rw (← c.self.view_is)
    (sym (none_found (two_of_each c.args.sets.now) c.args.number c.self.inside.items (rw c.as_slice.ensures at c.in-None.ensures.absent)))
