use Rattle.std.specs.Prelude.{◌≡◌, Some, None, is_some, false, true}
use Rattle.std.proofs.Common.{ap, sym, ◌∙◌}
use Rattle.std.specs.BTreeMap.{get}
use Rattle.std.specs.Ordering.{nat_cmp}
use Rattle.table_store.specs.Markers.{has_key_in}
use Rattle.table_store.proofs.Marking.{all_stay, marked_here, same_stay}
use Rattle.table_store.proofs.markers.mark.Goals as goal

pub returns-in_err-add_to-clause-stay : goal.returns-in_err-add_to-clause-stay
returns-in_err-add_to-clause-stay c =
    let later = c.get_mut.follows.lender c.add_to.new.keys in
    let there = sym c.in-Some.ensures.value in
    all_stay c.args.markers.now later c.args.ts (Some c.add_to.new.keys) ((c.get_mut.follows.holds c.add_to.new.keys).3 (ap is_some there)).0
    (λ key had. c.add_to.ensures.others key (sym (ap (has_key_in key) there) ∙ had))

pub returns-in-Some-clause-stay : goal.returns-in-Some-clause-stay
returns-in-Some-clause-stay c =
    let later = c.get_mut.follows.lender c.add_to.new.keys in
    let there = sym c.in-Some.ensures.value in
    all_stay c.args.markers.now later c.args.ts (Some c.add_to.new.keys) ((c.get_mut.follows.holds c.add_to.new.keys).3 (ap is_some there)).0
    (λ key had. c.add_to.ensures.others key (sym (ap (has_key_in key) there) ∙ had))

pub returns-in-Some-clause-marked : goal.returns-in-Some-clause-marked
returns-in-Some-clause-marked c =
    let later = c.get_mut.follows.lender c.add_to.new.keys in
    let there = sym c.in-Some.ensures.value in
    marked_here c.args.markers.now later c.args.ts (Some c.add_to.new.keys) ((c.get_mut.follows.holds c.add_to.new.keys).3 (ap is_some there)).0 c.args.key.now c.in_ok-add_to.ensures.has

-- ---- nothing is noted at the timestamp yet

pub returns-in_err-add_to-2-clause-stay : goal.returns-in_err-add_to-2-clause-stay
returns-in_err-add_to-2-clause-stay c = same_stay c.args.markers.now c.get_mut.follows.lender-at-none (ap (λ m. m.entries) c.get_mut.follows.holds-at-none)

pub returns-in_err-insert-clause-stay : goal.returns-in_err-insert-clause-stay
returns-in_err-insert-clause-stay c = same_stay c.args.markers.now c.insert.new.self (c.in_err-insert.ensures.err ∙ ap (λ m. m.entries) c.get_mut.follows.holds-at-none)

pub returns-clause-stay : goal.returns-clause-stay
returns-clause-stay c t key had =
    let mid = c.get_mut.follows.lender-at-none in
    let none = ap (λ m. get nat_cmp m c.args.ts) c.get_mut.follows.holds-at-none ∙ sym c.in_default.ensures.value in
    all_stay mid c.insert.new.self c.args.ts (Some c.add_to-2.new.keys) c.in_ok-insert.ensures.updates.0
    (λ other noted. absurd (let no : false ≡ true = ap (has_key_in other) (sym none) ∙ noted in cc))
    t key (same_stay c.args.markers.now mid (ap (λ m. m.entries) c.get_mut.follows.holds-at-none) t key had)

pub returns-clause-marked : goal.returns-clause-marked
returns-clause-marked c =
    marked_here c.get_mut.follows.lender-at-none c.insert.new.self c.args.ts (Some c.add_to-2.new.keys) c.in_ok-insert.ensures.updates.0 c.args.key.now c.in_ok-add_to-2.ensures.has
