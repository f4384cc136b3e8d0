use Rattle.std.proofs.Common.{rules}
use Rattle.std.proofs.lemmas.Fn.{always_returns_same}
use Rattle.std.specs.Ordering.{nat_cmp}
use Rattle.numbered_list.proofs.Searching.{searched}
use Rattle.numbered_list.proofs.numbered.place_of.Goals as goal

-- the closure compares an item's number with the number
pub returns-clause-found : goal.returns-clause-found
returns-clause-found g c =
    let facts = c.binary_search_by.ensures in
    let by_number = facts.position (λ x. nat_cmp (g.T.Numbered.number x) c.args.number) (always_returns_same _ _ _ (λ a r h called. (search rules, search rules))) in
    rw c.ok.ensures.value (searched g.T.Numbered.number c.args.number c.args.items.now c.binary_search_by.result c.requires facts.bound by_number).found

pub returns-clause-absent : goal.returns-clause-absent
returns-clause-absent g c =
    let facts = c.binary_search_by.ensures in
    let by_number = facts.position (λ x. nat_cmp (g.T.Numbered.number x) c.args.number) (always_returns_same _ _ _ (λ a r h called. (search rules, search rules))) in
    rw c.ok.ensures.value (searched g.T.Numbered.number c.args.number c.args.items.now c.binary_search_by.result c.requires facts.bound by_number).absent
