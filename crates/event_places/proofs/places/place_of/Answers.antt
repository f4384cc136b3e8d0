use Rattle.std.proofs.Common.{rules}
use Rattle.std.proofs.lemmas.Fn.{always_returns_same}
use Rattle.std.specs.Ordering.{nat_cmp}
use Rattle.event_places.proofs.Searching.{searched}
use Rattle.event_places.proofs.places.place_of.Goals as goal

-- the closure compares an event's line with the line
pub returns-clause-found : goal.returns-clause-found
returns-clause-found c =
    let facts = c.binary_search_by.ensures in
    let by_line = facts.position (λ e. nat_cmp e.line c.args.line) (always_returns_same _ _ _ (λ a r h called. (search rules, search rules))) in
    rw c.ok.ensures.value (searched c.args.line c.args.events.now c.binary_search_by.result c.requires facts.bound by_line).found

pub returns-clause-absent : goal.returns-clause-absent
returns-clause-absent c =
    let facts = c.binary_search_by.ensures in
    let by_line = facts.position (λ e. nat_cmp e.line c.args.line) (always_returns_same _ _ _ (λ a r h called. (search rules, search rules))) in
    rw c.ok.ensures.value (searched c.args.line c.args.events.now c.binary_search_by.result c.requires facts.bound by_line).absent
