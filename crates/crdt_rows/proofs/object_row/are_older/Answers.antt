use Rattle.std.proofs.Common.{◌≡◌, Some, Ordering, Less, Equal, Greater, refl, ap, ◌∙◌}
use Rattle.std.specs.Ordering.{is_lt, nat_cmp, ordering_then, partial_ordering_then, is_some_and}
use Rattle.crdt_rows.specs.FieldLaws.{version_total}
use Rattle.crdt_rows.proofs.Older.{last_older}
use Rattle.crdt_rows.proofs.object_row.are_older.Goals as goal

-- two versions always compare
answered : (r s : Ordering) → partial_ordering_then (Some r) (Some s) ≡ Some (ordering_then r s)
answered Less s = refl
answered Equal s = refl
answered Greater s = refl

-- the last version is the greatest
pub returns-in-Some : goal.returns-in-Some
returns-in-Some c =
    let last = c.in-Some.field-0.now in
    let than = c.args.version.now in
    c.lt.ensures ∙ (ap (is_some_and is_lt) (answered (nat_cmp last.0.ts than.ts) (nat_cmp last.0.id than.id)) ∙ last_older version_total than c.args.entries.now last c.requires c.in-Some.ensures.value)
