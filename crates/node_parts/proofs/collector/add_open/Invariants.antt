use Rattle.std.proofs.Common.{◌≡◌, ℕ, List, drop}
use Rattle.std.specs.Prelude.{◌||◌}
use Rattle.std.specs.List.{list_any}
use Rattle.std.specs.Ordering.{nat_cmp, is_eq}
use Rattle.std.specs.Cmp.Lexicographic.{slice_cmp}
use Rattle.table_store.specs.Index.{has_key}
use Rattle.node_parts.proofs.collector.add_open.Given as goal

-- the keys of those that are left are to come
abbrev pub invariant-loop-collection : goal.invariant-loop-collection
invariant-loop-collection l =
    (key : List ℕ) → (has_key key l.keys.keys || list_any (λ o. is_eq (slice_cmp nat_cmp key o.key)) (drop l.collection-index l.all))
    ≡ (has_key key l.fn.keys.keys || list_any (λ o. is_eq (slice_cmp nat_cmp key o.key)) l.all)
