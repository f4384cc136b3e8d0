-- Lists of keys and values in the order of their keys, and how two of them merge.
use Rattle.std.specs.Prelude.{Bool, true, not, ◌&&◌, List, [], ◌∷◌, Option, Some, None, filter}
use Rattle.std.specs.declared.cmp.Ordering.{Ordering}
use Rattle.std.specs.Ordering.{is_lt}
use Rattle.crdt_core.specs.Lex.{by_order}

module _ {K V : Type 0} (R : K → K → Ordering) where
  -- k is below the first key
  abbrev pub is_below : K → List (K × V) → Bool
  is_below k [] = true
  is_below k (e ∷ es) = is_lt (R k e.0)

  -- each key is below the next
  abbrev pub is_ascending : List (K × V) → Bool
  is_ascending [] = true
  is_ascending (e ∷ es) = is_below e.0 es && is_ascending es

  -- the value at the key k of entries that ascend
  abbrev pub value_at : K → List (K × V) → Option V
  value_at k [] = None
  value_at k (e ∷ es) = by_order (R k e.0) None (Some e.1) (value_at k es)

  -- the entries but those whose keys are smaller than k
  abbrev pub entries_from : K → List (K × V) → List (K × V)
  entries_from k es = filter (λ e. not (is_lt (R e.0 k))) es

module _ {K V : Type 0} (R : K → K → Ordering) (j : V → V → V) where
  -- the entries of both in the order of their keys, and under one key the join of the values
  abbrev pub merged : List (K × V) → List (K × V) → List (K × V)
  merged [] ys = ys
  merged (x ∷ xs) [] = x ∷ xs
  merged (x ∷ xs) (y ∷ ys) = by_order (R x.0 y.0) (x ∷ merged xs (y ∷ ys)) ((x.0, j x.1 y.1) ∷ merged xs ys) (y ∷ merged (x ∷ xs) ys)
