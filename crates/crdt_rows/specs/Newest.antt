-- Entries in the order of their keys, some of them final: the newest final key, and the entries without older ones.
use Rattle.std.specs.List.{list_all}
use Rattle.std.specs.Prelude.{Bool, false, cond, not, List, [], ◌∷◌, Option, Some, None}
use Rattle.std.specs.declared.cmp.Ordering.{Ordering}
use Rattle.std.specs.Ordering.{is_lt}
use Rattle.crdt_core.specs.Lex.{larger}
use Rattle.crdt_core.specs.Order.{option_join}
use Rattle.crdt_core.specs.Entries.{entries_from}

module _ {K : Type 0} (R : K → K → Ordering) where
  -- the greater of two keys of which each may be missing
  abbrev pub later : Option K → Option K → Option K
  later = option_join (larger R)

  -- k is smaller than the key n, where there is one
  abbrev pub is_older : K → Option K → Bool
  is_older k None = false
  is_older k (Some n) = is_lt (R k n)

  -- the entries but those whose keys are older than n
  abbrev pub kept : {V : Type 0} → Option K → List (K × V) → List (K × V)
  kept None es = es
  kept (Some k) es = entries_from R k es

  -- no key is older than n
  abbrev pub none_older : {V : Type 0} → Option K → List (K × V) → Bool
  none_older n = list_all (λ e. not (is_older e.0 n))

module _ {K V : Type 0} (R : K → K → Ordering) (final : V → Bool) where
  -- the key of a final entry
  abbrev pub own : K × V → Option K
  own e = cond (final e.1) (Some e.0) None

  -- the greatest key of a final entry
  abbrev pub newest_of : List (K × V) → Option K
  newest_of [] = None
  newest_of (e ∷ es) = later R (own e) (newest_of es)

  -- no key is smaller than the newest final one
  abbrev pub is_settled : List (K × V) → Bool
  is_settled es = none_older R (newest_of es) es
