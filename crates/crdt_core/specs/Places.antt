-- Where a key is among entries in order, or where it would go.
use Rattle.std.specs.Prelude.{◌≡◌, ℕ, ◌<◌, ◌≤◌, List, [], ◌∷◌, length, take, drop, slice_index_or}
use Rattle.std.specs.declared.cmp.Ordering.{Ordering}
use Rattle.std.specs.declared.cmp.Ordering.TheVariants.{Less, Equal, Greater}

module _ {K V : Type 0} (R : K → K → Ordering) (k : K) where
  -- each key is below k
  abbrev pub AllBelow : List (K × V) → Type 0
  AllBelow [] = Unit {0}
  AllBelow (e ∷ es) = (R e.0 k ≡ Less) × AllBelow es

  -- the first key is above k
  abbrev pub FirstAbove : List (K × V) → Type 0
  FirstAbove [] = Unit {0}
  FirstAbove (e ∷ es) = R e.0 k ≡ Greater

  -- the entry at place i has the key k, and those before it have smaller keys
  pub record IsAt (es : List (K × V)) (i : ℕ) : Type 0 where
    pub in_range : i < length es
    pub below : AllBelow (take i es)
    pub equal : (d : K × V) → R (slice_index_or es i d).0 k ≡ Equal

  -- the key k would go to place i
  pub record IsGap (es : List (K × V)) (i : ℕ) : Type 0 where
    pub in_range : i ≤ length es
    pub below : AllBelow (take i es)
    pub above : FirstAbove (drop i es)
