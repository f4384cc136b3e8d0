-- What a binary search finds among entries in order.
use Rattle.std.proofs.Common.{◌≡◌, ℕ, zero, suc, ◌<◌, ◌≤◌, List, [], ◌∷◌, length, take, drop, get_or, true, refl, sym, ◌∙◌, arith, Ordering, Less, Equal, Greater, Result, Ok, Err, IfOk, IfErr, inl, inr}
use Rattle.std.specs.List.Sorted.{IsSearchInRange, IsBinarySearchResult, IsNonDecreasingBy}
use Rattle.std.specs.Ordering.{ordering_index}
use Rattle.std.specs.Cmp.{IsTotalOrder, alike_right}
use Rattle.std.proofs.lemmas.Bool.{cases_eq}
use Rattle.crdt_core.specs.LexLaws.{turned}
use Rattle.crdt_core.specs.Entries.{is_ascending}
use Rattle.crdt_core.specs.EntryLaws.{and_parts, less_is}
use Rattle.crdt_core.specs.Places.{AllBelow, FirstAbove, IsAt, IsGap}

module _ {K : Type 0} {R : K → K → Ordering} (o : IsTotalOrder R) (k : K) where
  rises_by : (a b : K) (r : Ordering) → R a b ≡ Less → R a k ≡ r → ordering_index (R a k) ≤ ordering_index (R b k)
  rises_by a b Less e p = rw p (omega arith)
  rises_by a b Equal e p = rw (p, turned o k b Less (sym (o.congr a k b p) ∙ e)) (omega arith)
  rises_by a b Greater e p = rw (p, turned o k b Less (o.trans k a b (turned o a k Greater p) e)) (omega arith)

module _ {K V : Type 0} {R : K → K → Ordering} (o : IsTotalOrder R) where
  -- the first key is below each later one
  first_below : (x : K × V) (es : List (K × V)) (i : ℕ) (d : K × V) → is_ascending R (x ∷ es) ≡ true → i < length es → R x.0 (get_or es i d).0 ≡ Less
  first_below x [] i d s h = absurd (omega arith)
  first_below x (y ∷ es) zero d s h = less_is (R x.0 y.0) (and_parts _ _ s).0
  first_below x (y ∷ es) (suc i) d s h =
      o.trans x.0 y.0 (get_or es i d).0 (less_is (R x.0 y.0) (and_parts _ _ s).0) (first_below y es i d (and_parts _ _ s).1 (omega arith))

  -- each key is below each later one
  pairs_rise : (es : List (K × V)) (i k : ℕ) (d : K × V) → is_ascending R es ≡ true → i < k → k < length es → R (get_or es i d).0 (get_or es k d).0 ≡ Less
  pairs_rise [] i k d s h l = absurd (omega arith)
  pairs_rise (x ∷ es) i zero d s h l = absurd (omega arith)
  pairs_rise (x ∷ es) zero (suc k) d s h l = first_below x es k d s (omega arith)
  pairs_rise (x ∷ es) (suc i) (suc k) d s h l = pairs_rise es i k d (and_parts _ _ s).1 (omega arith) (omega arith)

  module _ (k : K) where
    comparisons_rise : (es : List (K × V)) → is_ascending R es ≡ true → IsNonDecreasingBy (λ e. ordering_index (R e.0 k)) es
    comparisons_rise es s i j d le within = elim (cases_eq i j) [
      | inl same ↦ rw same (omega arith)
      | inr other ↦ rises_by o k (get_or es i d).0 (get_or es j d).0 _ (pairs_rise es i j d s (omega arith) within) refl
    ]

    all_below : (es : List (K × V)) (i : ℕ) → i ≤ length es → ((m : ℕ) (d : K × V) → m < i → R (get_or es m d).0 k ≡ Less) → AllBelow R k (take i es)
    all_below es zero l h = tt
    all_below [] (suc i) l h = tt
    all_below (x ∷ es) (suc i) l h = (h 0 x (omega arith), all_below es i (omega arith) (λ m d lt. h (suc m) d (omega arith)))

    first_above : (es : List (K × V)) (i : ℕ) → ((d : K × V) → i < length es → R (get_or es i d).0 k ≡ Greater) → FirstAbove R k (drop i es)
    first_above [] zero h = tt
    first_above [] (suc i) h = tt
    first_above (x ∷ es) zero h = h x (omega arith)
    first_above (x ∷ es) (suc i) h = first_above es i (λ d lt. h d (omega arith))

    pub searched : (es : List (K × V)) (r : Result ℕ ℕ) → is_ascending R es ≡ true → IsSearchInRange r (length es) → IsBinarySearchResult (λ e. R e.0 k) es r → record { found : IfOk r (IsAt R k es); absent : IfErr r (IsGap R k es) }
    searched es (Ok i) s within equal = record {
      found = record {
        in_range = within;
        below = all_below es i (omega arith) (λ m d lt. sym (alike_right o (get_or es i d).0 k (get_or es m d).0 (equal d)) ∙ pairs_rise es m i d s lt within);
        equal = equal;
      };
      absent = tt;
    }
    searched es (Err i) s within parted = record {
      found = tt;
      absent = record {
        in_range = within;
        below = all_below es i within (λ m d lt. (parted (comparisons_rise es s)).0 m d (omega arith) lt);
        above = first_above es i (λ d lt. (parted (comparisons_rise es s)).1 i d (omega arith) lt);
      };
    }
