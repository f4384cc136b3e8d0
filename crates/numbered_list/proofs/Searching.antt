-- What a binary search finds among items whose numbers ascend.
use Rattle.std.proofs.Common.{◌≡◌, ◌<◌, ◌≤◌, ℕ, zero, suc, false, ◌==◌, List, [], ◌∷◌, length, map, get_or, refl, sym, ap, ◌∙◌, arith, ne_eqb, Ordering, Less, Equal, Greater, Result, Ok, Err, inl, inr}
use Rattle.std.specs.Prelude.{slice_get, IfSome, IfNone}
use Rattle.std.specs.List.Sorted.{IsSearchInRange, IsBinarySearchResult, IsNonDecreasingBy}
use Rattle.std.specs.Ordering.{nat_cmp, ordering_index}
use Rattle.std.specs.Result.{result_ok}
use Rattle.std.specs.Cmp.{nat_cmp_total, nat_cmp_is, tied_itself}
use Rattle.std.proofs.lemmas.Bool.{cases_eq, cases_lt}
use Rattle.crdt_core.specs.IdentityLaws.{nat_identical}
use Rattle.crdt_core.specs.LexLaws.{turned}
use Rattle.numbered_list.specs.Numbers.{Rises}
use Rattle.numbered_list.proofs.Numbering.{NoneHas, number_above}

rises_by : (a b k : ℕ) (r : Ordering) → nat_cmp a b ≡ Less → nat_cmp a k ≡ r → ordering_index (nat_cmp a k) ≤ ordering_index (nat_cmp b k)
rises_by a b k Less e p = rw p (omega arith)
rises_by a b k Equal e p = rw (p, turned nat_cmp_total k b Less (sym (nat_cmp_total.congr a k b p) ∙ e)) (omega arith)
rises_by a b k Greater e p = rw (p, turned nat_cmp_total k b Less (nat_cmp_total.trans k a b (turned nat_cmp_total a k Greater p) e)) (omega arith)

apart_by : (a n : ℕ) (r : Ordering) → nat_cmp a n ≡ r → (r ≡ Equal → ⊥) → (a == n) ≡ false
apart_by a n r e other = ne_eqb a n (λ same. other (sym e ∙ ap (λ k. nat_cmp k n) same ∙ tied_itself nat_cmp_total n))

module _ {T : Type 0} (number_of : T → ℕ) where
  pairs_rise : (low : ℕ) (items : List T) (i j : ℕ) (d : T) → Rises low (map number_of items) → i < j → j < length items → number_of (get_or items i d) < number_of (get_or items j d)
  pairs_rise low [] i j d r lt within = absurd (omega arith)
  pairs_rise low (x ∷ xs) i zero d r lt within = absurd (omega arith)
  pairs_rise low (x ∷ xs) zero (suc j) d r lt within = number_above number_of (number_of x) xs j d r.1 (omega arith)
  pairs_rise low (x ∷ xs) (suc i) (suc j) d r lt within = pairs_rise (number_of x) xs i j d r.1 (omega arith) (omega arith)

  comparisons_rise : (n : ℕ) (items : List T) → Rises 0 (map number_of items) → IsNonDecreasingBy (λ (x : T). ordering_index (nat_cmp (number_of x) n)) items
  comparisons_rise n items r i j d le within = elim (cases_eq i j) [
    | inl same ↦ rw same (omega arith)
    | inr other ↦
        let a = number_of (get_or items i d) in
        let b = number_of (get_or items j d) in
        let lt : a < b = pairs_rise 0 items i j d r (omega arith) within in
        rises_by a b n (nat_cmp a n) (sym (nat_cmp_is a b Less lt)) refl
  ]

  by_places : (n : ℕ) (items : List T) → ((m : ℕ) (d : T) → m < length items → (number_of (get_or items m d) == n) ≡ false) → NoneHas number_of n items
  by_places n [] h = tt
  by_places n (x ∷ xs) h = (h 0 x (omega arith), by_places n xs (λ m d lt. h (suc m) d (omega arith)))

  found_at : (n : ℕ) (items : List T) (i : ℕ) → i < length items → ((d : T) → number_of (get_or items i d) ≡ n) → IfSome (slice_get items i) (λ x. number_of x ≡ n)
  found_at n [] i lt h = absurd (omega arith)
  found_at n (x ∷ xs) zero lt h = h x
  found_at n (x ∷ xs) (suc i) lt h = found_at n xs i (omega arith) h

  pub searched : (n : ℕ) (items : List T) (r : Result ℕ ℕ) → Rises 0 (map number_of items) → IsSearchInRange r (length items) → IsBinarySearchResult (λ (x : T). nat_cmp (number_of x) n) items r → record { found : IfSome (result_ok r) (λ i. IfSome (slice_get items i) (λ x. number_of x ≡ n)); absent : IfNone (result_ok r) (NoneHas number_of n items) }
  searched n items (Ok i) rises within equal = record {
    found = found_at n items i within (λ d. nat_identical (number_of (get_or items i d)) n (equal d));
    absent = tt;
  }
  searched n items (Err i) rises within parted =
      let parts = parted (comparisons_rise n items rises) in
      record {
        found = tt;
        absent = by_places n items (λ m d lt. elim (cases_lt m i) [
          | inl before ↦ apart_by (number_of (get_or items m d)) n Less (parts.0 m d (omega arith) before) (λ e. cc)
          | inr after ↦ apart_by (number_of (get_or items m d)) n Greater (parts.1 m d after lt) (λ e. cc)
        ]);
      }
