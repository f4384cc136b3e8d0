-- What a binary search finds among events whose lines ascend.
use Rattle.std.proofs.Common.{◌≡◌, ◌<◌, ◌≤◌, ℕ, zero, suc, false, ◌==◌, List, [], ◌∷◌, length, get_or, refl, sym, ap, ◌∙◌, arith, ne_eqb, Ordering, Less, Equal, Greater, Result, Ok, Err, inl, inr}
use Rattle.std.specs.Prelude.{slice_get, IfSome, IfNone}
use Rattle.std.specs.List.{AllByRecursion}
use Rattle.std.specs.List.Sorted.{IsSearchInRange, IsBinarySearchResult, IsNonDecreasingBy}
use Rattle.std.specs.Ordering.{nat_cmp, ordering_index}
use Rattle.std.specs.Result.{result_ok}
use Rattle.std.specs.Cmp.{nat_cmp_total, nat_cmp_is, tied_itself}
use Rattle.std.proofs.lemmas.Bool.{cases_eq, cases_lt}
use Rattle.crdt_core.specs.IdentityLaws.{nat_identical}
use Rattle.crdt_core.specs.LexLaws.{turned}
use Rattle.store_model.specs.declared.event.Numbered.{Numbered}
use Rattle.audit_model.specs.Heard.{AscendFrom}

-- no event stands in this line
abbrev pub NoneIn : ℕ → List Numbered → Type 0
NoneIn n events = AllByRecursion (λ (e : Numbered). (e.line == n) ≡ false) events

rises_by : (a b k : ℕ) (r : Ordering) → nat_cmp a b ≡ Less → nat_cmp a k ≡ r → ordering_index (nat_cmp a k) ≤ ordering_index (nat_cmp b k)
rises_by a b k Less e p = rw p (omega arith)
rises_by a b k Equal e p = rw (p, turned nat_cmp_total k b Less (sym (nat_cmp_total.congr a k b p) ∙ e)) (omega arith)
rises_by a b k Greater e p = rw (p, turned nat_cmp_total k b Less (nat_cmp_total.trans k a b (turned nat_cmp_total a k Greater p) e)) (omega arith)

apart_by : (a n : ℕ) (r : Ordering) → nat_cmp a n ≡ r → (r ≡ Equal → ⊥) → (a == n) ≡ false
apart_by a n r e other = ne_eqb a n (λ same. other (sym e ∙ ap (λ k. nat_cmp k n) same ∙ tied_itself nat_cmp_total n))

line_above : (low : ℕ) (es : List Numbered) (i : ℕ) (d : Numbered) → AscendFrom low es → i < length es → low < (get_or es i d).line
line_above low [] i d up lt = absurd (omega arith)
line_above low (e ∷ es) zero d up lt = up.0
line_above low (e ∷ es) (suc i) d up lt =
    let later = line_above e.line es i d up.1 (omega arith) in omega (arith, up.0, later)

pairs_rise : (low : ℕ) (es : List Numbered) (i j : ℕ) (d : Numbered) → AscendFrom low es → i < j → j < length es → (get_or es i d).line < (get_or es j d).line
pairs_rise low [] i j d up lt within = absurd (omega arith)
pairs_rise low (e ∷ es) i zero d up lt within = absurd (omega arith)
pairs_rise low (e ∷ es) zero (suc j) d up lt within = line_above e.line es j d up.1 (omega arith)
pairs_rise low (e ∷ es) (suc i) (suc j) d up lt within = pairs_rise e.line es i j d up.1 (omega arith) (omega arith)

comparisons_rise : (n : ℕ) (es : List Numbered) → AscendFrom 0 es → IsNonDecreasingBy (λ (e : Numbered). ordering_index (nat_cmp e.line n)) es
comparisons_rise n es up i j d le within = elim (cases_eq i j) [
  | inl same ↦ rw same (omega arith)
  | inr other ↦
      let a = (get_or es i d).line in
      let b = (get_or es j d).line in
      let lt : a < b = pairs_rise 0 es i j d up (omega arith) within in
      rises_by a b n (nat_cmp a n) (sym (nat_cmp_is a b Less lt)) refl
]

by_places : (n : ℕ) (es : List Numbered) → ((m : ℕ) (d : Numbered) → m < length es → ((get_or es m d).line == n) ≡ false) → NoneIn n es
by_places n [] h = tt
by_places n (e ∷ es) h = (h 0 e (omega arith), by_places n es (λ m d lt. h (suc m) d (omega arith)))

found_at : (n : ℕ) (es : List Numbered) (i : ℕ) → i < length es → ((d : Numbered) → (get_or es i d).line ≡ n) → IfSome (slice_get es i) (λ (e : Numbered). e.line ≡ n)
found_at n [] i lt h = absurd (omega arith)
found_at n (e ∷ es) zero lt h = h e
found_at n (e ∷ es) (suc i) lt h = found_at n es i (omega arith) h

pub searched : (n : ℕ) (es : List Numbered) (r : Result ℕ ℕ) → AscendFrom 0 es → IsSearchInRange r (length es) → IsBinarySearchResult (λ (e : Numbered). nat_cmp e.line n) es r → record { found : IfSome (result_ok r) (λ i. IfSome (slice_get es i) (λ (e : Numbered). e.line ≡ n)); absent : IfNone (result_ok r) (NoneIn n es) }
searched n es (Ok i) up within equal = record {
  found = found_at n es i within (λ d. nat_identical (get_or es i d).line n (equal d));
  absent = tt;
}
searched n es (Err i) up within parted =
    let parts = parted (comparisons_rise n es up) in
    record {
      found = tt;
      absent = by_places n es (λ m d lt. elim (cases_lt m i) [
        | inl before ↦ apart_by (get_or es m d).line n Less (parts.0 m d (omega arith) before) (λ e. cc)
        | inr after ↦ apart_by (get_or es m d).line n Greater (parts.1 m d after lt) (λ e. cc)
      ]);
    }
