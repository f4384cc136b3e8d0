-- Items whose numbers ascend: the one with a number, and what stays when items change.
use Rattle.std.proofs.Common.{◌≡◌, ◌<◌, ◌≤◌, ℕ, zero, suc, ◌+◌, true, false, ◌==◌, List, [], ◌∷◌, ◌++◌, Some, length, map, not, cond, get_or, Result, Ok, Err, refl, sym, ap, ◌∙◌, arith, eq-eqb, ne_eqb}
use Rattle.std.specs.Prelude.{if◌then◌else◌, slice_get, slice_set, remove, OnOk, OnErr}
use Rattle.std.specs.List.{AllByRecursion, filter}
use Rattle.std.specs.Option.{is_some}
use Rattle.std.proofs.lemmas.Option.{same_Some}
use Rattle.numbered_list.specs.Numbers.{Rises, AreNumbered}

-- ---- numbers

-- a number is none below it, and none above it
pub apart : (a b : ℕ) → b < a → (a == b) ≡ false
apart a b lt = ne_eqb a b (λ e. omega arith)

pub apart_above : (a b : ℕ) → a < b → (a == b) ≡ false
apart_above a b lt = ne_eqb a b (λ e. omega arith)

lower : (low high : ℕ) (ns : List ℕ) → low ≤ high → Rises high ns → Rises low ns
lower low high [] le r = tt
lower low high (n ∷ ns) le r = (omega (arith, r.0), r.1)

-- ---- what stands at a place

pub set_same : {T : Type 0} (items : List T) (i : ℕ) (v y : T) → slice_get items i ≡ Some v → y ≡ v → slice_set items i y ≡ items
set_same [] i v y at_i e = absurd (let no : false ≡ true = ap is_some at_i in cc)
set_same (x ∷ xs) zero v y at_i e = ap (λ z. z ∷ xs) (e ∙ sym (same_Some x v at_i))
set_same (x ∷ xs) (suc i) v y at_i e = ap (λ t. x ∷ t) (set_same xs i v y at_i e)

pub read_at : {T : Type 0} (items : List T) (i : ℕ) (v : T) → slice_get items i ≡ Some v → v ≡ get_or items i v
read_at [] i v at_i = refl
read_at (x ∷ xs) zero v at_i = sym (same_Some x v at_i)
read_at (x ∷ xs) (suc i) v at_i = read_at xs i v at_i

module _ {T : Type 0} (number_of : T → ℕ) where
  -- no item has the number n
  abbrev pub NoneHas : ℕ → List T → Type 0
  NoneHas n items = AllByRecursion (λ x. (number_of x == n) ≡ false) items

  -- what is at most `low` is no number above it
  pub none_past : (n low : ℕ) (items : List T) → n ≤ low → Rises low (map number_of items) → NoneHas n items
  none_past n low [] le r = tt
  none_past n low (x ∷ xs) le r = (apart (number_of x) n (omega (arith, r.0)), none_past n (number_of x) xs (omega (arith, r.0)) r.1)

  -- a number is above what is below all
  pub number_above : (low : ℕ) (items : List T) (i : ℕ) (d : T) → Rises low (map number_of items) → i < length items → low < number_of (get_or items i d)
  number_above low [] i d r lt = absurd (omega arith)
  number_above low (x ∷ xs) zero d r lt = r.0
  number_above low (x ∷ xs) (suc i) d r lt =
      let later = number_above (number_of x) xs i d r.1 (omega arith) in omega (arith, r.0, later)

  -- an item is above what is below all
  pub above_item : (n low : ℕ) (items : List T) (i : ℕ) (v : T) → Rises low (map number_of items) → slice_get items i ≡ Some v → number_of v ≡ n → low < n
  above_item n low [] i v r at_i is = absurd (let no : false ≡ true = ap is_some at_i in cc)
  above_item n low (x ∷ xs) zero v r at_i is =
      let here : number_of x ≡ n = ap number_of (same_Some x v at_i) ∙ is in omega (arith, r.0, here)
  above_item n low (x ∷ xs) (suc i) v r at_i is =
      let later = above_item n (number_of x) xs i v r.1 at_i is in omega (arith, r.0, later)

  -- ---- the item with a number, changed

  abbrev pub changed_in : (T → T) → ℕ → List T → List T
  changed_in f n items = map (λ x. if number_of x == n then f x else x) items

  pub none_changed : (f : T → T) (n : ℕ) (items : List T) → NoneHas n items → changed_in f n items ≡ items
  none_changed f n [] none = refl
  none_changed f n (x ∷ xs) none =
      let kept : (if number_of x == n then f x else x) ≡ x = rw none.0 refl in
      λ i. kept i ∷ none_changed f n xs none.1 i

  pub one_changed : (f : T → T) (n low : ℕ) (items : List T) (i : ℕ) (v y : T) → Rises low (map number_of items) → slice_get items i ≡ Some v → number_of v ≡ n → y ≡ f v → slice_set items i y ≡ changed_in f n items
  one_changed f n low [] i v y r at_i is changes = absurd (let no : false ≡ true = ap is_some at_i in cc)
  one_changed f n low (x ∷ xs) zero v y r at_i is changes =
      let same = same_Some x v at_i in
      let here : number_of x ≡ n = ap number_of same ∙ is in
      let first : y ≡ (if number_of x == n then f x else x) = changes ∙ ap f (sym same) ∙ rw (eq-eqb (number_of x) n here) refl in
      let rest = none_changed f n xs (none_past n (number_of x) xs (omega (arith, here)) r.1) in
      λ j. first j ∷ sym rest j
  one_changed f n low (x ∷ xs) (suc i) v y r at_i is changes =
      let later : number_of x < n = above_item n (number_of x) xs i v r.1 at_i is in
      let kept : (if number_of x == n then f x else x) ≡ x = rw (apart_above (number_of x) n later) refl in
      λ j. sym kept j ∷ one_changed f n (number_of x) xs i v y r.1 at_i is changes j

  -- ---- the item with a number, taken out

  abbrev pub left_of : ℕ → List T → List T
  left_of n items = filter (λ x. not (number_of x == n)) items

  pub none_left_out : (n : ℕ) (items : List T) → NoneHas n items → left_of n items ≡ items
  none_left_out n [] none = refl
  none_left_out n (x ∷ xs) none = rw none.0 (ap (λ t. x ∷ t) (none_left_out n xs none.1))

  pub one_left_out : (n low : ℕ) (items : List T) (i : ℕ) (v : T) → Rises low (map number_of items) → slice_get items i ≡ Some v → number_of v ≡ n → remove items i ≡ left_of n items
  one_left_out n low [] i v r at_i is = absurd (let no : false ≡ true = ap is_some at_i in cc)
  one_left_out n low (x ∷ xs) zero v r at_i is =
      let here : number_of x ≡ n = ap number_of (same_Some x v at_i) ∙ is in
      rw (eq-eqb (number_of x) n here) (sym (none_left_out n xs (none_past n (number_of x) xs (omega (arith, here)) r.1)))
  one_left_out n low (x ∷ xs) (suc i) v r at_i is =
      let later : number_of x < n = above_item n (number_of x) xs i v r.1 at_i is in
      rw (apart_above (number_of x) n later) (ap (λ t. x ∷ t) (one_left_out n (number_of x) xs i v r.1 at_i is))

  -- ---- what stays

  rises_left : (n low : ℕ) (items : List T) → Rises low (map number_of items) → Rises low (map number_of (left_of n items))
  rises_left n low [] r = tt
  rises_left n low (x ∷ xs) r =
      elim (number_of x == n) as (λ b. Rises low (map number_of (cond (not b) (x ∷ left_of n xs) (left_of n xs)))) [
        | true ↦ lower low (number_of x) (map number_of (left_of n xs)) (omega (arith, r.0)) (rises_left n (number_of x) xs r.1)
        | false ↦ (r.0, rises_left n (number_of x) xs r.1)
      ]

  given_left : (n last : ℕ) (items : List T) → AllByRecursion (λ k. k ≤ last) (map number_of items) → AllByRecursion (λ k. k ≤ last) (map number_of (left_of n items))
  given_left n last [] g = tt
  given_left n last (x ∷ xs) g =
      elim (number_of x == n) as (λ b. AllByRecursion (λ k. k ≤ last) (map number_of (cond (not b) (x ∷ left_of n xs) (left_of n xs)))) [
        | true ↦ given_left n last xs g.1
        | false ↦ (g.0, given_left n last xs g.1)
      ]

  pub numbered_left : (n last : ℕ) (items : List T) → AreNumbered number_of last items → AreNumbered number_of last (left_of n items)
  numbered_left n last items k = record { rises = rises_left n 0 items k.rises; given = given_left n last items k.given }

  -- with the same numbers
  pub renumbered : (last : ℕ) (items others : List T) → map number_of others ≡ map number_of items → AreNumbered number_of last items → AreNumbered number_of last others
  renumbered last items others same k = record { rises = rw same k.rises; given = rw same k.given }

  set_numbers : (items : List T) (i : ℕ) (v y : T) → slice_get items i ≡ Some v → number_of y ≡ number_of v → map number_of (slice_set items i y) ≡ map number_of items
  set_numbers [] i v y at_i e = absurd (let no : false ≡ true = ap is_some at_i in cc)
  set_numbers (x ∷ xs) zero v y at_i e = ap (λ n. n ∷ map number_of xs) (e ∙ ap number_of (sym (same_Some x v at_i)))
  set_numbers (x ∷ xs) (suc i) v y at_i e = ap (λ ns. number_of x ∷ ns) (set_numbers xs i v y at_i e)

  -- an item in the place of one with its number
  pub set_numbered : (last : ℕ) (items : List T) (i : ℕ) (v y : T) → slice_get items i ≡ Some v → number_of y ≡ number_of v → AreNumbered number_of last items → AreNumbered number_of last (slice_set items i y)
  set_numbered last items i v y at_i e k = renumbered last items (slice_set items i y) (set_numbers items i v y at_i e) k

  -- changed or not, it has its number
  pub either_number : {U E : Type 0} (r : Result U E) (f : T → T) (v y : T) → number_of (f v) ≡ number_of v → OnOk r (y ≡ f v) → OnErr r (y ≡ v) → number_of y ≡ number_of v
  either_number (Ok u) f v y same ok err = ap number_of ok ∙ same
  either_number (Err e) f v y same ok err = ap number_of err

  -- ---- one more at the end

  rises_more : (last low : ℕ) (x : T) (items : List T) → low ≤ last → last < number_of x → Rises low (map number_of items) → AllByRecursion (λ k. k ≤ last) (map number_of items) → Rises low (map number_of (items ++ x ∷ []))
  rises_more last low x [] le lt r g = (omega arith, tt)
  rises_more last low x (y ∷ ys) le lt r g = (r.0, rises_more last (number_of y) x ys g.0 lt r.1 g.1)

  given_more : (last : ℕ) (x : T) (items : List T) → number_of x ≡ last + 1 → AllByRecursion (λ k. k ≤ last) (map number_of items) → AllByRecursion (λ k. k ≤ last + 1) (map number_of (items ++ x ∷ []))
  given_more last x [] e g = (omega (arith, e), tt)
  given_more last x (y ∷ ys) e g = (omega (arith, g.0), given_more last x ys e g.1)

  pub numbered_more : (last : ℕ) (x : T) (items : List T) → number_of x ≡ last + 1 → AreNumbered number_of last items → AreNumbered number_of (last + 1) (items ++ x ∷ [])
  numbered_more last x items e k = record {
    rises = rises_more last 0 x items (omega arith) (omega (arith, e)) k.rises k.given;
    given = given_more last x items e k.given;
  }
