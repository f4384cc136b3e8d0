-- Rows in order: where a row is found after a filter, and in a front of them.
use Rattle.std.specs.Prelude.{◌≡◌, ℕ, zero, suc, ◌-◌, Bool, true, false, cond, List, [], ◌∷◌, length, take, filter, find, slice_get, Some, All, refl}
use Rattle.std.proofs.Common.{ap, sym, ◌∙◌, arith}
use Rattle.std.proofs.lemmas.List.Elements.{All-head, All-tail}
use Rattle.std.specs.declared.cmp.Ordering.{Ordering}
use Rattle.std.specs.declared.cmp.Ordering.TheVariants.{Less, Equal, Greater}
use Rattle.std.specs.Ordering.{is_lt}
use Rattle.crdt_core.specs.LexLaws.{turned}
use Rattle.table_schema.specs.Words.{Words}
use Rattle.table_model.specs.Rows.{place_cmp, place, is_at, find_row}
use Rattle.table_model.proofs.RowLaws.{place_total, Above, Ascends, above_lower, above_filter, none_above}
use Rattle.quorum_model.specs.Window.{last_of}

-- ---- a filter that keeps what is sought

module _ {X : Type 0} (p test : X → Bool) (keeps : (x : X) → p x ≡ true → test x ≡ true) where
  find_by : (x : X) (xs : List X) → find p (filter test xs) ≡ find p xs → (a b : Bool) → p x ≡ a → test x ≡ b → find p (filter test (x ∷ xs)) ≡ find p (x ∷ xs)
  find_by x xs rest a true e t = rw t (ap (λ o. cond (p x) (Some x) o) rest)
  find_by x xs rest true false e t = let no : false ≡ true = sym t ∙ keeps x e in cc
  find_by x xs rest false false e t = rw (t, e) rest

  pub find_filter : (xs : List X) → find p (filter test xs) ≡ find p xs
  find_filter [] = refl
  find_filter (x ∷ xs) = find_by x xs (find_filter xs) (p x) (test x) refl refl

-- ---- the last row

-- the last of a row and those after it
abbrev pub last_from : {R : Type 0} → R → List R → R
last_from x [] = x
last_from x (y ∷ ys) = last_from y ys

last_at : {R : Type 0} (x : R) (xs : List R) → slice_get (x ∷ xs) (length xs) ≡ Some (last_from x xs)
last_at x [] = refl
last_at x (y ∷ ys) = last_at y ys

one_less : (n : ℕ) → suc n - 1 ≡ n
one_less n = omega arith

pub last_is : {R : Type 0} (x : R) (xs : List R) → last_of (x ∷ xs) ≡ Some (last_from x xs)
last_is x xs = ap (slice_get (x ∷ xs)) (one_less (length xs)) ∙ last_at x xs

pub last_has : {R : Type 0} (P : R → Type 0) (x : R) (xs : List R) → All P (x ∷ xs) → P (last_from x xs)
last_has P x [] all = All-head P x [] all
last_has P x (y ∷ ys) all = last_has P y ys (All-tail P x (y ∷ ys) all)

-- ---- a front of rows in order

module _ {R : Type 0} (s : Words R) where
  pub ascends_filter : (test : R → Bool) (xs : List R) → Ascends s xs → Ascends s (filter test xs)
  ascends_filter test [] a = tt
  ascends_filter test (x ∷ xs) a =
      elim (test x) as (λ b. Ascends s (cond b (x ∷ filter test xs) (filter test xs))) [ true ↦ (above_filter s test (place s x) xs a.0, ascends_filter test xs a.1) | false ↦ ascends_filter test xs a.1 ]

  above_take : (n : ℕ) (p : ℕ × List ℕ) (xs : List R) → Above s p xs → Above s p (take n xs)
  above_take zero p xs a = tt
  above_take (suc n) p [] a = tt
  above_take (suc n) p (x ∷ xs) a = (a.0, above_take n p xs a.1)

  pub ascends_take : (n : ℕ) (xs : List R) → Ascends s xs → Ascends s (take n xs)
  ascends_take zero xs a = tt
  ascends_take (suc n) [] a = tt
  ascends_take (suc n) (x ∷ xs) a = (above_take n (place s x) xs a.0, ascends_take n xs a.1)

  -- after a row that isn't below the place there is none at it
  front_end : (x : R) (xs : List R) (p : ℕ × List ℕ) → Above s (place s x) xs → is_lt (place_cmp (place s x) p) ≡ false → (o : Ordering) → place_cmp p (place s x) ≡ o → find_row s p.0 p.1 (x ∷ []) ≡ find_row s p.0 p.1 (x ∷ xs)
  front_end x xs p a h Less e = rw e (sym (none_above s p.0 p.1 xs (above_lower s p (place s x) xs e a)))
  front_end x xs p a h Equal e = rw e refl
  front_end x xs p a h Greater e = let no : false ≡ true = sym h ∙ ap is_lt (turned place_total p (place s x) Greater e) in cc

  -- a front whose last row isn't below the place has what all rows have at it
  pub front : (n : ℕ) (x : R) (xs : List R) (p : ℕ × List ℕ) → Ascends s (x ∷ xs) → is_lt (place_cmp (place s (last_from x (take n xs))) p) ≡ false → find_row s p.0 p.1 (x ∷ take n xs) ≡ find_row s p.0 p.1 (x ∷ xs)
  front zero x xs p a h = front_end x xs p a.0 h (place_cmp p (place s x)) refl
  front (suc n) x [] p a h = refl
  front (suc n) x (y ∷ ys) p a h = ap (λ o. cond (is_at s p.0 p.1 x) (Some x) o) (front n y ys p a.1 h)
