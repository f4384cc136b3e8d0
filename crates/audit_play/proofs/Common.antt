-- How far two texts are the same from their beginnings on, and that they part there.
use Rattle.std.proofs.Common.{◌≡◌, ℕ, suc, ◌+◌, ◌<◌, true, false, ◌==◌, cond, Some, None, List, [], ◌∷◌, ◌++◌, length, take, drop, refl, sym, ap, ◌∙◌, subst, arith, ◌≤◌, ◌-◌}
use Rattle.std.specs.Prelude.{nat_eq, slice_get}
use Rattle.std.specs.List.{common_prefix_len}
use Rattle.std.proofs.lemmas.Bool.{eqb-true, eq-eqb}
use Rattle.std.proofs.lemmas.List.{take-append-drop, take_all, drop_all, length-drop}
use Rattle.audit_play.proofs.Parts.{Part}

one_more : (n : ℕ) → 1 + n ≡ suc n
one_more n = omega arith

-- so many bytes of both are the same
pub common_same : (a b : List ℕ) → let n = common_prefix_len nat_eq a b in take n a ≡ take n b
common_same [] b = refl
common_same (x ∷ xs) [] = refl
common_same (x ∷ xs) (y ∷ ys) =
    let n = common_prefix_len nat_eq xs ys in
    elim (x == y) as (λ t. (x == y) ≡ t → take (cond t (1 + n) 0) (x ∷ xs) ≡ take (cond t (1 + n) 0) (y ∷ ys)) [
      | true ↦ λ e.
          let same : take (suc n) (x ∷ xs) ≡ take (suc n) (y ∷ ys) = λ i. eqb-true x y e i ∷ common_same xs ys i in
          ap (λ k. take k (x ∷ xs)) (one_more n) ∙ same ∙ sym (ap (λ k. take k (y ∷ ys)) (one_more n))
      | false ↦ λ e. refl
    ] refl

-- and what follows begins alike only where nothing follows
pub common_parts : (a b : List ℕ) → let n = common_prefix_len nat_eq a b in slice_get (drop n a) 0 ≡ slice_get (drop n b) 0 → (drop n a ≡ []) × (drop n b ≡ [])
common_parts [] [] h = (refl, refl)
common_parts [] (y ∷ ys) h = absurd (let none : None ≡ Some y = h in cc)
common_parts (x ∷ xs) [] h = absurd (let none : Some x ≡ None = h in cc)
common_parts (x ∷ xs) (y ∷ ys) h =
    let n = common_prefix_len nat_eq xs ys in
    elim (x == y) as
    (λ t. (x == y) ≡ t → slice_get (drop (cond t (1 + n) 0) (x ∷ xs)) 0 ≡ slice_get (drop (cond t (1 + n) 0) (y ∷ ys)) 0 →
    (drop (cond t (1 + n) 0) (x ∷ xs) ≡ []) × (drop (cond t (1 + n) 0) (y ∷ ys) ≡ [])) [
      | true ↦ λ e k.
          let one : drop (1 + n) (x ∷ xs) ≡ drop n xs = ap (λ m. drop m (x ∷ xs)) (one_more n) in
          let other : drop (1 + n) (y ∷ ys) ≡ drop n ys = ap (λ m. drop m (y ∷ ys)) (one_more n) in
          let ends = common_parts xs ys (sym (ap (λ l. slice_get l 0) one) ∙ k ∙ ap (λ l. slice_get l 0) other) in
          (one ∙ ends.0, other ∙ ends.1)
      | false ↦ λ e k. absurd (let same : x ≡ y = let both : Some x ≡ Some y = k in cc in let tie : (x == y) ≡ true = eq-eqb x y same in let clash : true ≡ false = sym tie ∙ e in cc)
    ] refl h

none_behind : (xs : List ℕ) → common_prefix_len nat_eq xs [] ≡ 0
none_behind [] = refl
none_behind (x ∷ xs) = refl

-- past the second one's end nothing is the same
pub past_second : (a b : List ℕ) (n : ℕ) → length b ≤ n → common_prefix_len nat_eq (drop n a) (drop n b) ≡ 0
past_second a b n le = ap (common_prefix_len nat_eq (drop n a)) (drop_all n b le) ∙ none_behind (drop n a)

module _ (a b : List ℕ) (n : ℕ) (is : n ≡ common_prefix_len nat_eq a b) where
  pub so_far : take n a ≡ take n b
  so_far = subst (λ k. take k a ≡ take k b) (sym is) (common_same a b)

  parts : slice_get (drop n a) 0 ≡ slice_get (drop n b) 0 → (drop n a ≡ []) × (drop n b ≡ [])
  parts = subst (λ k. slice_get (drop k a) 0 ≡ slice_get (drop k b) 0 → (drop k a ≡ []) × (drop k b ≡ [])) (sym is) (common_parts a b)

  no_more : (c : List ℕ) → drop n c ≡ [] → length c ≤ n
  no_more c none = let here : length c - n ≡ 0 = sym (length-drop n c) ∙ ap (λ (l : List ℕ). length l) none in omega arith

  -- the second is the first one's beginning
  pub begins : length b ≤ n → a ≡ b ++ drop n a
  begins le = sym (take-append-drop n a) ∙ ap (λ l. l ++ drop n a) (so_far ∙ take_all n b le)

  -- the second goes on, so they part
  pub parts_before : n < length b → Part (drop n a) (drop n b)
  parts_before lt h = let ends = parts h in let le = no_more b ends.1 in omega arith

  -- the first goes on, so they part
  pub parts_behind : n < length a → Part (drop n a) (drop n b)
  parts_behind lt h = let ends = parts h in let le = no_more a ends.0 in omega arith
