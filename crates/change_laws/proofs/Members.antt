-- All members of both layouts, in order: none stands twice, and none is left out.
use Rattle.std.specs.Prelude.{◌≡◌, ◌<◌, ◌≤◌, ◌==◌, ℕ, true, false, cond, nat_lt, IsTrue, List, [], ◌∷◌, ◌++◌, ⊤, refl}
use Rattle.std.proofs.Common.{inl, inr, arith}
use Rattle.std.proofs.lemmas.Bool.{eqb-false, ne_eqb, ltb-true, ltb-false, or_cases, or_from, or_left, or_right}
use Rattle.quorum_model.specs.Quorum.{is_among}
use Rattle.cluster_machine.specs.Layouts.{Layouts}
use Rattle.cluster_machine.specs.Phases.{with_node, in_order}
use Rattle.drained_laws.specs.Calm.{IsMember}
use Rattle.drained_laws.proofs.Views.{in_order_has}
use Rattle.change_laws.specs.Script.{AreApart}
use Rattle.change_model.specs.Steps.{members_of_both}

-- these ascend, and all are above the number
abbrev Up : ℕ → List ℕ → Type 0
Up b [] = ⊤
Up b (x ∷ xs) = (b < x) × Up x xs

-- these ascend
abbrev Ascend : List ℕ → Type 0
Ascend [] = ⊤
Ascend (x ∷ xs) = Up x xs

up_less : (a b : ℕ) (xs : List ℕ) → a < b → Up b xs → Up a xs
up_less a b [] low up = tt
up_less a b (x ∷ xs) low up = (let h = up.0 in omega arith, up.1)

not_below : (b : ℕ) (xs : List ℕ) → Up b xs → is_among b xs ≡ false
not_below b [] up = refl
not_below b (x ∷ xs) up = or_from (x == b) (is_among b xs) (ne_eqb x b (λ e. (let h = up.0 in absurd (omega (arith, e, h))))) (not_below b xs (up_less b x xs up.0 up.1))

apart_of : (b : ℕ) (xs : List ℕ) → Up b xs → AreApart xs
apart_of b [] up = tt
apart_of b (x ∷ xs) up = (not_below x xs up.1, apart_of x xs up.1)

above_it : (n x : ℕ) → (n == x) ≡ false → nat_lt n x ≡ false → x < n
above_it n x e f =
    let le : x ≤ n = ltb-false n x f in
    let ne : n ≡ x → ⊥ = eqb-false n x e in
    omega (arith, le, ne)

with_up : (b n : ℕ) (xs : List ℕ) → b < n → Up b xs → Up b (with_node n xs)
with_up b n [] low up = (low, tt)
with_up b n (x ∷ xs) low up =
    elim (n == x) as (λ c. (n == x) ≡ c → Up b (cond c (x ∷ xs) (cond (nat_lt n x) (n ∷ x ∷ xs) (x ∷ with_node n xs)))) [
      | true ↦ (λ e. up)
      | false ↦ (λ e. elim (nat_lt n x) as (λ c. nat_lt n x ≡ c → Up b (cond c (n ∷ x ∷ xs) (x ∷ with_node n xs))) [
        | true ↦ (λ f. (low, (ltb-true n x f, up.1)))
        | false ↦ (λ f. (up.0, with_up x n xs (above_it n x e f) up.1))
      ] refl)
    ] refl

with_ascend : (n : ℕ) (xs : List ℕ) → Ascend xs → Ascend (with_node n xs)
with_ascend n [] up = tt
with_ascend n (x ∷ xs) up =
    elim (n == x) as (λ c. (n == x) ≡ c → Ascend (cond c (x ∷ xs) (cond (nat_lt n x) (n ∷ x ∷ xs) (x ∷ with_node n xs)))) [
      | true ↦ (λ e. up)
      | false ↦ (λ e. elim (nat_lt n x) as (λ c. nat_lt n x ≡ c → Ascend (cond c (n ∷ x ∷ xs) (x ∷ with_node n xs))) [
        | true ↦ (λ f. (ltb-true n x f, up))
        | false ↦ (λ f. with_up x n xs (above_it n x e f) up)
      ] refl)
    ] refl

order_ascends : (xs : List ℕ) → Ascend (in_order xs)
order_ascends [] = tt
order_ascends (x ∷ xs) = with_ascend x (in_order xs) (order_ascends xs)

all_apart : (xs : List ℕ) → Ascend xs → AreApart xs
all_apart [] up = tt
all_apart (x ∷ xs) up = (not_below x xs up, apart_of x xs up)

among_left : (n : ℕ) (xs ys : List ℕ) → is_among n xs ≡ true → is_among n (xs ++ ys) ≡ true
among_left n [] ys e = cc
among_left n (x ∷ xs) ys e = elim (or_cases (x == n) (is_among n xs) e) [ inl a ↦ or_left (x == n) (is_among n (xs ++ ys)) a | inr b ↦ or_right (x == n) (is_among n (xs ++ ys)) (among_left n xs ys b) ]

among_right : (n : ℕ) (xs ys : List ℕ) → is_among n ys ≡ true → is_among n (xs ++ ys) ≡ true
among_right n [] ys e = e
among_right n (x ∷ xs) ys e = or_right (x == n) (is_among n (xs ++ ys)) (among_right n xs ys e)

module _ {L : Type 0} (k : Layouts L) (l new : L) where
  pub both_apart : AreApart (members_of_both k l new)
  both_apart = all_apart (in_order (k.reading.members l ++ k.reading.members new)) (order_ascends (k.reading.members l ++ k.reading.members new))

  pub both_old : (n : ℕ) → IsMember k l n → IsTrue (is_among n (members_of_both k l new))
  both_old n h = in_order_has n (k.reading.members l ++ k.reading.members new) (among_left n (k.reading.members l) (k.reading.members new) h)

  pub both_new : (n : ℕ) → IsMember k new n → IsTrue (is_among n (members_of_both k l new))
  both_new n h = in_order_has n (k.reading.members l ++ k.reading.members new) (among_right n (k.reading.members l) (k.reading.members new) h)
