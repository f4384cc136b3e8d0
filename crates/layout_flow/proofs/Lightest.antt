-- What the sums of copies say of one another, and of the cuts that hold up or down.
use Rattle.std.proofs.Common.{◌≡◌, ℕ, zero, suc, ◌+◌, ◌-◌, ◌*◌, ◌<◌, ◌≤◌, min, Bool, true, false, cond, List, [], ◌∷◌, refl, inl, inr, ◌⊎◌, arith}
use Rattle.std.proofs.lemmas.List.Sums.{sum_by-cons}
use Rattle.std.proofs.lemmas.Bool.{cases_lt}
use Rattle.layout_flow.specs.Totals.{total}

pub mul_below : (h k n : ℕ) → h ≤ k → h * n ≤ k * n
mul_below h k n le = grind arith

total-cons : {X : Type 0} (n : ℕ) (c : X → ℕ) (h : ℕ) (z : X) (zs : List X) → total n c h (z ∷ zs) ≡ min (h * n) (c z) + total n c h zs
total-cons n c h z zs = sum_by-cons (λ zone. min (h * n) (c zone)) z zs

-- a zone that has room for more makes a full term; else a greater bound gives the same
pub full_or_same : {X : Type 0} (n : ℕ) (c : X → ℕ) (h k : ℕ) → h ≤ k → (zs : List X) →
    (h * n ≤ total n c h zs) ⊎ (total n c k zs ≡ total n c h zs)
full_or_same n c h k le [] = inr refl
full_or_same n c h k le (z ∷ zs) =
    let a = total-cons n c h z zs in
    let b = total-cons n c k z zs in
    let below = mul_below h k n le in
    elim (cases_lt (c z) (h * n)) as (λ _. (h * n ≤ total n c h (z ∷ zs)) ⊎ (total n c k (z ∷ zs) ≡ total n c h (z ∷ zs))) [
      | inr full ↦ inl (omega arith)
      | inl less ↦ elim (full_or_same n c h k le zs) as (λ _. (h * n ≤ total n c h (z ∷ zs)) ⊎ (total n c k (z ∷ zs) ≡ total n c h (z ∷ zs))) [
        | inl more ↦ inl (omega arith)
        | inr same ↦ inr (omega arith)
      ]
    ]

-- two full zones, or one step adds at most one zone's worth
pub two_or_step : {X : Type 0} (n : ℕ) (c : X → ℕ) (zs : List X) →
    (2 * n ≤ total n c 1 zs) ⊎ (total n c 2 zs ≤ n + total n c 1 zs)
two_or_step n c [] = inr (omega arith)
two_or_step n c (z ∷ zs) =
    let a = total-cons n c 1 z zs in
    let b = total-cons n c 2 z zs in
    elim (cases_lt (c z) n) as (λ _. (2 * n ≤ total n c 1 (z ∷ zs)) ⊎ (total n c 2 (z ∷ zs) ≤ n + total n c 1 (z ∷ zs))) [
      | inl less ↦ elim (two_or_step n c zs) as (λ _. (2 * n ≤ total n c 1 (z ∷ zs)) ⊎ (total n c 2 (z ∷ zs) ≤ n + total n c 1 (z ∷ zs))) [
        | inl two ↦ inl (omega arith)
        | inr step ↦ inr (omega arith)
      ]
      | inr full ↦ elim (full_or_same n c 1 2 (omega arith) zs) as (λ _. (2 * n ≤ total n c 1 (z ∷ zs)) ⊎ (total n c 2 (z ∷ zs) ≤ n + total n c 1 (z ∷ zs))) [
        | inl more ↦ inl (omega arith)
        | inr same ↦ inr (omega arith)
      ]
    ]

-- what keeping up and down out costs in each partition, for a redundancy r
abbrev pub kept_out : ℕ → Bool → Bool → ℕ
kept_out r up down = cond up 0 r + cond down 0 (3 - r)

-- what a zone that is kept out costs in each partition
abbrev pub into_zone : ℕ → Bool → Bool → ℕ
into_zone r up down = cond up 1 0 + cond down (3 - r) 0

-- the weight of the lightest cut that is the same in each partition, with these choices
abbrev pub lightest : {X : Type 0} → ℕ → (X → ℕ) → ℕ → List X → Bool → Bool → ℕ
lightest n c r zs up down = n * kept_out r up down + total n c (into_zone r up down) zs

pub data OneToThree (r : ℕ) : Type 0 where
  is_one : r ≡ 1 → OneToThree r
  is_two : r ≡ 2 → OneToThree r
  is_three : r ≡ 3 → OneToThree r

pub one_to_three : (r : ℕ) → 1 ≤ r → r ≤ 3 → OneToThree r
one_to_three zero low high = absurd (omega arith)
one_to_three (suc zero) low high = OneToThree.is_one refl
one_to_three (suc (suc zero)) low high = OneToThree.is_two refl
one_to_three (suc (suc (suc zero))) low high = OneToThree.is_three refl
one_to_three (suc (suc (suc (suc n)))) low high = absurd (omega arith)

-- no choice is lighter than the one that holds both, where that is below three copies of each partition
pub record Lightest {X : Type 0} (n : ℕ) (c : X → ℕ) (r : ℕ) (zs : List X) : Type 0 where
  pub least : (up down : Bool) → min (3 * n) (total n c (4 - r) zs) ≤ lightest n c r zs up down
  pub holds_up : total n c (4 - r) zs < 3 * n → (up down : Bool) → lightest n c r zs up down ≤ total n c (4 - r) zs → up ≡ true

total-none : {X : Type 0} (n : ℕ) (c : X → ℕ) (zs : List X) → total n c 0 zs ≡ 0
total-none n c [] = refl
total-none n c (z ∷ zs) = omega (arith, total-cons n c 0 z zs, total-none n c zs)

lightest_one : {X : Type 0} (n : ℕ) → 0 < n → (c : X → ℕ) (zs : List X) → Lightest n c 1 zs
lightest_one n some c zs =
    let none = total-none n c zs in
    let one_two = full_or_same n c 1 2 (omega arith) zs in
    let one_three = full_or_same n c 1 3 (omega arith) zs in
    let two_three = full_or_same n c 2 3 (omega arith) zs in
    record {
      least = λ up down. elim up as (λ u. min (3 * n) (total n c 3 zs) ≤ lightest n c 1 zs u down) [
        | true ↦ elim down as (λ d. min (3 * n) (total n c 3 zs) ≤ lightest n c 1 zs true d) [ true ↦ omega arith | false ↦ elim one_three [ inl a ↦ omega arith | inr a ↦ omega arith ] ]
        | false ↦ elim down as (λ d. min (3 * n) (total n c 3 zs) ≤ lightest n c 1 zs false d) [ true ↦ elim two_three [ inl a ↦ omega arith | inr a ↦ omega arith ] | false ↦ omega arith ]
      ];
      holds_up = λ small up down. elim up as (λ u. lightest n c 1 zs u down ≤ total n c 3 zs → u ≡ true) [
        | true ↦ λ _. refl
        | false ↦ elim down as (λ d. lightest n c 1 zs false d ≤ total n c 3 zs → false ≡ true) [ true ↦ λ h. elim two_three [ inl a ↦ absurd (omega arith) | inr a ↦ absurd (omega arith) ] | false ↦ λ h. absurd (omega arith) ]
      ];
    }

lightest_two : {X : Type 0} (n : ℕ) → 0 < n → (c : X → ℕ) (zs : List X) → Lightest n c 2 zs
lightest_two n some c zs =
    let none = total-none n c zs in
    let one_two = full_or_same n c 1 2 (omega arith) zs in
    let step = two_or_step n c zs in
    record {
      least = λ up down. elim up as (λ u. min (3 * n) (total n c 2 zs) ≤ lightest n c 2 zs u down) [
        | true ↦ elim down as (λ d. min (3 * n) (total n c 2 zs) ≤ lightest n c 2 zs true d) [ true ↦ omega arith | false ↦ elim step [ inl a ↦ omega arith | inr a ↦ omega arith ] ]
        | false ↦ elim down as (λ d. min (3 * n) (total n c 2 zs) ≤ lightest n c 2 zs false d) [ true ↦ elim one_two [ inl a ↦ omega arith | inr a ↦ omega arith ] | false ↦ omega arith ]
      ];
      holds_up = λ small up down. elim up as (λ u. lightest n c 2 zs u down ≤ total n c 2 zs → u ≡ true) [
        | true ↦ λ _. refl
        | false ↦ elim down as (λ d. lightest n c 2 zs false d ≤ total n c 2 zs → false ≡ true) [ true ↦ λ h. elim one_two [ inl a ↦ absurd (omega arith) | inr a ↦ absurd (omega arith) ] | false ↦ λ h. absurd (omega arith) ]
      ];
    }

lightest_three : {X : Type 0} (n : ℕ) → 0 < n → (c : X → ℕ) (zs : List X) → Lightest n c 3 zs
lightest_three n some c zs =
    let none = total-none n c zs in
    record {
      least = λ up down. elim up as (λ u. min (3 * n) (total n c 1 zs) ≤ lightest n c 3 zs u down) [
        | true ↦ elim down as (λ d. min (3 * n) (total n c 1 zs) ≤ lightest n c 3 zs true d) [ true ↦ omega arith | false ↦ omega arith ]
        | false ↦ elim down as (λ d. min (3 * n) (total n c 1 zs) ≤ lightest n c 3 zs false d) [ true ↦ omega arith | false ↦ omega arith ]
      ];
      holds_up = λ small up down. elim up as (λ u. lightest n c 3 zs u down ≤ total n c 1 zs → u ≡ true) [
        | true ↦ λ _. refl
        | false ↦ elim down as (λ d. lightest n c 3 zs false d ≤ total n c 1 zs → false ≡ true) [ true ↦ λ h. absurd (omega arith) | false ↦ λ h. absurd (omega arith) ]
      ];
    }

pub lightest_holds : {X : Type 0} (n : ℕ) → 0 < n → (c : X → ℕ) (r : ℕ) → 1 ≤ r → r ≤ 3 → (zs : List X) → Lightest n c r zs
lightest_holds n some c r low high zs =
    elim (one_to_three r low high) [
      | is_one e ↦ rw e (lightest_one n some c zs)
      | is_two e ↦ rw e (lightest_two n some c zs)
      | is_three e ↦ rw e (lightest_three n some c zs)
    ]
