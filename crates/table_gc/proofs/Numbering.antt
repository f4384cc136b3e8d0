-- The collection with a number, found, and collections that keep their numbers.
use Rattle.std.proofs.Common.{◌≡◌, ◌<◌, ℕ, zero, suc, ◌+◌, true, false, ◌==◌, Bool, cond, List, [], ◌∷◌, ◌++◌, Option, Some, None, length, map, Result, Ok, Err, refl, ap, sym, ◌∙◌, eq-eqb}
use Rattle.std.specs.Prelude.{if◌then◌else◌, slice_get, OnErr}
use Rattle.std.specs.List.{find}
use Rattle.std.specs.Option.{is_some}
use Rattle.std.proofs.lemmas.Bool.{eqb-true}
use Rattle.std.proofs.lemmas.Option.{same_Some}
use Rattle.numbered_list.specs.Numbers.{Rises}
use Rattle.numbered_list.proofs.Numbering.{NoneHas, above_item, apart_above}
use Rattle.gc_model.specs.Collecting.{number_of, told, after_answer, has_confirmed}
use Rattle.gc_model.specs.declared.collection.Collection.{Collection}

-- a fact holds at an error too
pub on_err : {T E P : Type 0} (r : Result T E) → P → OnErr r P
on_err (Ok x) p = tt
on_err (Err e) p = p

pub none_found : (n : ℕ) (cs : List Collection) → NoneHas number_of n cs → find (λ x. x.number == n) cs ≡ None
none_found n [] none = refl
none_found n (x ∷ xs) none = rw none.0 (none_found n xs none.1)

pub one_found : (n low : ℕ) (cs : List Collection) (i : ℕ) (v : Collection) → Rises low (map number_of cs) → slice_get cs i ≡ Some v → v.number ≡ n → find (λ x. x.number == n) cs ≡ Some v
one_found n low [] i v r at_i is = absurd (let no : false ≡ true = ap is_some at_i in cc)
one_found n low (x ∷ xs) zero v r at_i is =
    let here : x.number ≡ n = ap number_of (same_Some x v at_i) ∙ is in
    rw (eq-eqb x.number n here) at_i
one_found n low (x ∷ xs) (suc i) v r at_i is =
    let later : x.number < n = above_item number_of n x.number xs i v r.1 at_i is in
    rw (apart_above x.number n later) (one_found n x.number xs i v r.1 at_i is)

found_by : (n : ℕ) (x v : Collection) (b : Bool) → (x.number == n) ≡ b → (o : Option Collection) → (o ≡ Some v → v.number ≡ n) → cond b (Some x) o ≡ Some v → v.number ≡ n
found_by n x v true h o rest is = sym (ap number_of (same_Some x v is)) ∙ eqb-true x.number n h
found_by n x v false h o rest is = rest is

-- what is found by a number has it
pub found_number : (n : ℕ) (cs : List Collection) (v : Collection) → find (λ x. x.number == n) cs ≡ Some v → v.number ≡ n
found_number n [] v is = absurd (let no : false ≡ true = ap is_some is in cc)
found_number n (x ∷ xs) v is = found_by n x v (x.number == n) refl (find (λ y. y.number == n) xs) (found_number n xs v) is

answer_number : (node newest now : ℕ) (c : Collection) → (after_answer node newest now c).number ≡ c.number
answer_number node newest now c =
    elim (has_confirmed node c) as (λ b. (if b then c else if c.round == 1 then record c { first = c.first ++ (node, newest) ∷ []; ready = (if length c.first + 1 == 16 then Some now else c.ready) } else record c { again = c.again ++ node ∷ [] }).number ≡ c.number) [
      | true ↦ refl
      | false ↦ elim (c.round == 1) as (λ b. (if b then record c { first = c.first ++ (node, newest) ∷ []; ready = (if length c.first + 1 == 16 then Some now else c.ready) } else record c { again = c.again ++ node ∷ [] }).number ≡ c.number) [ true ↦ refl | false ↦ refl ]
    ]

pub told_number : (round node newest now : ℕ) (c : Collection) → (told round node newest now c).number ≡ c.number
told_number round node newest now c =
    elim (round == c.round) as (λ b. (if b then after_answer node newest now c else c).number ≡ c.number) [
      | true ↦ answer_number node newest now c
      | false ↦ refl
    ]

answer_key : (node newest now : ℕ) (c : Collection) → (after_answer node newest now c).key ≡ c.key
answer_key node newest now c =
    elim (has_confirmed node c) as (λ b. (if b then c else if c.round == 1 then record c { first = c.first ++ (node, newest) ∷ []; ready = (if length c.first + 1 == 16 then Some now else c.ready) } else record c { again = c.again ++ node ∷ [] }).key ≡ c.key) [
      | true ↦ refl
      | false ↦ elim (c.round == 1) as (λ b. (if b then record c { first = c.first ++ (node, newest) ∷ []; ready = (if length c.first + 1 == 16 then Some now else c.ready) } else record c { again = c.again ++ node ∷ [] }).key ≡ c.key) [ true ↦ refl | false ↦ refl ]
    ]

pub told_key : (round node newest now : ℕ) (c : Collection) → (told round node newest now c).key ≡ c.key
told_key round node newest now c =
    elim (round == c.round) as (λ b. (if b then after_answer node newest now c else c).key ≡ c.key) [
      | true ↦ answer_key node newest now c
      | false ↦ refl
    ]
