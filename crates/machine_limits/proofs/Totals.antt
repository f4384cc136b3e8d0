-- Totals over lists, and lists without a repeat whose elements are all in another.
use Rattle.std.specs.Prelude.{◌≡◌, ◌≤◌, ℕ, zero, suc, ◌+◌, ◌*◌, Bool, true, false, cond, List, [], ◌∷◌, ◌++◌, length, map, take, refl}
use Rattle.std.specs.List.{AllByRecursion, filter, flat_map}
use Rattle.std.proofs.Common.{ap, sym, subst, ◌∙◌, ◌⊎◌, inl, inr, mul-suc, mul-add, length-append, arith}
use Rattle.crdt_core.specs.Members.{Has}

-- no element is there twice
abbrev pub AreApart : {X : Type 0} → List X → Type 0
AreApart [] = Unit {0}
AreApart (x ∷ xs) = (Has xs x → ⊥) × AreApart xs

module _ {X : Type 0} where
  pub has_left : (xs ys : List X) (x : X) → Has xs x → Has (xs ++ ys) x
  has_left [] ys x h = elim h [ ]
  has_left (z ∷ xs) ys x (inl e) = inl e
  has_left (z ∷ xs) ys x (inr h) = inr (has_left xs ys x h)

  pub has_right : (xs ys : List X) (x : X) → Has ys x → Has (xs ++ ys) x
  has_right [] ys x h = h
  has_right (z ∷ xs) ys x h = inr (has_right xs ys x h)

  pub has_parts : (xs ys : List X) (x : X) → Has (xs ++ ys) x → Has xs x ⊎ Has ys x
  has_parts [] ys x h = inr h
  has_parts (z ∷ xs) ys x (inl e) = inl (inl e)
  has_parts (z ∷ xs) ys x (inr h) = elim (has_parts xs ys x h) [ inl a ↦ inl (inr a) | inr b ↦ inr b ]

  pub all_has : (P : X → Type 0) (xs : List X) (x : X) → AllByRecursion P xs → Has xs x → P x
  all_has P [] x h i = elim i [ ]
  all_has P (y ∷ ys) x h (inl e) = subst P e h.0
  all_has P (y ∷ ys) x h (inr i) = all_has P ys x h.1 i

  pub all_from : (P : X → Type 0) (xs : List X) → ((x : X) → Has xs x → P x) → AllByRecursion P xs
  all_from P [] h = tt
  all_from P (x ∷ xs) h = (h x (inl refl), all_from P xs (λ y i. h y (inr i)))

  pub has_filter : (test : X → Bool) (xs : List X) (x : X) → Has (filter test xs) x → Has xs x × (test x ≡ true)
  has_filter test [] x h = elim h [ ]
  has_filter test (y ∷ xs) x h =
      elim (test y) as (λ b. test y ≡ b → Has (cond b (y ∷ filter test xs) (filter test xs)) x → Has (y ∷ xs) x × (test x ≡ true)) [
        | true ↦ (λ e g. elim g [ inl s ↦ (inl s, subst (λ (z : X). test z ≡ true) s e) | inr i ↦ (let r = has_filter test xs x i in (inr r.0, r.1)) ])
        | false ↦ (λ e g. let r = has_filter test xs x g in (inr r.0, r.1))
      ] refl h

  pub apart_filter : (test : X → Bool) (xs : List X) → AreApart xs → AreApart (filter test xs)
  apart_filter test [] a = tt
  apart_filter test (x ∷ xs) a =
      elim (test x) as (λ b. AreApart (cond b (x ∷ filter test xs) (filter test xs))) [
        | true ↦ (λ h. a.0 (has_filter test xs x h).0, apart_filter test xs a.1)
        | false ↦ apart_filter test xs a.1
      ]

  pub apart_append : (xs ys : List X) → AreApart xs → AreApart ys → ((x : X) → Has xs x → Has ys x → ⊥) → AreApart (xs ++ ys)
  apart_append [] ys a b h = b
  apart_append (x ∷ xs) ys a b h =
      (λ i. elim (has_parts xs ys x i) [ inl j ↦ a.0 j | inr j ↦ h x (inl refl) j ], apart_append xs ys a.1 b (λ y i. h y (inr i)))

module _ {X : Type 0} (f : X → ℕ) where
  -- the sum over the elements
  abbrev pub total : List X → ℕ
  total [] = 0
  total (x ∷ xs) = f x + total xs

  pub total_append : (xs ys : List X) → total (xs ++ ys) ≡ total xs + total ys
  total_append [] ys = omega arith
  total_append (x ∷ xs) ys = let rest : total (xs ++ ys) ≡ total xs + total ys = total_append xs ys in omega arith

  pub total_filter : (test : X → Bool) (xs : List X) → total (filter test xs) ≤ total xs
  total_filter test [] = omega arith
  total_filter test (x ∷ xs) =
      let rest : total (filter test xs) ≤ total xs = total_filter test xs in
      elim (test x) as (λ b. total (cond b (x ∷ filter test xs) (filter test xs)) ≤ f x + total xs) [ true ↦ omega arith | false ↦ omega arith ]

  pub total_take : (n : ℕ) (xs : List X) → total (take n xs) ≤ total xs
  total_take zero xs = omega arith
  total_take (suc n) [] = omega arith
  total_take (suc n) (x ∷ xs) = let rest : total (take n xs) ≤ total xs = total_take n xs in omega arith

  pub total_has : (xs : List X) (x : X) → Has xs x → f x ≤ total xs
  total_has [] x h = elim h [ ]
  total_has (y ∷ xs) x (inl e) = subst (λ (z : X). f z ≤ f y + total xs) e (omega arith)
  total_has (y ∷ xs) x (inr h) = let rest : f x ≤ total xs = total_has xs x h in omega arith

  -- each counts at least so much
  pub total_least : (n : ℕ) (xs : List X) → AllByRecursion (λ x. n ≤ f x) xs → n * length xs ≤ total xs
  total_least n [] a = omega arith
  total_least n (x ∷ xs) a = let rest : n * length xs ≤ total xs = total_least n xs a.1 in let here : n ≤ f x = a.0 in let more : n * suc (length xs) ≡ n * length xs + n = mul-suc n (length xs) in omega arith

  -- without one of them
  record Without (ys : List X) (x : X) : Type 0 where
    others : List X
    sum : total ys ≡ f x + total others
    there : (y : X) → Has ys y → (x ≡ y → ⊥) → Has others y

  without : (ys : List X) (x : X) → Has ys x → Without ys x
  without [] x h = elim h [ ]
  without (y ∷ ys) x (inl e) = record { others = ys; sum = ap (λ (z : X). f z + total ys) e; there = λ z i apart. elim i [ inl g ↦ absurd (apart (sym e ∙ g)) | inr more ↦ more ] }
  without (y ∷ ys) x (inr h) =
      let o = without ys x h in
      let is : total ys ≡ f x + total o.others = o.sum in
      record { others = y ∷ o.others; sum = omega arith; there = λ z i apart. elim i [ inl g ↦ inl g | inr more ↦ inr (o.there z more apart) ] }

  -- those that are apart and all among others sum up to no more
  pub fewer : (xs ys : List X) → AreApart xs → ((x : X) → Has xs x → Has ys x) → total xs ≤ total ys
  fewer [] ys a h = omega arith
  fewer (x ∷ xs) ys a h =
      let o = without ys x (h x (inl refl)) in
      let is : total ys ≡ f x + total o.others = o.sum in
      let rest : total xs ≤ total o.others = fewer xs o.others a.1 (λ y i. o.there y (h y (inr i)) (λ e. a.0 (subst (Has xs) (sym e) i))) in
      omega arith

pub total_ones : {X : Type 0} (xs : List X) → total (λ x. 1) xs ≡ length xs
total_ones [] = refl
total_ones (x ∷ xs) = let rest = total_ones xs in omega arith

pub total_map : {X Y : Type 0} (g : X → Y) (f : Y → ℕ) (xs : List X) → total f (map g xs) ≡ total (λ x. f (g x)) xs
total_map g f [] = refl
total_map g f (x ∷ xs) = ap (λ n. f (g x) + n) (total_map g f xs)

pub total_weaker : {X : Type 0} (f g : X → ℕ) (xs : List X) → AllByRecursion (λ x. f x ≤ g x) xs → total f xs ≤ total g xs
total_weaker f g [] a = omega arith
total_weaker f g (x ∷ xs) a = let rest : total f xs ≤ total g xs = total_weaker f g xs a.1 in let here : f x ≤ g x = a.0 in omega arith

pub total_times : {X : Type 0} (n : ℕ) (f : X → ℕ) (xs : List X) → total (λ x. n * f x) xs ≡ n * total f xs
total_times n f [] = omega arith
total_times n f (x ∷ xs) = let rest : total (λ x. n * f x) xs ≡ n * total f xs = total_times n f xs in let more : n * (f x + total f xs) ≡ n * f x + n * total f xs = mul-add n (f x) (total f xs) in omega arith

pub total_same : {X : Type 0} (f g : X → ℕ) → ((x : X) → f x ≡ g x) → (xs : List X) → total f xs ≡ total g xs
total_same f g h [] = refl
total_same f g h (x ∷ xs) = let rest = total_same f g h xs in let here = h x in omega (arith, rest, here)

-- each counts at most so much
pub total_most : {X : Type 0} (f : X → ℕ) (n : ℕ) (xs : List X) → AllByRecursion (λ x. f x ≤ n) xs → total f xs ≤ n * length xs
total_most f n [] a = omega arith
total_most f n (x ∷ xs) a = let rest : total f xs ≤ n * length xs = total_most f n xs a.1 in let here : f x ≤ n = a.0 in let more : n * suc (length xs) ≡ n * length xs + n = mul-suc n (length xs) in omega arith

pub flat_length : {X : Type 0} (f : X → List ℕ) (xs : List X) → length (flat_map f xs) ≡ total (λ x. length (f x)) xs
flat_length f [] = refl
flat_length f (x ∷ xs) = length-append (f x) (flat_map f xs) ∙ ap (λ n. length (f x) + n) (flat_length f xs)
