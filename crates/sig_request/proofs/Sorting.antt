-- Two lists in order with the same elements are one list; and putting each element in its place gives a list in order.
use Rattle.std.proofs.Common.{◌≡◌, ℕ, suc, ◌+◌, ◌<◌, ◌≤◌, true, false, cond, List, [], ◌∷◌, length, get_or, refl, sym, ap, ◌∙◌, subst, arith}
use Rattle.std.specs.Prelude.{⊤}
use Rattle.std.specs.List.{AllByRecursion, sum_by}
use Rattle.std.proofs.lemmas.List.Sums.{sum_by-cons}
use Rattle.std.specs.Ordering.{is_lt, is_gt, is_eq, ordering_reverse}
use Rattle.std.specs.declared.cmp.Ordering.{Ordering}
use Rattle.std.specs.declared.cmp.Ordering.TheVariants.{Less, Equal, Greater}
use Rattle.std.specs.Cmp.{IsTotalOrder}
use Rattle.std.proofs.lemmas.Cmp.{upto, tied_itself}

-- a sum, the first item's part first
abbrev pub sum : {X : Type 0} → (X → ℕ) → List X → ℕ
sum f [] = 0
sum f (x ∷ xs) = f x + sum f xs

pub sum_is : {X : Type 0} (f : X → ℕ) (xs : List X) → sum_by f xs ≡ sum f xs
sum_is f [] = refl
sum_is f (x ∷ xs) = sum_by-cons f x xs ∙ ap (λ n. f x + n) (sum_is f xs)

module _ {X : Type 0} (R : X → X → Ordering) (o : IsTotalOrder R) (one : (x y : X) → R x y ≡ Equal → x ≡ y) where
  -- not after another
  abbrev Upto : X → X → Type 0
  Upto x y = is_gt (R x y) ≡ false

  -- each element isn't after those behind it
  abbrev pub Ascends : List X → Type 0
  Ascends [] = ⊤
  Ascends (x ∷ xs) = AllByRecursion (Upto x) xs × Ascends xs

  turned : (r : Ordering) → is_gt (ordering_reverse r) ≡ is_lt r
  turned Less = refl
  turned Equal = refl
  turned Greater = refl

  -- what isn't before another comes after it or with it
  from_test : (x y : X) → is_lt (R y x) ≡ false → Upto x y
  from_test x y e = ap is_gt (o.antisymm x y) ∙ turned (R y x) ∙ e

  below : (r : Ordering) → is_lt r ≡ true → is_gt r ≡ false
  below Less e = refl
  below Equal e = cc
  below Greater e = cc

  both : (r : Ordering) → is_gt r ≡ false → is_gt (ordering_reverse r) ≡ false → r ≡ Equal
  both Less e f = cc
  both Equal e f = refl
  both Greater e f = cc

  same : (x y : X) → Upto x y → Upto y x → x ≡ y
  same x y e f = one x y (both (R x y) e (ap is_gt (sym (o.antisymm y x)) ∙ f))

  all_upto : (x y : X) (ys : List X) → Upto x y → AllByRecursion (Upto y) ys → AllByRecursion (Upto x) ys
  all_upto x y [] e h = tt
  all_upto x y (z ∷ zs) e h = (upto o x y z e h.0, all_upto x y zs e h.1)

  -- ---- a sorted list ascends

  first_next : (x : X) (xs : List X) → ((k : ℕ) (d : X) → 0 ≤ k → k + 1 < length (x ∷ xs) → is_lt (R (get_or (x ∷ xs) (k + 1) d) (get_or (x ∷ xs) k d)) ≡ false) → Ascends xs → AllByRecursion (Upto x) xs
  first_next x [] h a = tt
  first_next x (y ∷ ys) h a = let e : Upto x y = from_test x y (h 0 x (omega arith) (omega arith)) in (e, all_upto x y ys e a.0)

  next_one : (x : X) (xs : List X) (k : ℕ) (d : X) → get_or (x ∷ xs) (k + 1) d ≡ get_or xs k d
  next_one x xs k d = let e : k + 1 ≡ suc k = omega arith in ap (λ n. get_or (x ∷ xs) n d) e

  pub ascends : (xs : List X) → ((k : ℕ) (d : X) → 0 ≤ k → k + 1 < length xs → is_lt (R (get_or xs (k + 1) d) (get_or xs k d)) ≡ false) → Ascends xs
  ascends [] h = tt
  ascends (x ∷ xs) h =
      let rest : Ascends xs = ascends xs (λ k d low within. sym (ap (λ y. is_lt (R y (get_or xs k d))) (next_one x xs (k + 1) d)) ∙ sym (ap (λ y. is_lt (R (get_or (x ∷ xs) (k + 1 + 1) d) y)) (next_one x xs k d)) ∙ h (k + 1) d (omega arith) (omega arith)) in
      (first_next x xs h rest, rest)

  -- ---- an element is put in its place

  abbrev pub put : List X → X → List X
  put [] x = x ∷ []
  put (y ∷ ys) x = cond (is_lt (R x y)) (x ∷ y ∷ ys) (y ∷ put ys x)

  put_all : (Q : X → Type 0) (ys : List X) (x : X) → Q x → AllByRecursion Q ys → AllByRecursion Q (put ys x)
  put_all Q [] x q h = (q, tt)
  put_all Q (y ∷ ys) x q h = elim (is_lt (R x y)) as (λ b. AllByRecursion Q (cond b (x ∷ y ∷ ys) (y ∷ put ys x))) [ true ↦ (q, h) | false ↦ (h.0, put_all Q ys x q h.1) ]

  pub put_ascends : (ys : List X) (x : X) → Ascends ys → Ascends (put ys x)
  put_ascends [] x h = (tt, tt)
  put_ascends (y ∷ ys) x h =
      elim (is_lt (R x y)) as (λ b. is_lt (R x y) ≡ b → Ascends (cond b (x ∷ y ∷ ys) (y ∷ put ys x))) [
        | true ↦ λ e. let first : Upto x y = below (R x y) e in ((first, all_upto x y ys first h.0), h)
        | false ↦ λ e. (put_all (Upto y) ys x (from_test y x e) h.0, put_ascends ys x h.1)
      ] refl

  swapped : (a b c : ℕ) → a + (b + c) ≡ b + (a + c)
  swapped a b c = omega arith

  pub put_sums : (f : X → ℕ) (ys : List X) (x : X) → sum f (put ys x) ≡ f x + sum f ys
  put_sums f [] x = refl
  put_sums f (y ∷ ys) x =
      elim (is_lt (R x y)) as (λ b. sum f (cond b (x ∷ y ∷ ys) (y ∷ put ys x)) ≡ f x + sum f (y ∷ ys)) [
        | true ↦ refl
        | false ↦ ap (λ n. f y + n) (put_sums f ys x) ∙ swapped (f y) (f x) (sum f ys)
      ]

  -- ---- one list

  abbrev is : X → X → ℕ
  is x z = cond (is_eq (R x z)) 1 0

  equal_of : (r : Ordering) → is_eq r ≡ true → r ≡ Equal
  equal_of Less e = cc
  equal_of Equal e = refl
  equal_of Greater e = cc

  -- what is counted is there
  there : (Q : X → Type 0) (x : X) (zs : List X) → AllByRecursion Q zs → 1 ≤ sum (is x) zs → Q x
  there Q x [] h n = absurd (let k : 1 ≤ 0 = n in omega arith)
  there Q x (z ∷ zs) h n =
      elim (is_eq (R x z)) as (λ b. is_eq (R x z) ≡ b → 1 ≤ cond b 1 0 + sum (is x) zs → Q x) [
        | true ↦ λ e m. subst Q (sym (one x z (equal_of (R x z) e))) h.0
        | false ↦ λ e m. there Q x zs h.1 (let k : 1 ≤ 0 + sum (is x) zs = m in omega arith)
      ] refl n

  counts_itself : (x : X) → is x x ≡ 1
  counts_itself x = ap (λ r. cond (is_eq r) 1 0) (tied_itself o x)

  upto_itself : (x : X) → Upto x x
  upto_itself x = ap is_gt (tied_itself o x)

  some_counts : (a m n : ℕ) → a ≡ 1 → a + m ≡ n → 1 ≤ n
  some_counts a m n e h = omega arith

  -- the first of a list in order comes before each of another with the same elements
  first_is_least : (x y : X) (xs ys : List X) → AllByRecursion (Upto y) ys → sum (is x) (x ∷ xs) ≡ sum (is x) (y ∷ ys) → Upto y x
  first_is_least x y xs ys h e =
      there (Upto y) x (y ∷ ys) (upto_itself y, h) (some_counts (is x x) (sum (is x) xs) (sum (is x) (y ∷ ys)) (counts_itself x) e)

  rest_counts : (a b m n : ℕ) → a ≡ b → a + m ≡ b + n → m ≡ n
  rest_counts a b m n e h = omega arith

  pub one_list : (xs ys : List X) → Ascends xs → Ascends ys → ((f : X → ℕ) → sum f xs ≡ sum f ys) → xs ≡ ys
  one_list [] [] a b h = refl
  one_list [] (y ∷ ys) a b h = absurd (let n : 0 ≡ 1 + sum (λ z. 1) ys = h (λ z. 1) in omega arith)
  one_list (x ∷ xs) [] a b h = absurd (let n : 1 + sum (λ z. 1) xs ≡ 0 = h (λ z. 1) in omega arith)
  one_list (x ∷ xs) (y ∷ ys) a b h =
      let first : x ≡ y = same x y (first_is_least y x ys xs a.0 (sym (h (is y)))) (first_is_least x y xs ys b.0 (h (is x))) in
      let rest : xs ≡ ys = one_list xs ys a.1 b.1 (λ f. rest_counts (f x) (f y) (sum f xs) (sum f ys) (ap f first) (h f)) in
      (λ i. first i ∷ rest i)
