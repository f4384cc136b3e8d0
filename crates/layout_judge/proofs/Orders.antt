-- Three nodes in order of numbers ascend where they differ.
use Rattle.std.proofs.Common.{◌≡◌, ◌<◌, ℕ, true, false, cond, nat_lt, nat_eq, ◌&&◌, [], ◌∷◌, refl, sym, ap, subst, ◌∙◌, arith, inl, inr, eqb-true}
use Rattle.std.specs.List.{IsDistinct}
use Rattle.std.proofs.lemmas.Bool.{cases_Bool, and_from, ltb-true, lt-ltb, eqb-false, ltb-false}
use Rattle.layout_roles.specs.Zones.{set_ascends}
use Rattle.layout_roles.specs.Sets.{put_node, in_order}

rise : (x y z : ℕ) → x < y → y < z → set_ascends (x ∷ y ∷ z ∷ []) ≡ true
rise x y z low high =
    and_from (nat_lt x y && (nat_lt x z && true)) ((nat_lt y z && true) && true)
    (and_from (nat_lt x y) (nat_lt x z && true) (lt-ltb x y low) (and_from (nat_lt x z) true (lt-ltb x z (omega arith)) refl))
    (and_from (nat_lt y z && true) true (and_from (nat_lt y z) true (lt-ltb y z high) refl) refl)

above : (a b : ℕ) → nat_lt b a ≡ false → nat_eq a b ≡ false → a < b
above a b low other = let no = eqb-false a b other in let le = ltb-false b a low in elim (cases_Bool (nat_lt a b)) [
  | inl t ↦ ltb-true a b t
  | inr f ↦ let ge = ltb-false a b f in absurd (no (omega arith))
]

-- two of three such nodes
first_two : (a b c : ℕ) → IsDistinct nat_eq (a ∷ b ∷ c ∷ []) → nat_eq a b ≡ false
unfolding IsDistinct
first_two a b c h = h.0.0

last_two : (a b c : ℕ) → IsDistinct nat_eq (a ∷ b ∷ c ∷ []) → nat_eq b c ≡ false
unfolding IsDistinct
last_two a b c h = h.1.0.0

-- the third put among two that rise
third : (x y c : ℕ) → x < y → IsDistinct nat_eq (put_node c (x ∷ y ∷ [])) → set_ascends (put_node c (x ∷ y ∷ [])) ≡ true
third x y c lt = elim (cases_Bool (nat_lt c x)) [
  | inl t ↦ let is : put_node c (x ∷ y ∷ []) ≡ c ∷ x ∷ y ∷ [] = ap (λ b. cond b (c ∷ x ∷ y ∷ []) (x ∷ put_node c (y ∷ []))) t in
      λ apart. ap set_ascends is ∙ rise c x y (ltb-true c x t) lt
  | inr f ↦ let is : put_node c (x ∷ y ∷ []) ≡ x ∷ put_node c (y ∷ []) = ap (λ b. cond b (c ∷ x ∷ y ∷ []) (x ∷ put_node c (y ∷ []))) f in
      elim (cases_Bool (nat_lt c y)) [
        | inl u ↦ let there : put_node c (x ∷ y ∷ []) ≡ x ∷ c ∷ y ∷ [] = is ∙ ap (λ b. x ∷ cond b (c ∷ y ∷ []) (y ∷ c ∷ [])) u in
            λ apart. ap set_ascends there ∙ rise x c y (above x c f (first_two x c y (subst (IsDistinct nat_eq) there apart))) (ltb-true c y u)
        | inr v ↦ let there : put_node c (x ∷ y ∷ []) ≡ x ∷ y ∷ c ∷ [] = is ∙ ap (λ b. x ∷ cond b (c ∷ y ∷ []) (y ∷ c ∷ [])) v in
            λ apart. ap set_ascends there ∙ rise x y c lt (above y c v (last_two x y c (subst (IsDistinct nat_eq) there apart)))
      ]
]

-- of two equal nodes, one is beside the other
not_twice : (a c : ℕ) → IsDistinct nat_eq (put_node c (a ∷ a ∷ [])) → ⊥
not_twice a c = elim (cases_Bool (nat_lt c a)) [
  | inl t ↦ let is : put_node c (a ∷ a ∷ []) ≡ c ∷ a ∷ a ∷ [] = ap (λ b. cond b (c ∷ a ∷ a ∷ []) (a ∷ put_node c (a ∷ []))) t in
      λ apart. same (last_two c a a (subst (IsDistinct nat_eq) is apart))
  | inr f ↦ elim (cases_Bool (nat_lt c a)) [
    | inl u ↦ let no : true ≡ false = sym u ∙ f in cc
    | inr v ↦ let is : put_node c (a ∷ a ∷ []) ≡ a ∷ a ∷ c ∷ [] = ap (λ b. cond b (c ∷ a ∷ a ∷ []) (a ∷ cond b (c ∷ a ∷ []) (a ∷ c ∷ []))) f in
        λ apart. same (first_two a a c (subst (IsDistinct nat_eq) is apart))
  ]
]
  where
    same : nat_eq a a ≡ false → ⊥
    same e = eqb-false a a e refl

-- three nodes in order ascend where no two are one
pub order_ascends : (a b c : ℕ) → IsDistinct nat_eq (in_order a b c) → set_ascends (in_order a b c) ≡ true
order_ascends a b c = elim (cases_Bool (nat_lt b a)) [
  | inl t ↦ let is : put_node b (a ∷ []) ≡ b ∷ a ∷ [] = ap (λ u. cond u (b ∷ a ∷ []) (a ∷ b ∷ [])) t in
      λ apart. ap (λ ns. set_ascends (put_node c ns)) is ∙ third b a c (ltb-true b a t) (subst (λ ns. IsDistinct nat_eq (put_node c ns)) is apart)
  | inr f ↦ let is : put_node b (a ∷ []) ≡ a ∷ b ∷ [] = ap (λ u. cond u (b ∷ a ∷ []) (a ∷ b ∷ [])) f in
      elim (cases_Bool (nat_eq a b)) [
        | inl same ↦ λ apart. absurd (not_twice a c (subst (λ n. IsDistinct nat_eq (put_node c (a ∷ n ∷ []))) (sym (eqb-true a b same)) (subst (λ ns. IsDistinct nat_eq (put_node c ns)) is apart)))
        | inr other ↦ λ apart. ap (λ ns. set_ascends (put_node c ns)) is ∙ third a b c (above a b f other) (subst (λ ns. IsDistinct nat_eq (put_node c ns)) is apart)
      ]
]
