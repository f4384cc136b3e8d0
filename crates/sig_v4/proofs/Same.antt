-- Bytes that are compared by a fold: nothing differs where all differences together are nothing.
use Rattle.std.proofs.Common.{◌≡◌, ℕ, ◌+◌, ◌<◌, ◌≤◌, Bool, true, false, ◌&&◌, nat_eq, List, ◌∷◌, length, drop, get_or, refl, sym, ap, ◌∙◌, arith, inl, inr, bit_or, bit_xor}
use Rattle.std.specs.Cmp.Lexicographic.{pointwise, unequal}
use Rattle.std.specs.Int.Bits.{xor_self, xor_add_and, or_zero_l}
use Rattle.std.proofs.lemmas.Nat.{le_or_l, le_or_r, and_le_l, and_le_r}
use Rattle.std.proofs.lemmas.Bool.{eq-eqb}
use Rattle.std.proofs.lemmas.Bool.Decides.{eqb_tells}
use Rattle.std.proofs.lemmas.List.{drop_more, drop_all}

same_byte : (d a b : ℕ) → bit_or d (bit_xor a b) ≡ 0 → (d ≡ 0) × (a ≡ b)
same_byte d a b h =
    let none : bit_xor a b ≡ 0 = omega (arith, le_or_r d (bit_xor a b), h) in
    (omega (arith, le_or_l d (bit_xor a b), h), omega (arith, xor_add_and a b, and_le_l a b, and_le_r a b, none))

no_difference : (d a b : ℕ) → d ≡ 0 → a ≡ b → bit_or d (bit_xor a b) ≡ 0
no_difference d a b none same =
    ap (λ n. bit_or n (bit_xor a b)) none ∙ (or_zero_l (bit_xor a b) ∙ (ap (λ n. bit_xor n b) same ∙ xor_self b))

-- one byte more is the same
fold_byte : (d a b : ℕ) → nat_eq (bit_or d (bit_xor a b)) 0 ≡ (nat_eq d 0 && nat_eq a b)
fold_byte d a b =
    elim (eqb_tells (bit_or d (bit_xor a b)) 0) [
      | inl all ↦ (let parts = same_byte d a b all.1 in rw (all.0, eq-eqb d 0 parts.0, eq-eqb a b parts.1) refl)
      | inr some ↦ elim (eqb_tells d 0) [
        | inl none ↦ elim (eqb_tells a b) [
          | inl same ↦ absurd (some.1 (no_difference d a b none.1 same.1))
          | inr differ ↦ rw (some.0, none.0, differ.0) refl
        ]
        | inr before ↦ rw (some.0, before.0) refl
      ]
    ]

and_first : (x y z : Bool) → ((x && y) && z) ≡ (x && (y && z))
and_first true y z = refl
and_first false y z = refl

-- the rest is compared after one byte
pub same_step : (given due : List ℕ) (i d a b e f : ℕ) → i < length given → i < length due → a ≡ get_or given i e → b ≡ get_or due i f →
    (nat_eq (bit_or d (bit_xor a b)) 0 && pointwise nat_eq (drop (i + 1) given) (drop (i + 1) due)) ≡ (nat_eq d 0 && pointwise nat_eq (drop i given) (drop i due))
same_step given due i d a b e f h k is at =
    let rest = pointwise nat_eq (drop (i + 1) given) (drop (i + 1) due) in
    let first : drop i given ≡ a ∷ drop (i + 1) given = drop_more given i e h ∙ ap (λ x. x ∷ drop (i + 1) given) (sym is) in
    let second : drop i due ≡ b ∷ drop (i + 1) due = drop_more due i f k ∙ ap (λ x. x ∷ drop (i + 1) due) (sym at) in
    ap (λ x. x && rest) (fold_byte d a b) ∙ (and_first (nat_eq d 0) (nat_eq a b) rest ∙ rw (first, second) refl)

last_byte : (x : Bool) → (x && true) ≡ x
last_byte true = refl
last_byte false = refl

-- nothing is left behind the last byte
pub same_end : (given due : List ℕ) (i d : ℕ) → length given ≤ i → length due ≤ i → (nat_eq d 0 && pointwise nat_eq (drop i given) (drop i due)) ≡ nat_eq d 0
same_end given due i d h k = rw (drop_all i given h, drop_all i due k) (last_byte (nat_eq d 0))

-- texts of different lengths aren't the same
pub same_length : (given due : List ℕ) (b : Bool) → (nat_eq (length given) (length due) ≡ true → b ≡ pointwise nat_eq given due) →
    (nat_eq (length given) (length due) && b) ≡ pointwise nat_eq given due
same_length given due b h =
    elim (eqb_tells (length given) (length due)) [
      | inl long ↦ rw (long.0, h long.0) refl
      | inr other ↦ rw (other.0) (sym (unequal nat_eq given due other.1))
    ]
