-- Numbers are ordered as their bytes are, the highest first.
use Rattle.std.proofs.Common.{◌≡◌, ℕ, ◌+◌, ◌*◌, ◌^◌, ◌<◌, ◌≤◌, true, List, [], ◌∷◌, length, refl, sym, ap, ◌∙◌, arith, mul-le-mul_right, pow-suc, lit<}
use Rattle.std.specs.Prelude.{nat_lt}
use Rattle.std.specs.declared.cmp.Ordering.{Ordering}
use Rattle.std.specs.declared.cmp.Ordering.TheVariants.{Less, Equal, Greater}
use Rattle.std.specs.Ordering.{nat_cmp, ordering_then, MatchOrdering}
use Rattle.std.specs.Cmp.Lexicographic.{slice_cmp}
use Rattle.std.specs.Int.{w32, w64, from_be_bytes, to_be_bytes}
use Rattle.std.proofs.lemmas.Bool.{ltb-true}
use Rattle.std.proofs.lemmas.Cmp.{ranked}
use Rattle.std.proofs.lemmas.Nat.{from_be_bytes-to_be_bytes_4, from_be_bytes-to_be_bytes_8}
use Rattle.crdt_core.specs.EntryLaws.{and_parts}
use Rattle.row_codec.specs.Reads.{are_bytes, IsBytes}
use Rattle.row_codec.specs.NumberLaws.{four_reads, eight_reads}
use Rattle.row_codec.specs.Range.{is_four, is_eight}
use Rattle.row_codec.specs.Spelling.{four, eight}

-- the answer of a comparison, by what is known of the numbers
ordered_by : (m n : ℕ) (r s : Ordering) → r ≡ nat_cmp m n → MatchOrdering s (m < n) (m ≡ n) (n < m) → r ≡ s
ordered_by m n Less Less e h = refl
ordered_by m n Less Equal e h = let k : m < n = ranked m n Less e in absurd (omega arith)
ordered_by m n Less Greater e h = let k : m < n = ranked m n Less e in absurd (omega arith)
ordered_by m n Equal Less e h = let k : m ≡ n = ranked m n Equal e in absurd (omega arith)
ordered_by m n Equal Equal e h = refl
ordered_by m n Equal Greater e h = let k : m ≡ n = ranked m n Equal e in absurd (omega arith)
ordered_by m n Greater Less e h = let k : n < m = ranked m n Greater e in absurd (omega arith)
ordered_by m n Greater Equal e h = let k : n < m = ranked m n Greater e in absurd (omega arith)
ordered_by m n Greater Greater e h = refl

-- a higher place decides first
below : (a b x y w : ℕ) → x < w → a < b → a * w + x < b * w + y
below a b x y w p q = let m : (a + 1) * w ≤ b * w = mul-le-mul_right w q' in omega arith
  where
    q' : a + 1 ≤ b
    q' = omega arith

place : (a b x y w : ℕ) → x < w → y < w → (r s : Ordering) → r ≡ nat_cmp a b → s ≡ nat_cmp x y → MatchOrdering (ordering_then r s) (a * w + x < b * w + y) (a * w + x ≡ b * w + y) (b * w + y < a * w + x)
place a b x y w p q Less s e f = below a b x y w p (ranked a b Less e)
place a b x y w p q Equal Less e f = let k = ap (λ (n : ℕ). n * w) (ranked a b Equal e) in let l : x < y = ranked x y Less f in omega (arith, k)
place a b x y w p q Equal Equal e f = let k = ap (λ (n : ℕ). n * w) (ranked a b Equal e) in let l : x ≡ y = ranked x y Equal f in omega (arith, k)
place a b x y w p q Equal Greater e f = let k = ap (λ (n : ℕ). n * w) (ranked a b Equal e) in let l : y < x = ranked x y Greater f in omega (arith, k)
place a b x y w p q Greater s e f = below b a y x w q (ranked a b Greater e)

places : (a b x y w : ℕ) → x < w → y < w → nat_cmp (a * w + x) (b * w + y) ≡ ordering_then (nat_cmp a b) (nat_cmp x y)
places a b x y w p q = ordered_by _ _ _ (ordering_then (nat_cmp a b) (nat_cmp x y)) refl (place a b x y w p q (nat_cmp a b) (nat_cmp x y) refl refl)

-- the number that bytes stand for
value : List ℕ → ℕ
value [] = 0
value (b ∷ bs) = b * 256 ^ length bs + value bs

value_below : (bs : List ℕ) → IsBytes bs → value bs < 256 ^ length bs
unfolding value
value_below [] h = lit< tt
value_below (b ∷ bs) h =
    let parts = and_parts (nat_lt b (2 ^ 8)) (are_bytes bs) h in
    let small : b < 256 = ltb-true _ _ parts.0 in
    let rest = value_below bs parts.1 in
    let top : b + 1 ≤ 256 = omega arith in
    let m : (b + 1) * 256 ^ length bs ≤ 256 * 256 ^ length bs = mul-le-mul_right (256 ^ length bs) top in
    rw pow-suc (omega arith)

value_order : (xs ys : List ℕ) → IsBytes xs → IsBytes ys → length xs ≡ length ys → slice_cmp nat_cmp xs ys ≡ nat_cmp (value xs) (value ys)
unfolding value
value_order [] [] p q e = refl
value_order [] (b ∷ ys) p q e = absurd (omega arith)
value_order (a ∷ xs) [] p q e = absurd (omega arith)
value_order (a ∷ xs) (b ∷ ys) p q e =
    let left = (and_parts (nat_lt a (2 ^ 8)) (are_bytes xs) p).1 in
    let right = (and_parts (nat_lt b (2 ^ 8)) (are_bytes ys) q).1 in
    let len : length xs ≡ length ys = omega arith in
    let w = ap (λ (n : ℕ). 256 ^ n) len in
    let low : value ys < 256 ^ length xs = rw w (value_below ys right) in
    ap (ordering_then (nat_cmp a b)) (value_order xs ys left right len)
    ∙ (sym (places a b (value xs) (value ys) (256 ^ length xs) (value_below xs left) low)
    ∙ ap (λ (k : ℕ). nat_cmp (a * 256 ^ length xs + value xs) (b * k + value ys)) w)

value_4 : (a b c d : ℕ) → value (a ∷ b ∷ c ∷ d ∷ []) ≡ from_be_bytes w32 (a ∷ b ∷ c ∷ d ∷ [])
unfolding value
value_4 a b c d = omega arith

value_8 : (a b c d e f g h : ℕ) → value (a ∷ b ∷ c ∷ d ∷ e ∷ f ∷ g ∷ h ∷ []) ≡ from_be_bytes w64 (a ∷ b ∷ c ∷ d ∷ e ∷ f ∷ g ∷ h ∷ [])
unfolding value
value_8 a b c d e f g h = omega arith

value_four : (n : ℕ) → n < 2 ^ 32 → value (to_be_bytes w32 n) ≡ n
value_four n h = value_4 _ _ _ _ ∙ from_be_bytes-to_be_bytes_4 n h

value_eight : (n : ℕ) → n < 2 ^ 64 → value (to_be_bytes w64 n) ≡ n
value_eight n h = value_8 _ _ _ _ _ _ _ _ ∙ from_be_bytes-to_be_bytes_8 n h

pub four_order : (m n : ℕ) → is_four m ≡ true → is_four n ≡ true → slice_cmp nat_cmp (four m) (four n) ≡ nat_cmp m n
unfolding four
four_order m n p q = value_order (four m) (four n) (four_reads.bytes m p) (four_reads.bytes n q) refl ∙ λ i. nat_cmp (value_four m (ltb-true _ _ p) i) (value_four n (ltb-true _ _ q) i)

pub eight_order : (m n : ℕ) → is_eight m ≡ true → is_eight n ≡ true → slice_cmp nat_cmp (eight m) (eight n) ≡ nat_cmp m n
unfolding eight
eight_order m n p q = value_order (eight m) (eight n) (eight_reads.bytes m p) (eight_reads.bytes n q) refl ∙ λ i. nat_cmp (value_eight m (ltb-true _ _ p) i) (value_eight n (ltb-true _ _ q) i)

pub four_length : (n : ℕ) → length (four n) ≡ 4
unfolding four
four_length n = refl

pub eight_length : (n : ℕ) → length (eight n) ≡ 8
unfolding eight
eight_length n = refl
