-- Laws that impls cite; what is defined here serves their proofs alone.
-- Numbers and strings of bytes are read as they are spelled.
use Rattle.std.proofs.Common.{◌≡◌, ℕ, zero, suc, ◌^◌, ◌<◌, ◌≤◌, ◌%◌, Bool, true, false, cond, ltb, eqb, List, [], ◌∷◌, ◌++◌, length, get_or, take, drop, Option, Some, None, refl, sym, ap, subst, ◌∙◌, append_assoc, arith, lit<}
use Rattle.std.specs.Prelude.{nat_lt}
use Rattle.std.specs.Int.{Width, w32, w64, from_be_bytes, to_be_bytes, byte_at, bytes_high_first}
use Rattle.std.proofs.lemmas.Bool.{ltb-true, ltb-false, lt-ltb, le-ltb, eqb-true, eq-eqb}
use Rattle.crdt_core.specs.EntryLaws.{and_parts, and_both}
use Rattle.std.proofs.lemmas.List.{take_at, drop_at, take-append-drop, length-append, length-take}
use Rattle.std.proofs.lemmas.Nat.{be_bytes_4, be_bytes_8, from_be_bytes-to_be_bytes_4, from_be_bytes-to_be_bytes_8}
use Rattle.row_codec.specs.Reads.{◌>>=◌, are_bytes, IsBytes, Begins, Reads}
use Rattle.row_codec.specs.Range.{is_block, is_byte, is_four, is_eight, is_below}
use Rattle.row_codec.specs.Spelling.{byte, four, eight, field}
use Rattle.row_codec.specs.Reading.{byte_at as first_at, bytes_at, four_at, eight_at, field_at}

pub bytes_front : (a b : List ℕ) → IsBytes (a ++ b) → IsBytes a
bytes_front [] b h = refl
bytes_front (x ∷ a) b h = let parts = and_parts (nat_lt x (2 ^ 8)) (are_bytes (a ++ b)) h in and_both _ _ parts.0 (bytes_front a b parts.1)

pub bytes_back : (a b : List ℕ) → IsBytes (a ++ b) → IsBytes b
bytes_back [] b h = h
bytes_back (x ∷ a) b h = bytes_back a b (and_parts (nat_lt x (2 ^ 8)) (are_bytes (a ++ b)) h).1

pub bytes_both : (a b : List ℕ) → IsBytes a → IsBytes b → IsBytes (a ++ b)
bytes_both [] b h g = g
bytes_both (x ∷ a) b h g = let parts = and_parts (nat_lt x (2 ^ 8)) (are_bytes a) h in and_both _ _ parts.0 (bytes_both a b parts.1 g)

-- what is left is bytes
pub bytes_rest : (bytes a b : List ℕ) → bytes ≡ a ++ b → IsBytes bytes → IsBytes b
bytes_rest bytes a b e h = bytes_back a b (subst IsBytes e h)

pub byte_rest : (b : ℕ) (bytes : List ℕ) → IsBytes (b ∷ bytes) → IsBytes bytes
byte_rest b bytes h = (and_parts (nat_lt b (2 ^ 8)) (are_bytes bytes) h).1

pub bytes_each : (bytes : List ℕ) → IsBytes bytes → (i : ℕ) → get_or bytes i 0 < 256
bytes_each [] h i = lit< tt
bytes_each (b ∷ bytes) h zero = ltb-true _ _ (and_parts (nat_lt b (2 ^ 8)) (are_bytes bytes) h).0
bytes_each (b ∷ bytes) h (suc i) = bytes_each bytes (and_parts (nat_lt b (2 ^ 8)) (are_bytes bytes) h).1 i

pub bytes_from : (bytes : List ℕ) → ((i : ℕ) → get_or bytes i 0 < 256) → IsBytes bytes
bytes_from [] h = refl
bytes_from (b ∷ bytes) h = and_both _ _ (lt-ltb b (2 ^ 8) (h 0)) (bytes_from bytes (λ i. h (suc i)))

-- n bytes
pub block_from : (n : ℕ) (bytes : List ℕ) → length bytes ≡ n → IsBytes bytes → is_block n bytes ≡ true
block_from n bytes len h = and_both _ _ (eq-eqb (length bytes) n len) h

pub block_length : (n : ℕ) (bytes : List ℕ) → is_block n bytes ≡ true → length bytes ≡ n
block_length n bytes h = eqb-true (length bytes) n (and_parts (eqb (length bytes) n) (are_bytes bytes) h).0

pub block_bytes : (n : ℕ) (bytes : List ℕ) → is_block n bytes ≡ true → IsBytes bytes
block_bytes n bytes h = (and_parts (eqb (length bytes) n) (are_bytes bytes) h).1

-- what stands behind as many bytes is the same where the whole is
pub fronts : (a b x y : List ℕ) (n : ℕ) → length a ≡ n → length b ≡ n → a ++ x ≡ b ++ y → (a ≡ b) × (x ≡ y)
fronts a b x y n p q e = (sym (take_at a x n p) ∙ (ap (take n) e ∙ take_at b y n q), sym (drop_at a x n p) ∙ (ap (drop n) e ∙ drop_at b y n q))

-- the value of a step that did not fail
pub bind_some : {A B : Type 0} (r : Option A) (f : A → Option B) (y : B) → (r >>= f) ≡ Some y → (x : A) × (r ≡ Some x) × (f x ≡ Some y)
bind_some (Some x) f y e = (x, refl, e)
bind_some None f y e = absurd cc

-- a test that did not fail
guard_some : {A : Type 0} (b : Bool) (x y : A) → cond b None (Some x) ≡ Some y → (b ≡ false) × (x ≡ y)
guard_some true x y e = absurd cc
guard_some false x y e = (refl, cc)

pub some_is : {A : Type 0} (x y : A) → Some x ≡ Some y → x ≡ y
some_is x y e = cc

pub bytes_reads : (n : ℕ) → Reads (is_block n) (λ b. true) (λ b. b) (bytes_at n)
unfolding bytes_at
bytes_reads n = record {
  bytes = λ x fits. block_bytes n x fits;
  takes = λ bytes x rest fits e.
      let g = guard_some (nat_lt (length bytes) n) (take n bytes, drop n bytes) (x, rest) e in
      let long : n ≤ length bytes = ltb-false _ _ g.0 in
      let parts : bytes ≡ take n bytes ++ drop n bytes = sym (take-append-drop n bytes) in
      let len : length (take n bytes) ≡ n = omega (arith, length-take n bytes) in
      let front : IsBytes (take n bytes) = bytes_front (take n bytes) (drop n bytes) (subst IsBytes parts fits) in
      subst (λ (p : List ℕ × List ℕ). Begins (is_block n) (λ b. true) (λ b. b) bytes p.0 p.1) g.1 (record { parts = parts; fits = block_from n (take n bytes) len front; short = refl });
  again = λ x rest proper short.
      let len : length x ≡ n = block_length n x proper in
      let long : ltb (length (x ++ rest)) n ≡ false = le-ltb _ _ (omega (arith, length-append x rest, len)) in
      rw (long, take_at x rest n len, drop_at x rest n len) refl;
}

-- ---- numbers

byte_takes : (bytes : List ℕ) (x : ℕ) (rest : List ℕ) → IsBytes bytes → first_at bytes ≡ Some (x, rest) → Begins is_byte (λ b. true) byte bytes x rest
unfolding first_at
byte_takes [] x rest fits e = absurd cc
byte_takes (b ∷ bytes) x rest fits e =
    subst (λ (q : ℕ × List ℕ). Begins is_byte (λ b. true) byte (b ∷ bytes) q.0 q.1) (some_is (b, bytes) (x, rest) e)
    (record { parts = refl; fits = (and_parts (nat_lt b (2 ^ 8)) (are_bytes bytes) fits).0; short = refl })

pub byte_reads : Reads is_byte (λ b. true) byte first_at
unfolding first_at
byte_reads = record { bytes = λ b fits. and_both (is_byte b) true fits refl; takes = byte_takes; again = λ b rest fits short. refl }

-- the bytes of the numbers of one width
record IsWide (w : Width) (len limit : ℕ) : Type 0 where
  whole : (n : ℕ) → length (to_be_bytes w n) ≡ len
  small : (n : ℕ) → IsBytes (to_be_bytes w n)
  back : (bytes : List ℕ) → length bytes ≡ len → IsBytes bytes → to_be_bytes w (from_be_bytes w bytes) ≡ bytes
  again : (n : ℕ) → n < limit → from_be_bytes w (to_be_bytes w n) ≡ n
  below : (bytes : List ℕ) → IsBytes bytes → from_be_bytes w bytes < limit

below_32 : (bytes : List ℕ) → ((i : ℕ) → get_or bytes i 0 < 256) → from_be_bytes w32 bytes < 2 ^ 32
below_32 bytes fits = omega (arith, fits 0, fits 1, fits 2, fits 3)

below_64 : (bytes : List ℕ) → ((i : ℕ) → get_or bytes i 0 < 256) → from_be_bytes w64 bytes < 2 ^ 64
below_64 bytes fits = omega (arith, fits 0, fits 1, fits 2, fits 3, fits 4, fits 5, fits 6, fits 7)

-- each byte of a number is below 256
pub byte_small : (i n : ℕ) → nat_lt (byte_at i n) (2 ^ 8) ≡ true
byte_small zero n = lt-ltb (n % 256) (2 ^ 8) (omega arith)
byte_small (suc i) n = lt-ltb _ _ (omega arith)

high_small : (k n : ℕ) → IsBytes (bytes_high_first k n)
high_small zero n = refl
high_small (suc k) n = and_both _ _ (byte_small k n) (high_small k n)

wide_32 : IsWide w32 4 (2 ^ 32)
wide_32 = record {
  whole = λ n. refl;
  small = λ n. high_small 4 n;
  back = λ bytes len fits. be_bytes_4 bytes _ len (bytes_each bytes fits) refl;
  again = λ n lt. from_be_bytes-to_be_bytes_4 n lt;
  below = λ bytes fits. below_32 bytes (bytes_each bytes fits);
}

wide_64 : IsWide w64 8 (2 ^ 64)
wide_64 = record {
  whole = λ n. refl;
  small = λ n. high_small 8 n;
  back = λ bytes len fits. be_bytes_8 bytes _ len (bytes_each bytes fits) refl;
  again = λ n lt. from_be_bytes-to_be_bytes_8 n lt;
  below = λ bytes fits. below_64 bytes (bytes_each bytes fits);
}

number_reads : (w : Width) (len limit : ℕ) → IsWide w len limit → Reads (λ n. nat_lt n limit) (λ n. true) (to_be_bytes w) (λ bytes. bytes_at len bytes >>= λ front. Some (from_be_bytes w front.0, front.1))
number_reads w len limit wide = record {
  bytes = λ x fits. wide.small x;
  takes = λ bytes x rest fits e.
      let b = bind_some (bytes_at len bytes) (λ front. Some (from_be_bytes w front.0, front.1)) (x, rest) e in
      let t = (bytes_reads len).takes bytes b.0.0 b.0.1 fits b.1 in
      let back : to_be_bytes w (from_be_bytes w b.0.0) ≡ b.0.0 = wide.back b.0.0 (block_length len b.0.0 t.fits) (block_bytes len b.0.0 t.fits) in
      let parts : bytes ≡ to_be_bytes w (from_be_bytes w b.0.0) ++ b.0.1 = rw back t.parts in
      subst (λ (p : ℕ × List ℕ). Begins (λ n. nat_lt n limit) (λ n. true) (to_be_bytes w) bytes p.0 p.1) (some_is _ _ b.2) (record { parts = parts; fits = lt-ltb _ _ (wide.below b.0.0 (block_bytes len b.0.0 t.fits)); short = refl });
  again = λ x rest proper short.
      let front = (bytes_reads len).again (to_be_bytes w x) rest (block_from len (to_be_bytes w x) (wide.whole x) (wide.small x)) refl in
      rw (front, wide.again x (ltb-true _ _ proper)) refl;
}

pub four_reads : Reads is_four (λ n. true) four four_at
unfolding four_at four
four_reads = number_reads w32 4 (2 ^ 32) wide_32

pub four_bytes : (n : ℕ) → IsBytes (four n)
unfolding four
four_bytes n = high_small 4 n

pub eight_reads : Reads is_eight (λ n. true) eight eight_at
unfolding eight_at eight
eight_reads = number_reads w64 8 (2 ^ 64) wide_64

-- ---- strings

pub field_reads : Reads are_bytes is_below field field_at
unfolding field_at
field_reads = record {
  bytes = λ x fits. bytes_both (four (length x)) x (four_bytes (length x)) fits;
  takes = λ bytes x rest fits e.
      let b = bind_some (four_at bytes) (λ len. bytes_at len.0 len.1) (x, rest) e in
      let t = four_reads.takes bytes b.0.0 b.0.1 fits b.1 in
      let u = (bytes_reads b.0.0).takes b.0.1 x rest (bytes_rest bytes (four b.0.0) b.0.1 t.parts fits) b.2 in
      let len : length x ≡ b.0.0 = block_length b.0.0 x u.fits in
      let parts : bytes ≡ field x ++ rest = t.parts ∙ ap (λ (y : List ℕ). four b.0.0 ++ y) u.parts ∙ sym (append_assoc (four b.0.0) x rest) ∙ ap (λ (n : ℕ). (four n ++ x) ++ rest) (sym len) in
      record { parts = parts; fits = block_bytes b.0.0 x u.fits; short = rw len t.fits };
  again = λ x rest proper short.
      let len = four_reads.again (length x) (x ++ rest) short refl in
      let whole : field_at (field x ++ rest) ≡ field_at (four (length x) ++ (x ++ rest)) = ap field_at (append_assoc (four (length x)) x rest) in
      whole ∙ rw len ((bytes_reads (length x)).again x rest (block_from (length x) x refl proper) refl);
}
