-- Laws that impls cite; no definition stands here.
-- The shape of a digest.
use Rattle.std.proofs.Common.{◌≡◌, ℕ, zero, suc, ◌+◌, ◌*◌, ◌<◌, ◌≤◌, Bool, List, [], ◌∷◌, length, refl, arith, length-append, length-take-le, ◌/◌, ◌^◌, lit≤}
use Rattle.std.specs.Prelude.{slice_index}
use Rattle.std.proofs.lemmas.Nat.{mod_below}
use Rattle.std.specs.Int.{w64, byte_at, bytes_low_first, to_le_bytes}
use Rattle.std.specs.List.{All, flat_map}
use Rattle.std.proofs.lemmas.List.Elements.{All-append, All-cons, All-take}
use Rattle.blake2_hash.specs.Blake2b.{compress, state_after, last_block, blake2b}

length-compress : (h block : List ℕ) (t : ℕ) (is_last : Bool) → length (compress h block t is_last) ≡ 8
unfolding compress
length-compress h block t is_last = refl

length-state_after : (n : ℕ) (m : List ℕ) (i : ℕ) → length (state_after n m i) ≡ 8
unfolding state_after
length-state_after n m zero = refl
length-state_after n m (suc i) = length-compress _ _ _ _

length-state_bytes : (words : List ℕ) → length (flat_map (to_le_bytes w64) words) ≡ 8 * length words
length-state_bytes [] = refl
length-state_bytes (x ∷ xs) =
    let first : length (to_le_bytes w64 x) ≡ 8 = refl in
    omega (arith, length-append (to_le_bytes w64 x) (flat_map (to_le_bytes w64) xs), first, length-state_bytes xs)

-- a digest has the length that was asked for
pub length-blake2b : (n : ℕ) (m : List ℕ) → n ≤ 64 → length (blake2b n m) ≡ n
unfolding blake2b
length-blake2b n m fits =
    let state : List ℕ = state_after n m (last_block (length m) + 1) in
    length-take-le n (flat_map (to_le_bytes w64) state)
    (omega (arith, length-state_bytes state, length-state_after n m (last_block (length m) + 1)))

byte_below : (i n : ℕ) → byte_at i n < 256
byte_below zero n = omega arith
byte_below (suc i) n = mod_below (n / 256 ^ suc i) 256 (omega arith)

bytes_below : (i k n : ℕ) → All (λ b. b < 256) (bytes_low_first i k n)
bytes_below i zero n = λ k d below. absurd (omega arith)
bytes_below i (suc k) n = All-cons (λ b. b < 256) (byte_at i n) (bytes_low_first (suc i) k n) (byte_below i n) (bytes_below (suc i) k n)

state_bytes_below : (words : List ℕ) → All (λ b. b < 256) (flat_map (to_le_bytes w64) words)
state_bytes_below [] = λ k d below. absurd (omega arith)
state_bytes_below (x ∷ xs) =
    All-append (λ b. b < 256) (to_le_bytes w64 x) (flat_map (to_le_bytes w64) xs) (bytes_below 0 8 x) (state_bytes_below xs)

-- a digest is of bytes
pub blake2b_below : (n : ℕ) (m : List ℕ) → All (λ b. b < 256) (blake2b n m)
unfolding blake2b
blake2b_below n m =
    All-take (λ b. b < 256) n (flat_map (to_le_bytes w64) (state_after n m (last_block (length m) + 1))) (state_bytes_below _)

-- ---- digests of 32 bytes

pub digest_length : (m : List ℕ) → length (blake2b 32 m) ≡ 32
digest_length m = length-blake2b 32 m (lit≤ tt)

pub digest_first : (m : List ℕ) → slice_index (blake2b 32 m) 0 < 256
digest_first m = blake2b_below 32 m 0 0 (omega (arith, digest_length m))
