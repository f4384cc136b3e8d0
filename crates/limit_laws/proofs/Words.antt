-- The words of events: keys are short and of bytes, and so is what a put stores; the digest of a bucket's name has its width.
use Rattle.std.specs.Prelude.{◌≡◌, ◌≤◌, ◌<◌, ◌^◌, ◌%◌, ◌==◌, ◌||◌, ℕ, zero, suc, Bool, true, false, nat_lt, nat_le, List, [], ◌∷◌, length, refl}
use Rattle.std.specs.List.{All, AllByRecursion, list_all}
use Rattle.std.proofs.Common.{ap, ◌⊎◌, inl, inr, arith, lit≤}
use Rattle.std.proofs.lemmas.Bool.{lt-ltb, leb-true, eqb-true}
use Rattle.std.proofs.lemmas.List.Elements.{recursion_from_All}
use Rattle.blake2_hash.specs.Blake2b.{blake2b}
use Rattle.blake2_hash.specs.Hash.{digest_of}
use Rattle.blake2_hash.specs.DigestLaws.{length-blake2b, blake2b_below}
use Rattle.crdt_core.specs.EntryLaws.{and_parts, and_both}
use Rattle.layout_roles.specs.Names.{is_between, is_name_byte}
use Rattle.row_codec.specs.Reads.{are_bytes}
use Rattle.row_codec.specs.Range.{is_hash}
use Rattle.row_codec.specs.NumberLaws.{block_from}
use Rattle.store_model.specs.Events.{object_bytes}
use Rattle.text_model.specs.Grammar.{is_upper, is_key_byte, is_key, is_prefix}

-- ---- digests

pub hash_of : (m : List ℕ) → is_hash (digest_of m) ≡ true
hash_of m = block_from 32 (blake2b 32 m) (length-blake2b 32 m (lit≤ tt)) (bytes_of_all (blake2b 32 m) (blake2b_below 32 m))
  where
    bytes_of_all : (bs : List ℕ) → All (λ b. b < 256) bs → are_bytes bs ≡ true
    bytes_of_all bs a = along bs (recursion_from_All (λ b. b < 256) bs a)
      where
        along : (bs : List ℕ) → AllByRecursion (λ b. b < 256) bs → are_bytes bs ≡ true
        along [] h = refl
        along (b ∷ bs) h = and_both (nat_lt b (2 ^ 8)) (are_bytes bs) (lt-ltb b (2 ^ 8) h.0) (along bs h.1)

-- ---- keys and bytes

key_byte : (b : ℕ) → is_key_byte b ≡ true → nat_lt b (2 ^ 8) ≡ true
key_byte b h = lt-ltb b (2 ^ 8) (elim (either (is_name_byte b) _ h) [
  | inl n ↦ (elim (either (is_between 97 122 b) _ n) [ inl e ↦ within 97 122 e (omega arith) | inr e ↦ within 48 57 e (omega arith) ])
  | inr more ↦ (elim (either (is_upper b) _ more) [
    | inl e ↦ within 65 90 e (omega arith)
    | inr rest ↦ (elim (either (b == 46) _ rest) [
      | inl e ↦ (let is : b ≡ 46 = eqb-true b 46 e in omega arith)
      | inr rest ↦ (elim (either (b == 95) _ rest) [
        | inl e ↦ (let is : b ≡ 95 = eqb-true b 95 e in omega arith)
        | inr rest ↦ (elim (either (b == 47) _ rest) [
          | inl e ↦ (let is : b ≡ 47 = eqb-true b 47 e in omega arith)
          | inr e ↦ (let is : b ≡ 45 = eqb-true b 45 e in omega arith)
        ])
      ])
    ])
  ])
])
  where
    either : (a c : Bool) → (a || c) ≡ true → (a ≡ true) ⊎ (c ≡ true)
    either true c e = inl refl
    either false c e = inr e

    within : (low high : ℕ) → is_between low high b ≡ true → high < 256 → b < 256
    within low high e h = let top = leb-true b high (and_parts (nat_le low b) (nat_le b high) e).1 in omega arith

keys_bytes : (key : List ℕ) → list_all is_key_byte key ≡ true → are_bytes key ≡ true
keys_bytes [] h = refl
keys_bytes (b ∷ key) h = let p = and_parts (is_key_byte b) (list_all is_key_byte key) h in and_both (nat_lt b (2 ^ 8)) (are_bytes key) (key_byte b p.0) (keys_bytes key p.1)

pub key_fits : (key : List ℕ) → is_key key ≡ true → (are_bytes key ≡ true) × (length key ≤ 64)
key_fits key h =
    let p = and_parts (is_between 1 64 (length key)) (list_all is_key_byte key) h in
    (keys_bytes key p.1, leb-true (length key) 64 (and_parts (nat_le 1 (length key)) (nat_le (length key) 64) p.0).1)

pub prefix_fits : (prefix : List ℕ) → is_prefix prefix ≡ true → length prefix ≤ 64
prefix_fits [] h = omega arith
prefix_fits (b ∷ bs) h = (key_fits (b ∷ bs) h).1

pub object_fits : (size fill : ℕ) → (are_bytes (object_bytes size fill) ≡ true) × (length (object_bytes size fill) ≡ size)
object_fits zero fill = (refl, refl)
object_fits (suc size) fill =
    let rest = object_fits size (suc fill) in
    (and_both (nat_lt (fill % 251) (2 ^ 8)) (are_bytes (object_bytes size (suc fill))) (lt-ltb (fill % 251) (2 ^ 8) (omega arith)) rest.0, ap suc rest.1)
