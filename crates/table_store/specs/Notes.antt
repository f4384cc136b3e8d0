-- The notes of a walk as one set, in order.
use Rattle.std.specs.Prelude.{◌≡◌, ℕ, ◌==◌, ◌&&◌, nat_eq, Bool, List}
use Rattle.std.specs.List.{list_any}
use Rattle.std.specs.Ordering.{nat_cmp, ordering_then}
use Rattle.std.specs.declared.cmp.Ordering.{Ordering}
use Rattle.std.specs.BTreeSet.{BTreeSet, contains}
use Rattle.std.specs.Cmp.Lexicographic.{pointwise}
use Rattle.blake2_hash.specs.declared.digest.Hash32.{Hash32}
use Rattle.blake2_hash.specs.Hash.{hash_cmp, digest_of}
use Rattle.table_schema.specs.Words.{Words}

-- by the table, then by the key hash
abbrev pub note_cmp : ℕ × Hash32 → ℕ × Hash32 → Ordering
note_cmp a b = ordering_then (nat_cmp a.0 b.0) (hash_cmp a.1 b.1)

-- tables with key hashes
abbrev pub Notes : Type 0
Notes = BTreeSet (ℕ × Hash32)

-- the set has a note where `is_noted` finds it in the list
abbrev pub AreNotes : List (ℕ × Hash32) → Notes → Type 0
AreNotes noted notes = (table : ℕ) (hash : Hash32) →
    contains note_cmp notes (table, hash) ≡ list_any (λ one. (one.0 == table) && pointwise nat_eq one.1.0 hash.0) noted

-- the row is that of one of these tables and key hashes
abbrev pub is_among : {R : Type 0} → Words R → Notes → R → Bool
is_among s notes r = contains note_cmp notes (s.table r, digest_of (s.key r))
