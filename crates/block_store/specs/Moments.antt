-- Since when blocks are idle, in order, and what holds of a store's map and its moments.
use Rattle.std.specs.Prelude.{◌≡◌, ℕ, Bool, true, false, nat_le, ◌==◌, List, Option, None, Some}
use Rattle.std.specs.List.{filter}
use Rattle.std.specs.Map.{lookup}
use Rattle.std.specs.Ordering.{nat_cmp, ordering_then}
use Rattle.std.specs.declared.cmp.Ordering.{Ordering}
use Rattle.std.specs.BTreeMap.{BTreeMap, IsOrdered}
use Rattle.std.specs.BTreeSet.{BTreeSet, contains, Updates}
use Rattle.blake2_hash.specs.declared.digest.Hash32.{Hash32}
use Rattle.blake2_hash.specs.Hash.{hash_cmp, is_hash}
use Rattle.block_store.specs.declared.shelf.Kept.{Kept}
use Rattle.block_store.specs.Contents.{Contents, IsInOrder, idle_notes}
use Rattle.block_store.specs.Shelf.{contents}

-- by the moment, then by the hash
abbrev pub moment_cmp : ℕ × Hash32 → ℕ × Hash32 → Ordering
moment_cmp a b = ordering_then (nat_cmp a.0 b.0) (hash_cmp a.1 b.1)

-- moments with hashes
abbrev pub Moments : Type 0
Moments = BTreeSet (ℕ × Hash32)

-- since when a block is idle, if it is
abbrev pub idle_since : Contents → Hash32 → Option ℕ
idle_since c h = lookup (is_hash h) (idle_notes c)

-- it is this one
abbrev pub is_since : ℕ → Option ℕ → Bool
is_since n None = false
is_since n (Some m) = m == n

-- these are the moments of all idle blocks; without any it says nothing
abbrev pub AreMoments : Option Moments → Contents → Type 0
AreMoments None c = Unit {0}
AreMoments (Some m) c = (h : Hash32) (n : ℕ) → contains moment_cmp m (n, h) ≡ is_since n (idle_since c h)

-- a block's moment comes in or goes out, or all are given up
abbrev pub Changes : Option Moments → Option Moments → Hash32 → ℕ → Bool → Type 0
Changes old None h n b = Unit {0}
Changes None (Some new) h n b = ⊥
Changes (Some old) (Some new) h n b = Updates moment_cmp old new (n, h) b

-- there is no limit, or the moment is at most that
abbrev pub is_within : Option ℕ → ℕ → Bool
is_within None n = true
is_within (Some limit) n = nat_le n limit

-- the notes of the idle blocks that are within a limit
abbrev pub idle_within : Option ℕ → Contents → List (Hash32 × ℕ)
idle_within limit c = filter (λ n. is_within limit n.1) (idle_notes c)

-- the map is the idle blocks within the limit, of whatever contents the moments are
abbrev pub FindsWithin : Option ℕ → Moments → BTreeMap Hash32 ℕ → Type 0
FindsWithin limit m found = (c : Contents) → AreMoments (Some m) c → IsInOrder c → found.entries ≡ idle_within limit c

-- what holds of a store's map and its moments
pub record AreKept (shelf : BTreeMap Hash32 Kept) (moments : Option Moments) : Type 0 where
  pub ordered : IsOrdered hash_cmp shelf
  pub tied : AreMoments moments (contents shelf)
