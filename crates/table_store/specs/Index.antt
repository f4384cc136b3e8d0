-- What the index of one table has of each partition: the keys of its rows, the pairs that its trie has, and which rows wait.
use Rattle.std.specs.Prelude.{◌≡◌, ℕ, Bool, true, false, List, [], Option, Some, None, ⊤, Vec, length, map, filter, filter_map}
use Rattle.std.specs.Global.{Global}
use Rattle.std.specs.List.{list_any}
use Rattle.std.specs.Map.{keys_of, lookup}
use Rattle.std.specs.BTreeMap.{BTreeMap, get, is_at}
use Rattle.std.specs.Ordering.{nat_cmp, is_eq}
use Rattle.std.specs.Cmp.Lexicographic.{slice_cmp}
use Rattle.blake2_hash.specs.Blake2b.{blake2b}
use Rattle.blake2_hash.specs.declared.digest.Hash32.{Hash32}
use Rattle.table_model.specs.Root.{Pair}
use Rattle.merkle_trie.specs.declared.trie.Trie.{Trie}
use Rattle.merkle_trie.specs.Keeping.{Keeps}
use Rattle.table_store.specs.declared.index.Part.{Part}

-- the bytes of the two hashes
abbrev pub shown_pair : Hash32 × Hash32 → Pair
shown_pair pair = (pair.0.0, pair.1.0)

-- a row's key, as the index has it
abbrev pub Key : Type 0
Key = Vec ℕ Global

-- a key, with the pair that is known of its row, if one is
abbrev pub Entry : Type 0
Entry = Key × Option (Hash32 × Hash32)

-- the key is among these
abbrev pub has_key : {Z : Type 0} → List ℕ → List (Vec ℕ Z) → Bool
has_key key keys = list_any (λ k. is_eq (slice_cmp nat_cmp key k.items)) keys

-- the pair that is known of the row at a key
abbrev pub known : Option (Option (Hash32 × Hash32)) → Option (Hash32 × Hash32)
known None = None
known (Some pair) = pair

abbrev pub pair_at : List ℕ → List Entry → Option (Hash32 × Hash32)
pair_at key es = known (lookup (is_at (λ k. slice_cmp nat_cmp key k.items)) es)

-- all that are known, in order of keys
abbrev pub known_pairs : List Entry → List Pair
known_pairs es = map shown_pair (filter_map (λ e. e.1) es)

-- as many of the one pass each test as of the other: these are the same pairs, in whatever order
abbrev pub AreSame : List Pair → List Pair → Type 0
AreSame xs ys = (test : Pair → Bool) → length (filter test xs) ≡ length (filter test ys)

-- the row at a key changed since the trie took it in
abbrev pub waits : List ℕ → Part → Bool
waits key part = has_key key part.waiting.keys

-- the trie keeps the pairs that are known
pub record IsKept {H B : Type 0} (trie : Trie H B) (es : List Entry) : Type 0 where
  pub held : List Pair
  pub keeps : Keeps (blake2b 32) trie held
  pub same : AreSame held (known_pairs es)

-- no key went, and what is known is as it was
pub record Extends (old new : List Entry) : Type 0 where
  pub keys : (key : List ℕ) → has_key key (keys_of old) ≡ true → has_key key (keys_of new) ≡ true
  pub pairs : (key : List ℕ) → pair_at key new ≡ pair_at key old
  pub known_are : known_pairs new ≡ known_pairs old

-- the same of what there is of a partition, if there is anything
abbrev pub entries_in : Option Part → List Entry
entries_in None = []
entries_in (Some part) = part.pairs.entries

abbrev pub waits_in : List ℕ → Option Part → Bool
waits_in key None = false
waits_in key (Some part) = waits key part

abbrev pub IsKeptIn : Option Part → Type 0
IsKeptIn None = ⊤
IsKeptIn (Some part) = IsKept part.trie part.pairs.entries

-- the keys that the index has of partition p
abbrev pub keys_under : BTreeMap ℕ Part → ℕ → List Key
keys_under index p = keys_of (entries_in (get nat_cmp index p))

-- a partition after some of its rows changed: what is known is as it was, and what waited waits
pub record Grows (old : Option Part) (new : Part) : Type 0 where
  pub extends : Extends (entries_in old) new.pairs.entries
  pub waiting : (key : List ℕ) → waits_in key old ≡ true → waits key new ≡ true
  pub kept : IsKeptIn old → IsKept new.trie new.pairs.entries

-- a partition whose trie alone took in what waited in it
pub record Stays (old new : Part) : Type 0 where
  pub pairs : new.pairs.entries ≡ old.pairs.entries
  pub waiting : new.waiting.keys ≡ old.waiting.keys
  pub kept : IsKept old.trie old.pairs.entries → IsKept new.trie new.pairs.entries

-- a partition after a key was forgotten
pub record Forgets (key : List ℕ) (old new : Part) : Type 0 where
  pub keys : (other : List ℕ) → is_eq (slice_cmp nat_cmp key other) ≡ false → has_key other (keys_of new.pairs.entries) ≡ has_key other (keys_of old.pairs.entries)
  pub pairs : (other : List ℕ) → is_eq (slice_cmp nat_cmp key other) ≡ false → pair_at other new.pairs.entries ≡ pair_at other old.pairs.entries
  pub gone : pair_at key new.pairs.entries ≡ None
  pub waiting : (other : List ℕ) → is_eq (slice_cmp nat_cmp key other) ≡ false → waits other new ≡ waits other old
  pub kept : ((pair : Hash32 × Hash32) → pair_at key old.pairs.entries ≡ Some pair → pair.0.0 ≡ blake2b 32 key) → IsKept old.trie old.pairs.entries → IsKept new.trie new.pairs.entries

-- what there is of a partition, if there is anything, after one of these
abbrev pub Turns : (Part → Part → Type 0) → Option Part → Option Part → Type 0
Turns After None new = new ≡ None
Turns After (Some old) None = ⊥
Turns After (Some old) (Some new) = After old new

-- one of these was done to partition p, and nothing to the others
pub record TurnsAt (After : Part → Part → Type 0) (p : ℕ) (old new : BTreeMap ℕ Part) : Type 0 where
  pub here : Turns After (get nat_cmp old p) (get nat_cmp new p)
  pub others : (q : ℕ) → is_eq (nat_cmp p q) ≡ false → get nat_cmp new q ≡ get nat_cmp old q

abbrev pub ForgetsAt : ℕ → List ℕ → BTreeMap ℕ Part → BTreeMap ℕ Part → Type 0
ForgetsAt p key = TurnsAt (Forgets key) p

abbrev pub StaysAt : ℕ → BTreeMap ℕ Part → BTreeMap ℕ Part → Type 0
StaysAt p = TurnsAt Stays p
