-- The root of a set of pairs (key hash, row hash) with different key hashes, as a function on prefixes.
use Rattle.std.specs.Prelude.{ℕ, zero, suc, ◌==◌, List, [], ◌∷◌, ◌++◌, filter, flat_map, replicate, slice_index}
use Rattle.std.specs.List.{range_with_len}

-- a key hash and a row hash, of 32 bytes each
abbrev pub Pair : Type 0
Pair = List ℕ × List ℕ

-- the pairs whose key hash has this byte at this place
abbrev pub with_byte : ℕ → ℕ → List Pair → List Pair
with_byte place byte pairs = filter (λ pair. slice_index pair.0 place == byte) pairs

-- every byte, ascending
unfoldable pub every_byte : List ℕ
every_byte = range_with_len 0 256

-- a byte and the value of the pairs that have it, or nothing where no pair has it
abbrev pub branch : ℕ → List Pair → List ℕ → List ℕ
branch byte [] value = []
branch byte (pair ∷ pairs) value = byte ∷ value

module _ (hash : List ℕ → List ℕ) where
  -- the value of these pairs: 32 zeros for none, the hash of a leaf for one, and for more that of their branches
  abbrev pub none_leaf_or_node : List Pair → List ℕ → List ℕ
  none_leaf_or_node [] branches = replicate 32 0
  none_leaf_or_node (pair ∷ []) branches = hash (1 ∷ pair.0 ++ pair.1)
  none_leaf_or_node (pair ∷ next ∷ pairs) branches = hash (2 ∷ branches)

  -- the value at a prefix of `depth` bytes whose pairs are these; a key hash has `left` bytes after it
  unfoldable pub value_of : ℕ → ℕ → List Pair → List ℕ
  value_of zero depth pairs = none_leaf_or_node pairs []
  value_of (suc left) depth pairs =
      none_leaf_or_node pairs
      (flat_map (λ byte. branch byte (with_byte depth byte pairs) (value_of left (suc depth) (with_byte depth byte pairs))) every_byte)

  -- the value at the empty prefix
  abbrev pub root : List Pair → List ℕ
  root pairs = value_of 32 0 pairs
