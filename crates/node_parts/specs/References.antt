-- What becomes of the code's blocks as references of rows to them begin and end.
use Rattle.std.specs.Prelude.{ℕ, Option, Some, None, List, [], ◌∷◌}
use Rattle.blake2_hash.specs.declared.digest.Hash32.{Hash32}
use Rattle.block_store.specs.Contents.{Contents as Kept, put, told_live, told_dead, deleted}

-- the block that came is kept, under this hash
abbrev pub kept_with : Kept → Hash32 → Option (List ℕ) → Kept
kept_with kept hash None = kept
kept_with kept hash (Some bytes) = put kept hash bytes

-- a row needed the first of these blocks, and now needs the second, which may have come
abbrev pub referred : ℕ → Option (List ℕ) → Kept → Option Hash32 → Option Hash32 → Kept
referred now given kept None None = kept
referred now given kept (Some old) None = told_dead kept old now
referred now given kept None (Some new) = told_live (kept_with kept new given) new
referred now given kept (Some old) (Some new) = kept_with kept new given

-- the live references to these blocks have ended, one after the other
abbrev pub ended : ℕ → Kept → List Hash32 → Kept
ended now kept [] = kept
ended now kept (hash ∷ hashes) = ended now (told_dead kept hash now) hashes

-- these blocks were deleted, one after the other
abbrev pub deleted_all : Kept → List Hash32 → Kept
deleted_all kept [] = kept
deleted_all kept (hash ∷ hashes) = deleted_all (deleted kept hash) hashes
