-- What the map of a block store stands for.
use Rattle.std.specs.Prelude.{ℕ, List, [], ◌∷◌, ◌++◌, Option, Some, None, map, replicate}
use Rattle.std.specs.BTreeMap.{BTreeMap}
use Rattle.blake2_hash.specs.declared.digest.Hash32.{Hash32}
use Rattle.block_store.specs.declared.shelf.Kept.{Kept}
use Rattle.block_store.specs.Contents.{Contents}

-- what the store's map holds: hashes with what is kept of each
abbrev pub Entries : Type 0
Entries = List (Hash32 × Kept)

-- the blocks on the shelf
abbrev pub blocks_of : Entries → List (Hash32 × List ℕ)
blocks_of es = map (λ e. (e.0, e.1.bytes)) es

-- each hash as often as its block is live
abbrev pub live_of : Entries → List Hash32
live_of [] = []
live_of (e ∷ es) = replicate e.1.count e.0 ++ live_of es

-- a note in front of others, if there is one
abbrev pub note_before : Hash32 → Option ℕ → List (Hash32 × ℕ) → List (Hash32 × ℕ)
note_before h None ns = ns
note_before h (Some now) ns = (h, now) ∷ ns

-- the notes on the shelf
abbrev pub notes_of : Entries → List (Hash32 × ℕ)
notes_of [] = []
notes_of (e ∷ es) = note_before e.0 e.1.note (notes_of es)

-- what a shelf holds
abbrev pub contents_of : Entries → Contents
contents_of es = record { blocks = blocks_of es; live = live_of es; notes = notes_of es }

-- the contents for which a map stands
abbrev pub contents : BTreeMap Hash32 Kept → Contents
contents m = contents_of m.entries
