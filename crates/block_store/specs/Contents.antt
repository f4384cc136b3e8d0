-- What a block store holds, and what each of its calls makes of that.
use Rattle.std.specs.Prelude.{◌≡◌, ◌≢◌, ℕ, if◌then◌else◌, ◌==◌, List, [], ◌∷◌, Option, None, count_by, is_some, nat_le}
use Rattle.std.specs.List.{filter}
use Rattle.std.specs.List.Sorted.{IsStrictlySortedBy}
use Rattle.std.specs.Map.{keys_of, lookup, remove_entry}
use Rattle.std.specs.Ordering.{is_lt}
use Rattle.std.specs.BTreeMap.{insert_entry}
use Rattle.blake2_hash.specs.declared.digest.Hash32.{Hash32}
use Rattle.block_store.specs.declared.fault.BlockFault.{BlockFault}
use Rattle.block_store.specs.declared.fault.BlockFault.TheVariants.{WrongHash, InUse, Memory}
use Rattle.blake2_hash.specs.Hash.{hash_cmp, is_hash, digest_of}

-- blocks, references to them, and notes of blocks that none needs
pub record Contents : Type 0 where
  -- the blocks by their hashes, each hash once, in order of hashes
  pub blocks : List (Hash32 × List ℕ)
  -- the live references that were told and aren't dead since, each by its block's hash, in order of hashes
  pub live : List Hash32
  -- when the references to a block last fell to none, in order of hashes
  pub notes : List (Hash32 × ℕ)

-- nothing is stored
abbrev pub empty : Contents
empty = record { blocks = []; live = []; notes = [] }

-- the bytes of a block, if it is there
abbrev pub block_at : Contents → Hash32 → Option (List ℕ)
block_at c h = lookup (is_hash h) c.blocks

-- when the references to a block fell to none, if they did
abbrev pub note_at : Contents → Hash32 → Option ℕ
note_at c h = lookup (is_hash h) c.notes

-- how many live references there are to a block
abbrev pub live_count : Contents → Hash32 → ℕ
live_count c h = count_by (is_hash h) c.live

-- what holds of the contents of every store
pub record IsInOrder (c : Contents) : Type 0 where
  pub blocks : IsStrictlySortedBy hash_cmp (keys_of c.blocks)
  pub notes : IsStrictlySortedBy hash_cmp (keys_of c.notes)
  -- each live reference has its block, and so has each note
  pub held : (h : Hash32) → block_at c h ≡ None → live_count c h ≡ 0
  pub noted : (h : Hash32) → block_at c h ≡ None → note_at c h ≡ None

-- h at its place among hashes in order
abbrev pub placed : Hash32 → List Hash32 → List Hash32
placed h [] = h ∷ []
placed h (k ∷ ks) = if is_lt (hash_cmp k h) then k ∷ placed h ks else h ∷ k ∷ ks

-- the hashes without h, once
abbrev pub without : Hash32 → List Hash32 → List Hash32
without h [] = []
without h (k ∷ ks) = if is_hash h k then ks else k ∷ without h ks

-- a block is put: where its hash is there, nothing is added
abbrev pub put : Contents → Hash32 → List ℕ → Contents
put c h bytes = if is_some (block_at c h) then c else record c { blocks = insert_entry hash_cmp c.blocks h bytes }

-- a live reference is told
abbrev pub told_live : Contents → Hash32 → Contents
told_live c h = record c { live = placed h c.live }

-- a live reference is told dead: with the last one the moment is noted
abbrev pub told_dead : Contents → Hash32 → ℕ → Contents
told_dead c h now =
    record c {
      live = without h c.live;
      notes = (if live_count c h == 1 then insert_entry hash_cmp c.notes h now else c.notes);
    }

-- a block goes, and with it its note
abbrev pub deleted : Contents → Hash32 → Contents
deleted c h = record c { blocks = remove_entry (is_hash h) c.blocks; notes = remove_entry (is_hash h) c.notes }

-- the notes of the blocks that have no live reference
abbrev pub idle_notes : Contents → List (Hash32 × ℕ)
idle_notes c = filter (λ n. live_count c n.0 == 0) c.notes

-- those that are at most this moment
abbrev pub idle_until : ℕ → Contents → List (Hash32 × ℕ)
idle_until moment c = filter (λ n. nat_le n.1 moment) (idle_notes c)

-- why a put was refused: exactly where the name isn't the bytes' digest for that, with both; else for want of memory
abbrev pub RefusesPut : Hash32 → List ℕ → BlockFault → Type 0
RefusesPut named bytes (WrongHash n found) = (n ≡ named) × (found ≡ digest_of bytes) × (named ≢ digest_of bytes)
RefusesPut named bytes (InUse count) = ⊥
RefusesPut named bytes Memory = named ≡ digest_of bytes
