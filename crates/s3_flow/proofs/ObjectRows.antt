-- Rows by what they say.
use Rattle.std.proofs.Common.{rules, ◌≡◌, ℕ, ◌*◌, true, false, Option, Some, None, List, [], ◌∷◌, take, drop, length, refl, ap, subst, ◌∙◌}
use Rattle.std.specs.declared.cmp.Ord as ord
use Rattle.std.specs.declared.cmp.PartialEq as partial_eq
use Rattle.std.specs.declared.cmp.PartialOrd as partial_ord
use Rattle.blake2_hash.specs.declared.digest.Hash32.{Hash32}
use Rattle.blake2_hash.specs.Hash.{digest_of}
use Rattle.crdt_core.specs.declared.map.Map.{Map}
use Rattle.crdt_core.specs.declared.deletable.Deletable.TheVariants.{Present}
use Rattle.crdt_core.specs.Map.{map_entries, map_single, map_join}
use Rattle.crdt_core.specs.MapLaws.{same_map}
use Rattle.crdt_rows.specs.declared.version.Version.{Version}
use Rattle.crdt_rows.specs.declared.body.Meta.{Meta}
use Rattle.crdt_rows.specs.declared.body.Body.TheVariants.{Inline, Blocks}
use Rattle.crdt_rows.specs.declared.state.State.{State}
use Rattle.crdt_rows.specs.declared.state.State.TheVariants.{Complete}
use Rattle.crdt_rows.specs.declared.object_row.ObjectRow.{ObjectRow}
use Rattle.crdt_rows.specs.declared.any_row.AnyRow.{AnyRow}
use Rattle.crdt_rows.specs.declared.any_row.AnyRow.TheVariants as rows
use Rattle.crdt_rows.specs.State.{is_sized}
use Rattle.crdt_rows.specs.ObjectRow.{object_key}
use Rattle.crdt_rows.specs.ObjectRowLaws.{same_row}
use Rattle.flow_model.specs.declared.flow.Name.{Name}
use Rattle.flow_model.specs.declared.flow.Content.{Content}
use Rattle.flow_model.specs.Blocks.{piece, piece_hash}
use Rattle.flow_model.specs.Rows.{object_row, same_number, meta_of, inline, in_blocks, block_rows, rows_at}

-- a row with the object's key and this one version is the object's
pub the_object_row : (r : ObjectRow) (name : Name) (version : Version) (state : State) (hash : Hash32) (fits : is_sized state ≡ true) → object_key r ≡ (hash, name.key) →
    map_entries r.versions ≡ (version, record { 0 = state }) ∷ [] → hash ≡ digest_of name.bucket → rows.Object r ≡ object_row name version state fits
the_object_row r name version state hash fits at versions is_hash =
    ap rows.Object (same_row r _ (ap (λ k. k.0) at ∙ is_hash) (ap (λ k. k.1) at) (same_map r.versions (map_single version (record { 0 = state })) versions))

-- the row of inline bytes
pub the_inline : (r : AnyRow) (name : Name) (version : Version) (meta : Meta) (body : List ℕ) →
    ((fits : is_sized (Complete (Inline meta body)) ≡ true) → r ≡ object_row name version (Complete (Inline meta body)) fits) →
    (c : Content) → meta ≡ meta_of c → body ≡ c.body → r ≡ inline name version c
the_inline r name version meta body is c same_meta same_body =
    let at_meta = subst (λ (m : Meta). (fits : is_sized (Complete (Inline m body)) ≡ true) → r ≡ object_row name version (Complete (Inline m body)) fits) same_meta is in
    let at_body = subst (λ (b : List ℕ). (fits : is_sized (Complete (Inline (meta_of c) b)) ≡ true) → r ≡ object_row name version (Complete (Inline (meta_of c) b)) fits) same_body at_meta in
    at_body (same_number (length c.body))

-- the row of bytes in blocks
pub the_in_blocks : (r : AnyRow) (name : Name) (version : Version) (meta : Meta) (first : Hash32) →
    ((fits : is_sized (Complete (Blocks meta first)) ≡ true) → r ≡ object_row name version (Complete (Blocks meta first)) fits) →
    (block : ℕ) (c : Content) → meta ≡ meta_of c → first ≡ piece_hash block c.body 0 → r ≡ in_blocks name version block c
the_in_blocks r name version meta first is block c same_meta same_first =
    is refl ∙ (ap (λ m. object_row name version (Complete (Blocks m first)) refl) same_meta ∙ ap (λ h. object_row name version (Complete (Blocks (meta_of c) h)) refl) same_first)

module _ {K V : Type 0} {o : ord.Ghosts K} {p : partial_eq.Ghosts K} {q : partial_ord.Ghosts K} where
  -- one entry merged into a map without entries
  pub joined_empty : (j : V → V → V) (a : Map K V o p q) (k : K) (v : V) → a.entries ≡ [] → map_join j a (map_single k v) ≡ map_single k v
  joined_empty j a k v e = ap (λ m. map_join j m (map_single k v)) (same_map a (record { entries = []; ascending = refl }) e)

-- what is stored of a block
pub the_block_rows : (id block : ℕ) (body : List ℕ) (i offset : ℕ) (piece : List ℕ) (hash : Hash32) (size : ℕ) (version : AnyRow) (made : List (AnyRow × Option (List ℕ))) →
    made ≡ (version, None) ∷ (rows.Ref (record { hash = hash; id = id; deleted = record { 0 = false } }), Some piece) ∷ [] →
    version ≡ rows.Version (record { id = id; blocks = Present (map_single (record { part = 1; offset = offset }) (record { 0 = record { hash = hash; size = size } })) }) →
    hash ≡ digest_of piece → size ≡ length piece → piece ≡ take block (drop offset body) → offset ≡ i * block → made ≡ block_rows id block body i
the_block_rows id block body i offset piece hash size version made is_made is_version is_hash is_size is_piece at =
    rw (is_made, is_version, is_hash, is_size, is_piece, at) refl

-- the same of a block that begins at an offset
pub the_rows_at : (id offset : ℕ) (piece : List ℕ) (hash : Hash32) (size : ℕ) (version : AnyRow) (made : List (AnyRow × Option (List ℕ))) →
    made ≡ (version, None) ∷ (rows.Ref (record { hash = hash; id = id; deleted = record { 0 = false } }), Some piece) ∷ [] →
    version ≡ rows.Version (record { id = id; blocks = Present (map_single (record { part = 1; offset = offset }) (record { 0 = record { hash = hash; size = size } })) }) →
    hash ≡ digest_of piece → size ≡ length piece → made ≡ rows_at id offset piece
the_rows_at id offset piece hash size version made is_made is_version is_hash is_size = rw (is_made, is_version, is_hash, is_size) refl

-- the first block's name
pub first_piece : (block : ℕ) (body : List ℕ) (first : Hash32) → first ≡ digest_of (take block body) → first ≡ piece_hash block body 0
first_piece block body first is = search rules
