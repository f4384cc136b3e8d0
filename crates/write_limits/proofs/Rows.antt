-- The rows that requests store have a spelling, and what a row with a spelling says is in range.
use Rattle.std.specs.Prelude.{◌≡◌, ◌<◌, ◌*◌, ◌^◌, ◌&&◌, ⊤, ℕ, zero, suc, Bool, true, false, nat_lt, List, [], ◌∷◌, Option, Some, None, length, take, drop, slice_index, refl}
use Rattle.std.specs.Int.{w32, bytes_low_first, to_le_bytes}
use Rattle.std.proofs.Common.{inl, length-take, arith, lit≤}
use Rattle.std.proofs.lemmas.Bool.{lt-ltb, leb-false}
use Rattle.md5.specs.Md5.{digest_bytes as md5_digest, md5}
use Rattle.md5.proofs.StandardFacts.{length-md5}
use Rattle.blake2_hash.specs.Blake2b.{blake2b}
use Rattle.blake2_hash.specs.DigestLaws.{length-blake2b}
use Rattle.blake2_hash.specs.Hash.{digest_of}
use Rattle.crdt_core.specs.EntryLaws.{and_parts, and_both}
use Rattle.crdt_rows.specs.declared.body.Body.TheVariants.{Marker, Inline, Blocks}
use Rattle.crdt_rows.specs.declared.body.Meta.{Meta}
use Rattle.crdt_rows.specs.declared.object_row.ObjectRow.{ObjectRow}
use Rattle.crdt_rows.specs.declared.state.State.{State}
use Rattle.crdt_rows.specs.declared.state.State.TheVariants.{Uploading, Aborted, Complete}
use Rattle.crdt_rows.specs.declared.version.Version.{Version}
use Rattle.crdt_rows.specs.declared.version_row.Part.{Part}
use Rattle.crdt_rows.specs.declared.version_row.BlockRef.{BlockRef}
use Rattle.crdt_rows.specs.declared.any_row.AnyRow.{AnyRow}
use Rattle.crdt_rows.specs.declared.any_row.AnyRow.TheVariants as rows
use Rattle.crdt_rows.specs.ObjectRow.{object_key, newest, state_at}
use Rattle.crdt_rows.specs.State.{is_sized}
use Rattle.row_codec.specs.Reads.{are_bytes}
use Rattle.row_codec.specs.NumberLaws.{bytes_both, block_from, byte_small}
use Rattle.row_codec.specs.Range.{is_eight, is_block, is_hash, is_four, meta_in_range, state_in_range, version_in_range, part_in_range, block_in_range, is_below, is_short_meta, is_short_state, in_range, has_bytes}
use Rattle.row_codec.specs.Spelling.{spelled}
use Rattle.flow_model.specs.declared.flow.Name.{Name}
use Rattle.flow_model.specs.declared.flow.Content.{Content}
use Rattle.flow_model.specs.declared.flow.Wish.{Wish}
use Rattle.flow_model.specs.declared.flow.Wish.TheVariants as wish
use Rattle.flow_model.specs.Blocks.{piece, piece_hash, is_long}
use Rattle.flow_model.specs.Rows.{meta_of, content_of, object_row, uploading, aborted, inline as inline_row, in_blocks as blocks_row, complete, same_number, version_row_at, reference_to}
use Rattle.flow_model.specs.Says.{Said, inline, in_blocks, of_state, of_version, said_of}
use Rattle.store_laws.proofs.Objects.{digest_bytes}
use Rattle.stored_weights.specs.Stored.{IsSpelled}
use Rattle.stored_weights.proofs.Spelled.{spelled_is, state_fits}
use Rattle.write_limits.specs.Fitting.{KeyFits, HeadersFit, ContentFits, WishFits, AreSingle}

-- ---- digests

hash_of : (m : List ℕ) → is_hash (digest_of m) ≡ true
hash_of m = block_from 32 (blake2b 32 m) (length-blake2b 32 m (lit≤ tt)) (digest_bytes m)

low_small : (i k n : ℕ) → are_bytes (bytes_low_first i k n) ≡ true
low_small i zero n = refl
low_small i (suc k) n = and_both _ _ (byte_small i n) (low_small (suc i) k n)

md5_small : (h : List ℕ) (n : ℕ) → are_bytes (md5_digest h n) ≡ true
unfolding md5_digest
md5_small h zero = refl
md5_small h (suc n) = bytes_both (md5_digest h n) (to_le_bytes w32 (slice_index h n)) (md5_small h n) (low_small 0 4 (slice_index h n))

md5_bytes : (m : List ℕ) → are_bytes (md5 m) ≡ true
unfolding md5
md5_bytes m = md5_small _ 4

etag_is : (m : List ℕ) → is_block 16 (md5 m) ≡ true
etag_is m = block_from 16 (md5 m) (length-md5 m) (md5_bytes m)

-- ---- pieces

take_bytes : (n : ℕ) (bs : List ℕ) → are_bytes bs ≡ true → are_bytes (take n bs) ≡ true
take_bytes zero bs h = refl
take_bytes (suc n) [] h = refl
take_bytes (suc n) (b ∷ bs) h = let p = and_parts (nat_lt b (2 ^ 8)) (are_bytes bs) h in and_both (nat_lt b (2 ^ 8)) (are_bytes (take n bs)) p.0 (take_bytes n bs p.1)

-- ---- rows

-- the row of one version of an object
version_spelled : (name : Name) (v : Version) (st : State) (sized : is_sized st ≡ true) → KeyFits name.key → version_in_range v ≡ true → state_in_range st ≡ true → is_short_state st ≡ true → AreSingle (object_row name v st sized ∷ [])
version_spelled name v st sized key version range short =
    let r = object_row name v st sized in (
      (
        spelled_is (in_range r) (has_bytes r) (spelled r)
            (and_both (is_hash (digest_of name.bucket)) _ (hash_of name.bucket) (and_both (are_bytes name.key) _ key.0 (and_both (version_in_range v && state_in_range st) true (and_both (version_in_range v) (state_in_range st) version range) refl)))
            (and_both (is_below name.key) _ key.1 (and_both (is_short_state st) true short refl)),
        omega arith,
      ),
      tt,
    )

pub uploading_single : (name : Name) (v : Version) → KeyFits name.key → version_in_range v ≡ true → AreSingle (uploading name v ∷ [])
uploading_single name v key version = version_spelled name v Uploading refl key version refl refl

pub aborted_single : (name : Name) (v : Version) → KeyFits name.key → version_in_range v ≡ true → AreSingle (aborted name v ∷ [])
aborted_single name v key version = version_spelled name v Aborted refl key version refl refl

-- what is said of bytes beside them
meta_range : (c : Content) → ContentFits c → meta_in_range (meta_of c) ≡ true
meta_range c f = and_both (is_eight (length c.body)) _ (lt-ltb (length c.body) (2 ^ 64) f.1) (and_both (is_block 16 (md5 c.body)) _ (etag_is c.body) f.2.0)

meta_short : (c : Content) → ContentFits c → is_short_meta (meta_of c) ≡ true
meta_short c f = f.2.1

content_single : (name : Name) (v : Version) (block : ℕ) (c : Content) → KeyFits name.key → version_in_range v ≡ true → ContentFits c → AreSingle (complete name v block (wish.Content c) ∷ [])
content_single name v block c key version f = by_length (is_long c.body) refl
  where
    by_length : (b : Bool) → is_long c.body ≡ b → AreSingle ((elim b as (λ _. AnyRow) [ true ↦ blocks_row name v block c | false ↦ inline_row name v c ]) ∷ [])
    by_length true e =
        version_spelled name v (Complete (Blocks (meta_of c) (piece_hash block c.body 0))) refl key version
        (and_both (meta_in_range (meta_of c)) _ (meta_range c f) (hash_of (piece block c.body 0))) (meta_short c f)
    by_length false e =
        let few : length c.body < 2 ^ 32 = (let low = leb-false 3072 (length c.body) e in omega (arith, low)) in
        version_spelled name v (Complete (Inline (meta_of c) c.body)) (same_number (length c.body)) key version
        (and_both (meta_in_range (meta_of c)) _ (meta_range c f) f.0) (and_both (is_short_meta (meta_of c)) _ (meta_short c f) (lt-ltb (length c.body) (2 ^ 32) few))

-- the row of a complete version
pub complete_single : (name : Name) (v : Version) (block : ℕ) (w : Wish) → KeyFits name.key → version_in_range v ≡ true → WishFits w → AreSingle (complete name v block w ∷ [])
complete_single name v block wish.Marker key version f = version_spelled name v (Complete Marker) refl key version refl refl
complete_single name v block (wish.Stream coming) key version f =
    let c : Content = content_of coming [] in
    let fits : ContentFits c = (refl, omega arith, f.1) in
    version_spelled name v (Complete (Inline (meta_of c) [])) (same_number 0) key version
    (and_both (meta_in_range (meta_of c)) _ (meta_range c fits) refl) (and_both (is_short_meta (meta_of c)) _ (meta_short c fits) refl)
complete_single name v block (wish.Content c) key version f = content_single name v block c key version f

-- the two rows of a block
pub block_single : (id offset : ℕ) (bytes : List ℕ) → is_eight id ≡ true → offset < 2 ^ 64 → length bytes < 2 ^ 32 → AreSingle (version_row_at id offset bytes ∷ reference_to id bytes ∷ [])
block_single id offset bytes named low few =
    let place = version_row_at id offset bytes in
    let ref = reference_to id bytes in
    let p : Part = record { part = 1; offset = offset } in
    let b : BlockRef = record { hash = digest_of bytes; size = length bytes } in
    let part = and_both (is_four 1) (is_eight offset) refl (lt-ltb offset (2 ^ 64) low) in
    let block = and_both (is_hash (digest_of bytes)) (is_four (length bytes)) (hash_of bytes) (lt-ltb (length bytes) (2 ^ 32) few) in (
      (spelled_is (in_range place) (has_bytes place) (spelled place) (and_both (is_eight id) _ named (and_both (part_in_range p && block_in_range b) true (and_both (part_in_range p) (block_in_range b) part block) refl)) refl, omega arith),
      ((spelled_is (in_range ref) true (spelled ref) (and_both (is_hash (digest_of bytes)) (is_eight id) (hash_of bytes) named) refl, omega arith), tt),
    )

pub piece_few : (block : ℕ) (body : List ℕ) (i : ℕ) → block < 2 ^ 32 → length (piece block body i) < 2 ^ 32
piece_few block body i low = let n = length-take block (drop (i * block) body) in omega (arith, n, low)

-- ---- what a row says

-- what is said of an object that is there
abbrev pub SaidFits : Said → Type 0
SaidFits (inline v meta body) = HeadersFit meta.headers × (are_bytes body ≡ true)
SaidFits (in_blocks v meta first) = HeadersFit meta.headers
SaidFits said = ⊤

meta_parts : (m : Meta) → meta_in_range m ≡ true → is_short_meta m ≡ true → HeadersFit m.headers
meta_parts m range short = ((and_parts (is_block 16 m.etag) _ (and_parts (is_eight m.size) _ range).1).1, short)

state_says : (v : Version) (o : Option State) → ((st : State) → o ≡ Some st → (state_in_range st ≡ true) × (is_short_state st ≡ true)) → SaidFits (of_state v o)
state_says v None h = tt
state_says v (Some Uploading) h = tt
state_says v (Some Aborted) h = tt
state_says v (Some (Complete Marker)) h = tt
state_says v (Some (Complete (Inline m bytes))) h =
    let f = h (Complete (Inline m bytes)) refl in
    let range = and_parts (meta_in_range m) (are_bytes bytes) f.0 in
    (meta_parts m range.0 (and_parts (is_short_meta m) (is_below bytes) f.1).0, range.1)
state_says v (Some (Complete (Blocks m first))) h = let f = h (Complete (Blocks m first)) refl in meta_parts m (and_parts (meta_in_range m) (is_hash first) f.0).0 f.1

row_says : (r : ObjectRow) → IsSpelled (rows.Object r) → (o : Option Version) → SaidFits (of_version r o)
row_says r spelled_so None = tt
row_says r spelled_so (Some v) =
    state_says v (state_at r v)
    (λ st says. let f = state_fits (rows.Object r ∷ []) (spelled_so, tt) (object_key r) v st (record { row = r; there = inl refl; of_key = refl; says = says }) in ((and_parts (version_in_range v) (state_in_range st) f.0).1, f.1))

pub said_fits : (value : Option AnyRow) → ((row : AnyRow) → value ≡ Some row → IsSpelled row) → SaidFits (said_of value)
said_fits None h = tt
said_fits (Some (rows.Object r)) h = row_says r (h (rows.Object r) refl) (newest r)
said_fits (Some (rows.Version r)) h = tt
said_fits (Some (rows.Ref r)) h = tt
