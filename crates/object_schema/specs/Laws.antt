-- Laws that impls cite; what is defined here serves their proofs alone.
-- What the schema keeps.
use Rattle.std.proofs.Common.{◌≡◌, ℕ, zero, suc, ◌<◌, ◌≤◌, Bool, true, false, ◌⊎◌, inl, inr, List, [], ◌∷◌, ◌++◌, length, map, Option, Some, None, refl, sym, ap, subst, ◌∙◌, arith, lit<, lit≤}
use Rattle.std.specs.Prelude.{◌||◌, slice_index, slice_index_or}
use Rattle.std.specs.Ordering.{nat_cmp}
use Rattle.std.specs.List.{Contains}
use Rattle.std.proofs.lemmas.List.{append-nil}
use Rattle.std.specs.declared.cmp.Ordering.{Ordering}
use Rattle.std.specs.declared.cmp.Ordering.TheVariants.{Less, Equal, Greater}
use Rattle.std.specs.Cmp.{tied_itself}
use Rattle.blake2_hash.specs.Blake2b.{blake2b}
use Rattle.blake2_hash.specs.DigestLaws.{digest_length, digest_first}
use Rattle.blake2_hash.specs.declared.digest.Hash32.{Hash32}
use Rattle.crdt_core.specs.EntryLaws.{and_parts}
use Rattle.crdt_core.specs.Lex.{lex_join}
use Rattle.crdt_core.specs.Map.{map_join}
use Rattle.crdt_rows.specs.declared.object_row.ObjectRow.{ObjectRow}
use Rattle.crdt_rows.specs.declared.version_row.VersionRow.{VersionRow}
use Rattle.crdt_rows.specs.declared.ref_row.RefRow.{RefRow}
use Rattle.crdt_rows.specs.declared.any_row.AnyRow.{AnyRow}
use Rattle.crdt_rows.specs.declared.any_row.AnyRow.TheVariants as rows
use Rattle.crdt_rows.specs.AnyRow.{table_of, any_join}
use Rattle.crdt_core.specs.Deletable.{deletable_join}
use Rattle.crdt_core.specs.Flag.{or_join}
use Rattle.crdt_core.specs.Max.{max_join}
use Rattle.crdt_rows.specs.Settled.{settled_join}
use Rattle.crdt_rows.specs.State.{is_complete, is_sized, state_cmp}
use Rattle.crdt_rows.specs.ObjectRow.{object_key, object_key_cmp, object_join}
use Rattle.crdt_rows.specs.VersionRow.{block_ref_cmp, version_row_join}
use Rattle.crdt_rows.specs.RefRow.{ref_key, ref_key_cmp, ref_row_join}
use Rattle.crdt_rows.specs.RowLaws.{key_total}
use Rattle.row_codec.specs.Range.{is_hash, is_eight, in_range}
use Rattle.row_codec.specs.NumberLaws.{block_length, block_bytes, bytes_each, eight_reads, fronts, some_is}
use Rattle.row_codec.specs.Rows.{spelling}
use Rattle.row_codec.specs.RowLaws.{reads_back, read_takes}
use Rattle.row_codec.specs.Reading.{eight_at}
use Rattle.row_codec.specs.Spelling.{eight}
use Rattle.table_schema.specs.Laws.{Same, Laws}
use Rattle.table_schema.specs.Words.{partition_of}
use Rattle.object_schema.specs.Triggers.{deleted_version, deleted_reference, given_up, released, triggered}
use Rattle.object_schema.specs.Schema.{is_proper, position_of, key_of, marker_of, block_of, live_block_of, words}

-- ---- digests

hash_first : (h : Hash32) → is_hash h ≡ true → slice_index h.0 0 < 256
hash_first h fits = bytes_each h.0 (block_bytes 32 h.0 fits) 0

-- ---- keys

-- a key that begins with a digest tells it and what follows
pub key_parts : (a b : Hash32) (x y : List ℕ) → length a.0 ≡ 32 → length b.0 ≡ 32 → a.0 ++ x ≡ b.0 ++ y → (a ≡ b) × (x ≡ y)
key_parts a b x y p q e = let parts = fronts a.0 b.0 x y 32 p q e in ((λ i. record { 0 = parts.0 i }), parts.1)

eight_alone : (n : ℕ) → is_eight n ≡ true → eight_at (eight n) ≡ Some (n, [])
eight_alone n h = ap eight_at (sym (append-nil (eight n))) ∙ eight_reads.again n [] h refl

pub eight_same : (m n : ℕ) → is_eight m ≡ true → is_eight n ≡ true → eight m ≡ eight n → m ≡ n
eight_same m n p q e =
    let both : Some (m, []) ≡ Some (n, []) = sym (eight_alone m p) ∙ (ap eight_at e ∙ eight_alone n q) in
    ap (λ (t : ℕ × List ℕ). t.0) (some_is _ _ both)

lex_key : {K V : Type 0} (R : K → K → Ordering) (j : V → V → V) (x y : K × V) (r : Ordering) → R x.0 y.0 ≡ r → ((lex_join R j x y).0 ≡ x.0) ⊎ ((lex_join R j x y).0 ≡ y.0)
lex_key R j x y Less e = rw e (inr refl)
lex_key R j x y Equal e = rw e (inl refl)
lex_key R j x y Greater e = rw e (inl refl)

-- ---- two rows of one table and key

-- what holds of two rows of one table and key, and of what they merge to
record Together (a b : AnyRow) : Type 0 where
  position : position_of a ≡ position_of b
  proper : is_proper (any_join a b) ≡ true
  table : table_of (any_join a b) ≡ table_of a
  key : key_of (any_join a b) ≡ key_of a
  block : (hash : List ℕ) → live_block_of (any_join a b) ≡ Some hash → (live_block_of a ≡ Some hash) × (live_block_of b ≡ Some hash)

no_block : {A : Type 0} (hash : List ℕ) → None ≡ Some hash → A
no_block hash e = absurd cc

-- rows of one table and key have the same fields there
pub object_keys : (a b : ObjectRow) → Same words (rows.Object a) (rows.Object b) → object_key a ≡ object_key b
object_keys a b h =
    let parts = key_parts a.bucket b.bucket a.key b.key (block_length 32 a.bucket.0 h.first_proper) (block_length 32 b.bucket.0 h.second_proper) h.key in
    λ i. (parts.0 i, parts.1 i)

pub version_ids : (a b : VersionRow) → Same words (rows.Version a) (rows.Version b) → a.id ≡ b.id
version_ids a b h = eight_same a.id b.id h.first_proper h.second_proper h.key

pub ref_keys : (a b : RefRow) → Same words (rows.Ref a) (rows.Ref b) → ref_key a ≡ ref_key b
ref_keys a b h =
    let first = and_parts (is_hash a.hash) (is_eight a.id) h.first_proper in
    let second = and_parts (is_hash b.hash) (is_eight b.id) h.second_proper in
    let parts = key_parts a.hash b.hash (eight a.id) (eight b.id) (block_length 32 a.hash.0 first.0) (block_length 32 b.hash.0 second.0) h.key in
    let ids = eight_same a.id b.id first.1 second.1 parts.1 in
    λ i. (parts.0 i, ids i)

object_pick : (a b : ObjectRow) → (object_key (object_join a b) ≡ object_key a) ⊎ (object_key (object_join a b) ≡ object_key b)
object_pick a b = lex_key object_key_cmp (settled_join (λ s. is_complete s.0) (λ s. is_sized s.0) (max_join state_cmp)) (object_key a, record { map = a.versions; settled = a.settled; fit = a.sized }) (object_key b, record { map = b.versions; settled = b.settled; fit = b.sized }) (object_key_cmp (object_key a) (object_key b)) refl

objects : (a b : ObjectRow) → Same words (rows.Object a) (rows.Object b) → Together (rows.Object a) (rows.Object b)
objects a b h = record {
  position = ap (λ (k : Hash32 × List ℕ). k.0.0) (object_keys a b h);
  proper = elim (object_pick a b) [ inl e ↦ subst (λ (k : Hash32 × List ℕ). is_hash k.0 ≡ true) (sym e) h.first_proper | inr e ↦ subst (λ (k : Hash32 × List ℕ). is_hash k.0 ≡ true) (sym e) h.second_proper ];
  table = refl;
  key = elim (object_pick a b) [ inl e ↦ ap (λ (k : Hash32 × List ℕ). k.0.0 ++ k.1) e | inr e ↦ ap (λ (k : Hash32 × List ℕ). k.0.0 ++ k.1) e ∙ sym h.key ];
  block = λ hash e. no_block hash e;
}

version_pick : (a b : VersionRow) → ((version_row_join a b).id ≡ a.id) ⊎ ((version_row_join a b).id ≡ b.id)
version_pick a b = lex_key nat_cmp (deletable_join (map_join (max_join block_ref_cmp))) (a.id, a.blocks) (b.id, b.blocks) (nat_cmp a.id b.id) refl

versions : (a b : VersionRow) → Same words (rows.Version a) (rows.Version b) → Together (rows.Version a) (rows.Version b)
versions a b h = record {
  position = ap (blake2b 32) h.key;
  proper = elim (version_pick a b) [ inl e ↦ subst (λ (n : ℕ). is_eight n ≡ true) (sym e) h.first_proper | inr e ↦ subst (λ (n : ℕ). is_eight n ≡ true) (sym e) h.second_proper ];
  table = refl;
  key = elim (version_pick a b) [ inl e ↦ ap eight e | inr e ↦ ap eight e ∙ sym h.key ];
  block = λ hash e. no_block hash e;
}

-- the hash of a reference with this flag
abbrev needed : Bool → List ℕ → Option (List ℕ)
needed deleted hash = elim deleted [ true ↦ None | false ↦ Some hash ]

needed_both : (x y : Bool) (a b hash : List ℕ) → a ≡ b → needed (x || y) a ≡ Some hash → (needed x a ≡ Some hash) × (needed y b ≡ Some hash)
needed_both true y a b hash same e = no_block hash e
needed_both false true a b hash same e = no_block hash e
needed_both false false a b hash same e = (e, ap Some (sym same) ∙ e)

module _ (a b : RefRow) (h : Same words (rows.Ref a) (rows.Ref b)) where
  tied : ref_key_cmp (ref_key a) (ref_key b) ≡ Equal
  tied = ap (ref_key_cmp (ref_key a)) (sym (ref_keys a b h)) ∙ tied_itself key_total (ref_key a)

  merged_ref : ref_row_join a b ≡ record a { deleted = or_join a.deleted b.deleted }
  merged_ref = rw tied refl

  references : Together (rows.Ref a) (rows.Ref b)
  references = record {
    position = ap (λ (k : Hash32 × ℕ). k.0.0) (ref_keys a b h);
    proper = subst (λ (r : RefRow). is_proper (rows.Ref r) ≡ true) (sym merged_ref) h.first_proper;
    table = refl;
    key = ap (λ (r : RefRow). key_of (rows.Ref r)) merged_ref;
    block = λ hash e. needed_both a.deleted.0 b.deleted.0 a.hash.0 b.hash.0 hash (ap (λ (k : Hash32 × ℕ). k.0.0) (ref_keys a b h)) (ap block_of (sym merged_ref) ∙ e);
  }

pub apart : {A : Type 0} (m n : ℕ) → m < n → m ≡ n → A
apart m n lt e = absurd (omega arith)

together : (a b : AnyRow) → Same words a b → Together a b
together (rows.Object a) (rows.Object b) h = objects a b h
together (rows.Object a) (rows.Version b) h = apart 1 2 (lit< tt) h.table
together (rows.Object a) (rows.Ref b) h = apart 1 3 (lit< tt) h.table
together (rows.Version a) (rows.Object b) h = apart 1 2 (lit< tt) (sym h.table)
together (rows.Version a) (rows.Version b) h = versions a b h
together (rows.Version a) (rows.Ref b) h = apart 2 3 (lit< tt) h.table
together (rows.Ref a) (rows.Object b) h = apart 1 3 (lit< tt) (sym h.table)
together (rows.Ref a) (rows.Version b) h = apart 2 3 (lit< tt) (sym h.table)
together (rows.Ref a) (rows.Ref b) h = references a b h

-- ---- one row

proper_in_range : (r : AnyRow) → in_range r ≡ true → is_proper r ≡ true
proper_in_range (rows.Object r) h = (and_parts _ _ h).0
proper_in_range (rows.Version r) h = (and_parts _ _ h).0
proper_in_range (rows.Ref r) h = h

spelled_proper : (r : AnyRow) (bytes : List ℕ) → spelling r ≡ Some bytes → is_proper r ≡ true
spelled_proper r bytes e = proper_in_range r (read_takes bytes r ((reads_back r bytes).1 e)).1

table_range : (r : AnyRow) → is_proper r ≡ true → (1 ≤ table_of r) × (table_of r ≤ 3)
table_range (rows.Object r) h = (lit≤ tt, lit≤ tt)
table_range (rows.Version r) h = (lit≤ tt, lit≤ tt)
table_range (rows.Ref r) h = (lit≤ tt, lit≤ tt)

position_length : (r : AnyRow) → is_proper r ≡ true → length (position_of r) ≡ 32
position_length (rows.Object r) h = block_length 32 r.bucket.0 h
position_length (rows.Version r) h = digest_length (eight r.id)
position_length (rows.Ref r) h = block_length 32 r.hash.0 (and_parts (is_hash r.hash) (is_eight r.id) h).0

position_byte : (r : AnyRow) → is_proper r ≡ true → partition_of words r < 256
position_byte (rows.Object r) h = hash_first r.bucket h
position_byte (rows.Version r) h = digest_first (eight r.id)
position_byte (rows.Ref r) h = hash_first r.hash (and_parts (is_hash r.hash) (is_eight r.id) h).0

-- ---- triggered rows and markers

mapped_none : {X : Type 0} (f : X → AnyRow) → ((x : X) → live_block_of (f x) ≡ None) → (xs : List X) (r : AnyRow) (k : ℕ) → k < length (map f xs) → slice_index_or (map f xs) k r ≡ r → live_block_of r ≡ None
mapped_none f all [] r k lt e = absurd (omega arith)
mapped_none f all (x ∷ xs) r zero lt e = ap live_block_of (sym e) ∙ all x
mapped_none f all (x ∷ xs) r (suc k) lt e = mapped_none f all xs r k (omega arith) e

triggered_none : (old new r : AnyRow) → Contains (triggered old new) r → live_block_of r ≡ None
triggered_none (rows.Object a) (rows.Object b) r c = mapped_none deleted_version (λ v. refl) (given_up a b) r c.0 c.1 c.2
triggered_none (rows.Object a) (rows.Version b) r c = absurd (omega (arith, c.1))
triggered_none (rows.Object a) (rows.Ref b) r c = absurd (omega (arith, c.1))
triggered_none (rows.Version a) (rows.Object b) r c = absurd (omega (arith, c.1))
triggered_none (rows.Version a) (rows.Version b) r c = mapped_none (deleted_reference a.id) (λ h. refl) (released a b) r c.0 c.1 c.2
triggered_none (rows.Version a) (rows.Ref b) r c = absurd (omega (arith, c.1))
triggered_none (rows.Ref a) (rows.Object b) r c = absurd (omega (arith, c.1))
triggered_none (rows.Ref a) (rows.Version b) r c = absurd (omega (arith, c.1))
triggered_none (rows.Ref a) (rows.Ref b) r c = absurd (omega (arith, c.1))

marked_table : (r : AnyRow) (v : ℕ × ℕ) → marker_of r ≡ Some v → table_of r ≡ 1
marked_table (rows.Object r) v e = refl
marked_table (rows.Version r) v e = absurd cc
marked_table (rows.Ref r) v e = absurd cc

marked_none : (r : AnyRow) (v : ℕ × ℕ) → marker_of r ≡ Some v → live_block_of r ≡ None
marked_none (rows.Object r) v e = refl
marked_none (rows.Version r) v e = absurd cc
marked_none (rows.Ref r) v e = absurd cc

pub schema_laws : Laws any_join words
schema_laws = record {
  reads_back = reads_back;
  spelled_is_proper = spelled_proper;
  table_is_first_to_third = table_range;
  position_is_32_bytes = position_length;
  partition_is_byte = position_byte;
  one_position = λ a b h. (together a b h).position;
  joined_is_proper = λ a b h. (together a b h).proper;
  joined_table = λ a b h. (together a b h).table;
  joined_key = λ a b h. (together a b h).key;
  joined_block = λ a b hash h. (together a b h).block hash;
  triggered_has_no_block = triggered_none;
  marked_is_object = marked_table;
  marked_has_no_block = marked_none;
}
