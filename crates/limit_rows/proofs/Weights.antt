-- How many bytes a row counts: a row that fits has a spelling, and a merge counts no more than both rows, the rows that it calls for among it.
use Rattle.std.specs.Prelude.{◌≡◌, ◌≤◌, ◌^◌, ◌+◌, ◌*◌, ℕ, suc, Bool, true, false, not, ◌&&◌, List, [], ◌∷◌, ◌++◌, Option, Some, None, option_map, is_none, map, filter, length, refl}
use Rattle.std.specs.List.{AllByRecursion, list_all, flat_map}
use Rattle.std.specs.declared.cmp.Ordering.{Ordering}
use Rattle.std.specs.declared.cmp.Ordering.TheVariants.{Less, Equal, Greater}
use Rattle.std.proofs.Common.{ap, sym, subst, ◌∙◌, inl, inr, arith, length-append, ◌⊎◌}
use Rattle.std.proofs.lemmas.Bool.{lt-ltb}
use Rattle.std.proofs.lemmas.List.{length-map}
use Rattle.blake2_hash.specs.declared.digest.Hash32.{Hash32}
use Rattle.blake2_hash.specs.Hash.{hash_cmp}
use Rattle.crdt_core.specs.Members.{Has}
use Rattle.crdt_core.proofs.Each.{all_weaker}
use Rattle.crdt_core.specs.EntryLaws.{and_parts, and_both}
use Rattle.crdt_core.specs.Entries.{value_at}
use Rattle.crdt_core.specs.Lex.{by_order}
use Rattle.crdt_core.specs.Map.{map_entries}
use Rattle.crdt_core.specs.declared.deletable.Deletable.{Deletable}
use Rattle.crdt_core.specs.declared.deletable.Deletable.TheVariants.{Present, Deleted}
use Rattle.crdt_core.specs.declared.flag.Bool.{Bool as Flag}
use Rattle.crdt_core.specs.declared.max.Max.{Max}
use Rattle.crdt_rows.specs.declared.version.Version.{Version}
use Rattle.crdt_rows.specs.declared.body.Meta.{Meta}
use Rattle.crdt_rows.specs.declared.body.Body.TheVariants.{Marker, Inline, Blocks}
use Rattle.crdt_rows.specs.declared.state.State.{State}
use Rattle.crdt_rows.specs.declared.state.State.TheVariants.{Uploading, Aborted, Complete}
use Rattle.crdt_rows.specs.declared.object_row.ObjectRow.{ObjectRow}
use Rattle.crdt_rows.specs.declared.version_row.Part.{Part}
use Rattle.crdt_rows.specs.declared.version_row.BlockRef.{BlockRef}
use Rattle.crdt_rows.specs.declared.version_row.VersionRow.{VersionRow}
use Rattle.crdt_rows.specs.declared.ref_row.RefRow.{RefRow}
use Rattle.crdt_rows.specs.declared.any_row.AnyRow.{AnyRow}
use Rattle.crdt_rows.specs.declared.any_row.AnyRow.TheVariants as rows
use Rattle.crdt_rows.specs.AnyRow.{any_join}
use Rattle.crdt_rows.specs.FieldLaws.{version_total, version_identical, part_total, part_identical}
use Rattle.crdt_rows.specs.Facts.{HasState, HasBlock}
use Rattle.crdt_rows.specs.Version.{version_cmp}
use Rattle.crdt_rows.specs.ObjectRow.{object_key, state_at, object_join}
use Rattle.crdt_rows.specs.RefRow.{ref_row_join}
use Rattle.crdt_rows.specs.VersionRow.{part_cmp, is_deleted, version_row_join}
use Rattle.row_codec.specs.Built.{BlockMap}
use Rattle.row_codec.specs.Reads.{are_bytes}
use Rattle.row_codec.specs.Range.{is_block, is_four, is_eight, is_hash, meta_in_range, state_in_range, version_in_range, part_in_range, block_in_range, in_range, is_below, are_short, is_short_meta, is_short_state, has_bytes}
use Rattle.row_codec.specs.Spelling.{four, eight, field, state, version, part, block, flag, spelled}
use Rattle.row_codec.specs.Rows.{spelling}
use Rattle.row_codec.specs.NumberLaws.{block_length}
use Rattle.table_schema.specs.Laws.{Same}
use Rattle.object_schema.specs.Triggers.{with_value, with_values, in_order, has_blocks, is_aborted, is_lost, is_newly_aborted, versions_that, given_up, deleted_version, hashes_of, released, deleted_reference, triggered}
use Rattle.object_schema.specs.Schema.{words}
use Rattle.object_schema.specs.Laws.{object_keys, version_ids}
use Rattle.row_codec.proofs.ByteOrder.{four_length, eight_length}
use Rattle.object_origins.proofs.Given.{entries_found}
use Rattle.object_origins.proofs.Shown.{Facts, neither, undeleted}
use Rattle.machine_limits.proofs.Totals.{AreApart, has_left, has_right, has_parts, has_filter, all_has, all_from, apart_filter, apart_append, total, total_append, total_least, total_ones, fewer, flat_length}
use Rattle.machine_limits.proofs.Lists.{all_pass, below_is}
use Rattle.limit_rows.proofs.Keyed.{apart_keys, apart_entries, there}
use Rattle.limit_rows.specs.Fitting.{Drawn, AreWithin, MetaFits, StateFits, SaysFits, RowFits, weight}

-- ---- object rows

abbrev pub Entry : Type 0
Entry = Version × Max State

-- the bytes of an entry
abbrev pub entry_weight : Entry → ℕ
entry_weight e = length (version e.0 ++ state e.1.0)

entry_least : (e : Entry) → 1 ≤ entry_weight e
entry_least e =
    let a = length-append (version e.0) (state e.1.0) in
    let b = length-append (eight e.0.ts) (eight e.0.id) in
    let c = eight_length e.0.ts in
    omega arith

-- the row's entries are what it says
pub entries_say : (r : ObjectRow) → AllByRecursion (λ (e : Entry). HasState r e.0 e.1.0) (map_entries r.versions)
entries_say r = along (map_entries r.versions) (entries_found version_total (map_entries r.versions) r.versions.ascending)
  where
    along : (es : List Entry) → AllByRecursion (λ (e : Entry). value_at version_cmp e.0 (map_entries r.versions) ≡ Some e.1) es → AllByRecursion (λ (e : Entry). HasState r e.0 e.1.0) es
    along [] a = tt
    along (e ∷ es) a = (ap (option_map (λ (s : Max State). s.0)) a.0, along es a.1)

-- the value that was mapped
pub mapped_value : {X : Type 0} (o : Option (Max X)) (s : X) → option_map (λ (m : Max X). m.0) o ≡ Some s → o ≡ Some (record { 0 = s })
mapped_value None s e = cc
mapped_value (Some m) s e = let same : m.0 ≡ s = cc in λ i. Some (record { 0 = same i })

-- what it says is one of its entries
said_there : (r : ObjectRow) (e : Entry) → HasState r e.0 e.1.0 → Has (map_entries r.versions) e
said_there r e h = there version_total version_identical e.0 e.1 (map_entries r.versions) (mapped_value (value_at version_cmp e.0 (map_entries r.versions)) e.1.0 h)

pub object_weight : (r : ObjectRow) → is_hash r.bucket ≡ true → weight (rows.Object r) ≡ 41 + length r.key + total entry_weight (map_entries r.versions)
object_weight r h =
    let es = map_entries r.versions in
    let versions = flat_map (λ (e : Entry). version e.0 ++ state e.1.0) es in
    let a = length-append r.bucket.0 (field r.key ++ (four (length es) ++ versions)) in
    let b = length-append (field r.key) (four (length es) ++ versions) in
    let c = length-append (four (length r.key)) r.key in
    let d = length-append (four (length es)) versions in
    let e = flat_length (λ (e : Entry). version e.0 ++ state e.1.0) es in
    let f = four_length (length r.key) in
    let g = four_length (length es) in
    let i = block_length 32 r.bucket.0 h in
    omega arith

module _ (t : ℕ) (v : Drawn) (within : AreWithin t v) where
  meta_range : (m : Meta) → MetaFits m → (meta_in_range m ≡ true) × (is_short_meta m ≡ true)
  meta_range m f = (
    and_both (is_eight m.size) _ (lt-ltb m.size (2 ^ 64) f.size) (and_both (is_block 16 m.etag) _ f.etag (ap (list_all (λ (h : List ℕ × List ℕ). are_bytes h.0 && are_bytes h.1)) f.headers)),
    ap (are_short (λ (h : List ℕ × List ℕ). is_below h.0 && is_below h.1)) f.headers,
  )

  state_range : (s : State) → StateFits s → (state_in_range s ≡ true) × (is_short_state s ≡ true)
  state_range Uploading f = (refl, refl)
  state_range Aborted f = elim f [ ]
  state_range (Complete Marker) f = (refl, refl)
  state_range (Complete (Inline m bytes)) f = let r = meta_range m f.0 in let short = f.2 in (and_both (meta_in_range m) (are_bytes bytes) r.0 f.1, and_both (is_short_meta m) (is_below bytes) r.1 (below_is bytes (omega arith)))
  state_range (Complete (Blocks m first)) f = let r = meta_range m f.0 in (and_both (meta_in_range m) (is_hash first) r.0 f.1, r.1)

  version_range : (x : Version) → Has v.versions x → version_in_range x ≡ true
  version_range x h = let f = within.versions_fit x h in let a = f.0 in let b = f.1 in let top = within.few in and_both (is_eight x.ts) (is_eight x.id) (lt-ltb x.ts (2 ^ 64) (omega arith)) (lt-ltb x.id (2 ^ 64) (omega arith))

  entries_fit : (r : ObjectRow) → SaysFits v r → AllByRecursion (λ (e : Entry). Has v.versions e.0 × StateFits e.1.0) (map_entries r.versions)
  entries_fit r f = all_weaker (λ (e : Entry). HasState r e.0 e.1.0) (λ (e : Entry). Has v.versions e.0 × StateFits e.1.0) (λ e h. f e.0 e.1.0 h) (map_entries r.versions) (entries_say r)

  -- it has no more versions than were drawn
  pub few_entries : (r : ObjectRow) → SaysFits v r → length (map_entries r.versions) ≤ t
  few_entries r f =
      let es = map_entries r.versions in
      let keys = map (λ (e : Entry). e.0) es in
      let apart = apart_keys version_total es r.versions.ascending in
      let inside : (x : Version) → Has keys x → Has v.versions x = (λ x h. inside_by es (entries_fit r f) x h) in
      let low : total (λ (x : Version). 1) keys ≤ total (λ (x : Version). 1) v.versions = fewer (λ (x : Version). 1) keys v.versions apart inside in
      let a = total_ones keys in
      let b = total_ones v.versions in
      let c = length-map es (λ (e : Entry). e.0) in
      let d = within.few_versions in
      omega arith
    where
      inside_by : (es : List Entry) → AllByRecursion (λ (e : Entry). Has v.versions e.0 × StateFits e.1.0) es → (x : Version) → Has (map (λ (e : Entry). e.0) es) x → Has v.versions x
      inside_by [] a x h = elim h [ ]
      inside_by (e ∷ es) a x (inl s) = subst (Has v.versions) s a.0.0
      inside_by (e ∷ es) a x (inr h) = inside_by es a.1 x h

  object_spelled : (r : ObjectRow) → RowFits v (rows.Object r) → spelling (rows.Object r) ≡ Some (spelled (rows.Object r))
  object_spelled r f =
      let es = map_entries r.versions in
      let fit = entries_fit r f.1 in
      let few = few_entries r f.1 in
      let top = within.few in
      let short = f.0.2 in
      let ranges : in_range (rows.Object r) ≡ true =
      and_both (is_hash r.bucket) _ f.0.0 (and_both (are_bytes r.key) _ f.0.1 (all_pass (λ (e : Entry). Has v.versions e.0 × StateFits e.1.0) (λ (e : Entry). version_in_range e.0 && state_in_range e.1.0)
      (λ e h. and_both (version_in_range e.0) (state_in_range e.1.0) (version_range e.0 h.0) (state_range e.1.0 h.1).0) es fit)) in
      let lengths : has_bytes (rows.Object r) ≡ true =
      and_both (is_below r.key) _ (below_is r.key (omega arith)) (and_both (is_below es) _ (below_is es (omega arith)) (all_pass (λ (e : Entry). Has v.versions e.0 × StateFits e.1.0) (λ (e : Entry). is_short_state e.1.0)
      (λ e h. (state_range e.1.0 h.1).1) es fit)) in
      rw (ranges, lengths) refl

-- ---- version rows

abbrev pub Place : Type 0
Place = Part × Max BlockRef

abbrev pub place_weight : Place → ℕ
place_weight e = length (part e.0 ++ block e.1.0)

place_least : (e : Place) → 1 ≤ place_weight e
place_least e =
    let a = length-append (part e.0) (block e.1.0) in
    let b = length-append (four e.0.part) (eight e.0.offset) in
    let c = four_length e.0.part in
    omega arith

-- the entries of a version row's blocks, none where it is deleted
abbrev pub places : Deletable BlockMap → List Place
places (Present m) = map_entries m
places Deleted = []

abbrev pub of_blocks : ℕ → Deletable BlockMap → VersionRow
of_blocks id d = record { id = id; blocks = d }

places_say : (id : ℕ) (d : Deletable BlockMap) → AllByRecursion (λ (e : Place). HasBlock (of_blocks id d) e.0 e.1.0) (places d)
places_say id (Present m) = along (map_entries m) (entries_found part_total (map_entries m) m.ascending)
  where
    along : (es : List Place) → AllByRecursion (λ (e : Place). value_at part_cmp e.0 (map_entries m) ≡ Some e.1) es → AllByRecursion (λ (e : Place). HasBlock (of_blocks id (Present m)) e.0 e.1.0) es
    along [] a = tt
    along (e ∷ es) a = (ap (option_map (λ (b : Max BlockRef). b.0)) a.0, along es a.1)
places_say id Deleted = tt

place_there : (id : ℕ) (d : Deletable BlockMap) (e : Place) → HasBlock (of_blocks id d) e.0 e.1.0 → Has (places d) e
place_there id (Present m) e h = there part_total part_identical e.0 e.1 (map_entries m) (mapped_value (value_at part_cmp e.0 (map_entries m)) e.1.0 h)
place_there id Deleted e h = cc

places_apart : (d : Deletable BlockMap) → AreApart (map (λ (e : Place). e.0) (places d))
places_apart (Present m) = apart_keys part_total (map_entries m) m.ascending
places_apart Deleted = tt

pub version_weight : (id : ℕ) (d : Deletable BlockMap) → (10 + total place_weight (places d) ≤ weight (rows.Version (of_blocks id d))) × (weight (rows.Version (of_blocks id d)) ≤ 14 + total place_weight (places d))
version_weight id (Present m) =
    let es = map_entries m in
    let blocks = flat_map (λ (e : Place). part e.0 ++ block e.1.0) es in
    let a = length-append (eight id) (0 ∷ (four (length es) ++ blocks)) in
    let b = length-append (four (length es)) blocks in
    let c = flat_length (λ (e : Place). part e.0 ++ block e.1.0) es in
    let d = four_length (length es) in
    let e = eight_length id in
    (omega arith, omega arith)
version_weight id Deleted =
    let a = length-append (eight id) (1 ∷ []) in
    let e = eight_length id in
    (omega arith, omega arith)

module _ (t : ℕ) (v : Drawn) (within : AreWithin t v) where
  version_spelled_by : (id : ℕ) (d : Deletable BlockMap) → RowFits v (rows.Version (of_blocks id d)) → spelling (rows.Version (of_blocks id d)) ≡ Some (spelled (rows.Version (of_blocks id d)))
  version_spelled_by id Deleted f = let r : in_range (rows.Version (of_blocks id Deleted)) ≡ true = and_both (is_eight id) true f.0 refl in rw r refl
  version_spelled_by id (Present m) f =
      let es = map_entries m in
      let fit : AllByRecursion (λ (e : Place). Has v.parts e.0 × (block_in_range e.1.0 ≡ true)) es = all_weaker (λ (e : Place). HasBlock (of_blocks id (Present m)) e.0 e.1.0) (λ (e : Place). Has v.parts e.0 × (block_in_range e.1.0 ≡ true)) (λ e h. f.1 e.0 e.1.0 h) es (places_say id (Present m)) in
      let keys = map (λ (e : Place). e.0) es in
      let low : total (λ (x : Part). 1) keys ≤ total (λ (x : Part). 1) v.parts = fewer (λ (x : Part). 1) keys v.parts (places_apart (Present m)) (λ x h. inside_by es fit x h) in
      let a = total_ones keys in
      let b = total_ones v.parts in
      let c = length-map es (λ (e : Place). e.0) in
      let d = within.few_parts in
      let top = within.few in
      let ranges : in_range (rows.Version (of_blocks id (Present m))) ≡ true =
      and_both (is_eight id) _ f.0 (all_pass (λ (e : Place). Has v.parts e.0 × (block_in_range e.1.0 ≡ true)) (λ (e : Place). part_in_range e.0 && block_in_range e.1.0)
      (λ e h. and_both (part_in_range e.0) (block_in_range e.1.0) (part_range e.0 h.0) h.1) es fit) in
      let lengths : has_bytes (rows.Version (of_blocks id (Present m))) ≡ true = and_both (is_below es) _ (below_is es (omega arith)) (all_pass (λ (e : Place). Has v.parts e.0 × (block_in_range e.1.0 ≡ true)) (λ (e : Place). true) (λ e h. refl) es fit) in
      rw (ranges, lengths) refl
    where
      part_range : (p : Part) → Has v.parts p → part_in_range p ≡ true
      part_range p h = let g = within.parts_fit p h in let a = g.0 in let b = g.1 in let top = within.few in and_both (is_four p.part) (is_eight p.offset) (lt-ltb p.part (2 ^ 32) (omega arith)) (lt-ltb p.offset (2 ^ 64) (omega arith))

      inside_by : (es : List Place) → AllByRecursion (λ (e : Place). Has v.parts e.0 × (block_in_range e.1.0 ≡ true)) es → (x : Part) → Has (map (λ (e : Place). e.0) es) x → Has v.parts x
      inside_by [] a x h = elim h [ ]
      inside_by (e ∷ es) a x (inl s) = subst (Has v.parts) s a.0.0
      inside_by (e ∷ es) a x (inr h) = inside_by es a.1 x h

  -- a row that fits has a spelling
  pub fits_spelled : (r : AnyRow) → RowFits v r → spelling r ≡ Some (spelled r)
  fits_spelled (rows.Object r) f = object_spelled t v within r f
  fits_spelled (rows.Version r) f = version_spelled_by r.id r.blocks f
  fits_spelled (rows.Ref r) f = let g : in_range (rows.Ref r) ≡ true = and_both (is_hash r.hash) (is_eight r.id) f.0 f.1 in rw g refl

-- ---- references

flag_length : (b : Flag) → length (flag b) ≡ 1
flag_length b = elim b.0 as (λ x. length (flag (record { 0 = x })) ≡ 1) [ true ↦ refl | false ↦ refl ]

pub ref_weight : (r : RefRow) → is_hash r.hash ≡ true → weight (rows.Ref r) ≡ 42
ref_weight r h =
    let a = length-append r.hash.0 (eight r.id ++ flag r.deleted) in
    let b = length-append (eight r.id) (flag r.deleted) in
    let c = eight_length r.id in
    let d = flag_length r.deleted in
    let i = block_length 32 r.hash.0 h in
    omega arith

-- ---- merges

module _ {K : Type 0} (R : K → K → Ordering) where
  value_longer : (k : K) (xs : List K) → length (with_value R k xs) ≤ suc (length xs)
  value_longer k [] = omega arith
  value_longer k (x ∷ xs) =
      let rest : length (with_value R k xs) ≤ suc (length xs) = value_longer k xs in
      elim (R x k) as (λ o. length (by_order o (x ∷ with_value R k xs) (x ∷ xs) (k ∷ x ∷ xs)) ≤ suc (suc (length xs))) [ Less ↦ omega arith | Equal ↦ omega arith | Greater ↦ omega arith ]

  values_longer : (ks xs : List K) → length (with_values R xs ks) ≤ length xs + length ks
  values_longer [] xs = omega arith
  values_longer (k ∷ ks) xs = let one = value_longer k xs in let rest : length (with_values R (with_value R k xs) ks) ≤ length (with_value R k xs) + length ks = values_longer ks (with_value R k xs) in omega arith

none_pass : {X : Type 0} (test : X → Bool) (xs : List X) → AllByRecursion (λ x. test x ≡ false) xs → filter test xs ≡ []
none_pass test [] a = refl
none_pass test (x ∷ xs) a = rw a.0 (none_pass test xs a.1)

not_aborted : (old : ObjectRow) (e : Entry) → StateFits e.1.0 → is_newly_aborted old e ≡ false
not_aborted old e f = by_state e.0 e.1.0 f
  where
    by_state : (x : Version) (s : State) → StateFits s → (is_aborted (Some s) && not (is_aborted (state_at old x))) ≡ false
    by_state x Uploading g = refl
    by_state x Aborted g = elim g [ ]
    by_state x (Complete b) g = refl

module _ (facts : Facts) (t : ℕ) (v : Drawn) (within : AreWithin t v) where
  objects_count : (a b : ObjectRow) → object_key a ≡ object_key b → RowFits v (rows.Object a) → RowFits v (rows.Object b) → RowFits v (rows.Object (object_join a b)) →
      weight (rows.Object (object_join a b)) + length (given_up a (object_join a b)) ≤ weight (rows.Object a) + weight (rows.Object b)
  objects_count a b same p q n_fits =
      let n = object_join a b in
      let old = map_entries a.versions in
      let other = map_entries b.versions in
      let new = map_entries n.versions in
      let lost = filter (is_lost n) old in
      let inside : (e : Entry) → Has (new ++ lost) e → Has (old ++ other) e = (λ e h. elim (has_parts new lost e h) [
        | inl i ↦ elim ((facts.joined a b same e.0 e.1.0).0 (all_has (λ (x : Entry). HasState n x.0 x.1.0) new e (entries_say n) i)).0.0 [
          | inl in_a ↦ has_left old other e (said_there a e in_a)
          | inr in_b ↦ has_right old other e (said_there b e in_b)
        ]
        | inr i ↦ has_left old other e (has_filter (is_lost n) old e i).0
      ]) in
      let disjoint : (e : Entry) → Has new e → Has lost e → ⊥ = (λ e i j.
      let says : state_at n e.0 ≡ Some e.1.0 = all_has (λ (x : Entry). HasState n x.0 x.1.0) new e (entries_say n) i in
      let none : is_none (state_at n e.0) ≡ true = (and_parts (has_blocks e.1.0) (is_none (state_at n e.0)) (has_filter (is_lost n) old e j).1).1 in
      let no : is_none (Some e.1.0) ≡ true = subst (λ (o : Option State). is_none o ≡ true) says none in
      cc) in
      let apart = apart_append new lost (apart_entries version_total new (apart_keys version_total new n.versions.ascending)) (apart_filter (is_lost n) old (apart_entries version_total old (apart_keys version_total old a.versions.ascending))) disjoint in
      let low : total entry_weight (new ++ lost) ≤ total entry_weight (old ++ other) = fewer entry_weight (new ++ lost) (old ++ other) apart inside in
      let c = total_append entry_weight new lost in
      let d = total_append entry_weight old other in
      let least : 1 * length lost ≤ total entry_weight lost = total_least entry_weight 1 lost (all_from (λ e. 1 ≤ entry_weight e) lost (λ e i. entry_least e)) in
      let first = versions_that (is_lost n) old in
      let second = versions_that (is_newly_aborted a) new in
      let none : second ≡ [] = ap (map (λ (e : Entry). e.0)) (none_pass (is_newly_aborted a) new (all_weaker (λ (e : Entry). Has v.versions e.0 × StateFits e.1.0) (λ (e : Entry). is_newly_aborted a e ≡ false) (λ e h. not_aborted a e h.1) new (entries_fit t v within n n_fits.1))) in
      let given : length (given_up a n) ≤ 0 + length (first ++ second) = values_longer version_cmp (first ++ second) [] in
      let e = length-append first second in
      let f : length second ≡ 0 = ap (λ (xs : List Version). length xs) none in
      let g = length-map lost (λ (e : Entry). e.0) in
      let wa = object_weight a p.0.0 in
      let wb = object_weight b q.0.0 in
      let wn = object_weight n n_fits.0.0 in
      let keys : length n.key ≡ length a.key = ap (λ (k : Hash32 × List ℕ). length k.1) (facts.key a b same) in
      omega arith

  versions_by : (a b : VersionRow) (id : ℕ) (d : Deletable BlockMap) → ((k : Part) (x : BlockRef) → HasBlock (of_blocks id d) k x → HasBlock a k x ⊎ HasBlock b k x) →
      weight (rows.Version (of_blocks id d)) + length (released a (of_blocks id d)) ≤ weight (rows.Version a) + weight (rows.Version b)
  versions_by a b id (Present m) says =
      let new = map_entries m in
      let old = places a.blocks in
      let other = places b.blocks in
      let low : total place_weight new ≤ total place_weight (old ++ other) = fewer place_weight new (old ++ other) (apart_entries part_total new (places_apart (Present m)))
      (λ e i. elim (says e.0 e.1.0 (all_has (λ (x : Place). HasBlock (of_blocks id (Present m)) x.0 x.1.0) new e (places_say id (Present m)) i)) [
        | inl in_a ↦ has_left old other e (place_there a.id a.blocks e in_a)
        | inr in_b ↦ has_right old other e (place_there b.id b.blocks e in_b)
      ]) in
      let c = total_append place_weight old other in
      let wa = (version_weight a.id a.blocks).0 in
      let wb = (version_weight b.id b.blocks).0 in
      let wn = (version_weight id (Present m)).1 in
      omega arith
  versions_by a b id Deleted says =
      let few = hashes_few a.id a.blocks in
      let wa = (version_weight a.id a.blocks).0 in
      let wb = (version_weight b.id b.blocks).0 in
      let a' = length-append (eight id) (1 ∷ []) in
      let e = eight_length id in
      omega arith
    where
      hashes_few : (i : ℕ) (d : Deletable BlockMap) → length (hashes_of (of_blocks i d)) ≤ total place_weight (places d)
      hashes_few i (Present m) =
          let es = map_entries m in
          let hashes = map (λ (e : Place). e.1.0.hash) es in
          let low : length (in_order hash_cmp hashes) ≤ 0 + length hashes = values_longer hash_cmp hashes [] in
          let c = length-map es (λ (e : Place). e.1.0.hash) in
          let least : 1 * length es ≤ total place_weight es = total_least place_weight 1 es (all_from (λ e. 1 ≤ place_weight e) es (λ e i. place_least e)) in
          omega arith
      hashes_few i Deleted = omega arith

  versions_count : (a b : VersionRow) → a.id ≡ b.id → weight (rows.Version (version_row_join a b)) + length (released a (version_row_join a b)) ≤ weight (rows.Version a) + weight (rows.Version b)
  versions_count a b same = versions_by a b (version_row_join a b).id (version_row_join a b).blocks (λ k x h.
      let none = neither (is_deleted a) (is_deleted b) (sym (facts.version_deleted a b same) ∙ undeleted (version_row_join a b) k x h) in
      ((facts.version_blocks a b same none.0 none.1 k x).0 h).0)

  -- what a merge counts, with the rows that it calls for
  pub merged_counts : (a b : AnyRow) → Same words a b → RowFits v a → RowFits v b → RowFits v (any_join a b) → weight (any_join a b) + length (triggered a (any_join a b)) ≤ weight a + weight b
  merged_counts (rows.Object a) (rows.Object b) same p q n =
      let c = objects_count a b (object_keys a b same) p q n in
      let d = length-map (given_up a (object_join a b)) deleted_version in
      omega arith
  merged_counts (rows.Object a) (rows.Version b) same p q n = omega arith
  merged_counts (rows.Object a) (rows.Ref b) same p q n = omega arith
  merged_counts (rows.Version a) (rows.Object b) same p q n = let no : 2 ≡ 1 = same.table in absurd (omega arith)
  merged_counts (rows.Version a) (rows.Version b) same p q n =
      let c = versions_count a b (version_ids a b same) in
      let d = length-map (released a (version_row_join a b)) (deleted_reference a.id) in
      omega arith
  merged_counts (rows.Version a) (rows.Ref b) same p q n = omega arith
  merged_counts (rows.Ref a) (rows.Object b) same p q n = omega arith
  merged_counts (rows.Ref a) (rows.Version b) same p q n = omega arith
  merged_counts (rows.Ref a) (rows.Ref b) same p q n =
      let wa = ref_weight a p.0 in
      let wn = ref_weight (ref_row_join a b) n.0 in
      omega arith
