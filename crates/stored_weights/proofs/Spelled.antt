-- A row that is made of stored rows has a spelling, where those have: its parts are in range as theirs are, and its entries are few as theirs are.
use Rattle.std.specs.Prelude.{◌≡◌, ◌≤◌, ◌<◌, ◌^◌, ◌+◌, ℕ, Bool, true, false, ◌&&◌, cond, if◌then◌else◌, Option, Some, None, option_map, List, [], ◌∷◌, ◌++◌, length, map, filter, refl}
use Rattle.std.specs.List.{AllByRecursion, list_all, flat_map}
use Rattle.std.specs.Cmp.{tied_itself}
use Rattle.std.specs.Ordering.{is_eq}
use Rattle.std.proofs.Common.{ap, sym, subst, inl, inr, arith, length-append}
use Rattle.std.proofs.lemmas.List.{length-map}
use Rattle.blake2_hash.specs.declared.digest.Hash32.{Hash32}
use Rattle.crdt_core.proofs.Each.{all_weaker}
use Rattle.crdt_core.specs.Entries.{value_at}
use Rattle.crdt_core.specs.EntryLaws.{and_parts, and_both}
use Rattle.crdt_core.specs.Map.{map_entries}
use Rattle.crdt_core.specs.Members.{Has}
use Rattle.crdt_core.specs.declared.deletable.Deletable.{Deletable}
use Rattle.crdt_core.specs.declared.deletable.Deletable.TheVariants.{Present, Deleted}
use Rattle.crdt_core.specs.declared.max.Max.{Max}
use Rattle.crdt_rows.specs.declared.version.Version.{Version}
use Rattle.crdt_rows.specs.declared.state.State.{State}
use Rattle.crdt_rows.specs.declared.object_row.ObjectRow.{ObjectRow}
use Rattle.crdt_rows.specs.declared.version_row.Part.{Part}
use Rattle.crdt_rows.specs.declared.version_row.BlockRef.{BlockRef}
use Rattle.crdt_rows.specs.declared.version_row.VersionRow.{VersionRow}
use Rattle.crdt_rows.specs.declared.any_row.AnyRow.{AnyRow}
use Rattle.crdt_rows.specs.declared.any_row.AnyRow.TheVariants as rows
use Rattle.crdt_rows.specs.Facts.{HasState, HasBlock}
use Rattle.crdt_rows.specs.FieldLaws.{version_total, version_identical, part_total, part_identical}
use Rattle.crdt_rows.specs.ObjectRow.{object_key}
use Rattle.crdt_rows.specs.RefRow.{ref_key}
use Rattle.crdt_rows.specs.VersionRow.{part_cmp}
use Rattle.machine_limits.proofs.Lists.{all_pass, below_is}
use Rattle.machine_limits.proofs.Totals.{AreApart, has_left, has_right, all_has, total, total_ones, fewer}
use Rattle.object_origins.proofs.Given.{entries_found}
use Rattle.limit_rows.proofs.Keyed.{apart_keys, apart_entries, there}
use Rattle.limit_rows.proofs.Weights.{Entry, entries_say, mapped_value, Place, places, of_blocks}
use Rattle.row_codec.specs.Built.{BlockMap}
use Rattle.row_codec.specs.Reads.{are_bytes}
use Rattle.row_codec.specs.Range.{is_eight, is_hash, in_range, has_bytes, is_below, version_in_range, state_in_range, part_in_range, block_in_range, is_short_state}
use Rattle.row_codec.specs.Spelling.{eight, spelled}
use Rattle.object_schema.specs.Schema.{words}
use Rattle.table_model.specs.Rows.{place_cmp, place, is_at}
use Rattle.table_model.proofs.RowLaws.{place_total}
use Rattle.stored_weights.specs.Stored.{IsSpelled, entries_in, sum_of, beside}
use Rattle.stored_weights.proofs.Made.{OfObject, SaysState, SaysBlock, HasId, of_version, of_object, HasRef, of_ref, of_block, IsMade}

-- ---- what a spelling says

spelled_parts : (a b : Bool) (bytes : List ℕ) → (if a && b then Some bytes else None) ≡ Some bytes → (a ≡ true) × (b ≡ true)
spelled_parts true true bytes e = (refl, refl)
spelled_parts true false bytes e = cc
spelled_parts false b bytes e = cc

pub spelled_is : (a b : Bool) (bytes : List ℕ) → a ≡ true → b ≡ true → (if a && b then Some bytes else None) ≡ Some bytes
spelled_is true true bytes f g = refl
spelled_is true false bytes f g = cc
spelled_is false b bytes f g = cc

-- a row with a spelling is in range and short
pub ranges : (r : AnyRow) → IsSpelled r → (in_range r ≡ true) × (has_bytes r ≡ true)
ranges r h = spelled_parts (in_range r) (has_bytes r) (spelled r) h

-- what each passes one of them does
all_test : {X : Type 0} (test : X → Bool) (xs : List X) (x : X) → list_all test xs ≡ true → Has xs x → test x ≡ true
all_test test [] x e h = elim h [ ]
all_test test (y ∷ xs) x e (inl same) = subst (λ z. test z ≡ true) same (and_parts (test y) (list_all test xs) e).0
all_test test (y ∷ xs) x e (inr h) = all_test test xs x (and_parts (test y) (list_all test xs) e).1 h

-- ---- entries

-- what an object row says is one of its entries
pub state_there : (r : ObjectRow) (v : Version) (x : State) → HasState r v x → Has (map_entries r.versions) (v, record { 0 = x })
state_there r v x h = there version_total version_identical v (record { 0 = x }) (map_entries r.versions) (mapped_value _ x h)

pub block_there : (id : ℕ) (d : Deletable BlockMap) (p : Part) (b : BlockRef) → HasBlock (of_blocks id d) p b → Has (places d) (p, record { 0 = b })
block_there id (Present m) p b h = there part_total part_identical p (record { 0 = b }) (map_entries m) (mapped_value _ b h)
block_there id Deleted p b h = cc

pub blocks_say : (id : ℕ) (d : Deletable BlockMap) → AllByRecursion (λ (e : Place). HasBlock (of_blocks id d) e.0 e.1.0) (places d)
blocks_say id (Present m) = along (map_entries m) (entries_found part_total (map_entries m) m.ascending)
  where
    along : (es : List Place) → AllByRecursion (λ (e : Place). value_at part_cmp e.0 (map_entries m) ≡ Some e.1) es → AllByRecursion (λ (e : Place). HasBlock (of_blocks id (Present m)) e.0 e.1.0) es
    along [] a = tt
    along (e ∷ es) a = (ap (λ (o : Option (Max BlockRef)). option_map (λ (b : Max BlockRef). b.0) o) a.0, along es a.1)
blocks_say id Deleted = tt

-- all entries of object rows among rows, each beside its row's bucket and key; and all blocks of version rows, each beside its row's identifier
abbrev pub Said : Type 0
Said = (Hash32 × List ℕ) × Entry

abbrev pub Laid : Type 0
Laid = ℕ × Place

abbrev pub said_in : AnyRow → List Said
said_in (rows.Object r) = map (λ e. (object_key r, e)) (map_entries r.versions)
said_in (rows.Version r) = []
said_in (rows.Ref r) = []

abbrev pub laid_in : AnyRow → List Laid
laid_in (rows.Object r) = []
laid_in (rows.Version r) = map (λ e. (r.id, e)) (places r.blocks)
laid_in (rows.Ref r) = []

-- what is mapped has what each has
pub mapped_all : {X Y : Type 0} (f : X → Y) (P : Y → Type 0) (xs : List X) → AllByRecursion (λ x. P (f x)) xs → (y : Y) → Has (map f xs) y → P y
mapped_all f P [] a y h = elim h [ ]
mapped_all f P (x ∷ xs) a y (inl e) = subst P e a.0
mapped_all f P (x ∷ xs) a y (inr h) = mapped_all f P xs a.1 y h

pub has_map : {X Y : Type 0} (f : X → Y) (xs : List X) (x : X) → Has xs x → Has (map f xs) (f x)
has_map f [] x h = elim h [ ]
has_map f (y ∷ xs) x (inl e) = inl (ap f e)
has_map f (y ∷ xs) x (inr h) = inr (has_map f xs x h)

pub has_flat : {X Y : Type 0} (f : X → List Y) (xs : List X) (x : X) (y : Y) → Has xs x → Has (f x) y → Has (flat_map f xs) y
has_flat f [] x y h g = elim h [ ]
has_flat f (z ∷ xs) x y (inl e) g = has_left (f z) (flat_map f xs) y (subst (λ w. Has (f w) y) (sym e) g)
has_flat f (z ∷ xs) x y (inr h) g = has_right (f z) (flat_map f xs) y (has_flat f xs x y h g)

module _ (stored : List AnyRow) where
  -- what a row says that is made of stored rows these say
  pub said_there : (key : Hash32 × List ℕ) (v : Version) (x : State) → SaysState stored key v x → Has (flat_map said_in stored) (key, (v, record { 0 = x }))
  said_there key v x s =
      subst (λ k. Has (flat_map said_in stored) (k, (v, record { 0 = x }))) s.of_key
      (has_flat said_in stored (rows.Object s.row) (object_key s.row, (v, record { 0 = x })) s.there (has_map (λ e. (object_key s.row, e)) (map_entries s.row.versions) (v, record { 0 = x }) (state_there s.row v x s.says)))

  pub laid_there : (id : ℕ) (p : Part) (b : BlockRef) → SaysBlock stored id p b → Has (flat_map laid_in stored) (id, (p, record { 0 = b }))
  laid_there id p b s =
      subst (λ i. Has (flat_map laid_in stored) (i, (p, record { 0 = b }))) s.of_id
      (has_flat laid_in stored (rows.Version s.row) (s.row.id, (p, record { 0 = b })) s.there (has_map (λ e. (s.row.id, e)) (places s.row.blocks) (p, record { 0 = b }) (block_there s.row.id s.row.blocks p b s.says)))

-- they are no more than the entries of rows
blocks_count : (id : ℕ) (d : Deletable BlockMap) → length {A = Laid} (map (λ e. (id, e)) (places d)) ≤ entries_in (rows.Version (of_blocks id d))
blocks_count id (Present m) = let n = length-map {B = Laid} (map_entries m) (λ e. (id, e)) in omega (arith, n)
blocks_count id Deleted = omega arith

entries_count : (r : AnyRow) → length (said_in r) + length (laid_in r) ≤ entries_in r
entries_count (rows.Object r) = let n = length-map {B = Said} (map_entries r.versions) (λ e. (object_key r, e)) in omega (arith, n)
entries_count (rows.Version r) = let n = blocks_count r.id r.blocks in omega (arith, n)
entries_count (rows.Ref r) = omega arith

all_count : (rs : List AnyRow) → length (flat_map said_in rs) + length (flat_map laid_in rs) ≤ sum_of entries_in rs
all_count [] = omega arith
all_count (r ∷ rs) =
    let a = length-append (said_in r) (flat_map said_in rs) in
    let b = length-append (laid_in r) (flat_map laid_in rs) in
    let c = entries_count r in
    let d = all_count rs in
    omega (arith, a, b, c, d)

module _ {K X : Type 0} (k : K) where
  untagged : (x : X) (ys : List X) → Has {A = K × X} (map (λ y. (k, y)) ys) (k, x) → Has ys x
  untagged x [] h = elim h [ ]
  untagged x (y ∷ ys) (inl e) = inl (ap (λ (p : K × X). p.1) e)
  untagged x (y ∷ ys) (inr h) = inr (untagged x ys h)

  pub tagged_apart : (xs : List X) → AreApart xs → AreApart {X = K × X} (map (λ x. (k, x)) xs)
  tagged_apart [] a = tt
  tagged_apart (x ∷ xs) a = (λ h. a.0 (untagged x xs h), tagged_apart xs a.1)

-- ---- rows of one place

-- what passes stays
stays : {X : Type 0} (test : X → Bool) (xs : List X) (x : X) → Has xs x → test x ≡ true → Has (filter test xs) x
stays test [] x h e = elim h [ ]
stays test (y ∷ xs) x (inl same) e = rw (subst (λ z. test z ≡ true) (sym same) e) (inl same)
stays test (y ∷ xs) x (inr h) e = elim (test y) as (λ b. Has (cond b (y ∷ filter test xs) (filter test xs)) x) [ true ↦ inr (stays test xs x h e) | false ↦ stays test xs x h e ]

-- a row is at its own place
at_place : (row r : AnyRow) → words.table r ≡ words.table row → words.key r ≡ words.key row → is_at words (words.table row) (words.key row) r ≡ true
at_place row r table key =
    let own : is_at words (words.table row) (words.key row) row ≡ true = (rw (tied_itself place_total (place words row)) refl) in
    subst (λ (p : ℕ × List ℕ). is_eq (place_cmp (words.table row, words.key row) p) ≡ true) (λ i. (sym table i, sym key i)) own

stored_beside : (stored : List AnyRow) (row r : AnyRow) → Has stored r → words.table r ≡ words.table row → words.key r ≡ words.key row → Has (beside row stored) r
stored_beside stored row r h table key = stays (is_at words (words.table row) (words.key row)) stored r h (at_place row r table key)

state_beside : {stored : List AnyRow} (r : ObjectRow) (v : Version) (x : State) → SaysState stored (object_key r) v x → SaysState (beside (rows.Object r) stored) (object_key r) v x
state_beside {stored = stored} r v x s = record {
  row = s.row;
  there = stored_beside stored (rows.Object r) (rows.Object s.row) s.there refl (ap (λ (k : Hash32 × List ℕ). k.0.0 ++ k.1) s.of_key);
  of_key = s.of_key;
  says = s.says;
}

block_beside : {stored : List AnyRow} (r : VersionRow) (p : Part) (b : BlockRef) → SaysBlock stored r.id p b → SaysBlock (beside (rows.Version r) stored) r.id p b
block_beside {stored = stored} r p b s = record {
  row = s.row;
  there = stored_beside stored (rows.Version r) (rows.Version s.row) s.there refl (ap eight s.of_id);
  of_id = s.of_id;
  says = s.says;
}

-- beside a row there are no more entries than there are
beside_fewer : (row : AnyRow) (rs : List AnyRow) → sum_of entries_in (beside row rs) ≤ sum_of entries_in rs
beside_fewer row [] = omega arith
beside_fewer row (r ∷ rs) =
    let rest = beside_fewer row rs in
    elim (is_at words (words.table row) (words.key row) r) as (λ b. sum_of entries_in (cond b (r ∷ beside row rs) (beside row rs)) ≤ entries_in r + sum_of entries_in rs) [ true ↦ omega (arith, rest) | false ↦ omega (arith, rest) ]

-- ---- rows

module _ (stored : List AnyRow) (spelled_all : AllByRecursion IsSpelled stored) where
  ranges_of : (r : AnyRow) → Has stored r → (in_range r ≡ true) × (has_bytes r ≡ true)
  ranges_of r h = ranges r (all_has IsSpelled stored r spelled_all h)

  -- a version of a stored row is in range, and so is its state, which is short
  pub state_fits : (key : Hash32 × List ℕ) (v : Version) (x : State) → SaysState stored key v x → ((version_in_range v && state_in_range x) ≡ true) × (is_short_state x ≡ true)
  state_fits key v x s =
      let is = ranges_of (rows.Object s.row) s.there in
      let es = map_entries s.row.versions in
      let here = state_there s.row v x s.says in
      let range = (and_parts (are_bytes s.row.key) (list_all (λ (e : Entry). version_in_range e.0 && state_in_range e.1.0) es) (and_parts (is_hash s.row.bucket) _ is.0).1).1 in
      let short = (and_parts (is_below es) (list_all (λ (e : Entry). is_short_state e.1.0) es) (and_parts (is_below s.row.key) _ is.1).1).1 in
      (all_test (λ (e : Entry). version_in_range e.0 && state_in_range e.1.0) es (v, record { 0 = x }) range here, all_test (λ (e : Entry). is_short_state e.1.0) es (v, record { 0 = x }) short here)

  pub key_fits : (key : Hash32 × List ℕ) → OfObject stored key → (is_hash key.0 ≡ true) × (are_bytes key.1 ≡ true) × (is_below key.1 ≡ true)
  key_fits key o =
      let is = ranges_of (rows.Object o.row) o.there in
      let hash = and_parts (is_hash o.row.bucket) _ is.0 in
      subst (λ (k : Hash32 × List ℕ). (is_hash k.0 ≡ true) × (are_bytes k.1 ≡ true) × (is_below k.1 ≡ true)) o.of_key (hash.0, (and_parts (are_bytes o.row.key) _ hash.1).0, (and_parts (is_below o.row.key) _ is.1).0)

  id_fits : (id : ℕ) → HasId stored id → is_eight id ≡ true
  id_fits id (of_version row h e) = subst (λ i. is_eight i ≡ true) e (and_parts (is_eight row.id) _ (ranges_of (rows.Version row) h).0).0
  id_fits id (of_object row v x h says e) =
      let s : SaysState stored (object_key row) v x = record { row = row; there = h; of_key = refl; says = says } in
      subst (λ i. is_eight i ≡ true) e (and_parts (is_eight v.ts) (is_eight v.id) (and_parts (version_in_range v) (state_in_range x) (state_fits (object_key row) v x s).0).0).1

  pub block_fits : (id : ℕ) (p : Part) (b : BlockRef) → SaysBlock stored id p b → (part_in_range p && block_in_range b) ≡ true
  block_fits id p b s = by_blocks s.row.id s.row.blocks (ranges_of (rows.Version s.row) s.there).0 s.says
    where
      by_blocks : (i : ℕ) (d : Deletable BlockMap) → in_range (rows.Version (of_blocks i d)) ≡ true → HasBlock (of_blocks i d) p b → (part_in_range p && block_in_range b) ≡ true
      by_blocks i (Present m) r h = all_test (λ (e : Place). part_in_range e.0 && block_in_range e.1.0) (map_entries m) (p, record { 0 = b }) (and_parts (is_eight i) _ r).1 (block_there i (Present m) p b h)
      by_blocks i Deleted r h = cc

  pub ref_fits : (key : Hash32 × ℕ) → HasRef stored key → (is_hash key.0 ≡ true) × (is_eight key.1 ≡ true)
  ref_fits key (of_ref row h e) = subst (λ (k : Hash32 × ℕ). (is_hash k.0 ≡ true) × (is_eight k.1 ≡ true)) e (and_parts (is_hash row.hash) (is_eight row.id) (ranges_of (rows.Ref row) h).0)
  ref_fits key (of_block row p b h says e) =
      let fits = block_fits row.id p b (record { row = row; there = h; of_id = refl; says = says }) in
      subst (λ (k : Hash32 × ℕ). (is_hash k.0 ≡ true) × (is_eight k.1 ≡ true)) e
      ((and_parts (is_hash b.hash) _ (and_parts (part_in_range p) (block_in_range b) fits).1).0, (and_parts (is_eight row.id) _ (ranges_of (rows.Version row) h).0).0)

  object_spelled : (r : ObjectRow) → IsMade stored (rows.Object r) → sum_of entries_in (beside (rows.Object r) stored) < 2 ^ 32 → IsSpelled (rows.Object r)
  object_spelled r made few =
      let es = map_entries r.versions in
      let key = key_fits (object_key r) made.0 in
      let says = entries_say r in
      let near = beside (rows.Object r) stored in
      let fits : AllByRecursion (λ (e : Entry). ((version_in_range e.0 && state_in_range e.1.0) ≡ true) × (is_short_state e.1.0 ≡ true)) es =
      all_weaker (λ (e : Entry). HasState r e.0 e.1.0) _ (λ e h. state_fits (object_key r) e.0 e.1.0 (made.1 e.0 e.1.0 h)) es says in
      let tagged : List Said = map (λ e. (object_key r, e)) es in
      let apart = tagged_apart (object_key r) es (apart_entries version_total es (apart_keys version_total es r.versions.ascending)) in
      let inside : (x : Said) → Has tagged x → Has (flat_map said_in near) x = mapped_all (λ e. (object_key r, e)) (Has (flat_map said_in near)) es (all_weaker (λ (e : Entry). HasState r e.0 e.1.0) (λ (e : Entry). Has (flat_map said_in near) (object_key r, e)) (λ e g. said_there near (object_key r) e.0 e.1.0 (state_beside r e.0 e.1.0 (made.1 e.0 e.1.0 g))) es says) in
      let low : total (λ (x : Said). 1) tagged ≤ total (λ (x : Said). 1) (flat_map said_in near) = fewer (λ (x : Said). 1) tagged (flat_map said_in near) apart inside in
      let a = total_ones tagged in
      let b = total_ones (flat_map said_in near) in
      let c = length-map {B = Said} es (λ e. (object_key r, e)) in
      let d = all_count near in
      spelled_is (in_range (rows.Object r)) (has_bytes (rows.Object r)) (spelled (rows.Object r))
      (and_both (is_hash r.bucket) _ key.0 (and_both (are_bytes r.key) _ key.1 (all_pass _ (λ (e : Entry). version_in_range e.0 && state_in_range e.1.0) (λ e h. h.0) es fits)))
      (and_both (is_below r.key) _ key.2 (and_both (is_below es) _ (below_is es (omega (arith, low, a, b, c, d, few))) (all_pass _ (λ (e : Entry). is_short_state e.1.0) (λ e h. h.1) es fits)))

  version_spelled : (id : ℕ) (d : Deletable BlockMap) → IsMade stored (rows.Version (of_blocks id d)) → sum_of entries_in (beside (rows.Version (of_blocks id d)) stored) < 2 ^ 32 → IsSpelled (rows.Version (of_blocks id d))
  version_spelled id Deleted made few = spelled_is (in_range (rows.Version (of_blocks id Deleted))) true (spelled (rows.Version (of_blocks id Deleted))) (and_both (is_eight id) true (id_fits id made.0) refl) refl
  version_spelled id (Present m) made few =
      let es = map_entries m in
      let says = blocks_say id (Present m) in
      let near = beside (rows.Version (of_blocks id (Present m))) stored in
      let fits : AllByRecursion (λ (e : Place). (part_in_range e.0 && block_in_range e.1.0) ≡ true) es =
      all_weaker (λ (e : Place). HasBlock (of_blocks id (Present m)) e.0 e.1.0) _ (λ e h. block_fits id e.0 e.1.0 (made.1 e.0 e.1.0 h)) es says in
      let tagged : List Laid = map (λ e. (id, e)) es in
      let apart = tagged_apart id es (apart_entries part_total es (apart_keys part_total es m.ascending)) in
      let inside : (x : Laid) → Has tagged x → Has (flat_map laid_in near) x = mapped_all (λ e. (id, e)) (Has (flat_map laid_in near)) es (all_weaker (λ (e : Place). HasBlock (of_blocks id (Present m)) e.0 e.1.0) (λ (e : Place). Has (flat_map laid_in near) (id, e)) (λ e g. laid_there near id e.0 e.1.0 (block_beside (of_blocks id (Present m)) e.0 e.1.0 (made.1 e.0 e.1.0 g))) es says) in
      let low : total (λ (x : Laid). 1) tagged ≤ total (λ (x : Laid). 1) (flat_map laid_in near) = fewer (λ (x : Laid). 1) tagged (flat_map laid_in near) apart inside in
      let a = total_ones tagged in
      let b = total_ones (flat_map laid_in near) in
      let c = length-map {B = Laid} es (λ e. (id, e)) in
      let d = all_count near in
      spelled_is (in_range (rows.Version (of_blocks id (Present m)))) (has_bytes (rows.Version (of_blocks id (Present m)))) (spelled (rows.Version (of_blocks id (Present m))))
      (and_both (is_eight id) _ (id_fits id made.0) (all_pass _ (λ (e : Place). part_in_range e.0 && block_in_range e.1.0) (λ e h. h) es fits))
      (and_both (is_below es) _ (below_is es (omega (arith, low, a, b, c, d, few))) (all_pass _ (λ (e : Place). true) (λ e h. refl) es fits))

  -- few entries stand beside it
  pub made_spelled_beside : (r : AnyRow) → IsMade stored r → sum_of entries_in (beside r stored) < 2 ^ 32 → IsSpelled r
  made_spelled_beside (rows.Object r) made few = object_spelled r made few
  made_spelled_beside (rows.Version r) made few = version_spelled r.id r.blocks made few
  made_spelled_beside (rows.Ref r) made few = let fits = ref_fits (ref_key r) made in spelled_is (in_range (rows.Ref r)) true (spelled (rows.Ref r)) (and_both (is_hash r.hash) (is_eight r.id) fits.0 fits.1) refl

  -- few entries there are
  pub made_spelled : sum_of entries_in stored < 2 ^ 32 → (r : AnyRow) → IsMade stored r → IsSpelled r
  made_spelled few r made = let less = beside_fewer r stored in made_spelled_beside r made (omega (arith, less, few))
