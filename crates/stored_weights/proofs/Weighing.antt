-- Rows of different places that are made of stored rows weigh no more than twice what those weigh.
use Rattle.std.specs.Prelude.{◌≡◌, ◌≤◌, ◌+◌, ◌*◌, ℕ, true, ◌&&◌, List, [], ◌∷◌, ◌++◌, length, map, refl}
use Rattle.std.specs.List.{AllByRecursion, flat_map, list_all}
use Rattle.std.proofs.Common.{ap, sym, subst, ◌∙◌, inl, inr, arith, length-append}
use Rattle.std.proofs.lemmas.List.{length-map}
use Rattle.blake2_hash.specs.declared.digest.Hash32.{Hash32}
use Rattle.crdt_core.proofs.Each.{all_weaker}
use Rattle.crdt_core.specs.EntryLaws.{and_parts}
use Rattle.crdt_core.specs.Map.{map_entries}
use Rattle.crdt_core.specs.Members.{Has}
use Rattle.crdt_core.specs.declared.deletable.Deletable.{Deletable}
use Rattle.crdt_core.specs.declared.deletable.Deletable.TheVariants.{Present, Deleted}
use Rattle.crdt_rows.specs.declared.any_row.AnyRow.{AnyRow}
use Rattle.crdt_rows.specs.declared.any_row.AnyRow.TheVariants as rows
use Rattle.crdt_rows.specs.declared.object_row.ObjectRow.{ObjectRow}
use Rattle.crdt_rows.specs.declared.version_row.VersionRow.{VersionRow}
use Rattle.crdt_rows.specs.Facts.{HasState, HasBlock}
use Rattle.crdt_rows.specs.FieldLaws.{version_total, part_total}
use Rattle.crdt_rows.specs.ObjectRow.{object_key}
use Rattle.crdt_rows.specs.RefRow.{ref_key}
use Rattle.limit_rows.proofs.Keyed.{apart_keys, apart_entries}
use Rattle.limit_rows.proofs.Weights.{Entry, entry_weight, entries_say, object_weight, Place, place_weight, places, of_blocks, version_weight, ref_weight}
use Rattle.limit_rows.specs.Fitting.{weight}
use Rattle.machine_limits.proofs.Totals.{AreApart, has_parts, apart_append, total, total_append, total_least, total_map, total_ones, fewer}
use Rattle.object_schema.specs.Schema.{words}
use Rattle.row_codec.proofs.ByteOrder.{four_length, eight_length}
use Rattle.row_codec.specs.Built.{BlockMap}
use Rattle.row_codec.specs.NumberLaws.{block_length}
use Rattle.row_codec.specs.Range.{is_hash, is_eight, in_range, part_in_range, block_in_range}
use Rattle.row_codec.specs.Spelling.{four, eight, version, state, part, block}
use Rattle.stored_weights.specs.Stored.{IsSpelled, sum_of, AreOfDifferentPlaces}
use Rattle.stored_weights.proofs.Made.{HasId, of_version, of_object, HasRef, of_ref, of_block, IsMade}
use Rattle.stored_weights.proofs.Spelled.{ranges, state_there, block_there, blocks_say, Said, Laid, said_in, laid_in, mapped_all, has_map, has_flat, said_there, laid_there, tagged_apart, key_fits, ref_fits}

-- ---- what rows are made of

abbrev Key : Type 0
Key = Hash32 × List ℕ

abbrev Reference : Type 0
Reference = Hash32 × ℕ

-- the bucket and key of an object row
abbrev keys_in : AnyRow → List Key
keys_in (rows.Object r) = object_key r ∷ []
keys_in (rows.Version r) = []
keys_in (rows.Ref r) = []

-- the identifier of a version row; and those that stored rows have
abbrev own_ids : AnyRow → List ℕ
own_ids (rows.Object r) = []
own_ids (rows.Version r) = r.id ∷ []
own_ids (rows.Ref r) = []

abbrev ids_in : AnyRow → List ℕ
ids_in (rows.Object r) = map (λ (e : Entry). e.0.id) (map_entries r.versions)
ids_in (rows.Version r) = r.id ∷ []
ids_in (rows.Ref r) = []

-- the hash and identifier of a reference; and those that stored rows have
abbrev own_refs : AnyRow → List Reference
own_refs (rows.Object r) = []
own_refs (rows.Version r) = []
own_refs (rows.Ref r) = ref_key r ∷ []

abbrev refs_in : AnyRow → List Reference
refs_in (rows.Object r) = []
refs_in (rows.Version r) = map (λ (e : Place). (e.1.0.hash, r.id)) (places r.blocks)
refs_in (rows.Ref r) = ref_key r ∷ []

abbrev key_weight : Key → ℕ
key_weight k = 41 + length k.1

abbrev said_weight : Said → ℕ
said_weight x = entry_weight x.1

abbrev laid_weight : Laid → ℕ
laid_weight x = place_weight x.1

-- what these parts weigh
abbrev parts : List Key → List Said → List ℕ → List Laid → List Reference → ℕ
parts ks xs is ys rs = total key_weight ks + total said_weight xs + 14 * length is + total laid_weight ys + 42 * length rs

-- ---- rows of different places

abbrev place : AnyRow → ℕ × List ℕ
place r = (words.table r, words.key r)

module _ {Y : Type 0} (f : AnyRow → List Y) (own : (r : AnyRow) → AreApart (f r)) (of_place : (q r : AnyRow) (y : Y) → Has (f q) y → Has (f r) y → place q ≡ place r) where
  has_place : (r : AnyRow) (rs : List AnyRow) (y : Y) → Has (f r) y → Has (flat_map f rs) y → Has (map place rs) (place r)
  has_place r [] y i j = elim j [ ]
  has_place r (q ∷ rs) y i j = elim (has_parts (f q) (flat_map f rs) y j) [ inl g ↦ inl (of_place q r y g i) | inr g ↦ inr (has_place r rs y i g) ]

  apart_rows : (rs : List AnyRow) → AreOfDifferentPlaces rs → AreApart (flat_map f rs)
  apart_rows [] d = tt
  apart_rows (r ∷ rs) d = apart_append (f r) (flat_map f rs) (own r) (apart_rows rs d.1) (λ y i j. d.0 (has_place r rs y i j))

-- one alone is apart
one_apart : {Y : Type 0} (y : Y) → AreApart (y ∷ [])
one_apart y = ((λ h. elim h [ ]), tt)

one_is : {Y : Type 0} (x y : Y) → Has (x ∷ []) y → x ≡ y
one_is x y (inl e) = e
one_is x y (inr h) = elim h [ ]

tag_is : {K X : Type 0} (k : K) (xs : List X) (y : K × X) → Has (map (λ x. (k, x)) xs) y → k ≡ y.0
tag_is k [] y h = elim h [ ]
tag_is k (x ∷ xs) y (inl e) = ap (λ p. p.0) e
tag_is k (x ∷ xs) y (inr h) = tag_is k xs y h

same_object : (q r : ObjectRow) → object_key q ≡ object_key r → place (rows.Object q) ≡ place (rows.Object r)
same_object q r e = ap (λ (k : Key). (1, k.0.0 ++ k.1)) e

same_version : (q r : VersionRow) → q.id ≡ r.id → place (rows.Version q) ≡ place (rows.Version r)
same_version q r e = ap (λ (i : ℕ). (2, eight i)) e

keys_apart : (r : AnyRow) → AreApart (keys_in r)
keys_apart (rows.Object r) = one_apart (object_key r)
keys_apart (rows.Version r) = tt
keys_apart (rows.Ref r) = tt

keys_place : (q r : AnyRow) (y : Key) → Has (keys_in q) y → Has (keys_in r) y → place q ≡ place r
keys_place (rows.Object q) (rows.Object r) y i j = same_object q r (one_is (object_key q) y i ∙ sym (one_is (object_key r) y j))
keys_place (rows.Object q) (rows.Version r) y i j = elim j [ ]
keys_place (rows.Object q) (rows.Ref r) y i j = elim j [ ]
keys_place (rows.Version q) r y i j = elim i [ ]
keys_place (rows.Ref q) r y i j = elim i [ ]

said_apart : (r : AnyRow) → AreApart (said_in r)
said_apart (rows.Object r) = tagged_apart (object_key r) (map_entries r.versions) (apart_entries version_total (map_entries r.versions) (apart_keys version_total (map_entries r.versions) r.versions.ascending))
said_apart (rows.Version r) = tt
said_apart (rows.Ref r) = tt

said_place : (q r : AnyRow) (y : Said) → Has (said_in q) y → Has (said_in r) y → place q ≡ place r
said_place (rows.Object q) (rows.Object r) y i j = same_object q r (tag_is (object_key q) (map_entries q.versions) y i ∙ sym (tag_is (object_key r) (map_entries r.versions) y j))
said_place (rows.Object q) (rows.Version r) y i j = elim j [ ]
said_place (rows.Object q) (rows.Ref r) y i j = elim j [ ]
said_place (rows.Version q) r y i j = elim i [ ]
said_place (rows.Ref q) r y i j = elim i [ ]

ids_apart : (r : AnyRow) → AreApart (own_ids r)
ids_apart (rows.Object r) = tt
ids_apart (rows.Version r) = one_apart r.id
ids_apart (rows.Ref r) = tt

ids_place : (q r : AnyRow) (y : ℕ) → Has (own_ids q) y → Has (own_ids r) y → place q ≡ place r
ids_place (rows.Version q) (rows.Version r) y i j = same_version q r (one_is q.id y i ∙ sym (one_is r.id y j))
ids_place (rows.Version q) (rows.Object r) y i j = elim j [ ]
ids_place (rows.Version q) (rows.Ref r) y i j = elim j [ ]
ids_place (rows.Object q) r y i j = elim i [ ]
ids_place (rows.Ref q) r y i j = elim i [ ]

blocks_apart : (id : ℕ) (d : Deletable BlockMap) → AreApart {X = ℕ × Place} (map (λ e. (id, e)) (places d))
blocks_apart id (Present m) = tagged_apart id (map_entries m) (apart_entries part_total (map_entries m) (apart_keys part_total (map_entries m) m.ascending))
blocks_apart id Deleted = tt

laid_apart : (r : AnyRow) → AreApart (laid_in r)
laid_apart (rows.Object r) = tt
laid_apart (rows.Version r) = blocks_apart r.id r.blocks
laid_apart (rows.Ref r) = tt

laid_place : (q r : AnyRow) (y : Laid) → Has (laid_in q) y → Has (laid_in r) y → place q ≡ place r
laid_place (rows.Version q) (rows.Version r) y i j = same_version q r (tag_is q.id (places q.blocks) y i ∙ sym (tag_is r.id (places r.blocks) y j))
laid_place (rows.Version q) (rows.Object r) y i j = elim j [ ]
laid_place (rows.Version q) (rows.Ref r) y i j = elim j [ ]
laid_place (rows.Object q) r y i j = elim i [ ]
laid_place (rows.Ref q) r y i j = elim i [ ]

refs_apart : (r : AnyRow) → AreApart (own_refs r)
refs_apart (rows.Object r) = tt
refs_apart (rows.Version r) = tt
refs_apart (rows.Ref r) = one_apart (ref_key r)

refs_place : (q r : AnyRow) (y : Reference) → Has (own_refs q) y → Has (own_refs r) y → place q ≡ place r
refs_place (rows.Ref q) (rows.Ref r) y i j = ap (λ (k : Reference). (3, k.0.0 ++ eight k.1)) (one_is (ref_key q) y i ∙ sym (one_is (ref_key r) y j))
refs_place (rows.Ref q) (rows.Object r) y i j = elim j [ ]
refs_place (rows.Ref q) (rows.Version r) y i j = elim j [ ]
refs_place (rows.Object q) r y i j = elim i [ ]
refs_place (rows.Version q) r y i j = elim i [ ]

-- ---- parts of stored rows

module _ (stored : List AnyRow) where
  module _ {Y : Type 0} (f : AnyRow → List Y) (P : Y → Type 0) (each : (r : AnyRow) → IsMade stored r → (y : Y) → Has (f r) y → P y) where
    among : (rs : List AnyRow) → AllByRecursion (IsMade stored) rs → (y : Y) → Has (flat_map f rs) y → P y
    among [] a y h = elim h [ ]
    among (r ∷ rs) a y h = elim (has_parts (f r) (flat_map f rs) y h) [ inl g ↦ each r a.0 y g | inr g ↦ among rs a.1 y g ]

  key_there : (r : AnyRow) → IsMade stored r → (y : Key) → Has (keys_in r) y → Has (flat_map keys_in stored) y
  key_there (rows.Object r) made y h =
      let o = made.0 in
      subst (Has (flat_map keys_in stored)) (o.of_key ∙ one_is (object_key r) y h) (has_flat keys_in stored (rows.Object o.row) (object_key o.row) o.there (inl refl))
  key_there (rows.Version r) made y h = elim h [ ]
  key_there (rows.Ref r) made y h = elim h [ ]

  said_all : (r : AnyRow) → IsMade stored r → (y : Said) → Has (said_in r) y → Has (flat_map said_in stored) y
  said_all (rows.Object r) made y h =
      mapped_all (λ e. (object_key r, e)) (Has (flat_map said_in stored)) (map_entries r.versions)
      (all_weaker (λ (e : Entry). HasState r e.0 e.1.0) (λ (e : Entry). Has (flat_map said_in stored) (object_key r, e)) (λ e g. said_there stored (object_key r) e.0 e.1.0 (made.1 e.0 e.1.0 g)) (map_entries r.versions) (entries_say r)) y h
  said_all (rows.Version r) made y h = elim h [ ]
  said_all (rows.Ref r) made y h = elim h [ ]

  id_is_there : (id : ℕ) → HasId stored id → Has (flat_map ids_in stored) id
  id_is_there id (of_version row h e) = subst (Has (flat_map ids_in stored)) e (has_flat ids_in stored (rows.Version row) row.id h (inl refl))
  id_is_there id (of_object row v x h says e) =
      subst (Has (flat_map ids_in stored)) e (has_flat ids_in stored (rows.Object row) v.id h (has_map (λ (e : Entry). e.0.id) (map_entries row.versions) (v, record { 0 = x }) (state_there row v x says)))

  id_there : (r : AnyRow) → IsMade stored r → (y : ℕ) → Has (own_ids r) y → Has (flat_map ids_in stored) y
  id_there (rows.Version r) made y h = subst (Has (flat_map ids_in stored)) (one_is r.id y h) (id_is_there r.id made.0)
  id_there (rows.Object r) made y h = elim h [ ]
  id_there (rows.Ref r) made y h = elim h [ ]

  laid_all : (r : AnyRow) → IsMade stored r → (y : Laid) → Has (laid_in r) y → Has (flat_map laid_in stored) y
  laid_all (rows.Version r) made y h =
      mapped_all (λ e. (r.id, e)) (Has (flat_map laid_in stored)) (places r.blocks)
      (all_weaker (λ (e : Place). HasBlock (of_blocks r.id r.blocks) e.0 e.1.0) (λ (e : Place). Has (flat_map laid_in stored) (r.id, e)) (λ e g. laid_there stored r.id e.0 e.1.0 (made.1 e.0 e.1.0 g)) (places r.blocks) (blocks_say r.id r.blocks)) y h
  laid_all (rows.Object r) made y h = elim h [ ]
  laid_all (rows.Ref r) made y h = elim h [ ]

  ref_is_there : (key : Reference) → HasRef stored key → Has (flat_map refs_in stored) key
  ref_is_there key (of_ref row h e) = subst (Has (flat_map refs_in stored)) e (has_flat refs_in stored (rows.Ref row) (ref_key row) h (inl refl))
  ref_is_there key (of_block row p b h says e) =
      subst (Has (flat_map refs_in stored)) e
      (has_flat refs_in stored (rows.Version row) (b.hash, row.id) h (has_map (λ (e : Place). (e.1.0.hash, row.id)) (places row.blocks) (p, record { 0 = b }) (block_there row.id row.blocks p b says)))

  ref_there : (r : AnyRow) → IsMade stored r → (y : Reference) → Has (own_refs r) y → Has (flat_map refs_in stored) y
  ref_there (rows.Ref r) made y h = subst (Has (flat_map refs_in stored)) (one_is (ref_key r) y h) (ref_is_there (ref_key r) made)
  ref_there (rows.Object r) made y h = elim h [ ]
  ref_there (rows.Version r) made y h = elim h [ ]

  -- ---- sums

  module _ (spelled_all : AllByRecursion IsSpelled stored) where
    row_parts : (r : AnyRow) → IsMade stored r → weight r ≤ parts (keys_in r) (said_in r) (own_ids r) (laid_in r) (own_refs r)
    row_parts (rows.Object r) made =
        let w = object_weight r (key_fits stored spelled_all (object_key r) made.0).0 in
        let t = total_map (λ (e : Entry). (object_key r, e)) said_weight (map_entries r.versions) in
        omega (arith, w, t)
    row_parts (rows.Version r) made =
        let w = (version_weight r.id r.blocks).1 in
        let t = total_map (λ (e : Place). (r.id, e)) laid_weight (places r.blocks) in
        omega (arith, w, t)
    row_parts (rows.Ref r) made = let w = ref_weight r (ref_fits stored spelled_all (ref_key r) made).0 in omega (arith, w)

    rows_parts : (rs : List AnyRow) → AllByRecursion (IsMade stored) rs → sum_of weight rs ≤ parts (flat_map keys_in rs) (flat_map said_in rs) (flat_map own_ids rs) (flat_map laid_in rs) (flat_map own_refs rs)
    rows_parts [] a = omega arith
    rows_parts (r ∷ rs) a =
        let one = row_parts r a.0 in
        let rest = rows_parts rs a.1 in
        let b = total_append key_weight (keys_in r) (flat_map keys_in rs) in
        let c = total_append said_weight (said_in r) (flat_map said_in rs) in
        let d = length-append (own_ids r) (flat_map own_ids rs) in
        let e = total_append laid_weight (laid_in r) (flat_map laid_in rs) in
        let f = length-append (own_refs r) (flat_map own_refs rs) in
        omega (arith, one, rest, b, c, d, e, f)

entry_bytes : (e : Entry) → 14 ≤ entry_weight e
entry_bytes e =
    let a = length-append (version e.0) (state e.1.0) in
    let b = length-append (eight e.0.ts) (eight e.0.id) in
    let c = eight_length e.0.ts in
    let d = eight_length e.0.id in
    omega (arith, a, b, c, d)

all_of : {X : Type 0} (P : X → Type 0) → ((x : X) → P x) → (xs : List X) → AllByRecursion P xs
all_of P h [] = tt
all_of P h (x ∷ xs) = (h x, all_of P h xs)

place_bytes : (e : Place) → is_hash e.1.0.hash ≡ true → 48 ≤ place_weight e
place_bytes e h =
    let a = length-append (part e.0) (block e.1.0) in
    let b = length-append (four e.0.part) (eight e.0.offset) in
    let c = length-append e.1.0.hash.0 (four e.1.0.size) in
    let d = four_length e.0.part in
    let f = eight_length e.0.offset in
    let g = four_length e.1.0.size in
    let i = block_length 32 e.1.0.hash.0 h in
    omega (arith, a, b, c, d, f, g, i)

-- of a stored version row: its identifier, its blocks, and a reference to each
blocks_parts : (id : ℕ) (d : Deletable BlockMap) → in_range (rows.Version (of_blocks id d)) ≡ true → 42 * length (places d) ≤ 6 + total place_weight (places d)
blocks_parts id Deleted e = omega arith
blocks_parts id (Present m) e =
    let es = map_entries m in
    let tests = (and_parts (is_eight id) (list_all (λ (e : Place). part_in_range e.0 && block_in_range e.1.0) es) e).1 in
    let least = total_least place_weight 48 es (hashed es tests) in
    omega (arith, least)
  where
    hashed : (es : List Place) → list_all (λ (e : Place). part_in_range e.0 && block_in_range e.1.0) es ≡ true → AllByRecursion (λ (e : Place). 48 ≤ place_weight e) es
    hashed [] h = tt
    hashed (e ∷ es) h =
        let both = and_parts (part_in_range e.0 && block_in_range e.1.0) (list_all (λ (e : Place). part_in_range e.0 && block_in_range e.1.0) es) h in
        (place_bytes e (and_parts (is_hash e.1.0.hash) _ (and_parts (part_in_range e.0) (block_in_range e.1.0) both.0).1).0, hashed es both.1)

-- the parts of a stored row weigh no more than twice what it weighs
stored_parts : (r : AnyRow) → IsSpelled r → parts (keys_in r) (said_in r) (ids_in r) (laid_in r) (refs_in r) ≤ 2 * weight r
stored_parts (rows.Object r) h =
    let es = map_entries r.versions in
    let w = object_weight r (and_parts (is_hash r.bucket) _ (ranges (rows.Object r) h).0).0 in
    let t = total_map (λ (e : Entry). (object_key r, e)) said_weight es in
    let n = length-map es (λ (e : Entry). e.0.id) in
    let least = total_least entry_weight 14 es (all_of (λ (e : Entry). 14 ≤ entry_weight e) entry_bytes es) in
    omega (arith, w, t, n, least)
stored_parts (rows.Version r) h =
    let w = (version_weight r.id r.blocks).0 in
    let t = total_map (λ (e : Place). (r.id, e)) laid_weight (places r.blocks) in
    let n = length-map {B = Hash32 × ℕ} (places r.blocks) (λ (e : Place). (e.1.0.hash, r.id)) in
    let low = blocks_parts r.id r.blocks (ranges (rows.Version r) h).0 in
    omega (arith, w, t, n, low)
stored_parts (rows.Ref r) h = let w = ref_weight r (and_parts (is_hash r.hash) _ (ranges (rows.Ref r) h).0).0 in omega (arith, w)

all_parts : (rs : List AnyRow) → AllByRecursion IsSpelled rs → parts (flat_map keys_in rs) (flat_map said_in rs) (flat_map ids_in rs) (flat_map laid_in rs) (flat_map refs_in rs) ≤ 2 * sum_of weight rs
all_parts [] a = omega arith
all_parts (r ∷ rs) a =
    let one = stored_parts r a.0 in
    let rest = all_parts rs a.1 in
    let b = total_append key_weight (keys_in r) (flat_map keys_in rs) in
    let c = total_append said_weight (said_in r) (flat_map said_in rs) in
    let d = length-append (ids_in r) (flat_map ids_in rs) in
    let e = total_append laid_weight (laid_in r) (flat_map laid_in rs) in
    let f = length-append (refs_in r) (flat_map refs_in rs) in
    omega (arith, one, rest, b, c, d, e, f)

-- what is apart and all among others is no more
fewer_ones : {Y : Type 0} (xs ys : List Y) → AreApart xs → ((y : Y) → Has xs y → Has ys y) → length xs ≤ length ys
fewer_ones xs ys apart inside =
    let low : total (λ y. 1) xs ≤ total (λ y. 1) ys = fewer (λ y. 1) xs ys apart inside in
    let a = total_ones xs in
    let b = total_ones ys in
    omega (arith, low, a, b)

pub weigh_no_more : (stored rs : List AnyRow) → AllByRecursion IsSpelled stored → AllByRecursion (IsMade stored) rs → AreOfDifferentPlaces rs → sum_of weight rs ≤ 2 * sum_of weight stored
weigh_no_more stored rs spelled_all made apart =
    let a = rows_parts stored spelled_all rs made in
    let b = fewer key_weight (flat_map keys_in rs) (flat_map keys_in stored) (apart_rows keys_in keys_apart keys_place rs apart) (among stored keys_in (Has (flat_map keys_in stored)) (key_there stored) rs made) in
    let c = fewer said_weight (flat_map said_in rs) (flat_map said_in stored) (apart_rows said_in said_apart said_place rs apart) (among stored said_in (Has (flat_map said_in stored)) (said_all stored) rs made) in
    let d = fewer_ones (flat_map own_ids rs) (flat_map ids_in stored) (apart_rows own_ids ids_apart ids_place rs apart) (among stored own_ids (Has (flat_map ids_in stored)) (id_there stored) rs made) in
    let e = fewer laid_weight (flat_map laid_in rs) (flat_map laid_in stored) (apart_rows laid_in laid_apart laid_place rs apart) (among stored laid_in (Has (flat_map laid_in stored)) (laid_all stored) rs made) in
    let f = fewer_ones (flat_map own_refs rs) (flat_map refs_in stored) (apart_rows own_refs refs_apart refs_place rs apart) (among stored own_refs (Has (flat_map refs_in stored)) (ref_there stored) rs made) in
    let g = all_parts stored spelled_all in
    omega (arith, a, b, c, d, e, f, g)
