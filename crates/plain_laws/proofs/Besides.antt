-- The entries of a map beside names under which versions were given up: each such name has one too, and the rows of all tell what the map's rows tell.
use Rattle.std.proofs.Common.{◌≡◌, ◌≤◌, ℕ, nat_eq, true, false, cond, Option, Some, None, List, [], ◌∷◌, ◌++◌, length, filter, refl, sym, ap, ap₂, ◌∙◌, subst}
use Rattle.std.specs.Prelude.{⊤, ◌&&◌, if◌then◌else◌}
use Rattle.std.specs.List.{AllByRecursion, starts_with}
use Rattle.std.specs.Ordering.{nat_cmp, is_lt}
use Rattle.std.specs.Cmp.Lexicographic.{pointwise, slice_cmp}
use Rattle.std.proofs.lemmas.Bool.{false≢true}
use Rattle.blake2_hash.specs.declared.digest.Hash32.{Hash32}
use Rattle.crdt_core.proofs.Each.{all_weaker}
use Rattle.crdt_rows.specs.declared.version.Version.{Version}
use Rattle.crdt_rows.specs.declared.object_row.ObjectRow.{ObjectRow}
use Rattle.crdt_rows.specs.declared.any_row.AnyRow.{AnyRow}
use Rattle.crdt_rows.specs.declared.any_row.AnyRow.TheVariants as rows
use Rattle.flow_model.specs.declared.flow.Name.{Name}
use Rattle.flow_model.specs.Says.{Said, none, marked, inline, in_blocks, is_object, is_shown, said_by, said_of, object_rows, shown_rows}
use Rattle.store_model.specs.Answers.{with_entry, entries}
use Rattle.serve_model.specs.Plain.{Has, never, Entry, same_name, has_among, with_has, row_of, with_row, rows_under, IsBefore, AreInOrder}
use Rattle.plain_laws.specs.Holds.{GaveUp, given_up_at, row_with}
use Rattle.plain_laws.proofs.Buckets.{IsRowOf, IsCovered, named, under}
use Rattle.plain_laws.proofs.Entries.{names_equal, has_new, has_others}
use Rattle.plain_laws.proofs.GivenUps.{IsWith, is_with, said_with}
use Rattle.plain_laws.proofs.Ordered.{all_with, with_ordered}

-- ---- an entry is put where its name has what it has

module _ (name : Name) (x : Has) where
  -- what holds of all names after it holds of its own, and of those that were there
  put_parts : (Q : Name → Type 0) (es : List Entry) → AllByRecursion (λ (e : Entry). Q e.name) (with_has es name x) → Q name × AllByRecursion (λ (e : Entry). Q e.name) es
  put_parts Q [] all = (all.0, tt)
  put_parts Q (e ∷ es) all =
      elim (same_name e.name name) as (λ b. same_name e.name name ≡ b → AllByRecursion (λ (e : Entry). Q e.name) (if b then record { name = name; has = x } ∷ es else (if is_lt (slice_cmp nat_cmp name.key e.name.key) then record { name = name; has = x } ∷ e ∷ es else e ∷ with_has es name x)) → Q name × AllByRecursion (λ (e : Entry). Q e.name) (e ∷ es)) [
        | true ↦ λ same a. (a.0, (subst Q (sym (names_equal e.name name same)) a.0, a.1))
        | false ↦ λ apart. elim (is_lt (slice_cmp nat_cmp name.key e.name.key)) as (λ b. AllByRecursion (λ (e : Entry). Q e.name) (if b then record { name = name; has = x } ∷ e ∷ es else e ∷ with_has es name x) → Q name × AllByRecursion (λ (e : Entry). Q e.name) (e ∷ es)) [
          | true ↦ λ a. (a.0, a.1)
          | false ↦ λ a. (let rest = put_parts Q es a.1 in (rest.0, (a.0, rest.1)))
        ]
      ] refl all

module _ (name : Name) where
  none_among : (es : List Entry) → AllByRecursion (λ (e : Entry). same_name e.name name ≡ false) es → has_among es name ≡ never
  none_among [] all = refl
  none_among (e ∷ es) all = ap (λ b. if b then e.has else has_among es name) all.0 ∙ none_among es all.1

  -- no entry behind one with a greater key is of this name
  none_behind : (e : Entry) (es : List Entry) → is_lt (slice_cmp nat_cmp name.key e.name.key) ≡ true → AllByRecursion (IsBefore e) es → has_among es name ≡ never
  none_behind e es less behind = none_among es (all_weaker (IsBefore e) (λ (f : Entry). same_name f.name name ≡ false) apart es behind)
    where
      apart : (f : Entry) → IsBefore e f → same_name f.name name ≡ false
      apart f before = elim (same_name f.name name) as (λ b. same_name f.name name ≡ b → b ≡ false) [
        | true ↦ λ same. absurd (false≢true (sym (subst (λ (n : Name). is_lt (slice_cmp nat_cmp n.key e.name.key) ≡ false) (names_equal f.name name same) before.0) ∙ less))
        | false ↦ λ same. refl
      ] refl

  module _ (bucket prefix : List ℕ) where
    -- an entry with nothing has no row
    nothing_under : (rs : List AnyRow) → (if pointwise nat_eq name.bucket bucket && starts_with nat_eq name.key prefix then with_row (row_of name never) rs else rs) ≡ rs
    nothing_under rs = elim (pointwise nat_eq name.bucket bucket && starts_with nat_eq name.key prefix) as (λ b. (if b then with_row (row_of name never) rs else rs) ≡ rs) [ true ↦ refl | false ↦ refl ]

    rows_stay : (es : List Entry) → AreInOrder es → rows_under (with_has es name (has_among es name)) bucket prefix ≡ rows_under es bucket prefix
    rows_stay [] ordered = nothing_under []
    rows_stay (e ∷ es) ordered =
        elim (same_name e.name name) as (λ b. same_name e.name name ≡ b → (let x = if b then e.has else has_among es name in
        rows_under (if b then record { name = name; has = x } ∷ es else (if is_lt (slice_cmp nat_cmp name.key e.name.key) then record { name = name; has = x } ∷ e ∷ es else e ∷ with_has es name x)) bucket prefix ≡ rows_under (e ∷ es) bucket prefix)) [
          | true ↦ λ same. ap (λ (n : Name). rows_under (record { name = n; has = e.has } ∷ es) bucket prefix) (sym (names_equal e.name name same))
          | false ↦ λ apart.
              elim (is_lt (slice_cmp nat_cmp name.key e.name.key)) as (λ b. is_lt (slice_cmp nat_cmp name.key e.name.key) ≡ b →
              rows_under (if b then record { name = name; has = has_among es name } ∷ e ∷ es else e ∷ with_has es name (has_among es name)) bucket prefix ≡ rows_under (e ∷ es) bucket prefix) [
                | true ↦ λ less. ap (λ (x : Has). rows_under (record { name = name; has = x } ∷ e ∷ es) bucket prefix) (none_behind e es less ordered.0) ∙ nothing_under (rows_under (e ∷ es) bucket prefix)
                | false ↦ λ less. ap (λ (rs : List AnyRow). if pointwise nat_eq e.name.bucket bucket && starts_with nat_eq e.name.key prefix then with_row (row_of e.name e.has) rs else rs) (rows_stay es ordered.1)
              ] refl
        ] refl

-- ---- names under which versions were given up

-- the entries, and one for each such name, with what is there
abbrev pub touched : List GaveUp → List Entry → List Entry
touched [] es = es
touched (g ∷ gs) es = with_has (touched gs es) g.name (has_among (touched gs es) g.name)

pub touched_has : (gs : List GaveUp) (es : List Entry) (name : Name) → has_among (touched gs es) name ≡ has_among es name
touched_has [] es name = refl
touched_has (g ∷ gs) es name =
    let rest : List Entry = touched gs es in
    let x : Has = has_among rest g.name in
    elim (same_name g.name name) as (λ b. same_name g.name name ≡ b → has_among (with_has rest g.name x) name ≡ has_among es name) [
      | true ↦ λ same.
          let one : g.name ≡ name = names_equal g.name name same in
          ap (has_among (with_has rest g.name x)) (sym one) ∙ (has_new g.name x rest ∙ (ap (has_among rest) one ∙ touched_has gs es name))
      | false ↦ λ apart. has_others g.name x name apart rest ∙ touched_has gs es name
    ] refl

pub touched_ordered : (gs : List GaveUp) (es : List Entry) → AreInOrder es → AreInOrder (touched gs es)
touched_ordered [] es ordered = ordered
touched_ordered (g ∷ gs) es ordered = with_ordered g.name (has_among (touched gs es) g.name) (touched gs es) (touched_ordered gs es ordered)

pub touched_keyed : (gs : List GaveUp) (es : List Entry) → AllByRecursion (λ (g : GaveUp). 1 ≤ length g.name.key) gs → AllByRecursion (λ (e : Entry). 1 ≤ length e.name.key) es → AllByRecursion (λ (e : Entry). 1 ≤ length e.name.key) (touched gs es)
touched_keyed [] es some keyed = keyed
touched_keyed (g ∷ gs) es some keyed = all_with g.name (has_among (touched gs es) g.name) (λ (e : Entry). 1 ≤ length e.name.key) some.0 (touched gs es) (touched_keyed gs es some.1 keyed)

-- under a name without an entry none was given up
none_given_up : (gs : List GaveUp) (es : List Entry) (name : Name) → AllByRecursion (λ (e : Entry). same_name e.name name ≡ false) (touched gs es) → given_up_at gs name ≡ []
none_given_up [] es name all = refl
none_given_up (g ∷ gs) es name all =
    let parts = put_parts g.name (has_among (touched gs es) g.name) (λ (n : Name). same_name n name ≡ false) (touched gs es) all in
    ap (λ b. if b then g.version ∷ given_up_at gs name else given_up_at gs name) parts.0 ∙ none_given_up gs es name parts.1

-- ---- their rows

module _ (gs : List GaveUp) where
  -- the row of a name
  abbrev pub its_row : Name → Has → Option AnyRow
  its_row name has = row_with name (given_up_at gs name) has

  pub its_row_stands : (name : Name) (has : Has) (r : AnyRow) → its_row name has ≡ Some r → IsRowOf name r
  its_row_stands name has r e = by r (subst (IsWith name has (given_up_at gs name)) e (is_with name has (given_up_at gs name)))
    where
      by : (r : AnyRow) → IsWith name has (given_up_at gs name) (Some r) → IsRowOf name r
      by (rows.Object o) b = record { table = refl; key = ap (λ (k : Hash32 × List ℕ). k.0.0 ++ k.1) b.key }
      by (rows.Version o) b = absurd b
      by (rows.Ref o) b = absurd b

  -- ---- what they tell

  -- an object's row has its key
  abbrev HasKey : Name → Option AnyRow → Type 0
  HasKey name None = ⊤
  HasKey name (Some (rows.Object r)) = r.key ≡ name.key
  HasKey name (Some other) = ⊥

  has_key : (name : Name) (has : Has) (vs : List Version) → HasKey name (row_with name vs has)
  has_key name has vs = by (row_with name vs has) (is_with name has vs)
    where
      by : (o : Option AnyRow) → IsWith name has vs o → HasKey name o
      by None b = tt
      by (Some (rows.Object r)) b = ap (λ (k : Hash32 × List ℕ). k.1) b.key
      by (Some (rows.Version r)) b = absurd b
      by (Some (rows.Ref r)) b = absurd b

  row_tells : (name : Name) (o : Option AnyRow) → HasKey name o → (rs : List AnyRow) → entries (object_rows (with_row o rs)) ≡ with_entry name.key (said_of o) (entries (object_rows rs))
  row_tells name None key rs = refl
  row_tells name (Some (rows.Object r)) key rs = ap (λ (k : List ℕ). with_entry k (said_by r) (entries (object_rows rs))) key
  row_tells name (Some (rows.Version r)) key rs = absurd key
  row_tells name (Some (rows.Ref r)) key rs = absurd key

  -- a list shows what the rows that are shown tell
  shown_tell : (rs : List ObjectRow) → entries (filter is_shown rs) ≡ entries rs
  shown_tell [] = refl
  shown_tell (r ∷ rs) = by (said_by r) refl (shown_tell rs)
    where
      by : (s : Said) → said_by r ≡ s → entries (filter is_shown rs) ≡ entries rs → entries (filter is_shown (r ∷ rs)) ≡ entries (r ∷ rs)
      by none e rest = ap (λ (s : Said). entries (cond (is_object s) (r ∷ filter is_shown rs) (filter is_shown rs))) e ∙ (rest ∙ sym (ap (λ (s : Said). with_entry r.key s (entries rs)) e))
      by (marked version) e rest = ap (λ (s : Said). entries (cond (is_object s) (r ∷ filter is_shown rs) (filter is_shown rs))) e ∙ (rest ∙ sym (ap (λ (s : Said). with_entry r.key s (entries rs)) e))
      by (inline version meta body) e rest = ap (λ (s : Said). entries (cond (is_object s) (r ∷ filter is_shown rs) (filter is_shown rs))) e ∙ ap (with_entry r.key (said_by r)) rest
      by (in_blocks version meta first) e rest = ap (λ (s : Said). entries (cond (is_object s) (r ∷ filter is_shown rs) (filter is_shown rs))) e ∙ ap (with_entry r.key (said_by r)) rest

  module _ (bucket prefix : List ℕ) where
    -- the rows of such entries of the bucket
    abbrev pub its_rows : List Entry → List AnyRow
    its_rows es = under bucket prefix its_row its_row_stands es

    rows_tell : (es : List Entry) → entries (object_rows (its_rows es)) ≡ entries (object_rows (rows_under es bucket prefix))
    rows_tell [] = refl
    rows_tell (e ∷ es) =
        let vs : List Version = given_up_at gs e.name in
        elim (pointwise nat_eq e.name.bucket bucket && starts_with nat_eq e.name.key prefix) as (λ b. entries (object_rows (if b then with_row (its_row e.name e.has) (its_rows es) else its_rows es)) ≡ entries (object_rows (if b then with_row (row_of e.name e.has) (rows_under es bucket prefix) else rows_under es bucket prefix))) [
          | true ↦
              row_tells e.name (its_row e.name e.has) (has_key e.name e.has vs) (its_rows es)
              ∙ (ap₂ (with_entry e.name.key) (said_with e.name e.has vs) (rows_tell es)
              ∙ sym (row_tells e.name (row_of e.name e.has) (has_key e.name e.has []) (rows_under es bucket prefix)))
          | false ↦ rows_tell es
        ]

    rows_touched : (gs : List GaveUp) (es : List Entry) → AreInOrder es → rows_under (touched gs es) bucket prefix ≡ rows_under es bucket prefix
    rows_touched [] es ordered = refl
    rows_touched (g ∷ gs) es ordered = rows_stay g.name bucket prefix (touched gs es) (touched_ordered gs es ordered) ∙ rows_touched gs es ordered

    -- a list of all tells what the map's tells
    pub touched_tell : (es : List Entry) → AreInOrder es → entries (shown_rows (its_rows (touched gs es))) ≡ entries (shown_rows (rows_under es bucket prefix))
    touched_tell es ordered =
        shown_tell (object_rows (its_rows (touched gs es)))
        ∙ (rows_tell (touched gs es)
        ∙ (ap (λ (rs : List AnyRow). entries (object_rows rs)) (rows_touched gs es ordered) ∙ sym (shown_tell (object_rows (rows_under es bucket prefix)))))

    -- and each name has an entry, or no row
    pub touched_covers : (es : List Entry) (key : List ℕ) (begins : starts_with nat_eq key prefix ≡ true) → IsCovered bucket prefix its_row its_row_stands key begins (touched gs es)
    touched_covers es key begins all = ap (λ (vs : List Version). row_with (named bucket key) vs never) (none_given_up gs es (named bucket key) all)
