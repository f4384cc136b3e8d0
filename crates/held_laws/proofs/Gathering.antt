-- The versions that the rows of a map's names say to be given up, gathered from the nodes of each bucket.
use Rattle.std.proofs.Common.{◌≡◌, ℕ, Bool, true, false, ◌==◌, ◌||◌, cond, Option, Some, None, option_map, List, [], ◌∷◌, ◌++◌, filter, map, refl, sym, ap, ◌∙◌, subst, inl, inr, arith}
use Rattle.std.specs.Prelude.{IsTrue, if◌then◌else◌}
use Rattle.std.specs.List.{AllByRecursion}
use Rattle.std.proofs.lemmas.Bool.{eqb-true}
use Rattle.blake2_hash.specs.Hash.{digest_of}
use Rattle.blake2_hash.specs.DigestLaws.{digest_length}
use Rattle.crdt_core.proofs.Each.{all_append, all_weaker}
use Rattle.crdt_core.specs.Entries.{value_at}
use Rattle.crdt_core.specs.Map.{map_entries}
use Rattle.crdt_core.specs.Order.{option_join}
use Rattle.crdt_core.specs.declared.max.Max.{Max}
use Rattle.crdt_rows.specs.declared.version.Version.{Version}
use Rattle.crdt_rows.specs.declared.state.State.{State}
use Rattle.crdt_rows.specs.declared.state.State.TheVariants.{Uploading, Aborted, Complete}
use Rattle.crdt_rows.specs.declared.object_row.ObjectRow.{ObjectRow}
use Rattle.crdt_rows.specs.declared.any_row.AnyRow.{AnyRow}
use Rattle.crdt_rows.specs.declared.any_row.AnyRow.TheVariants as rows
use Rattle.crdt_rows.specs.AnyRow.{any_join}
use Rattle.crdt_rows.specs.Facts.{HasState}
use Rattle.crdt_rows.specs.FieldLaws.{version_total}
use Rattle.crdt_rows.specs.Version.{version_cmp}
use Rattle.object_origins.proofs.Given.{entries_found}
use Rattle.object_schema.specs.Laws.{schema_laws, key_parts}
use Rattle.object_schema.specs.Schema.{words}
use Rattle.object_schema.specs.Triggers.{is_aborted, versions_that}
use Rattle.table_model.specs.Rows.{is_at, row_at}
use Rattle.quorum_model.specs.Quorum.{is_among}
use Rattle.flow_model.specs.declared.flow.Name.{Name}
use Rattle.flow_model.specs.Rows.{row_key}
use Rattle.drained_laws.specs.Waiting.{SomeOf, Has as IsIn}
use Rattle.drained_laws.proofs.Drained.{filter_has}
use Rattle.drained_laws.proofs.Views.{all_among}
use Rattle.drained_laws.proofs.Waits.{some_left, some_right, all_mapped}
use Rattle.store_laws.proofs.Orders.{at_parts}
use Rattle.store_laws.proofs.Values.{one_name}
use Rattle.serve_model.specs.Plain.{same_name}
use Rattle.plain_laws.specs.Holds.{GaveUp, given_up_at}
use Rattle.plain_laws.proofs.Entries.{name_itself, names_equal}
use Rattle.plain_laws.proofs.InOrder.{mapped}
use Rattle.plain_laws.proofs.Past.{Says, entry_there}

-- ---- the aborted versions of a row

abbrev pub is_left : Version × Max State → Bool
is_left e = is_aborted (Some e.1.0)

-- those that the row says to be aborted
abbrev pub left_in : Option AnyRow → List Version
left_in (Some (rows.Object r)) = versions_that is_left (map_entries r.versions)
left_in other = []

abbrev SaysEach : ObjectRow → List (Version × Max State) → Type 0
SaysEach r es = AllByRecursion (λ (e : Version × Max State). HasState r e.0 e.1.0) es

entries_say : (r : ObjectRow) → SaysEach r (map_entries r.versions)
entries_say r = all_weaker (λ (e : Version × Max State). value_at version_cmp e.0 (map_entries r.versions) ≡ Some e.1) (λ (e : Version × Max State). HasState r e.0 e.1.0)
    (λ e is. ap (option_map (λ (m : Max State). m.0)) is) (map_entries r.versions) (entries_found version_total (map_entries r.versions) r.versions.ascending)

is_it : (s : State) → is_aborted (Some s) ≡ true → s ≡ Aborted
is_it Uploading e = absurd (cc)
is_it Aborted e = refl
is_it (Complete body) e = absurd (cc)

all_left : (r : ObjectRow) (es : List (Version × Max State)) → SaysEach r es → AllByRecursion (λ (v : Version). HasState r v Aborted) (versions_that is_left es)
all_left r [] all = tt
all_left r (e ∷ es) all =
    elim (is_left e) as (λ b. is_left e ≡ b → AllByRecursion (λ (v : Version). HasState r v Aborted) (map (λ (x : Version × Max State). x.0) (cond b (e ∷ filter is_left es) (filter is_left es)))) [
      | true ↦ λ is. (subst (HasState r e.0) (is_it e.1.0 is) all.0, all_left r es all.1)
      | false ↦ λ is. all_left r es all.1
    ] refl

pub left_says : (o : Option AnyRow) → AllByRecursion (λ (v : Version). Says o v Aborted) (left_in o)
left_says None = tt
left_says (Some (rows.Object r)) = all_left r (map_entries r.versions) (entries_say r)
left_says (Some (rows.Version r)) = tt
left_says (Some (rows.Ref r)) = tt

pub says_left : (o : Option AnyRow) (v : Version) → Says o v Aborted → IsIn (left_in o) v
says_left None v h = h
says_left (Some (rows.Object r)) v h =
    let e : Version × Max State = (v, record { 0 = Aborted }) in
    mapped (λ (x : Version × Max State). x.0) (filter is_left (map_entries r.versions)) e (filter_has is_left (map_entries r.versions) e refl (entry_there r v Aborted h))
says_left (Some (rows.Version r)) v h = h
says_left (Some (rows.Ref r)) v h = h

-- ---- a row that a node has was accepted

-- some row of these is at the place
pub record IsAtPlace (table : ℕ) (key : List ℕ) (xs : List AnyRow) : Type 0 where
  pub row : AnyRow
  pub there : IsIn xs row
  pub at : is_at words table key row ≡ true

pub accepted_at : (table : ℕ) (key : List ℕ) (xs : List AnyRow) (r : AnyRow) → row_at any_join words xs table key ≡ Some r → IsAtPlace table key xs
accepted_at table key [] r e = absurd (cc)
accepted_at table key (x ∷ xs) r e =
    elim (is_at words table key x) as (λ b. is_at words table key x ≡ b → cond b (option_join any_join (row_at any_join words xs table key) (Some x)) (row_at any_join words xs table key) ≡ Some r → IsAtPlace table key (x ∷ xs)) [
      | true ↦ λ at f. record { row = x; there = inl refl; at = at }
      | false ↦ λ at f. (let rest = accepted_at table key xs r f in record { row = rest.row; there = inr rest.there; at = rest.at })
    ] refl e

-- ---- the uploads that were given up

module _ (accepted : ℕ → List AnyRow) (nodes : List ℕ → List ℕ) where
  -- what a node has of a name
  abbrev pub there : ℕ → Name → Option AnyRow
  there n name = row_at any_join words (accepted n) 1 (row_key name)

  -- those of a name, by a node
  abbrev pub named : ℕ → Name → List GaveUp
  named n name = map (λ (v : Version). record { name = name; version = v }) (left_in (there n name))

  -- those of a row's key in a bucket
  abbrev pub of_row : List ℕ → ℕ → AnyRow → List GaveUp
  of_row b n (rows.Object r) = named n (record { bucket = b; key = r.key })
  of_row b n other = []

  abbrev pub of_rows : List ℕ → ℕ → List AnyRow → List GaveUp
  of_rows b n [] = []
  of_rows b n (x ∷ xs) = of_row b n x ++ of_rows b n xs

  abbrev pub of_nodes : List ℕ → List ℕ → List GaveUp
  of_nodes b [] = []
  of_nodes b (n ∷ ns) = of_rows b n (accepted n) ++ of_nodes b ns

  abbrev pub of_buckets : List (List ℕ) → List GaveUp
  of_buckets [] = []
  of_buckets (b ∷ bs) = of_nodes b (nodes b) ++ of_buckets bs

  -- a node of its bucket says so
  pub record IsFoundAt (b : List ℕ) (g : GaveUp) : Type 0 where
    pub bucket : g.name.bucket ≡ b
    pub node : ℕ
    pub is_node : IsTrue (is_among node (nodes b))
    pub says : Says (there node g.name) g.version Aborted

  row_found : (b : List ℕ) (n : ℕ) → IsTrue (is_among n (nodes b)) → (x : AnyRow) → AllByRecursion (IsFoundAt b) (of_row b n x)
  row_found b n is (rows.Object r) =
      let name : Name = record { bucket = b; key = r.key } in
      all_mapped (λ (v : Version). record { name = name; version = v }) (λ (v : Version). Says (there n name) v Aborted) (IsFoundAt b) (λ v says. record { bucket = refl; node = n; is_node = is; says = says }) (left_in (there n name)) (left_says (there n name))
  row_found b n is (rows.Version r) = tt
  row_found b n is (rows.Ref r) = tt

  rows_found : (b : List ℕ) (n : ℕ) → IsTrue (is_among n (nodes b)) → (xs : List AnyRow) → AllByRecursion (IsFoundAt b) (of_rows b n xs)
  rows_found b n is [] = tt
  rows_found b n is (x ∷ xs) = all_append (IsFoundAt b) (of_row b n x) (of_rows b n xs) (row_found b n is x) (rows_found b n is xs)

  nodes_found : (b : List ℕ) (ns : List ℕ) → AllByRecursion (λ n. is_among n (nodes b) ≡ true) ns → AllByRecursion (IsFoundAt b) (of_nodes b ns)
  nodes_found b [] all = tt
  nodes_found b (n ∷ ns) all = all_append (IsFoundAt b) (of_rows b n (accepted n)) (of_nodes b ns) (rows_found b n all.0 (accepted n)) (nodes_found b ns all.1)

  -- each of them was given up in one of the buckets
  abbrev pub IsFoundIn : List (List ℕ) → GaveUp → Type 0
  IsFoundIn buckets g = IsIn buckets g.name.bucket × IsFoundAt g.name.bucket g

  in_bucket : (b : List ℕ) (bs : List (List ℕ)) (g : GaveUp) → IsFoundAt b g → IsFoundIn (b ∷ bs) g
  in_bucket b bs g at = (inl (sym at.bucket), subst (λ (c : List ℕ). IsFoundAt c g) (sym at.bucket) at)

  pub all_found : (bs : List (List ℕ)) → AllByRecursion (IsFoundIn bs) (of_buckets bs)
  all_found [] = tt
  all_found (b ∷ bs) =
      all_append (IsFoundIn (b ∷ bs)) (of_nodes b (nodes b)) (of_buckets bs)
      (all_weaker (IsFoundAt b) (IsFoundIn (b ∷ bs)) (in_bucket b bs) (of_nodes b (nodes b)) (nodes_found b (nodes b) (all_among (nodes b))))
      (all_weaker (IsFoundIn bs) (IsFoundIn (b ∷ bs)) (λ g is. (inr is.0, is.1)) (of_buckets bs) (all_found bs))

  -- ---- and each that a node says is among them

  -- it is one of the name, and of this version
  abbrev pub IsOf : Name → Version → GaveUp → Type 0
  IsOf name v g = (g.name ≡ name) × (g.version ≡ v)

  named_has : (n : ℕ) (own name : Name) (v : Version) → own ≡ name → Says (there n name) v Aborted → SomeOf (IsOf name v) (named n own)
  named_has n own name v same says = along (left_in (there n own)) (says_left (there n own) v (subst (λ (x : Name). Says (there n x) v Aborted) (sym same) says))
    where
      along : (vs : List Version) → IsIn vs v → SomeOf (IsOf name v) (map (λ (u : Version). record { name = own; version = u }) vs)
      along [] h = h
      along (u ∷ us) (inl e) = inl (same, e)
      along (u ∷ us) (inr h) = inr (along us h)

  module _ (proper : (n : ℕ) → AllByRecursion (λ r. IsTrue (words.is_proper r)) (accepted n)) (n : ℕ) (name : Name) (v : Version) (says : Says (there n name) v Aborted) where
    -- the object's row at this place has its key
    object_has : (x : AnyRow) → IsTrue (words.is_proper x) → words.table x ≡ 1 → words.key x ≡ row_key name → SomeOf (IsOf name v) (of_row name.bucket n x)
    object_has (rows.Object r) proper t k =
        let parts = key_parts r.bucket (digest_of name.bucket) r.key name.key (schema_laws.position_is_32_bytes (rows.Object r) proper) (digest_length name.bucket) k in
        named_has n (record { bucket = name.bucket; key = r.key }) name v (one_name (record { bucket = name.bucket; key = r.key }) name refl parts.1) says
    object_has (rows.Version r) proper t k = absurd (omega (arith, t))
    object_has (rows.Ref r) proper t k = absurd (omega (arith, t))

    rows_have : (xs : List AnyRow) → AllByRecursion (λ r. IsTrue (words.is_proper r)) xs → (x : AnyRow) → IsIn xs x → is_at words 1 (row_key name) x ≡ true → SomeOf (IsOf name v) (of_rows name.bucket n xs)
    rows_have [] all x h at = absurd h
    rows_have (y ∷ ys) all x (inl e) at =
        let parts = at_parts words 1 (row_key name) y (ap (is_at words 1 (row_key name)) e ∙ at) in
        some_left (IsOf name v) (of_row name.bucket n y) (of_rows name.bucket n ys) (object_has y all.0 parts.0 parts.1)
    rows_have (y ∷ ys) all x (inr h) at = some_right (IsOf name v) (of_row name.bucket n y) (of_rows name.bucket n ys) (rows_have ys all.1 x h at)

    node_has : SomeOf (IsOf name v) (of_rows name.bucket n (accepted n))
    node_has = by (there n name) refl says
      where
        by : (o : Option AnyRow) → there n name ≡ o → Says o v Aborted → SomeOf (IsOf name v) (of_rows name.bucket n (accepted n))
        by None e h = absurd h
        by (Some r) e h = let at = accepted_at 1 (row_key name) (accepted n) r e in rows_have (accepted n) (proper n) at.row at.there at.at

    nodes_have : (ns : List ℕ) → is_among n ns ≡ true → SomeOf (IsOf name v) (of_nodes name.bucket ns)
    nodes_have [] e = absurd (cc)
    nodes_have (m ∷ ms) e =
        elim (m == n) as (λ b. (m == n) ≡ b → (b || is_among n ms) ≡ true → SomeOf (IsOf name v) (of_rows name.bucket m (accepted m) ++ of_nodes name.bucket ms)) [
          | true ↦ λ same any. some_left (IsOf name v) (of_rows name.bucket m (accepted m)) (of_nodes name.bucket ms) (subst (λ (k : ℕ). SomeOf (IsOf name v) (of_rows name.bucket k (accepted k))) (sym (eqb-true m n same)) node_has)
          | false ↦ λ other more. some_right (IsOf name v) (of_rows name.bucket m (accepted m)) (of_nodes name.bucket ms) (nodes_have ms more)
        ] refl e

    pub buckets_have : (bs : List (List ℕ)) → IsIn bs name.bucket → is_among n (nodes name.bucket) ≡ true → SomeOf (IsOf name v) (of_buckets bs)
    buckets_have [] h is = absurd h
    buckets_have (b ∷ bs) (inl e) is =
        some_left (IsOf name v) (of_nodes b (nodes b)) (of_buckets bs) (subst (λ (c : List ℕ). SomeOf (IsOf name v) (of_nodes c (nodes c))) (sym e) (nodes_have (nodes name.bucket) is))
    buckets_have (b ∷ bs) (inr h) is = some_right (IsOf name v) (of_nodes b (nodes b)) (of_buckets bs) (buckets_have bs h is)

-- ---- those of one name

-- what holds of each of them holds of each version under a name
pub given_has : (Q : GaveUp → Type 0) (gs : List GaveUp) → AllByRecursion Q gs → (name : Name) (v : Version) → IsIn (given_up_at gs name) v → Q (record { name = name; version = v })
given_has Q [] all name v h = absurd h
given_has Q (g ∷ gs) all name v h =
    elim (same_name g.name name) as (λ b. same_name g.name name ≡ b → IsIn (if b then g.version ∷ given_up_at gs name else given_up_at gs name) v → Q (record { name = name; version = v })) [
      | true ↦ λ same i. elim i [
        | inl e ↦ subst (λ (x : Name). Q (record { name = x; version = v })) (names_equal g.name name same) (subst (λ (u : Version). Q (record { name = g.name; version = u })) e all.0)
        | inr rest ↦ given_has Q gs all.1 name v rest
      ]
      | false ↦ λ apart i. given_has Q gs all.1 name v i
    ] refl h

-- each of a name is under the name
pub given_there : (gs : List GaveUp) (name : Name) (v : Version) → SomeOf (λ (g : GaveUp). (g.name ≡ name) × (g.version ≡ v)) gs → IsIn (given_up_at gs name) v
given_there [] name v h = absurd h
given_there (g ∷ gs) name v (inl e) =
    subst (λ b. IsIn (if b then g.version ∷ given_up_at gs name else given_up_at gs name) v) (sym (ap (λ (x : Name). same_name x name) e.0 ∙ name_itself name)) (inl e.1)
given_there (g ∷ gs) name v (inr h) =
    elim (same_name g.name name) as (λ b. IsIn (if b then g.version ∷ given_up_at gs name else given_up_at gs name) v) [ true ↦ inr (given_there gs name v h) | false ↦ given_there gs name v h ]
