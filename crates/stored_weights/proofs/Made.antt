-- What a row is made of that comes from stored rows: of entries that stored rows of its place have.
use Rattle.std.specs.Prelude.{◌≡◌, ℕ, Bool, true, false, List, [], ◌∷◌, map, option_map, Option, Some, refl}
use Rattle.std.specs.List.{Contains, AllByRecursion}
use Rattle.std.proofs.Common.{ap, sym, subst, ◌∙◌, inl, inr}
use Rattle.std.proofs.lemmas.List.Elements.{All-contains, All-from_recursion}
use Rattle.blake2_hash.specs.declared.digest.Hash32.{Hash32}
use Rattle.blake2_hash.specs.Hash.{hash_cmp}
use Rattle.crdt_core.specs.Entries.{value_at}
use Rattle.crdt_core.specs.Map.{map_entries}
use Rattle.crdt_core.specs.Members.{Has}
use Rattle.crdt_core.specs.declared.deletable.Deletable.TheVariants.{Present, Deleted}
use Rattle.crdt_core.specs.declared.max.Max.{Max}
use Rattle.crdt_rows.specs.declared.version.Version.{Version}
use Rattle.crdt_rows.specs.declared.state.State.{State}
use Rattle.crdt_rows.specs.declared.state.State.TheVariants.{Aborted}
use Rattle.crdt_rows.specs.declared.object_row.ObjectRow.{ObjectRow}
use Rattle.crdt_rows.specs.declared.version_row.Part.{Part}
use Rattle.crdt_rows.specs.declared.version_row.BlockRef.{BlockRef}
use Rattle.crdt_rows.specs.declared.version_row.VersionRow.{VersionRow}
use Rattle.crdt_rows.specs.declared.ref_row.RefRow.{RefRow}
use Rattle.crdt_rows.specs.declared.any_row.AnyRow.{AnyRow}
use Rattle.crdt_rows.specs.declared.any_row.AnyRow.TheVariants as rows
use Rattle.crdt_rows.specs.AnyRow.{any_join}
use Rattle.crdt_rows.specs.Facts.{HasState, HasBlock}
use Rattle.crdt_rows.specs.FieldLaws.{part_total}
use Rattle.crdt_rows.specs.ObjectRow.{object_key, object_join}
use Rattle.crdt_rows.specs.RefRow.{ref_key}
use Rattle.crdt_rows.specs.VersionRow.{part_cmp, is_deleted, version_row_join}
use Rattle.table_schema.specs.Laws.{Same}
use Rattle.machine_limits.proofs.Totals.{all_from}
use Rattle.machine_origins.specs.Origins.{ComesFrom, was_stored, was_merged, was_called_for}
use Rattle.object_schema.specs.Laws.{object_keys, version_ids, ref_keys}
use Rattle.object_schema.specs.Schema.{words}
use Rattle.object_schema.specs.Triggers.{given_up, deleted_version, hashes_of, deleted_reference, triggered}
use Rattle.object_origins.proofs.Given.{entries_found, all_in_order, all_given}
use Rattle.object_origins.proofs.Shown.{Facts, neither, undeleted}

module _ (stored : List AnyRow) where
  -- a stored row is of this bucket and key
  pub record OfObject (key : Hash32 × List ℕ) : Type 0 where
    pub row : ObjectRow
    pub there : Has stored (rows.Object row)
    pub of_key : object_key row ≡ key

  -- one of them says that the version is in this state
  pub record SaysState (key : Hash32 × List ℕ) (v : Version) (x : State) : Type 0 where
    pub row : ObjectRow
    pub there : Has stored (rows.Object row)
    pub of_key : object_key row ≡ key
    pub says : HasState row v x

  -- a stored row is of the version with this identifier, and says that the block is at the place
  pub record SaysBlock (id : ℕ) (p : Part) (b : BlockRef) : Type 0 where
    pub row : VersionRow
    pub there : Has stored (rows.Version row)
    pub of_id : row.id ≡ id
    pub says : HasBlock row p b

  -- a stored row has this identifier of a version
  pub data HasId (id : ℕ) : Type 0 where
    of_version : (row : VersionRow) → Has stored (rows.Version row) → row.id ≡ id → HasId id
    of_object : (row : ObjectRow) (v : Version) (x : State) → Has stored (rows.Object row) → HasState row v x → v.id ≡ id → HasId id

  -- a stored row is the reference, or names the block
  pub data HasRef (key : Hash32 × ℕ) : Type 0 where
    of_ref : (row : RefRow) → Has stored (rows.Ref row) → ref_key row ≡ key → HasRef key
    of_block : (row : VersionRow) (p : Part) (b : BlockRef) → Has stored (rows.Version row) → HasBlock row p b → (b.hash, row.id) ≡ key → HasRef key

  -- the row is of a place of stored rows, and has entries of those
  abbrev pub IsMade : AnyRow → Type 0
  IsMade (rows.Object r) = OfObject (object_key r) × ((v : Version) (x : State) → HasState r v x → SaysState (object_key r) v x)
  IsMade (rows.Version r) = HasId r.id × ((p : Part) (b : BlockRef) → HasBlock r p b → SaysBlock r.id p b)
  IsMade (rows.Ref r) = HasRef (ref_key r)

-- ---- stored rows

contains_has : {X : Type 0} (xs : List X) (x : X) → Contains xs x → Has xs x
contains_has xs x c = All-contains (Has xs) xs x (All-from_recursion (Has xs) xs (all_from (Has xs) xs (λ y h. h))) c

stored_made : (stored : List AnyRow) (r : AnyRow) → Has stored r → IsMade stored r
stored_made stored (rows.Object r) h = (record { row = r; there = h; of_key = refl }, λ v x says. record { row = r; there = h; of_key = refl; says = says })
stored_made stored (rows.Version r) h = (of_version r h refl, λ p b says. record { row = r; there = h; of_id = refl; says = says })
stored_made stored (rows.Ref r) h = of_ref r h refl

-- ---- merges and changes

module _ (facts : Facts) (stored : List AnyRow) where
  objects_made : (a b : ObjectRow) → object_key a ≡ object_key b → IsMade stored (rows.Object a) → IsMade stored (rows.Object b) → IsMade stored (rows.Object (object_join a b))
  objects_made a b same p q =
      let key = sym (facts.key a b same) in (
        subst (OfObject stored) key p.0,
        λ v x h. elim ((facts.joined a b same v x).0 h).0.0 [
          | inl in_a ↦ subst (λ k. SaysState stored k v x) key (p.1 v x in_a)
          | inr in_b ↦ subst (λ k. SaysState stored k v x) (sym same ∙ key) (q.1 v x in_b)
        ],
      )

  versions_made : (a b : VersionRow) → a.id ≡ b.id → IsMade stored (rows.Version a) → IsMade stored (rows.Version b) → IsMade stored (rows.Version (version_row_join a b))
  versions_made a b same p q =
      let id = sym (facts.version_id a b same) in (
        subst (HasId stored) id p.0,
        λ k x h. (
            let none = neither (is_deleted a) (is_deleted b) (sym (facts.version_deleted a b same) ∙ undeleted (version_row_join a b) k x h) in
            elim ((facts.version_blocks a b same none.0 none.1 k x).0 h).0 [
              | inl in_a ↦ subst (λ i. SaysBlock stored i k x) id (p.1 k x in_a)
              | inr in_b ↦ subst (λ i. SaysBlock stored i k x) (sym same ∙ id) (q.1 k x in_b)
            ]
            ),
      )

  joined_made : (a b : AnyRow) → Same words a b → IsMade stored a → IsMade stored b → IsMade stored (any_join a b)
  joined_made (rows.Object a) (rows.Object b) same p q = objects_made a b (object_keys a b same) p q
  joined_made (rows.Object a) (rows.Version b) same p q = q
  joined_made (rows.Object a) (rows.Ref b) same p q = q
  joined_made (rows.Version a) (rows.Object b) same p q = p
  joined_made (rows.Version a) (rows.Version b) same p q = versions_made a b (version_ids a b same) p q
  joined_made (rows.Version a) (rows.Ref b) same p q = q
  joined_made (rows.Ref a) (rows.Object b) same p q = p
  joined_made (rows.Ref a) (rows.Version b) same p q = p
  joined_made (rows.Ref a) (rows.Ref b) same p q = subst (HasRef stored) (sym (facts.reference a b (ref_keys a b same))) p

  mapped : {X : Type 0} (Q : X → Type 0) (f : X → AnyRow) (xs : List X) → ((x : X) → Q x → IsMade stored (f x)) → AllByRecursion Q xs → AllByRecursion (IsMade stored) (map f xs)
  mapped Q f [] h a = tt
  mapped Q f (x ∷ xs) h a = (h x a.0, mapped Q f xs h a.1)

  says_id : (key : Hash32 × List ℕ) (v : Version) (x : State) → SaysState stored key v x → HasId stored v.id
  says_id key v x s = of_object s.row v x s.there s.says refl

  objects_call : (a b : ObjectRow) → object_key a ≡ object_key b → IsMade stored (rows.Object a) → IsMade stored (rows.Object b) → AllByRecursion (IsMade stored) (map deleted_version (given_up a (object_join a b)))
  objects_call a b same p q =
      let n = objects_made a b same p q in
      mapped (λ (v : Version). HasId stored v.id) deleted_version (given_up a (object_join a b)) (λ v h. (h, λ k x e. cc))
      (all_given a (object_join a b) (λ v. HasId stored v.id) (λ v l. says_id (object_key a) v l.state (p.1 v l.state l.was)) (λ v h. says_id (object_key (object_join a b)) v Aborted (n.1 v Aborted h)))

  -- the hashes of a row's blocks
  hashes_made : (id : ℕ) (d : _) → ((p : Part) (b : BlockRef) → HasBlock (record { id = id; blocks = d }) p b → SaysBlock stored id p b) → AllByRecursion (λ (h : Hash32). HasRef stored (h, id)) (hashes_of (record { id = id; blocks = d }))
  hashes_made id (Present m) says =
      all_in_order hash_cmp (λ (h : Hash32). HasRef stored (h, id)) (map (λ (e : Part × Max BlockRef). e.1.0.hash) (map_entries m)) (each (map_entries m) (along (map_entries m) (entries_found part_total (map_entries m) m.ascending)))
    where
      along : (es : List (Part × Max BlockRef)) → AllByRecursion (λ (e : Part × Max BlockRef). value_at part_cmp e.0 (map_entries m) ≡ Some e.1) es → AllByRecursion (λ (e : Part × Max BlockRef). HasBlock (record { id = id; blocks = Present m }) e.0 e.1.0) es
      along [] a = tt
      along (e ∷ es) a = (ap (λ (o : Option (Max BlockRef)). option_map (λ (b : Max BlockRef). b.0) o) a.0, along es a.1)

      each : (es : List (Part × Max BlockRef)) → AllByRecursion (λ (e : Part × Max BlockRef). HasBlock (record { id = id; blocks = Present m }) e.0 e.1.0) es → AllByRecursion (λ (h : Hash32). HasRef stored (h, id)) (map (λ (e : Part × Max BlockRef). e.1.0.hash) es)
      each [] a = tt
      each (e ∷ es) a = (let s = says e.0 e.1.0 a.0 in of_block s.row e.0 e.1.0 s.there s.says (ap (λ i. (e.1.0.hash, i)) s.of_id), each es a.1)
  hashes_made id Deleted says = tt

  released_made : (a : VersionRow) (gone_now : Bool) → IsMade stored (rows.Version a) → AllByRecursion (IsMade stored) (map (deleted_reference a.id) (elim gone_now as (λ _. List Hash32) [ true ↦ hashes_of a | false ↦ [] ]))
  released_made a true p = mapped (λ (h : Hash32). HasRef stored (h, a.id)) (deleted_reference a.id) (hashes_of a) (λ h r. r) (hashes_made a.id a.blocks p.1)
  released_made a false p = tt

  called_made : (a b : AnyRow) → Same words a b → IsMade stored a → IsMade stored b → AllByRecursion (IsMade stored) (triggered a (any_join a b))
  called_made (rows.Object a) (rows.Object b) same p q = objects_call a b (object_keys a b same) p q
  called_made (rows.Object a) (rows.Version b) same p q = tt
  called_made (rows.Object a) (rows.Ref b) same p q = tt
  called_made (rows.Version a) (rows.Object b) same p q = released_made a (is_deleted a) p
  called_made (rows.Version a) (rows.Version b) same p q = released_made a (is_deleted (version_row_join a b)) p
  called_made (rows.Version a) (rows.Ref b) same p q = tt
  called_made (rows.Ref a) (rows.Object b) same p q = tt
  called_made (rows.Ref a) (rows.Version b) same p q = tt
  called_made (rows.Ref a) (rows.Ref b) same p q = tt

  pub made : (r : AnyRow) → ComesFrom any_join words stored r → IsMade stored r
  made _ (was_stored row c) = stored_made stored row (contains_has stored row c)
  made _ (was_merged a b same ca cb) = joined_made a b same (made a ca) (made b cb)
  made _ (was_called_for old row called same co cr c) =
      let rs = triggered old (any_join old row) in
      All-contains (IsMade stored) rs called (All-from_recursion (IsMade stored) rs (called_made old row same (made old co) (made row cr))) c
