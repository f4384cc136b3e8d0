-- Rows that fit: of versions that were drawn and blocks that were stored, with short keys and numbers in their ranges. Merges and changes hand this on.
use Rattle.std.specs.Prelude.{◌≡◌, ◌<◌, ◌^◌, ℕ, Bool, true, false, List, [], ◌∷◌, Option, Some, option_map, map}
use Rattle.std.specs.List.{AllByRecursion}
use Rattle.std.proofs.Common.{ap, sym, subst, ◌∙◌, inl, inr, arith}
use Rattle.std.proofs.lemmas.Bool.{lt-ltb}
use Rattle.std.proofs.lemmas.List.Elements.{All-contains, All-from_recursion}
use Rattle.blake2_hash.specs.declared.digest.Hash32.{Hash32}
use Rattle.blake2_hash.specs.Hash.{hash_cmp}
use Rattle.crdt_core.specs.Members.{Has}
use Rattle.crdt_core.specs.EntryLaws.{and_parts}
use Rattle.crdt_core.specs.Entries.{value_at}
use Rattle.crdt_core.specs.Map.{map_entries}
use Rattle.crdt_core.specs.declared.deletable.Deletable.TheVariants.{Present, Deleted}
use Rattle.crdt_core.specs.declared.max.Max.{Max}
use Rattle.crdt_rows.specs.declared.version.Version.{Version}
use Rattle.crdt_rows.specs.declared.state.State.TheVariants.{Aborted}
use Rattle.crdt_rows.specs.declared.object_row.ObjectRow.{ObjectRow}
use Rattle.crdt_rows.specs.declared.version_row.Part.{Part}
use Rattle.crdt_rows.specs.declared.version_row.BlockRef.{BlockRef}
use Rattle.crdt_rows.specs.declared.version_row.VersionRow.{VersionRow}
use Rattle.crdt_rows.specs.declared.ref_row.RefRow.{RefRow}
use Rattle.crdt_rows.specs.declared.any_row.AnyRow.{AnyRow}
use Rattle.crdt_rows.specs.declared.any_row.AnyRow.TheVariants as rows
use Rattle.crdt_rows.specs.AnyRow.{any_join}
use Rattle.crdt_rows.specs.FieldLaws.{part_total}
use Rattle.crdt_rows.specs.Facts.{HasBlock}
use Rattle.crdt_rows.specs.ObjectRow.{object_key, object_join}
use Rattle.crdt_rows.specs.RefRow.{ref_key, ref_row_join}
use Rattle.crdt_rows.specs.VersionRow.{part_cmp, is_deleted, version_row_join}
use Rattle.row_codec.specs.Range.{is_eight, is_hash}
use Rattle.table_schema.specs.Laws.{Same}
use Rattle.object_schema.specs.Triggers.{given_up, deleted_version, hashes_of, deleted_reference, triggered}
use Rattle.object_schema.specs.Schema.{words}
use Rattle.object_schema.specs.Laws.{schema_laws, object_keys, version_ids, ref_keys}
use Rattle.machine_origins.proofs.Good.{Rules}
use Rattle.limit_rows.specs.Fitting.{Drawn, AreWithin, KeyFits, BlocksFit, RowFits}
use Rattle.object_origins.proofs.Given.{entries_found, all_in_order, all_given}
use Rattle.object_origins.proofs.Shown.{Facts, neither, undeleted}

-- more may have been drawn
pub record Grew (v w : Drawn) : Type 0 where
  pub versions : (x : Version) → Has v.versions x → Has w.versions x
  pub parts : (p : Part) → Has v.parts p → Has w.parts p

pub fits_later : (v w : Drawn) → Grew v w → (r : AnyRow) → RowFits v r → RowFits w r
fits_later v w g (rows.Object r) f = (f.0, λ x s h. let one = f.1 x s h in (g.versions x one.0, one.1))
fits_later v w g (rows.Version r) f = (f.0, λ p b h. let one = f.1 p b h in (g.parts p one.0, one.1))
fits_later v w g (rows.Ref r) f = f

pub eight_is : (n : ℕ) → n < 2 ^ 64 → is_eight n ≡ true
eight_is n h = lt-ltb n (2 ^ 64) h

-- of the hashes of a row's blocks each is a hash
module _ (v : Drawn) where
  hashes_map : (r : VersionRow) → BlocksFit v r → (es : List (Part × Max BlockRef)) → AllByRecursion (λ (e : Part × Max BlockRef). HasBlock r e.0 e.1.0) es → AllByRecursion (λ (h : Hash32). is_hash h ≡ true) (map (λ (e : Part × Max BlockRef). e.1.0.hash) es)
  hashes_map r f [] a = tt
  hashes_map r f (e ∷ es) a = ((and_parts _ _ (f e.0 e.1.0 a.0).1).0, hashes_map r f es a.1)

  hashes_by : (id : ℕ) (d : _) → BlocksFit v (record { id = id; blocks = d }) → AllByRecursion (λ (h : Hash32). is_hash h ≡ true) (hashes_of (record { id = id; blocks = d }))
  hashes_by id (Present m) f =
      all_in_order hash_cmp (λ (h : Hash32). is_hash h ≡ true) (map (λ (e : Part × Max BlockRef). e.1.0.hash) (map_entries m))
      (hashes_map (record { id = id; blocks = Present m }) f (map_entries m) (along (map_entries m) (entries_found part_total (map_entries m) m.ascending)))
    where
      along : (es : List (Part × Max BlockRef)) → AllByRecursion (λ (e : Part × Max BlockRef). value_at part_cmp e.0 (map_entries m) ≡ Some e.1) es → AllByRecursion (λ (e : Part × Max BlockRef). HasBlock (record { id = id; blocks = Present m }) e.0 e.1.0) es
      along [] a = tt
      along (e ∷ es) a = (ap (λ (o : Option (Max BlockRef)). option_map (λ (b : Max BlockRef). b.0) o) a.0, along es a.1)
  hashes_by id Deleted f = tt

module _ (facts : Facts) (t : ℕ) (v : Drawn) (within : AreWithin t v) where
  objects_fit : (a b : ObjectRow) → object_key a ≡ object_key b → RowFits v (rows.Object a) → RowFits v (rows.Object b) → RowFits v (rows.Object (object_join a b))
  objects_fit a b same p q = (
    subst KeyFits (sym (facts.key a b same)) p.0,
    λ x s h. elim ((facts.joined a b same x s).0 h).0.0 [ inl in_a ↦ p.1 x s in_a | inr in_b ↦ q.1 x s in_b ],
  )

  versions_fit : (a b : VersionRow) → a.id ≡ b.id → RowFits v (rows.Version a) → RowFits v (rows.Version b) → RowFits v (rows.Version (version_row_join a b))
  versions_fit a b same p q = (
    subst (λ n. is_eight n ≡ true) (sym (facts.version_id a b same)) p.0,
    λ k x h. (
        let none = neither (is_deleted a) (is_deleted b) (sym (facts.version_deleted a b same) ∙ undeleted (version_row_join a b) k x h) in
        elim ((facts.version_blocks a b same none.0 none.1 k x).0 h).0 [ inl in_a ↦ p.1 k x in_a | inr in_b ↦ q.1 k x in_b ]
        ),
  )

  references_fit : (a b : RefRow) → ref_key a ≡ ref_key b → RowFits v (rows.Ref a) → RowFits v (rows.Ref b) → RowFits v (rows.Ref (ref_row_join a b))
  references_fit a b same p q = subst (λ (k : Hash32 × ℕ). (is_hash k.0 ≡ true) × (is_eight k.1 ≡ true)) (sym (facts.reference a b same)) p

  pub joined_fits : (a b : AnyRow) → Same words a b → RowFits v a → RowFits v b → RowFits v (any_join a b)
  joined_fits (rows.Object a) (rows.Object b) same p q = objects_fit a b (object_keys a b same) p q
  joined_fits (rows.Object a) (rows.Version b) same p q = q
  joined_fits (rows.Object a) (rows.Ref b) same p q = q
  joined_fits (rows.Version a) (rows.Object b) same p q = p
  joined_fits (rows.Version a) (rows.Version b) same p q = versions_fit a b (version_ids a b same) p q
  joined_fits (rows.Version a) (rows.Ref b) same p q = q
  joined_fits (rows.Ref a) (rows.Object b) same p q = p
  joined_fits (rows.Ref a) (rows.Version b) same p q = p
  joined_fits (rows.Ref a) (rows.Ref b) same p q = references_fit a b (ref_keys a b same) p q

  mapped : {X : Type 0} (Q : X → Type 0) (f : X → AnyRow) (xs : List X) → ((x : X) → Q x → RowFits v (f x)) → AllByRecursion Q xs → AllByRecursion (RowFits v) (map f xs)
  mapped Q f [] h a = tt
  mapped Q f (x ∷ xs) h a = (h x a.0, mapped Q f xs h a.1)

  objects_call : (a b : ObjectRow) → RowFits v (rows.Object a) → RowFits v (rows.Object b) → AllByRecursion (RowFits v) (map deleted_version (given_up a b))
  objects_call a b p q =
      mapped (λ (x : Version). is_eight x.id ≡ true) deleted_version (given_up a b) (λ x e. (e, λ k b h. cc))
      (all_given a b (λ x. is_eight x.id ≡ true)
      (λ x l. let low = (within.versions_fit x (p.1 x l.state l.was).0).1 in let top = within.few in eight_is x.id (omega arith))
      (λ x h. absurd (q.1 x Aborted h).1))

  released_fit : (a : VersionRow) (gone_now : Bool) → RowFits v (rows.Version a) → AllByRecursion (RowFits v) (map (deleted_reference a.id) (elim gone_now as (λ _. List Hash32) [ true ↦ hashes_of a | false ↦ [] ]))
  released_fit a true p = mapped (λ (h : Hash32). is_hash h ≡ true) (deleted_reference a.id) (hashes_of a) (λ h e. (e, p.0)) (hashes_by v a.id a.blocks p.1)
  released_fit a false p = tt

  pub called_fit : (a b : AnyRow) → Same words a b → RowFits v a → RowFits v b → AllByRecursion (RowFits v) (triggered a (any_join a b))
  called_fit (rows.Object a) (rows.Object b) same p q = objects_call a (object_join a b) p (objects_fit a b (object_keys a b same) p q)
  called_fit (rows.Object a) (rows.Version b) same p q = tt
  called_fit (rows.Object a) (rows.Ref b) same p q = tt
  called_fit (rows.Version a) (rows.Object b) same p q = released_fit a (is_deleted a) p
  called_fit (rows.Version a) (rows.Version b) same p q = released_fit a (is_deleted (version_row_join a b)) p
  called_fit (rows.Version a) (rows.Ref b) same p q = tt
  called_fit (rows.Ref a) (rows.Object b) same p q = tt
  called_fit (rows.Ref a) (rows.Version b) same p q = tt
  called_fit (rows.Ref a) (rows.Ref b) same p q = tt

  -- rows that fit are handed on
  pub fits_rules : Rules any_join words (RowFits v)
  fits_rules = record {
    laws = schema_laws;
    joined = joined_fits;
    called_for = λ old r row same p q c.
        let rs = triggered old (any_join old r) in
        All-contains (RowFits v) rs row (All-from_recursion (RowFits v) rs (called_fit old r same p q)) c;
  }
