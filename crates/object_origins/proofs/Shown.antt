-- What rows show of the rows that store phases began to store, merges and changes hand on.
use Rattle.std.specs.Prelude.{◌≡◌, ◌⊎◌, ℕ, Bool, true, false, cond, not, ◌||◌, List, [], ◌∷◌, Option, Some, None, map, refl}
use Rattle.std.specs.List.{All, Contains, AllByRecursion}
use Rattle.std.proofs.Common.{ap, sym, subst, ◌∙◌, inl, inr}
use Rattle.std.proofs.lemmas.List.Elements.{All-contains, All-from_recursion}
use Rattle.blake2_hash.specs.declared.digest.Hash32.{Hash32}
use Rattle.crdt_core.specs.Lex.{larger}
use Rattle.crdt_core.specs.Order.{option_join}
use Rattle.crdt_rows.specs.declared.version.Version.{Version}
use Rattle.crdt_rows.specs.declared.state.State.{State}
use Rattle.crdt_rows.specs.declared.state.State.TheVariants.{Aborted, Complete}
use Rattle.crdt_rows.specs.declared.object_row.ObjectRow.{ObjectRow}
use Rattle.std.specs.declared.cmp.Ord as ord
use Rattle.std.specs.declared.cmp.PartialEq as partial_eq
use Rattle.std.specs.declared.cmp.PartialOrd as partial_ord
use Rattle.std.specs.Cmp.{tied_itself}
use Rattle.crdt_core.specs.declared.deletable.Deletable.{Deletable}
use Rattle.crdt_core.specs.declared.deletable.Deletable.TheVariants.{Present, Deleted}
use Rattle.crdt_core.specs.declared.map.Map.{Map}
use Rattle.crdt_core.specs.declared.max.Max.{Max}
use Rattle.crdt_rows.specs.declared.version_row.Part.{Part}
use Rattle.crdt_rows.specs.declared.version_row.BlockRef.{BlockRef}
use Rattle.crdt_rows.specs.declared.version_row.VersionRow.{VersionRow}
use Rattle.crdt_rows.specs.declared.ref_row.RefRow.{RefRow}
use Rattle.crdt_rows.specs.declared.any_row.AnyRow.{AnyRow}
use Rattle.crdt_rows.specs.declared.any_row.AnyRow.TheVariants as rows
use Rattle.crdt_rows.specs.AnyRow.{any_join}
use Rattle.crdt_rows.specs.Newest.{is_older}
use Rattle.crdt_rows.specs.State.{state_cmp}
use Rattle.crdt_rows.specs.Version.{version_cmp}
use Rattle.crdt_rows.specs.ObjectRowLaws.{key_total}
use Rattle.crdt_rows.specs.ObjectRow.{object_key, object_key_cmp, newest, state_at, object_join}
use Rattle.crdt_rows.proofs.ObjectJoin.{join-state}
use Rattle.crdt_rows.specs.VersionRow.{gone, block_in, is_deleted, version_row_join}
use Rattle.crdt_rows.specs.RefRow.{ref_key, ref_row_join}
use Rattle.crdt_rows.specs.Facts.{HasState, HasBlock, IsObjectJoin, IsBlockJoin, IsNewest}
use Rattle.table_schema.specs.Laws.{Same}
use Rattle.machine_origins.specs.Origins.{ComesFrom}
use Rattle.object_schema.specs.Triggers.{given_up, deleted_version, hashes_of, released, deleted_reference, triggered}
use Rattle.object_schema.specs.Schema.{words}
use Rattle.object_origins.specs.Gone.{WasStored, IsOverwritten, IsGone, deletes_nothing}
use Rattle.object_origins.specs.Shown.{BlockWasStored, Shows}
use Rattle.object_schema.specs.Laws.{object_keys, version_ids, ref_keys}
use Rattle.object_origins.proofs.Given.{IsLost, all_given}

either_true : (a b : Bool) → (a || b) ≡ true → (a ≡ true) ⊎ (b ≡ true)
either_true true b e = inl refl
either_true false b e = inr e

pub neither : (a b : Bool) → (a || b) ≡ false → (a ≡ false) × (b ≡ false)
neither true b e = cc
neither false b e = (refl, e)

module _ {o : ord.Ghosts Part} {p : partial_eq.Ghosts Part} {q : partial_ord.Ghosts Part} where
  has_none : (d : Deletable (Map Part (Max BlockRef) o p q)) (k : Part) (x : BlockRef) → block_in d k ≡ Some x → gone d ≡ false
  has_none (Present m) k x e = refl
  has_none Deleted k x e = cc

-- a row that has a block is not deleted
pub undeleted : (r : VersionRow) (k : Part) (x : BlockRef) → HasBlock r k x → is_deleted r ≡ false
undeleted r k x h = has_none r.blocks k x h

-- what merging does to what rows say
pub record Facts : Type 0 where
  pub joined : (a b : ObjectRow) → object_key a ≡ object_key b → IsObjectJoin (HasState a) (HasState b) (HasState (object_join a b))
  pub newest_is : (a : ObjectRow) → IsNewest (HasState a) (newest a)
  pub key : (a b : ObjectRow) → object_key a ≡ object_key b → object_key (object_join a b) ≡ object_key a
  pub version_deleted : (a b : VersionRow) → a.id ≡ b.id → is_deleted (version_row_join a b) ≡ (is_deleted a || is_deleted b)
  pub version_blocks : (a b : VersionRow) → a.id ≡ b.id → is_deleted a ≡ false → is_deleted b ≡ false → IsBlockJoin (HasBlock a) (HasBlock b) (HasBlock (version_row_join a b))
  pub version_id : (a b : VersionRow) → a.id ≡ b.id → (version_row_join a b).id ≡ a.id
  pub ref_deleted : (a b : RefRow) → ref_key a ≡ ref_key b → (ref_row_join a b).deleted.0 ≡ (a.deleted.0 || b.deleted.0)
  pub reference : (a b : RefRow) → ref_key a ≡ ref_key b → ref_key (ref_row_join a b) ≡ ref_key a

module _ (facts : Facts) (stored : List AnyRow) where
  -- ---- merges

  objects_show : (a b : ObjectRow) → object_key a ≡ object_key b → Shows stored (rows.Object a) → Shows stored (rows.Object b) → Shows stored (rows.Object (object_join a b))
  objects_show a b same p q v x h =
      elim ((facts.joined a b same v x).0 h).0.0 [
        | inl in_a ↦ subst (λ k. WasStored stored k v x) (sym (facts.key a b same)) (p v x in_a)
        | inr in_b ↦ subst (λ k. WasStored stored k v x) (sym (facts.key a b same ∙ same)) (q v x in_b)
      ]

  versions_show : (a b : VersionRow) → a.id ≡ b.id → Shows stored (rows.Version a) → Shows stored (rows.Version b) → Shows stored (rows.Version (version_row_join a b))
  versions_show a b same p q = record {
    gone = λ h. elim (either_true (is_deleted a) (is_deleted b) (sym (facts.version_deleted a b same) ∙ h)) [
      | inl e ↦ subst (IsGone stored) (sym (facts.version_id a b same)) (p.gone e)
      | inr e ↦ subst (IsGone stored) (sym (facts.version_id a b same ∙ same)) (q.gone e)
    ];
    blocks = λ k x h. (
        let none = neither (is_deleted a) (is_deleted b) (sym (facts.version_deleted a b same) ∙ undeleted (version_row_join a b) k x h) in
        elim ((facts.version_blocks a b same none.0 none.1 k x).0 h).0 [
          | inl in_a ↦ subst (λ id. BlockWasStored stored id k x) (sym (facts.version_id a b same)) (p.blocks k x in_a)
          | inr in_b ↦ subst (λ id. BlockWasStored stored id k x) (sym (facts.version_id a b same ∙ same)) (q.blocks k x in_b)
        ]
        );
  }

  references_show : (a b : RefRow) → ref_key a ≡ ref_key b → Shows stored (rows.Ref a) → Shows stored (rows.Ref b) → Shows stored (rows.Ref (ref_row_join a b))
  references_show a b same p q h =
      let id : (ref_row_join a b).id ≡ a.id = ap (λ (k : Hash32 × ℕ). k.1) (facts.reference a b same) in
      elim (either_true a.deleted.0 b.deleted.0 (sym (facts.ref_deleted a b same) ∙ h)) [
        | inl e ↦ subst (IsGone stored) (sym id) (p e)
        | inr e ↦ subst (IsGone stored) (sym (id ∙ ap (λ (k : Hash32 × ℕ). k.1) same)) (q e)
      ]

  merged_shows : (a b : AnyRow) → Same words a b → Shows stored a → Shows stored b → Shows stored (any_join a b)
  merged_shows (rows.Object a) (rows.Object b) same p q = objects_show a b (object_keys a b same) p q
  merged_shows (rows.Object a) (rows.Version b) same p q = q
  merged_shows (rows.Object a) (rows.Ref b) same p q = q
  merged_shows (rows.Version a) (rows.Object b) same p q = p
  merged_shows (rows.Version a) (rows.Version b) same p q = versions_show a b (version_ids a b same) p q
  merged_shows (rows.Version a) (rows.Ref b) same p q = q
  merged_shows (rows.Ref a) (rows.Object b) same p q = p
  merged_shows (rows.Ref a) (rows.Version b) same p q = p
  merged_shows (rows.Ref a) (rows.Ref b) same p q = references_show a b (ref_keys a b same) p q

  -- ---- changes of object rows

  -- what is older than a row's newest complete version is overwritten
  older_overwritten : (k : Hash32 × List ℕ) (r : ObjectRow) (v : Version) (n : Option Version) → object_key r ≡ k → Shows stored (rows.Object r) → IsNewest (HasState r) n → is_older version_cmp v n ≡ true → IsOverwritten stored k v
  older_overwritten k r v None same p is h = cc
  older_overwritten k r v (Some n) same p is h = record { newer = n; body = is.0.0; is_newer = h; complete = subst (λ k. WasStored stored k n (Complete is.0.0)) same (p n (Complete is.0.0) is.0.1) }

  joined_there : (x : State) (o : Option State) → option_join (larger state_cmp) (Some x) o ≡ None → ⊥
  joined_there x None e = cc
  joined_there x (Some y) e = cc

  lost_by : (old : Bool) (x : State) (o : Option State) → cond old None (option_join (larger state_cmp) (Some x) o) ≡ None → old ≡ true
  lost_by true x o e = refl
  lost_by false x o e = absurd (joined_there x o e)

  -- a version that a merge loses is overwritten
  lost_gone : (a b : ObjectRow) → Same words (rows.Object a) (rows.Object b) → Shows stored (rows.Object a) → Shows stored (rows.Object b) → (v : Version) → IsLost a (object_join a b) v → IsGone stored v.id
  lost_gone a b alike p q v l =
      let same = object_keys a b alike in
      let tied = ap (object_key_cmp (object_key a)) (sym same) ∙ tied_itself key_total (object_key a) in
      let at = sym (join-state a b tied v) ∙ l.is_out in
      let old : (is_older version_cmp v (newest a) || is_older version_cmp v (newest b)) ≡ true = lost_by _ l.state (state_at b v) (subst (λ o. cond (is_older version_cmp v (newest a) || is_older version_cmp v (newest b)) None (option_join (larger state_cmp) o (state_at b v)) ≡ None) l.was at) in
      record {
        key = object_key a;
        version = v;
        id_is = refl;
        state = l.state;
        was_stored = p v l.state l.was;
        why = inl (elim (either_true (is_older version_cmp v (newest a)) (is_older version_cmp v (newest b)) old) [
          | inl e ↦ older_overwritten (object_key a) a v (newest a) refl p (facts.newest_is a) e
          | inr e ↦ older_overwritten (object_key a) b v (newest b) (sym same) q (facts.newest_is b) e
        ]);
      }

  aborted_gone : (r : ObjectRow) → Shows stored (rows.Object r) → (v : Version) → HasState r v Aborted → IsGone stored v.id
  aborted_gone r p v h = let was = p v Aborted h in record { key = object_key r; version = v; id_is = refl; state = Aborted; was_stored = was; why = inr was }

  mapped : {X : Type 0} (Q : X → Type 0) (f : X → AnyRow) (xs : List X) → ((x : X) → Q x → Shows stored (f x)) → AllByRecursion Q xs → AllByRecursion (Shows stored) (map f xs)
  mapped Q f [] h a = tt
  mapped Q f (x ∷ xs) h a = (h x a.0, mapped Q f xs h a.1)

  any : {X : Type 0} (xs : List X) → AllByRecursion (λ x. Unit {0}) xs
  any [] = tt
  any (x ∷ xs) = (tt, any xs)

  objects_call : (a b : ObjectRow) → Same words (rows.Object a) (rows.Object b) → Shows stored (rows.Object a) → Shows stored (rows.Object b) → AllByRecursion (Shows stored) (map deleted_version (given_up a (object_join a b)))
  objects_call a b alike p q =
      mapped (λ (v : Version). IsGone stored v.id) deleted_version (given_up a (object_join a b)) (λ v is_gone. record { gone = λ h. is_gone; blocks = λ k x h. cc })
      (all_given a (object_join a b) (λ v. IsGone stored v.id) (lost_gone a b alike p q) (aborted_gone (object_join a b) (objects_show a b (object_keys a b alike) p q)))

  released_by : (a : VersionRow) (gone : Bool) → (gone ≡ true → IsGone stored a.id) → AllByRecursion (Shows stored) (map (deleted_reference a.id) (elim gone as (λ _. List Hash32) [ true ↦ hashes_of a | false ↦ [] ]))
  released_by a true h = mapped (λ _. Unit {0}) (deleted_reference a.id) (hashes_of a) (λ x u e. h refl) (any (hashes_of a))
  released_by a false h = tt

  versions_call : (a b : VersionRow) → Same words (rows.Version a) (rows.Version b) → Shows stored (rows.Version a) → Shows stored (rows.Version b) → AllByRecursion (Shows stored) (map (deleted_reference a.id) (released a (version_row_join a b)))
  versions_call a b alike p q =
      let same = version_ids a b alike in
      released_by a (is_deleted (version_row_join a b)) (λ h. subst (IsGone stored) (facts.version_id a b same) ((versions_show a b same p q).gone h))

  called_show : (a b : AnyRow) → Same words a b → Shows stored a → Shows stored b → AllByRecursion (Shows stored) (triggered a (any_join a b))
  called_show (rows.Object a) (rows.Object b) same p q = objects_call a b same p q
  called_show (rows.Object a) (rows.Version b) same p q = tt
  called_show (rows.Object a) (rows.Ref b) same p q = tt
  called_show (rows.Version a) (rows.Object b) same p q = any_version a p
    where
      any_version : (a : VersionRow) → Shows stored (rows.Version a) → AllByRecursion (Shows stored) (triggered (rows.Version a) (rows.Version a))
      any_version a p = released_by a (is_deleted a) p.gone
  called_show (rows.Version a) (rows.Version b) same p q = versions_call a b same p q
  called_show (rows.Version a) (rows.Ref b) same p q = tt
  called_show (rows.Ref a) (rows.Object b) same p q = tt
  called_show (rows.Ref a) (rows.Version b) same p q = tt
  called_show (rows.Ref a) (rows.Ref b) same p q = tt

  -- ---- rows that were stored

  no : {A : Type 0} (b : Bool) → not b ≡ true → b ≡ true → A
  no true h e = cc
  no false h e = cc

  stored_shows : (r : AnyRow) → Contains stored r → deletes_nothing r ≡ true → Shows stored r
  stored_shows (rows.Object r) c h = λ v x says. record { row = r; is_there = c; of_key = refl; says = says }
  stored_shows (rows.Version r) c h = record { gone = λ e. no (is_deleted r) h e; blocks = λ k x says. record { row = r; is_there = c; of_id = refl; says = says } }
  stored_shows (rows.Ref r) c h = λ e. no r.deleted.0 h e

  pub shows_by_origin : All (λ r. deletes_nothing r ≡ true) stored → (r : AnyRow) → ComesFrom any_join words stored r → Shows stored r
  shows_by_origin all r (ComesFrom.was_stored row c) = stored_shows row c (All-contains (λ r. deletes_nothing r ≡ true) stored row all c)
  shows_by_origin all r (ComesFrom.was_merged a b same x y) = merged_shows a b same (shows_by_origin all a x) (shows_by_origin all b y)
  shows_by_origin all r (ComesFrom.was_called_for old new row same x y c) =
      let rs = triggered old (any_join old new) in
      All-contains (Shows stored) rs row (All-from_recursion (Shows stored) rs (called_show old new same (shows_by_origin all old x) (shows_by_origin all new y))) c
