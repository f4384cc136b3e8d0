-- A version's row, read after its blocks' rows were kept, names all its blocks, or it is deleted, and then a version above was stored complete.
use Rattle.std.specs.Prelude.{◌≡◌, ◌≤◌, ◌<◌, ◌*◌, nat_lt, ℕ, zero, suc, Bool, true, false, ◌||◌, Option, Some, None, List, [], length, map, refl, ⊤}
use Rattle.std.proofs.Common.{ap, sym, subst, ◌∙◌, inl, inr, ◌⊎◌, lit<, le_refl, arith}
use Rattle.std.proofs.lemmas.Bool.{ltb-true, ltb-false}
use Rattle.std.proofs.lemmas.Nat.{mul-le}
use Rattle.std.specs.List.{Contains}
use Rattle.std.proofs.lemmas.List.Elements.{All-nil, All-contains, All-map}
use Rattle.std.specs.declared.cmp.Ord as ord
use Rattle.std.specs.declared.cmp.PartialEq as partial_eq
use Rattle.std.specs.declared.cmp.PartialOrd as partial_ord
use Rattle.std.specs.Ordering.{is_eq}
use Rattle.std.specs.Cmp.{tied_itself}
use Rattle.blake2_hash.specs.Hash.{digest_of}
use Rattle.crdt_core.specs.Order.{AtMost, option_join}
use Rattle.crdt_core.specs.declared.deletable.Deletable.TheVariants.{Present, Deleted}
use Rattle.crdt_core.proofs.JoinOrder.{order_laws, least_upper_bound, at_most_some}
use Rattle.crdt_rows.specs.declared.version.Version.{Version}
use Rattle.crdt_rows.specs.declared.body.Meta.{Meta}
use Rattle.crdt_rows.specs.declared.version_row.VersionRow.{VersionRow}
use Rattle.crdt_rows.specs.declared.any_row.AnyRow.{AnyRow}
use Rattle.crdt_rows.specs.declared.any_row.AnyRow.TheVariants as rows
use Rattle.crdt_rows.specs.AnyRow.{any_join}
use Rattle.crdt_rows.specs.RowLaws.{any_laws}
use Rattle.crdt_rows.specs.VersionRow.{gone, is_deleted, version_row_join}
use Rattle.crdt_rows.specs.declared.version_row.Part.{Part}
use Rattle.crdt_rows.specs.declared.version_row.BlockRef.{BlockRef}
use Rattle.crdt_core.specs.declared.max.Max.{Max}
use Rattle.crdt_core.specs.declared.map.Map.{Map}
use Rattle.crdt_core.specs.Map.{map_entries}
use Rattle.crdt_core.specs.declared.deletable.Deletable.{Deletable}
use Rattle.row_codec.specs.Spelling.{eight}
use Rattle.table_schema.specs.Laws.{Same}
use Rattle.table_model.specs.Rows.{row_at, is_at}
use Rattle.object_schema.specs.Schema.{words}
use Rattle.object_schema.specs.Laws.{eight_same, version_ids, apart}
use Rattle.object_schema.specs.Triggers.{triggered, deleted_version, deleted_reference, given_up, released}
use Rattle.cluster_machine.specs.Kept.{IsOver}
use Rattle.cluster_machine.specs.Node.{Question, read}
use Rattle.machine_origins.specs.Origins.{ComesFrom, stored_in}
use Rattle.machine_origins.proofs.ByOrigin.{IsInherited, has_by_origin}
use Rattle.object_origins.specs.Gone.{IsGone, IsOverwritten as Newer}
use Rattle.object_origins.specs.Shown.{ShowsVersion}
use Rattle.table_model.proofs.RowLaws.{place_total}
use Rattle.row_codec.specs.Range.{is_eight}
use Rattle.store_laws.proofs.Rows.{complete_row}
use Rattle.flow_model.specs.Blocks.{has_piece}
use Rattle.flow_model.specs.Rows.{version_row}
use Rattle.flow_model.specs.Says.{Named, whole, deleted, named_by, of_entries}
use Rattle.flow_laws.specs.Pieces.{merged_row, named_pieces}
use Rattle.flow_laws.proofs.Merged.{are_named}
use Rattle.store_model.specs.Run.{Moving, State, Draw}
use Rattle.store_laws.proofs.Objects.{Below as IsBelow, members_below}
use Rattle.store_laws.proofs.Sound.{IsSound}
use Rattle.store_laws.proofs.Reached.{reached_joined, reached_objects}
use Rattle.anchor_laws.proofs.References.{none_at}
use Rattle.store_anchors.proofs.Cited.{Cited}
use Rattle.store_laws.proofs.Rows.{IsKnown}
use Rattle.store_anchors.proofs.Fated.{OfVersion, IsFatedIn}
use Rattle.store_anchors.proofs.Kept.{Past, IsRowOf, announces, gives_up, completes, names, refers, IsFound, IsPassed}
use Rattle.store_anchors.proofs.Laid.{past, IsLaidIn, all_each}
use Rattle.store_anchors.proofs.Reading.{piece_there, each_stored, gave, shown, small}
use Rattle.store_anchors.proofs.Told.{was_drawn, AreApart, drawn_as, drawn_there, are_drawn, none_aborted, above_of}
use Rattle.store_laws.proofs.Deeds.{Deed}

-- ---- the rows of blocks are below what they merge to

rows_below : (id block : ℕ) (body : List ℕ) (i n : ℕ) → i ≤ n → AtMost any_join (version_row id block body i) (merged_row id block body n)
rows_below id block body i zero le =
    let first : i ≡ 0 = omega arith in
    subst (λ j. AtMost any_join (version_row id block body j) (merged_row id block body 0)) (sym first) (any_laws.idempotent (version_row id block body 0))
rows_below id block body i (suc n) le =
    elim (nat_lt i (suc n)) as (λ b. nat_lt i (suc n) ≡ b → AtMost any_join (version_row id block body i) (merged_row id block body (suc n))) [
      | true ↦ λ t.
          let low : i < suc n = ltb-true i (suc n) t in
          (order_laws any_laws).transitive (version_row id block body i) (merged_row id block body n) (merged_row id block body (suc n)) (rows_below id block body i n (omega arith))
          ((least_upper_bound any_laws (merged_row id block body n) (version_row id block body (suc n))).left)
      | false ↦ λ f.
          let high : suc n ≤ i = ltb-false i (suc n) f in
          let last : i ≡ suc n = omega arith in
          subst (λ j. AtMost any_join (version_row id block body j) (merged_row id block body (suc n))) (sym last) ((least_upper_bound any_laws (merged_row id block body n) (version_row id block body (suc n))).right)
    ] refl

-- what is above each of them is above that
merged_below : (id block : ℕ) (body : List ℕ) (n : ℕ) (row : AnyRow) → ((i : ℕ) → i ≤ n → AtMost any_join (version_row id block body i) row) → AtMost any_join (merged_row id block body n) row
merged_below id block body zero row each = each 0 (omega arith)
merged_below id block body (suc n) row each =
    (least_upper_bound any_laws (merged_row id block body n) (version_row id block body (suc n))).least row (merged_below id block body n row (λ i le. each i (omega (arith, le)))) (each (suc n) (omega arith))

or_true : (a : Bool) → (a || true) ≡ true
or_true true = refl
or_true false = refl

-- a deleted version row names no blocks
module _ {o : ord.Ghosts Part} {p : partial_eq.Ghosts Part} {q : partial_ord.Ghosts Part} where
  by_blocks : (d : Deletable (Map Part (Max BlockRef) o p q)) (size : ℕ) → gone d ≡ true → (elim d as (λ _. Named) [ Present m ↦ of_entries (map_entries m) size | Deleted ↦ deleted ]) ≡ deleted
  by_blocks (Present m) size e = cc
  by_blocks Deleted size e = refl

deleted_names : (r : VersionRow) (size : ℕ) → is_deleted r ≡ true → named_by (Some (rows.Version r)) size ≡ deleted
deleted_names r size e = by_blocks r.blocks size e

module _ {H : Deed → Type 0} where
  module _ (cited : Cited H) (moves : List Moving) (s : State) (sound : IsSound H s) (apart_draws : AreApart s.draws) (fated : IsFatedIn moves s) (laid : IsLaidIn H moves s) (v : Version) (meta : Meta) (found : IsFound (past moves s.world s.draws) v meta) where
    abbrev p : Past
    p = past moves s.world s.draws

    abbrev id : ℕ
    id = found.draw.version.id

    abbrev top : AnyRow
    top = merged_row id found.draw.block found.content.body found.last

    -- a version row of this version is deleted, or below what its blocks' rows merge to
    abbrev pub IsIn : VersionRow → Type 0
    IsIn r = (is_deleted r ≡ true) ⊎ AtMost any_join (rows.Version r) top

    abbrev pub IsWithin : AnyRow → Type 0
    IsWithin (rows.Version r) = eight r.id ≡ eight id → IsIn r
    IsWithin r = ⊤

    -- blocks up to the last one
    up_to : (i : ℕ) → has_piece found.draw.block found.content.body i ≡ true → i ≤ found.last
    up_to i has =
        elim (nat_lt found.last i) as (λ b. nat_lt found.last i ≡ b → i ≤ found.last) [
          | true ↦ λ t.
              let high : suc found.last ≤ i = (let lt : found.last < i = ltb-true found.last i t in omega arith) in
              let low : i * found.draw.block < length found.content.body = ltb-true (i * found.draw.block) (length found.content.body) has in
              let end : length found.content.body ≤ suc found.last * found.draw.block = ltb-false (suc found.last * found.draw.block) (length found.content.body) found.no_more in
              let grow : suc found.last * found.draw.block ≤ i * found.draw.block = mul-le (suc found.last) found.draw.block i found.draw.block high (le_refl found.draw.block) in
              absurd (omega (arith, low, end, grow))
          | false ↦ λ f. ltb-false found.last i f
        ] refl

    -- what was stored of the version is one of its blocks
    one_within : (row : AnyRow) → Contains (stored_in moves) row → OfVersion id row → AtMost any_join row top
    one_within row c of =
        let one = fated.pieces found.draw found.content found.long.drawn found.long.wish_is row c of in
        subst (λ (r : AnyRow). AtMost any_join r top) (sym one.2) (rows_below id found.draw.block found.content.body one.0 found.last (up_to one.0 one.1))

    stored_within : (row : AnyRow) → Contains (stored_in moves) row → IsWithin row
    stored_within row there = elim (each_stored cited moves s sound laid row there) [
      | announces d c is ↦ subst IsWithin (sym is) tt
      | gives_up d c is ↦ subst IsWithin (sym is) tt
      | completes d c known is all ↦ (let full = complete_row d.name d.version d.block d.wish in subst IsWithin (sym (is ∙ full.1)) tt)
      | names d offset bytes c is ↦ subst IsWithin (sym is) (λ key.
          let same : d.version.id ≡ id = eight_same d.version.id id (small cited moves s sound laid d c) (small cited moves s sound laid found.draw found.long.drawn) key in
          inr (subst (λ (r : AnyRow). AtMost any_join r top) is (one_within row there (subst (OfVersion id) (sym is) same))))
      | refers d bytes c is ↦ subst IsWithin (sym is) tt
    ]

    -- two that are so merge to one that is so
    both_in : (a b : VersionRow) → a.id ≡ b.id → IsIn a → IsIn b → IsIn (version_row_join a b)
    both_in a b ids (inl e) other = inl (cited.deleted a b ids ∙ ap (λ t. t || is_deleted b) e)
    both_in a b ids (inr low) (inl e) = inl (cited.deleted a b ids ∙ (ap (λ t. is_deleted a || t) e ∙ or_true (is_deleted a)))
    both_in a b ids (inr low) (inr other) = inr ((least_upper_bound any_laws (rows.Version a) (rows.Version b)).least top low other)

    joined_within : (a b : AnyRow) → Same words a b → IsWithin a → IsWithin b → IsWithin (any_join a b)
    joined_within (rows.Object a) (rows.Object b) same h k = tt
    joined_within (rows.Object a) (rows.Version b) same h k = k
    joined_within (rows.Object a) (rows.Ref b) same h k = tt
    joined_within (rows.Version a) (rows.Object b) same h k = h
    joined_within (rows.Version a) (rows.Version b) same h k = λ key.
        let ids : a.id ≡ b.id = version_ids a b same in
        let id_is : (version_row_join a b).id ≡ a.id = cited.id a b ids in
        let first : eight a.id ≡ eight id = ap eight (sym id_is) ∙ key in
        both_in a b ids (h first) (k (ap eight (sym ids) ∙ first))
    joined_within (rows.Version a) (rows.Ref b) same h k = tt
    joined_within (rows.Ref a) (rows.Object b) same h k = tt
    joined_within (rows.Ref a) (rows.Version b) same h k = tt
    joined_within (rows.Ref a) (rows.Ref b) same h k = tt

    called_within : (old new row : AnyRow) → Contains (triggered old new) row → IsWithin row
    called_within (rows.Object a) (rows.Object b) row c = All-contains IsWithin (map deleted_version (given_up a b)) row (All-map IsWithin deleted_version (given_up a b) (λ k d lt e. inl refl)) c
    called_within (rows.Version a) (rows.Version b) row c = All-contains IsWithin (map (deleted_reference a.id) (released a b)) row (All-map IsWithin (deleted_reference a.id) (released a b) (λ k d lt. tt)) c
    called_within (rows.Ref a) (rows.Ref b) row c = All-contains IsWithin [] row (All-nil IsWithin) c
    called_within a b row c = All-contains IsWithin [] row (All-nil IsWithin) c

    inherited : IsInherited any_join words IsWithin
    inherited = record { joined = joined_within; called_for = λ old new row h k c. called_within old new row c }

    within : (row : AnyRow) → ComesFrom any_join words (stored_in moves) row → IsWithin row
    within row from = has_by_origin IsWithin inherited (stored_in moves) (all_each IsWithin (stored_in moves) stored_within) row from

    -- ---- what a read of the version's row gave

    abbrev pub IsNamed : Option AnyRow → Type 0
    IsNamed value = (named_by value meta.size ≡ whole (named_pieces found.draw.block found.content.body 0 (suc found.last))) ⊎ ((named_by value meta.size ≡ deleted) × IsPassed p v.id)

    -- a deleted one is of a version that was overwritten
    passed : (r : VersionRow) → ComesFrom any_join words (stored_in moves) (rows.Version r) → eight r.id ≡ eight id → is_deleted r ≡ true → IsPassed p v.id
    passed r from key is =
        let stored : List AnyRow = stored_in moves in
        let each : (x : AnyRow) → Contains stored x → IsRowOf p x = each_stored cited moves s sound laid in
        let shows : ShowsVersion stored r = shown cited moves s sound laid (rows.Version r) from in
        let lost : IsGone stored r.id = shows.gone is in
        let other = was_drawn p stored each lost.key lost.version lost.state lost.was_stored in
        let r_small : is_eight r.id ≡ true = subst (λ k. is_eight k ≡ true) (ap (λ (x : Version). x.id) other.version ∙ lost.id_is) (small cited moves s sound laid other.draw other.drawn) in
        let same : r.id ≡ id = eight_same r.id id r_small (small cited moves s sound laid found.draw found.long.drawn) key in
        let d : Draw = found.draw in
        let newer : Newer stored (digest_of d.name.bucket, d.name.key) d.version =
        (elim (cited.overwritten stored (drawn_as s.draws) (are_drawn p stored each apart_draws) id (digest_of d.name.bucket, d.name.key) d.version (drawn_there s.draws apart_draws d found.long.drawn) (subst (IsGone stored) same lost)) [
          | inl newer ↦ newer
          | inr aborted ↦ absurd (none_aborted p stored each fated.never_both d found.long.drawn (subst IsKnown (sym found.long.wish_is) tt) aborted)
        ]) in
        let a = above_of p stored each d newer in
        record { draw = d; drawn = found.long.drawn; id_is = ap (λ (x : Version). x.id) found.version_is; above = record { newer = a.0; block = a.1; wished = a.2; above = a.3; was_stored = a.4 } }

    module _ (question : Question AnyRow) (table : question.table ≡ 2) (key : question.key ≡ eight v.id)
        (kept : (i : ℕ) → has_piece found.draw.block found.content.body i ≡ true → Contains question.kept (version_row id found.draw.block found.content.body i)) where
      version_named : (r : VersionRow) → ComesFrom any_join words (stored_in moves) (rows.Version r) → eight r.id ≡ eight id → AtMost any_join top (rows.Version r) → IsIn r → IsNamed (Some (rows.Version r))
      version_named r from same above (inl is) = inr (deleted_names r meta.size is, passed r from same is)
      version_named r from same above (inr below) =
          let row_is : rows.Version r ≡ top = (order_laws any_laws).antisymmetric (rows.Version r) top below above in
          let size_is : meta.size ≡ length found.content.body = ap (λ (m : Meta). m.size) found.meta_is in
          inl ((λ i. named_by (Some (row_is i)) (size_is i)) ∙ are_named id found.draw.block found.content.body found.last found.has_last found.no_more)

      row_named : (row : AnyRow) → ComesFrom any_join words (stored_in moves) row → words.table row ≡ 2 → words.key row ≡ eight id → AtMost any_join top row → IsNamed (Some row)
      row_named (rows.Object r) from t k above = apart 1 2 (lit< tt) t
      row_named (rows.Version r) from t k above = version_named r from k above (within (rows.Version r) from k)
      row_named (rows.Ref r) from t k above = apart 2 3 (lit< tt) (sym t)

      -- what was kept of each block's row is below what the read gave
      at_place : (i : ℕ) → is_at words 2 (eight id) (version_row id found.draw.block found.content.body i) ≡ true
      at_place i = ap is_eq (tied_itself place_total (2, eight id))

      over : (value : Option AnyRow) → Contains s.world.reads (read question value) → IsOver any_join words value (row_at any_join words question.kept 2 (eight id))
      over value c =
          let keeps = reached_joined cited.every s.world laid.reached cited.clear (read question value) c in
          let none : row_at any_join words s.world.collected question.table question.key ≡ None =
          none_at question.table question.key s.world.collected (λ one. apart 1 2 (lit< tt) (sym one ∙ table)) (reached_objects cited.every s.world laid.reached) in
          let given : IsOver any_join words value (row_at any_join words question.kept question.table question.key) =
          subst (λ (o : Option AnyRow). IsOver any_join words (option_join any_join o value) (row_at any_join words question.kept question.table question.key)) none keeps in
          let key_is : question.key ≡ eight id = key ∙ ap (λ (x : Version). eight x.id) (sym found.version_is) in
          subst (λ (i : List ℕ). IsOver any_join words value (row_at any_join words question.kept 2 i)) key_is
          (subst (λ (t : ℕ). IsOver any_join words value (row_at any_join words question.kept t question.key)) table given)

      rows_there : (i : ℕ) → i ≤ found.last → AtMost (option_join any_join) (Some (version_row id found.draw.block found.content.body i)) (row_at any_join words question.kept 2 (eight id))
      rows_there i le =
          let x : AnyRow = version_row id found.draw.block found.content.body i in
          All-contains (IsBelow 2 (eight id) question.kept) question.kept x (members_below 2 (eight id) question.kept) (kept i (piece_there found.draw.block found.content.body found.last i found.has_last le)) (at_place i)

      by_value : (value at : Option AnyRow) → IsOver any_join words value at → ((i : ℕ) → i ≤ found.last → AtMost (option_join any_join) (Some (version_row id found.draw.block found.content.body i)) at) → Contains s.world.reads (read question value) → IsNamed value
      by_value None None over low c = let no : Some (version_row id found.draw.block found.content.body 0) ≡ None = low 0 (omega arith) in cc
      by_value (Some row) None over low c = let no : Some (version_row id found.draw.block found.content.body 0) ≡ None = low 0 (omega arith) in cc
      by_value None (Some at) over low c = absurd over
      by_value (Some row) (Some at) over low c =
          let from = gave cited moves s sound laid question row c in
          let above : AtMost any_join top row =
          merged_below id found.draw.block found.content.body found.last row
          (λ i le. (order_laws any_laws).transitive (version_row id found.draw.block found.content.body i) at row (at_most_some any_join (version_row id found.draw.block found.content.body i) at (low i le)) over) in
          row_named row from.0 (from.1 ∙ table) (from.2 ∙ (key ∙ ap (λ (x : Version). eight x.id) (sym found.version_is))) above

      pub named : (value : Option AnyRow) → Contains s.world.reads (read question value) → IsNamed value
      named value c = by_value value (row_at any_join words question.kept 2 (eight id)) (over value c) rows_there c
