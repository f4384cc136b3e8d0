-- Object rows all of whose versions are earlier than one that is written: that one takes their place, and the changes up to it call for the ends of these alone.
use Rattle.std.proofs.Common.{◌≡◌, ◌⊎◌, ℕ, true, false, Option, Some, None, List, [], ◌∷◌, ◌++◌, option_map, filter, map, refl, sym, ap, ap₂, ◌∙◌, subst, inl, inr}
use Rattle.std.specs.Prelude.{⊤, is_none}
use Rattle.std.specs.List.{AllByRecursion}
use Rattle.std.specs.Ordering.{is_gt, is_lt}
use Rattle.std.specs.declared.cmp.Ordering.{Ordering}
use Rattle.std.specs.declared.cmp.Ordering.TheVariants.{Less, Equal, Greater}
use Rattle.std.specs.Cmp.{tied_itself}
use Rattle.std.proofs.lemmas.Option.{same_Some}
use Rattle.blake2_hash.specs.declared.digest.Hash32.{Hash32}
use Rattle.blake2_hash.specs.Hash.{digest_of}
use Rattle.crdt_core.specs.declared.max.Max.{Max}
use Rattle.crdt_core.specs.Entries.{value_at}
use Rattle.crdt_core.specs.EntryLaws.{and_both}
use Rattle.crdt_core.specs.Lex.{by_order}
use Rattle.crdt_core.specs.LexLaws.{turned}
use Rattle.crdt_core.specs.Map.{map_entries, map_get, map_single}
use Rattle.crdt_rows.specs.declared.version.Version.{Version}
use Rattle.crdt_rows.specs.declared.body.Body.{Body}
use Rattle.crdt_rows.specs.declared.state.State.{State}
use Rattle.crdt_rows.specs.declared.state.State.TheVariants.{Uploading, Aborted, Complete}
use Rattle.crdt_rows.specs.declared.object_row.ObjectRow.{ObjectRow}
use Rattle.crdt_rows.specs.declared.any_row.AnyRow.{AnyRow}
use Rattle.crdt_rows.specs.declared.any_row.AnyRow.TheVariants as rows
use Rattle.crdt_rows.specs.Facts.{HasState, IsSaid, IsCurrent, IsObjectJoin}
use Rattle.crdt_rows.specs.FieldLaws.{version_total, version_identical}
use Rattle.crdt_rows.specs.ObjectRow.{object_key, object_join, state_at}
use Rattle.crdt_rows.specs.ObjectRowLaws.{object_laws}
use Rattle.crdt_rows.specs.State.{state_cmp, is_sized}
use Rattle.crdt_rows.specs.StateLaws.{state_total}
use Rattle.crdt_rows.specs.Version.{version_cmp}
use Rattle.crdt_rows.proofs.ObjectFacts.{held, facts_joined, key_joined, facts_decide}
use Rattle.object_schema.specs.Schema.{words}
use Rattle.object_schema.specs.Triggers.{has_blocks, is_lost, is_newly_aborted, versions_that, given_up, deleted_version}
use Rattle.object_origins.proofs.Given.{IsLost, all_given}
use Rattle.flow_model.specs.declared.flow.Name.{Name}
use Rattle.flow_model.specs.Rows.{settled, sized}
use Rattle.drained_laws.specs.Waiting.{Has}
use Rattle.drained_laws.proofs.Drained.{filter_has}
use Rattle.drained_laws.proofs.Waits.{some_left, all_mapped}
use Rattle.plain_laws.proofs.InOrder.{mapped, each_in_order}

-- what a row says of a version; only an object's row says anything
abbrev pub Says : Option AnyRow → Version → State → Type 0
Says (Some (rows.Object r)) v s = HasState r v s
Says o v s = ⊥

-- by what the row of an object is known
abbrev pub own_key : Name → Hash32 × List ℕ
own_key name = (digest_of name.bucket, name.key)

one_answer : {A : Type 0} (x y : Option A) → ((s : A) → x ≡ Some s → y ≡ Some s) → ((s : A) → y ≡ Some s → x ≡ Some s) → x ≡ y
one_answer None None to from = refl
one_answer None (Some b) to from = from b refl
one_answer (Some a) y to from = sym (to a refl)

pub same_state : (s : State) → is_gt (state_cmp s s) ≡ false
same_state s = ap is_gt (tied_itself state_total s)

pub one_state : (r : ObjectRow) (v : Version) (s t : State) → HasState r v s → HasState r v t → s ≡ t
one_state r v s t h k = same_Some s t (sym h ∙ k)

-- what a row says is what it says joined with itself
pub own_facts : (r : ObjectRow) → IsObjectJoin (HasState r) (HasState r) (HasState r)
own_facts r = subst (λ (x : ObjectRow). IsObjectJoin (HasState r) (HasState r) (HasState x)) (object_laws.idempotent r) (facts_joined r r refl)

-- an earlier version isn't this one
pub not_less : {A : Type 0} (u v : Version) → version_cmp u v ≡ Less → u ≡ v → A
not_less u v less same = let no : Less ≡ Equal = sym less ∙ (ap (λ x. version_cmp x v) same ∙ tied_itself version_total v) in absurd (cc)

-- ---- one version alone

module _ (name : Name) (v : Version) (state : State) (fits : is_sized state ≡ true) where
  -- the row that says of this version alone, in which state it is
  abbrev pub with_one : ObjectRow
  with_one = record {
    bucket = digest_of name.bucket;
    key = name.key;
    versions = map_single v (record { 0 = state });
    settled = settled v state;
    sized = sized v state fits;
  }

  pub says_own : HasState with_one v state
  says_own = rw (tied_itself version_total v) refl

  alone_by : (u : Version) (s : State) (o : Ordering) → version_cmp u v ≡ o → option_map (λ (m : Max State). m.0) (by_order o None (Some (record { 0 = state })) None) ≡ Some s → (u ≡ v) × (s ≡ state)
  alone_by u s Less e h = absurd (cc)
  alone_by u s Equal e h = (version_identical u v e, sym (same_Some state s h))
  alone_by u s Greater e h = absurd (cc)

  pub alone : (u : Version) (s : State) → HasState with_one u s → (u ≡ v) × (s ≡ state)
  alone u s h = alone_by u s (version_cmp u v) refl h

  pub not_there : (u : Version) → version_cmp u v ≡ Less → state_at with_one u ≡ None
  not_there u less = ap (λ o. option_map (λ (m : Max State). m.0) (by_order o None (Some (record { 0 = state })) None)) less

-- ---- rows with earlier versions alone

-- the object's row, each of whose versions is one of these and earlier than this one
pub record IsPast (name : Name) (version : Version) (Was : Version → Type 0) (r : ObjectRow) : Type 0 where
  pub key : object_key r ≡ own_key name
  pub was : (u : Version) (s : State) → HasState r u s → Was u
  pub less : (u : Version) (s : State) → HasState r u s → version_cmp u version ≡ Less

-- such a row, if any
abbrev pub ArePast : Name → Version → (Version → Type 0) → Option AnyRow → Type 0
ArePast name version Was None = ⊤
ArePast name version Was (Some (rows.Object r)) = IsPast name version Was r
ArePast name version Was (Some other) = ⊥

-- the ends of versions' rows
pub ends_of_versions : (Was : Version → Type 0) (Gone : AnyRow → Type 0) → ((u : Version) → Was u → Gone (deleted_version u)) → (vs : List Version) → AllByRecursion Was vs → AllByRecursion Gone (map deleted_version vs)
ends_of_versions Was Gone gone vs all = all_mapped deleted_version Was Gone gone vs all

module _ (name : Name) (version : Version) (body : Body) (fits : is_sized (Complete body) ≡ true) where
  abbrev begun : ObjectRow
  begun = with_one name version Uploading refl

  abbrev whole : ObjectRow
  whole = with_one name version (Complete body) fits

  -- a row that says of an earlier version isn't the whole one
  pub not_whole : (r : ObjectRow) (u : Version) (s : State) → HasState r u s → version_cmp u version ≡ Less → rows.Object r ≡ rows.Object whole → ⊥
  not_whole r u s h less e =
      let said : Says (Some (rows.Object whole)) u s = subst (λ (x : AnyRow). Says (Some x) u s) e h in
      not_less u version less (alone name version (Complete body) fits u s said).0

  module _ (Was : Version → Type 0) (r : ObjectRow) (past : IsPast name version Was r) where
    abbrev pub mixed : ObjectRow
    mixed = object_join r begun

    not_said : {A : Type 0} (u : Version) (s : State) → u ≡ version → HasState r u s → A
    not_said u s same h = not_less u version (past.less u s h) same

    -- ---- the whole version comes

    joined_whole : IsObjectJoin (HasState r) (HasState whole) (HasState (object_join r whole))
    joined_whole = facts_joined r whole past.key

    to_whole : (u : Version) (s : State) → HasState (object_join r whole) u s → HasState whole u s
    to_whole u s h =
        let parts = (joined_whole u s).0 h in
        elim parts.0.0 [
          | inl p ↦ (let no : true ≡ false = ap is_lt (sym (past.less u s p)) ∙ parts.1 version body (inr (says_own name version (Complete body) fits)) in absurd (cc))
          | inr p ↦ p
        ]

    from_whole : (u : Version) (s : State) → HasState whole u s → HasState (object_join r whole) u s
    from_whole u s h = (joined_whole u s).1 ((inr h, greatest), current)
      where
        own : u ≡ version
        own = (alone name version (Complete body) fits u s h).0

        greatest : (y : State) → IsSaid (HasState r) (HasState whole) u y → is_gt (state_cmp y s) ≡ false
        greatest y (inl p) = not_said u y own p
        greatest y (inr p) = subst (λ (x : State). is_gt (state_cmp x s) ≡ false) (sym (one_state whole u y s p h)) (same_state s)

        current : IsCurrent (HasState r) (HasState whole) u
        current w b (inl p) = ap (λ (x : Version). is_lt (version_cmp x w)) own ∙ ap is_lt (turned version_total w version Less (past.less w (Complete b) p))
        current w b (inr p) = ap₂ (λ (x y : Version). is_lt (version_cmp x y)) own (alone name version (Complete body) fits w (Complete b) p).0 ∙ ap is_lt (tied_itself version_total version)

    pub whole_takes : object_join r whole ≡ whole
    whole_takes = facts_decide (object_join r whole) whole (key_joined r whole past.key ∙ past.key) (λ u. one_answer (state_at (object_join r whole) u) (state_at whole u) (to_whole u) (from_whole u))

    -- ---- an upload of it begins

    joined_begun : IsObjectJoin (HasState r) (HasState begun) (HasState mixed)
    joined_begun = facts_joined r begun past.key

    pub mixed_said : (u : Version) (s : State) → HasState mixed u s → HasState r u s ⊎ HasState begun u s
    mixed_said u s h = ((joined_begun u s).0 h).0.0

    pub mixed_keeps : (u : Version) (s : State) → HasState r u s → HasState mixed u s
    mixed_keeps u s h = (joined_begun u s).1 ((inl h, greatest), current)
      where
        greatest : (y : State) → IsSaid (HasState r) (HasState begun) u y → is_gt (state_cmp y s) ≡ false
        greatest y (inl p) = subst (λ (x : State). is_gt (state_cmp x s) ≡ false) (sym (one_state r u y s p h)) (same_state s)
        greatest y (inr p) = not_said u s (alone name version Uploading refl u y p).0 h

        current : IsCurrent (HasState r) (HasState begun) u
        current w b (inl p) = ((own_facts r u s).0 h).1 w b (inl p)
        current w b (inr p) = let no : Complete b ≡ Uploading = (alone name version Uploading refl w (Complete b) p).1 in absurd (cc)

    -- ---- what these changes call for

    to_whole_gives : (old : ObjectRow) → ((u : Version) (s : State) → HasState old u s → Was u ⊎ (u ≡ version)) → AllByRecursion Was (given_up old whole)
    to_whole_gives old said = all_given old whole Was lost (λ u h. let no : Aborted ≡ Complete body = (alone name version (Complete body) fits u Aborted h).1 in absurd (cc))
      where
        lost : (u : Version) → IsLost old whole u → Was u
        lost u is = elim (said u is.state is.was) [
          | inl was ↦ was
          | inr own ↦ (let no : None ≡ Some (Complete body) = sym is.is_out ∙ (ap (state_at whole) own ∙ says_own name version (Complete body) fits) in absurd (cc))
        ]

    pub whole_gives : AllByRecursion Was (given_up r whole)
    whole_gives = to_whole_gives r (λ u s h. inl (past.was u s h))

    pub completing_gives : AllByRecursion Was (given_up mixed whole)
    completing_gives = to_whole_gives mixed (λ u s h. elim (mixed_said u s h) [ inl p ↦ inl (past.was u s p) | inr p ↦ inr (alone name version Uploading refl u s p).0 ])

    aborted_was : (u : Version) → HasState mixed u Aborted → Was u
    aborted_was u h = elim (mixed_said u Aborted h) [
      | inl p ↦ past.was u Aborted p
      | inr p ↦ (let no : Aborted ≡ Uploading = (alone name version Uploading refl u Aborted p).1 in absurd (cc))
    ]

    pub beginning_gives : AllByRecursion Was (given_up r mixed)
    beginning_gives = all_given r mixed Was (λ u is. past.was u is.state is.was) aborted_was

    pub again_gives : AllByRecursion Was (given_up mixed mixed)
    again_gives = all_given mixed mixed Was (λ u is. let no : None ≡ Some is.state = sym is.is_out ∙ is.was in absurd (cc)) aborted_was

-- ---- a version that may have blocks, and that a change loses, is ended

there_by : (v : Version) (m : Max State) (x : Version × Max State) (xs : List (Version × Max State)) → (value_at version_cmp v xs ≡ Some m → Has xs (v, m)) → (o : Ordering) → version_cmp v x.0 ≡ o → by_order o None (Some x.1) (value_at version_cmp v xs) ≡ Some m → Has (x ∷ xs) (v, m)
there_by v m x xs rest Less is h = absurd (cc)
there_by v m x xs rest Equal is h = inl (ap₂ (λ (a : Version) (b : Max State). (a, b)) (sym (version_identical v x.0 is)) (same_Some x.1 m h))
there_by v m x xs rest Greater is h = inr (rest h)

value_there : (v : Version) (m : Max State) (es : List (Version × Max State)) → value_at version_cmp v es ≡ Some m → Has es (v, m)
value_there v m [] e = absurd (cc)
value_there v m (x ∷ xs) e = there_by v m x xs (value_there v m xs) (version_cmp v x.0) refl e

-- a row has an entry for what it says
pub entry_there : (r : ObjectRow) (v : Version) (s : State) → HasState r v s → Has (map_entries r.versions) (v, record { 0 = s })
entry_there r v s h = value_there v (record { 0 = s }) (map_entries r.versions) (held (map_get r.versions v) s h)

pub lost_ends : (old new : ObjectRow) (v : Version) (s : State) → HasState old v s → has_blocks s ≡ true → state_at new v ≡ None → Has (words.triggered (rows.Object old) (rows.Object new)) (deleted_version v)
lost_ends old new v s h blocks out =
    let e : Version × Max State = (v, record { 0 = s }) in
    let es : List (Version × Max State) = map_entries old.versions in
    let passes : is_lost new e ≡ true = and_both (has_blocks s) (is_none (state_at new v)) blocks (ap (λ o. is_none o) out) in
    let there : Has (versions_that (is_lost new) es) v = mapped (λ (e : Version × Max State). e.0) (filter (is_lost new) es) e (filter_has (is_lost new) es e passes (entry_there old v s h)) in
    let others = versions_that (is_newly_aborted old) (map_entries new.versions) in
    mapped deleted_version (given_up old new) v
    (each_in_order version_cmp version_identical (versions_that (is_lost new) es ++ others) v (some_left (λ y. y ≡ v) (versions_that (is_lost new) es) others there))
