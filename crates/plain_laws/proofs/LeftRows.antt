-- Rows of an object while an upload of it is given up: what they merge to, and that the change calls for the end of the version's row.
use Rattle.std.proofs.Common.{◌≡◌, ◌⊎◌, true, false, Option, Some, None, [], ◌∷◌, refl, sym, ap, ◌∙◌, subst, inl, inr}
use Rattle.std.specs.List.{AllByRecursion}
use Rattle.std.specs.Cmp.{tied_itself}
use Rattle.std.specs.Ordering.{is_gt, is_lt}
use Rattle.std.specs.declared.cmp.Ordering.TheVariants.{Less, Equal}
use Rattle.crdt_core.specs.Laws.{JoinLaws}
use Rattle.crdt_core.specs.LexLaws.{turned}
use Rattle.crdt_core.specs.Map.{map_join}
use Rattle.crdt_core.specs.MapLaws.{same_map, map_join-entries}
use Rattle.crdt_core.specs.Max.{max_join}
use Rattle.crdt_core.specs.Order.{option_join}
use Rattle.crdt_core.specs.OrderLaws.{option_laws}
use Rattle.crdt_rows.specs.declared.version.Version.{Version}
use Rattle.crdt_rows.specs.declared.body.Body.{Body}
use Rattle.crdt_rows.specs.declared.state.State.{State}
use Rattle.crdt_rows.specs.declared.state.State.TheVariants.{Uploading, Aborted, Complete}
use Rattle.crdt_rows.specs.declared.object_row.ObjectRow.{ObjectRow}
use Rattle.crdt_rows.specs.declared.any_row.AnyRow.{AnyRow}
use Rattle.crdt_rows.specs.declared.any_row.AnyRow.TheVariants as rows
use Rattle.crdt_rows.specs.AnyRow.{any_join}
use Rattle.crdt_rows.specs.Facts.{HasState, IsSaid, IsCurrent, IsObjectJoin}
use Rattle.crdt_rows.specs.FieldLaws.{version_total}
use Rattle.crdt_rows.specs.Newest.{later}
use Rattle.crdt_rows.specs.ObjectRow.{object_key, object_key_cmp, newest, state_at, object_join}
use Rattle.crdt_rows.specs.ObjectRowLaws.{key_total, same_row}
use Rattle.crdt_rows.specs.RowLaws.{any_laws}
use Rattle.crdt_rows.specs.Settled.{kept_map}
use Rattle.crdt_rows.specs.State.{state_cmp, is_sized}
use Rattle.crdt_rows.specs.Version.{version_cmp}
use Rattle.crdt_rows.proofs.ObjectJoin.{join-bucket, join-key, join-versions}
use Rattle.object_schema.specs.Schema.{words}
use Rattle.object_schema.specs.Triggers.{is_aborted, deleted_version}
use Rattle.cluster_machine.specs.Rows.{called_for}
use Rattle.flow_model.specs.declared.flow.Name.{Name}
use Rattle.flow_model.specs.Rows.{uploading, aborted}
use Rattle.drained_laws.specs.Waiting.{Has as IsIn}
use Rattle.plain_laws.proofs.Lost.{all_called, aborted_called, none_called, same_none}
use Rattle.crdt_rows.proofs.ObjectFacts.{facts_joined}
use Rattle.plain_laws.proofs.Past.{with_one, says_own, alone, same_state, one_state, own_facts, not_less, IsPast, ArePast}

-- ---- a row of earlier versions, and a later one that isn't complete

module _ (name : Name) (version : Version) (Was : Version → Type 0) (r : ObjectRow) (past : IsPast name version Was r) (state : State) (fits : is_sized state ≡ true) (incomplete : (body : Body) → Complete body ≡ state → ⊥) where
  abbrev one : ObjectRow
  one = with_one name version state fits

  abbrev joint : ObjectRow
  joint = object_join r one

  joined : IsObjectJoin (HasState r) (HasState one) (HasState joint)
  joined = facts_joined r one past.key

  -- each of them stays
  says_on : (u : Version) (s : State) → HasState r u s → HasState joint u s
  says_on u s h = (joined u s).1 ((inl h, greatest), current)
    where
      greatest : (y : State) → IsSaid (HasState r) (HasState one) u y → is_gt (state_cmp y s) ≡ false
      greatest y (inl p) = subst (λ (x : State). is_gt (state_cmp x s) ≡ false) (sym (one_state r u y s p h)) (same_state s)
      greatest y (inr p) = not_less u version (past.less u s h) (alone name version state fits u y p).0

      current : IsCurrent (HasState r) (HasState one) u
      current w b (inl p) = ((own_facts r u s).0 h).1 w b (inl p)
      current w b (inr p) = absurd (incomplete b (alone name version state fits w (Complete b) p).1)

  -- and the later one is there
  says_one : HasState joint version state
  says_one = (joined version state).1 ((inr (says_own name version state fits), greatest), current)
    where
      greatest : (y : State) → IsSaid (HasState r) (HasState one) version y → is_gt (state_cmp y state) ≡ false
      greatest y (inl p) = not_less version version (past.less version y p) refl
      greatest y (inr p) = subst (λ (x : State). is_gt (state_cmp x state) ≡ false) (sym (alone name version state fits version y p).1) (same_state state)

      current : IsCurrent (HasState r) (HasState one) version
      current w b (inl p) = ap is_lt (turned version_total w version Less (past.less w (Complete b) p))
      current w b (inr p) = absurd (incomplete b (alone name version state fits w (Complete b) p).1)

  -- there is nothing else
  says_back : (u : Version) (s : State) → HasState joint u s → HasState r u s ⊎ ((u ≡ version) × (s ≡ state))
  says_back u s h = elim ((joined u s).0 h).0.0 [ inl p ↦ inl p | inr p ↦ inr (alone name version state fits u s p) ]

-- neither an upload that has begun nor one that is given up is complete
not_uploading : (body : Body) → Complete body ≡ Uploading → ⊥
not_uploading body e = cc

not_aborted : (body : Body) → Complete body ≡ Aborted → ⊥
not_aborted body e = cc

-- a row in which a version was being uploaded, and one in which it is given up, where both have the other versions
module _ (version : Version) (old new : ObjectRow) (was : HasState old version Uploading) (is : HasState new version Aborted) (stays : (v : Version) (s : State) → HasState old v s → (v ≡ version) ⊎ HasState new v s)
    (back : (v : Version) → HasState new v Aborted → (v ≡ version) ⊎ HasState old v Aborted) where
  -- the change calls for the end of the version's row alone
  ends_alone : AllByRecursion (λ (r : AnyRow). r ≡ deleted_version version) (words.triggered (rows.Object old) (rows.Object new))
  ends_alone =
      all_called old new (λ (r : AnyRow). r ≡ deleted_version version)
      (λ v s had blocks out. elim (stays v s had) [
        | inl e ↦ ap deleted_version e
        | inr on ↦ (let wrong : None ≡ Some s = sym out ∙ on in absurd (cc))
      ])
      (λ v has other. elim (back v has) [
        | inl e ↦ ap deleted_version e
        | inr before ↦ (let wrong : true ≡ false = sym (ap (λ (o : Option State). is_aborted o) before) ∙ other in absurd (cc))
      ])

  ends_it : IsIn (words.triggered (rows.Object old) (rows.Object new)) (deleted_version version)
  ends_it = aborted_called old new version is (ap (λ (o : Option State). is_aborted o) was)

module _ (name : Name) (version : Version) where
  abbrev begun_row : ObjectRow
  begun_row = with_one name version Uploading refl

  abbrev given_row : ObjectRow
  given_row = with_one name version Aborted refl

  abbrev pub U : AnyRow
  U = uploading name version

  abbrev pub A : AnyRow
  A = aborted name version

  -- what a node has that had this, where the upload has begun, and where it is given up
  abbrev pub begun_over : Option AnyRow → Option AnyRow
  begun_over value = option_join any_join value (Some U)

  abbrev pub given_over : Option AnyRow → Option AnyRow
  given_over value = option_join any_join value (Some A)

  -- that it is given up takes the place of that it has begun
  aborts : any_join U A ≡ A
  aborts =
      let tied : object_key_cmp (object_key begun_row) (object_key given_row) ≡ Equal = tied_itself key_total (object_key begun_row) in
      let same : version_cmp version version ≡ Equal = tied_itself version_total version in
      let m = map_join (max_join state_cmp) begun_row.versions given_row.versions in
      let latest : later version_cmp (newest begun_row) (newest given_row) ≡ None = refl in
      let both : m.entries ≡ (version, record { 0 = Aborted }) ∷ [] = map_join-entries version_total (max_join state_cmp) begun_row.versions given_row.versions ∙ rw same refl in
      let versions : (object_join begun_row given_row).versions ≡ given_row.versions = join-versions begun_row given_row tied ∙ (ap (λ o. kept_map o m) latest ∙ same_map m given_row.versions both) in
      ap rows.Object (same_row (object_join begun_row given_row) given_row (join-bucket begun_row given_row tied) (join-key begun_row given_row tied) versions)

  laws : JoinLaws (option_join any_join)
  laws = option_laws any_laws

  pub begun_twice : (value : Option AnyRow) → option_join any_join (begun_over value) (Some U) ≡ begun_over value
  begun_twice value = laws.associative value (Some U) (Some U) ∙ ap (option_join any_join value) (laws.idempotent (Some U))

  pub begun_given : (value : Option AnyRow) → option_join any_join (begun_over value) (Some A) ≡ given_over value
  begun_given value = laws.associative value (Some U) (Some A) ∙ ap (option_join any_join value) (ap Some aborts)

  pub given_twice : (value : Option AnyRow) → option_join any_join (given_over value) (Some A) ≡ given_over value
  given_twice value = laws.associative value (Some A) (Some A) ∙ ap (option_join any_join value) (laws.idempotent (Some A))

  -- ---- what the changes call for

  module _ (Was : Version → Type 0) where
    -- nothing where the upload begins
    pub begins_quietly : (value : Option AnyRow) → ArePast name version Was value → called_for any_join words value (begun_over value) ≡ []
    begins_quietly None past = refl
    begins_quietly (Some (rows.Object r)) past =
        none_called r (object_join r begun_row) (λ v s was out. (let wrong : None ≡ Some s = sym out ∙ says_on name version Was r past Uploading refl not_uploading v s was in cc))
        (λ v is other. elim (says_back name version Was r past Uploading refl not_uploading v Aborted is) [
          | inl was ↦ (let wrong : true ≡ false = sym (ap (λ (o : Option State). is_aborted o) was) ∙ other in cc)
          | inr new ↦ (let wrong : Aborted ≡ Uploading = new.1 in cc)
        ])
    begins_quietly (Some (rows.Version r)) past = absurd past
    begins_quietly (Some (rows.Ref r)) past = absurd past

    -- nor where nothing changes
    pub begun_quietly : (value : Option AnyRow) → ArePast name version Was value → called_for any_join words (begun_over value) (begun_over value) ≡ []
    begun_quietly None past = same_none begun_row
    begun_quietly (Some (rows.Object r)) past = same_none (object_join r begun_row)
    begun_quietly (Some (rows.Version r)) past = absurd past
    begun_quietly (Some (rows.Ref r)) past = absurd past

    pub given_quietly : (value : Option AnyRow) → ArePast name version Was value → called_for any_join words (given_over value) (given_over value) ≡ []
    given_quietly None past = same_none given_row
    given_quietly (Some (rows.Object r)) past = same_none (object_join r given_row)
    given_quietly (Some (rows.Version r)) past = absurd past
    given_quietly (Some (rows.Ref r)) past = absurd past

    -- beside what was there
    module _ (r : ObjectRow) (past : IsPast name version Was r) where
      beside_begun : HasState (object_join r begun_row) version Uploading
      beside_begun = says_one name version Was r past Uploading refl not_uploading

      beside_given : HasState (object_join r given_row) version Aborted
      beside_given = says_one name version Was r past Aborted refl not_aborted

      beside_stays : (v : Version) (s : State) → HasState (object_join r begun_row) v s → (v ≡ version) ⊎ HasState (object_join r given_row) v s
      beside_stays v s h = elim (says_back name version Was r past Uploading refl not_uploading v s h) [ inl had ↦ inr (says_on name version Was r past Aborted refl not_aborted v s had) | inr new ↦ inl new.0 ]

      beside_back : (v : Version) → HasState (object_join r given_row) v Aborted → (v ≡ version) ⊎ HasState (object_join r begun_row) v Aborted
      beside_back v h = elim (says_back name version Was r past Aborted refl not_aborted v Aborted h) [ inl had ↦ inr (says_on name version Was r past Uploading refl not_uploading v Aborted had) | inr new ↦ inl new.0 ]

    -- and alone
    alone_stays : (v : Version) (s : State) → HasState begun_row v s → (v ≡ version) ⊎ HasState given_row v s
    alone_stays v s h = inl (alone name version Uploading refl v s h).0

    alone_back : (v : Version) → HasState given_row v Aborted → (v ≡ version) ⊎ HasState begun_row v Aborted
    alone_back v h = inl (alone name version Aborted refl v Aborted h).0

    -- the end of the version's row where the upload is given up, and nothing else
    pub gives_up_alone : (value : Option AnyRow) → ArePast name version Was value → AllByRecursion (λ (r : AnyRow). r ≡ deleted_version version) (called_for any_join words (begun_over value) (given_over value))
    gives_up_alone None past = ends_alone version begun_row given_row (says_own name version Uploading refl) (says_own name version Aborted refl) alone_stays alone_back
    gives_up_alone (Some (rows.Object r)) past = ends_alone version (object_join r begun_row) (object_join r given_row) (beside_begun r past) (beside_given r past) (beside_stays r past) (beside_back r past)
    gives_up_alone (Some (rows.Version r)) past = absurd past
    gives_up_alone (Some (rows.Ref r)) past = absurd past

    pub gives_it_up : (value : Option AnyRow) → ArePast name version Was value → IsIn (called_for any_join words (begun_over value) (given_over value)) (deleted_version version)
    gives_it_up None past = ends_it version begun_row given_row (says_own name version Uploading refl) (says_own name version Aborted refl) alone_stays alone_back
    gives_it_up (Some (rows.Object r)) past = ends_it version (object_join r begun_row) (object_join r given_row) (beside_begun r past) (beside_given r past) (beside_stays r past) (beside_back r past)
    gives_it_up (Some (rows.Version r)) past = absurd past
    gives_it_up (Some (rows.Ref r)) past = absurd past

    -- both rows differ
    abbrev state_of : Option AnyRow → Option State
    state_of (Some (rows.Object r)) = state_at r version
    state_of other = None

    state_begun : (value : Option AnyRow) → ArePast name version Was value → state_of (begun_over value) ≡ Some Uploading
    state_begun None past = says_own name version Uploading refl
    state_begun (Some (rows.Object r)) past = beside_begun r past
    state_begun (Some (rows.Version r)) past = absurd past
    state_begun (Some (rows.Ref r)) past = absurd past

    state_given : (value : Option AnyRow) → ArePast name version Was value → state_of (given_over value) ≡ Some Aborted
    state_given None past = says_own name version Aborted refl
    state_given (Some (rows.Object r)) past = beside_given r past
    state_given (Some (rows.Version r)) past = absurd past
    state_given (Some (rows.Ref r)) past = absurd past

    pub given_differs : (value : Option AnyRow) → ArePast name version Was value → begun_over value ≡ given_over value → ⊥
    given_differs value past e = (let wrong : Some Uploading ≡ Some Aborted = sym (state_begun value past) ∙ (ap state_of e ∙ state_given value past) in cc)
