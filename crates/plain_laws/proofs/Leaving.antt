-- A request that rests in the middle of an upload is given up, and the rounds of work after it: the version is stored as given up, its row and its references are ended, and then nothing waits.
use Rattle.std.proofs.Common.{◌≡◌, ◌⊎◌, ◌<◌, ◌^◌, ℕ, false, Option, Some, None, List, [], ◌∷◌, ◌++◌, length, refl, sym, ap, ◌∙◌, subst, inl, inr, arith}
use Rattle.std.specs.Prelude.{IsTrue, ⊤}
use Rattle.std.specs.List.{AllByRecursion}
use Rattle.std.proofs.lemmas.List.Elements.{All-nil, All-cons, recursion_from_All}
use Rattle.blake2_hash.specs.Blake2b.{blake2b}
use Rattle.blake2_hash.specs.Hash.{digest_of}
use Rattle.row_codec.specs.Spelling.{eight}
use Rattle.layout_roles.specs.declared.cut.Cut.{Cut}
use Rattle.layout_roles.specs.declared.layout.Layout.{Layout}
use Rattle.crdt_core.specs.Order.{option_join}
use Rattle.crdt_core.proofs.Each.{all_append, all_weaker}
use Rattle.crdt_rows.specs.declared.version.Version.{Version}
use Rattle.crdt_rows.specs.declared.any_row.AnyRow.{AnyRow}
use Rattle.crdt_rows.specs.AnyRow.{any_join}
use Rattle.object_schema.specs.Schema.{words}
use Rattle.object_schema.specs.Laws.{schema_laws}
use Rattle.object_schema.specs.Triggers.{deleted_version}
use Rattle.table_model.specs.Rows.{AllProper, is_at, row_at}
use Rattle.quorum_model.specs.Quorum.{is_among}
use Rattle.wire_messages.specs.declared.phase.Phase.TheVariants.{Store}
use Rattle.wire_messages.specs.declared.phase.PhaseEnd.TheVariants.{Kept}
use Rattle.cluster_machine.specs.Blocks.{IsBeside}
use Rattle.cluster_machine.specs.Layouts.{layouts}
use Rattle.cluster_machine.specs.Node.{Item}
use Rattle.cluster_machine.specs.Rows.{called_for}
use Rattle.cluster_machine.specs.Run.{IsLayout}
use Rattle.cluster_machine.specs.Trio.{trio, stage_trio}
use Rattle.cluster_machine.specs.World.{undelivered}
use Rattle.cluster_machine.specs.declared.applied.Applied.{Applied}
use Rattle.machine_origins.proofs.Good.{IsGood}
use Rattle.history_model.specs.declared.record.Kind.{Kind}
use Rattle.flow_model.specs.declared.flow.Name.{Name}
use Rattle.flow_model.specs.declared.flow.Flow.{Flow}
use Rattle.flow_model.specs.declared.flow.FlowEnd.TheVariants.{Aborted}
use Rattle.flow_model.specs.declared.flow.FlowStep.TheVariants.{End}
use Rattle.flow_model.specs.Next.{next}
use Rattle.flow_model.specs.Rows.{row_key, aborted}
use Rattle.flow_model.specs.Streams.{given_up}
use Rattle.store_model.specs.Run.{State}
use Rattle.store_model.specs.Acts.{Act, gives_up as stops, drain, ActsFit, after_acts, all_messages}
use Rattle.store_model.proofs.Acts.{acts_after, fit_in_parts}
use Rattle.store_laws.proofs.Placing.{one_is_step, aborted_is_placed}
use Rattle.serve_model.specs.Clusters.{round}
use Rattle.drained_laws.specs.Accounts.{Brings, IsDue}
use Rattle.drained_laws.specs.Drained.{AreEqual, accepted_in}
use Rattle.drained_laws.specs.Outboxes.{HasLeft}
use Rattle.drained_laws.specs.Waiting.{SomeOf, Has as IsIn, waiting}
use Rattle.drained_laws.proofs.Weights.{none_waits}
use Rattle.drained_laws.proofs.Working.{box_left, idle_box}
use Rattle.plain_laws.specs.Holds.{nodes_at}
use Rattle.plain_laws.proofs.Accepted.{IsRowOrApart, not_at, becomes, becomes_either}
use Rattle.plain_laws.proofs.Clearing.{Clearing, accepted_are, all_news, elsewhere, rounds_clear}
use Rattle.plain_laws.proofs.Descending.{schema_descends}
use Rattle.plain_laws.proofs.Past.{ArePast}
use Rattle.plain_laws.proofs.GivenUp.{GivesUp, gives_up_row, gone_calls, not_object, not_version, not_reference}
use Rattle.plain_laws.proofs.Given.{AllKept, IsGiven}
use Rattle.plain_laws.proofs.LeftRows.{begun_over, given_over, begun_given, given_twice, given_quietly, gives_up_alone}
use Rattle.plain_laws.proofs.Looks.{AllHad, asks}
use Rattle.plain_laws.proofs.Owing.{IsSentMessage}
use Rattle.plain_laws.proofs.Queues.{CallsFor}
use Rattle.plain_laws.proofs.Requests.{base, Open, IsResting}
use Rattle.plain_laws.proofs.Seeking.{a_row}
use Rattle.plain_laws.proofs.Stages.{joins_there, two_tables}
use Rattle.plain_laws.proofs.Writes.{Steps, AreSuch, Keeps, Written, left_on}

-- ---- rows

-- the version is this one
abbrev pub IsThis : Version → Version → Type 0
IsThis version v = v ≡ version

module _ (name : Name) (version : Version) where
  -- that the version is given up, or the end of its row or of one of its references
  abbrev pub EndRow : AnyRow → Type 0
  EndRow r = IsTrue (words.is_proper r) × ((r ≡ aborted name version) ⊎ GivesUp (IsThis version) r)

  pub end_not_object : (other : Name) → (row_key name ≡ row_key other → ⊥) → (r : AnyRow) → EndRow r → is_at words 1 (row_key other) r ≡ false
  end_not_object other apart r is = not_at any_join words r 1 (row_key other) (λ t k. elim is.1 [ inl e ↦ apart (sym (ap words.key e) ∙ k) | inr g ↦ not_object (IsThis version) r g t ])

  module _ (id : ℕ) (apart : eight version.id ≡ eight id → ⊥) where
    apart_each : (v : Version) → IsThis version v → eight v.id ≡ eight id → ⊥
    apart_each v is same = apart (ap (λ (u : Version). eight u.id) (sym is) ∙ same)

    pub end_not_version : (r : AnyRow) → EndRow r → is_at words 2 (eight id) r ≡ false
    end_not_version r is = not_at any_join words r 2 (eight id) (λ t k. elim is.1 [ inl e ↦ two_tables 1 2 (omega arith) (sym (ap words.table e) ∙ t) | inr g ↦ not_version (IsThis version) r g id apart_each t k ])

    pub end_not_reference : (hash : List ℕ) → length hash ≡ 32 → (r : AnyRow) → EndRow r → is_at words 3 (hash ++ eight id) r ≡ false
    end_not_reference hash size r is =
        not_at any_join words r 3 (hash ++ eight id) (λ t k. elim is.1 [ inl e ↦ two_tables 1 3 (omega arith) (sym (ap words.table e) ∙ t) | inr g ↦ not_reference (IsThis version) r g id apart_each hash size is.0 t k ])

module _ (l : Layout) (layout : IsLayout layouts 256 l) (rest : State) (n q : ℕ) (kind : Kind) (object name : Name) (value : Option AnyRow) (version : Version) (Was : Version → Type 0) (past : ArePast name version Was value)
    (Bytes : List ℕ → Type 0) (given : IsGiven Bytes rest.world) (equal : AreEqual any_join words layouts l (accepted_in any_join words layouts l rest.world))
    (begun_there : (m : ℕ) → IsTrue (is_among m (nodes_at l (digest_of name.bucket).0)) → row_at any_join words (rest.world.nodes m).accepted 1 (row_key name) ≡ begun_over name version value) where
  abbrev A : AnyRow
  A = aborted name version

  abbrev begun : Option AnyRow
  begun = begun_over name version value

  -- what a node of the object has in the end
  abbrev pub given_at : Option AnyRow
  given_at = given_over name version value

  abbrev had : ℕ → List AnyRow
  had = base l layout rest n q

  begun_now : option_join any_join begun (Some A) ≡ given_at
  begun_now = begun_given name version value

  given_now : option_join any_join given_at (Some A) ≡ given_at
  given_now = given_twice name version value

  -- ---- the one row

  abbrev all : AllHad l layout rest n q kind object (a_row 1 (row_key name) begun) (nodes_at l (digest_of name.bucket).0)
  all = begun_there

  abbrev rows_at : ℕ → List (AnyRow × Option (List ℕ))
  rows_at j = (A, None) ∷ []

  steps : Steps q rows_at
  steps = record {
    is_step = λ j. one_is_step q A (aborted_is_placed name version);
    brings = λ j. All-cons (λ (r : AnyRow × Option (List ℕ)). IsBeside (blake2b 32) (words.live_block r.0) r.1) (A, None) [] refl (All-nil _);
  }

  -- the end of the version's row, or of one of its references
  abbrev Ends : AnyRow → Type 0
  Ends r = GivesUp (IsThis version) r

  -- that it is given up, or such an end
  abbrev Mine : AnyRow → Type 0
  Mine r = EndRow name version r

  its_row : Mine A
  its_row = ((aborted_is_placed name version).0, inl refl)

  such : AreSuch rows_at Mine Bytes
  such = record { mine = λ j. (its_row, tt); given = λ j. (tt, tt) }

  given_before : (m : ℕ) → AllKept Bytes (rest.world.nodes m).blocks
  given_before m = given.nodes m

  abbrev proper : (m : ℕ) → AllProper words (rest.world.nodes m).accepted
  proper = equal.proper

  given_or_apart : (news : List AnyRow) → AllByRecursion Mine news → AllByRecursion (IsRowOrApart any_join words A 1 (row_key name)) news
  given_or_apart news mine =
      all_weaker Mine (IsRowOrApart any_join words A 1 (row_key name)) (λ r m. elim m.1 [ inl same ↦ inl same | inr g ↦ inr (not_at any_join words r 1 (row_key name) (λ t k. not_object (IsThis version) r g t)) ]) news mine

  called_at : (older_rows : List AnyRow) → (row_at any_join words older_rows 1 (row_key name) ≡ begun) ⊎ (row_at any_join words older_rows 1 (row_key name) ≡ given_at) → CallsFor Ends older_rows A
  called_at older_rows (inl e) =
      subst (λ (o : Option AnyRow). AllByRecursion Ends (called_for any_join words (row_at any_join words older_rows 1 (row_key name)) o)) (sym (joins_there A older_rows 1 (row_key name) refl refl ∙ (ap (λ o. option_join any_join o (Some A)) e ∙ begun_now)))
      (subst (λ (o : Option AnyRow). AllByRecursion Ends (called_for any_join words o given_at)) (sym e)
      (all_weaker (λ (r : AnyRow). r ≡ deleted_version version) Ends (λ r same. subst Ends (sym same) (gives_up_row (IsThis version) version refl)) _ (gives_up_alone name version Was value past)))
  called_at older_rows (inr e) =
      subst (λ (o : Option AnyRow). AllByRecursion Ends (called_for any_join words (row_at any_join words older_rows 1 (row_key name)) o)) (sym (joins_there A older_rows 1 (row_key name) refl refl ∙ (ap (λ o. option_join any_join o (Some A)) e ∙ given_now)))
      (subst (λ (o : Option AnyRow). AllByRecursion Ends (called_for any_join words o given_at)) (sym e) (subst (AllByRecursion Ends) (sym (given_quietly name version Was value past)) tt))

  all_good : (m : ℕ) (news : List AnyRow) → AllByRecursion Mine news → AllByRecursion (IsGood words (λ r. ⊤)) (news ++ had m)
  all_good m news mine =
      all_append (IsGood words (λ r. ⊤)) news (had m) (all_weaker Mine (IsGood words (λ r. ⊤)) (λ r m. record { proper = m.0; has = tt }) news mine)
      (all_weaker (λ r. IsTrue (words.is_proper r)) (IsGood words (λ r. ⊤)) (λ r p. record { proper = p; has = tt }) (had m) (recursion_from_All (λ r. IsTrue (words.is_proper r)) (had m) (proper m)))

  -- it calls for the end of the version's row, and that for the ends of its references
  pub queues : (m : ℕ) (news : List AnyRow) → AllByRecursion Mine news → (r : AnyRow) → Mine r → IsDue words layouts l m r → CallsFor Ends (news ++ had m) r
  queues m news mine r is due = elim is.1 [
    | inl same ↦ subst (CallsFor Ends (news ++ had m)) (sym same)
        (called_at (news ++ had m) (becomes_either any_join words A 1 (row_key name) refl refl begun given_at begun_now given_now (had m) (begun_there m (subst (IsDue words layouts l m) same due)) news (given_or_apart news mine)))
    | inr g ↦ gone_calls (IsThis version) (news ++ had m) (all_good m news mine) r g
  ]

  -- ---- it is given up

  -- where it has ended, and rounds follow
  abbrev pub Clears : State → Type 0
  Clears u = Clearing l layout rest n q Aborted (A ∷ []) proper Mine Ends Bytes queues (λ r p g. (p, inr g)) u

  module _ (need then : Flow) (given_up_so : given_up need ≡ Some (then, Store ((A, None) ∷ []))) (ends : (now : ℕ) → next then Kept now ≡ End Aborted) (open_so : Open l layout rest n q [] (asks l layout rest n q kind object need) IsResting rest)
      (none : waiting rest.world ≡ []) (idle : (m : ℕ) → (rest.world.nodes m).items ≡ []) where
    rest_keeps : Keeps l layout rest n q kind object name begun all rows_at 0 Aborted steps Mine Bytes such given_before proper Ends queues rest.world
    rest_keeps = record {
      queued = λ m. subst (AllByRecursion (λ (item : Item AnyRow). Ends item.row)) (sym (idle m)) tt;
      boxed = idle_box schema_laws schema_descends layouts l layout had proper Applied Cut trio stage_trio rest.world idle;
      owes = record { each = λ m. record { low = omega arith; news = []; accepted = refl; waits = λ c h. absurd h }; messages = subst (AllByRecursion (IsSentMessage (λ m. 0))) (sym none) tt };
      kept = λ m hash bytes at. at;
      given = given;
    }

    abbrev HasEnded : State → Type 0
    HasEnded u = Written l layout rest n q kind object name begun all rows_at 0 Aborted steps Mine Bytes such given_before proper Ends queues u

    abbrev acts : List Act
    acts = stops q ∷ drain all_messages ∷ []

    ended_so : ActsFit rest acts → HasEnded (after_acts rest acts) × (undelivered (after_acts rest acts).world ≡ None)
    ended_so fits = left_on l layout rest n q kind object name begun all rows_at 0 Aborted steps Mine Bytes such given_before proper Ends queues need then refl given_up_so ends rest open_so rest_keeps fits

    ended_clears : (u : State) → HasEnded u → Clears u
    ended_clears u ended = record {
      sent = A ∷ [];
      done_so = ended.done_so;
      mine = (its_row, tt);
      was = λ r sent. sent;
      waits = record { queued = ended.keeps.queued; given = ended.keeps.given };
      kept = λ m key r hash bytes apart e live at. ended.keeps.kept m hash bytes at;
    }

    -- and the rounds are over
    pub left_clears : (members : List ℕ) → members ≡ layouts.reading.members l → ActsFit rest (acts ++ round members ++ round members) → (let v = after_acts rest (acts ++ round members ++ round members) in Clears v × HasLeft words layouts l 3 v.world)
    left_clears members members_are fits =
        let u : State = after_acts rest acts in
        let parts = fit_in_parts rest acts (round members ++ round members) fits in
        let ended = ended_so parts.0 in
        let left : HasLeft words layouts l 1 u.world = box_left schema_laws schema_descends layouts l layout had proper Applied Cut trio stage_trio 1 u.world ended.0.keeps.boxed (none_waits u.world ended.1) in
        subst (λ (v : State). Clears v × HasLeft words layouts l 3 v.world) (sym (acts_after rest acts (round members ++ round members)))
        ((rounds_clear l layout rest n q Aborted (A ∷ []) proper Mine Ends Bytes queues (λ r p g. (p, inr g)) members members_are u (ended_clears u ended.0) left parts.1).1.0)

  -- each node of the object has then what it had, and that the upload is given up
  pub given_there : (v : State) → Clears v → HasLeft words layouts l 3 v.world → (m : ℕ) → IsTrue (is_among m (nodes_at l (digest_of name.bucket).0)) → row_at any_join words (v.world.nodes m).accepted 1 (row_key name) ≡ given_at
  given_there v cleared left m here =
      let done = cleared.done_so in
      let news = done.is.account.news m in
      let came : IsIn news A = elim (done.is.sound.all A (subst (λ rs. IsIn rs A) (sym done.sent_so) (cleared.was A (inl refl))) m here) [
        | inl it ↦ it
        | inr brought ↦ absurd (subst (SomeOf (Brings words layouts l m A)) left.none brought)
      ] in
      ap (λ rs. row_at any_join words rs 1 (row_key name)) (accepted_are l layout rest n q Aborted (A ∷ []) proper Mine Ends Bytes queues (λ r p g. (p, inr g)) v cleared m)
      ∙ becomes any_join words A 1 (row_key name) refl refl begun given_at begun_now given_now (had m) (begun_there m here) news
      (given_or_apart news (all_news l layout rest n q Aborted (A ∷ []) proper Mine Ends Bytes queues (λ r p g. (p, inr g)) v cleared m)) came

  -- and what it had where no such row lies
  pub left_away : (v : State) → Clears v → (m table : ℕ) (key : List ℕ) → ((r : AnyRow) → Mine r → is_at words table key r ≡ false) → row_at any_join words (v.world.nodes m).accepted table key ≡ row_at any_join words (rest.world.nodes m).accepted table key
  left_away v cleared = elsewhere l layout rest n q Aborted (A ∷ []) proper Mine Ends Bytes queues (λ r p g. (p, inr g)) v cleared
