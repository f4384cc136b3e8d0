-- An upload whose bytes come block by block, while it may still be given up: which rows its phases store, that these call for none, and what lies at nodes where it rests.
use Rattle.std.proofs.Common.{◌≡◌, ◌⊎◌, ◌<◌, ◌+◌, ◌^◌, ℕ, zero, suc, true, false, Bool, Option, Some, None, List, [], ◌∷◌, ◌++◌, length, map, refl, sym, ap, ◌∙◌, subst, inl, inr, arith}
use Rattle.std.specs.Prelude.{IsTrue, ⊤}
use Rattle.std.specs.List.{AllByRecursion}
use Rattle.std.proofs.lemmas.List.Elements.{All-nil, All-cons}
use Rattle.blake2_hash.specs.Blake2b.{blake2b}
use Rattle.blake2_hash.specs.Hash.{digest_of}
use Rattle.blake2_hash.specs.DigestLaws.{digest_length}
use Rattle.row_codec.specs.Spelling.{eight}
use Rattle.layout_roles.specs.declared.layout.Layout.{Layout}
use Rattle.crdt_core.specs.Order.{option_join}
use Rattle.crdt_core.proofs.Each.{all_weaker}
use Rattle.crdt_rows.specs.declared.version.Version.{Version}
use Rattle.crdt_rows.specs.declared.any_row.AnyRow.{AnyRow}
use Rattle.crdt_rows.specs.AnyRow.{any_join}
use Rattle.crdt_rows.specs.RowLaws.{any_laws}
use Rattle.object_schema.specs.Schema.{words}
use Rattle.object_schema.specs.Laws.{schema_laws, key_parts}
use Rattle.table_model.specs.Rows.{is_at, row_at}
use Rattle.quorum_model.specs.Quorum.{is_among}
use Rattle.wire_messages.specs.declared.phase.Phase.TheVariants.{Store}
use Rattle.cluster_machine.specs.Blocks.{IsBeside, BringsBlocks}
use Rattle.cluster_machine.specs.Layouts.{layouts}
use Rattle.cluster_machine.specs.Node.{Item, Present}
use Rattle.cluster_machine.specs.Rows.{called_for}
use Rattle.cluster_machine.specs.Run.{IsLayout, IsStep}
use Rattle.cluster_machine.specs.World.{undelivered}
use Rattle.cluster_machine.specs.Worlds.{FitAll}
use Rattle.history_model.specs.declared.record.Kind.{Kind}
use Rattle.flow_model.specs.declared.flow.Name.{Name}
use Rattle.flow_model.specs.declared.flow.Content.{Content}
use Rattle.flow_model.specs.declared.flow.Flow.{Flow}
use Rattle.flow_model.specs.declared.flow.FlowEnd.TheVariants.{Aborted}
use Rattle.flow_model.specs.Blocks.{piece, piece_hash, has_piece, is_long}
use Rattle.flow_model.specs.Next.{drawn}
use Rattle.flow_model.specs.Rows.{row_key, uploading, version_row, reference_row, block_rows}
use Rattle.flow_model.specs.Streams.{Step}
use Rattle.flow_laws.specs.Streams.{receiving, needing}
use Rattle.flow_laws.proofs.Streaming.{fed_next}
use Rattle.store_model.specs.Run.{State, phases, drains, need_at}
use Rattle.store_model.specs.Acts.{Act, feeds, drain, ActsFit, after_acts, all_messages}
use Rattle.store_laws.proofs.Placing.{one_is_step, block_is_step, uploading_is_placed}
use Rattle.drained_laws.specs.Accounts.{Brings, IsDue, IsAccounted}
use Rattle.drained_laws.specs.Drained.{AreEqual, accepted_in}
use Rattle.drained_laws.specs.Waiting.{SomeOf, Has as IsIn, waiting}
use Rattle.drained_laws.proofs.Drained.{equal_when_drained}
use Rattle.drained_laws.proofs.Waits.{some_right}
use Rattle.drained_laws.proofs.Weights.{none_waits}
use Rattle.plain_laws.specs.Holds.{nodes_at}
use Rattle.plain_laws.proofs.Accepted.{IsRowOrApart, not_at, becomes, becomes_either, passed}
use Rattle.plain_laws.proofs.Past.{ArePast}
use Rattle.plain_laws.proofs.Given.{AreGiven, AllKept}
use Rattle.plain_laws.proofs.LeftRows.{begun_over, begun_twice, begins_quietly, begun_quietly}
use Rattle.plain_laws.proofs.Looks.{AllHad, Asking, asks}
use Rattle.plain_laws.proofs.Parts.{IsCount, Mine as OfPut}
use Rattle.plain_laws.proofs.Queues.{CallsFor}
use Rattle.plain_laws.proofs.Requests.{base, Open, IsResting}
use Rattle.plain_laws.proofs.Seeking.{a_row}
use Rattle.plain_laws.proofs.Stages.{joins_there, two_tables, naming_of, naming_comes, ref_of, ref_comes}
use Rattle.plain_laws.proofs.Streamed.{reading, announces_so, needs_so, need_is}
use Rattle.plain_laws.proofs.Writes.{Steps, AreSuch, new_rows, sent_to, InPhase, announced, feeds_on, needs_now, news_mine, accepted_so}

-- what is known where an upload begins: what nodes have of its object is of earlier versions, and nothing is there of its own
pub record Begins (l : Layout) (before : State) (name : Name) (value : Option AnyRow) (version : Version) (Was : Version → Type 0) : Type 0 where
  pub equal : AreEqual any_join words layouts l (accepted_in any_join words layouts l before.world)
  pub past : ArePast name version Was value
  pub low : version.id < 2 ^ 64
  pub no_version : (m : ℕ) → row_at any_join words (before.world.nodes m).accepted 2 (eight version.id) ≡ None
  pub no_reference : (m : ℕ) (hash : List ℕ) → length hash ≡ 32 → row_at any_join words (before.world.nodes m).accepted 3 (hash ++ eight version.id) ≡ None

-- ---- rows

module _ (name : Name) (version : Version) (block : ℕ) (body : List ℕ) (is_fed : ℕ → Bool) where
  abbrev own : ℕ
  own = version.id

  -- that the upload has begun, or one of the rows of a block that may come
  abbrev pub BlockRow : AnyRow → Type 0
  BlockRow r = (r ≡ uploading name version) ⊎ (((i : ℕ) × (is_fed i ≡ true) × (r ≡ version_row own block body i)) ⊎ ((i : ℕ) × (is_fed i ≡ true) × (r ≡ reference_row own block body i)))

  pub block_not_object : (other : Name) → (row_key name ≡ row_key other → ⊥) → (r : AnyRow) → BlockRow r → is_at words 1 (row_key other) r ≡ false
  block_not_object other apart r is = not_at any_join words r 1 (row_key other) (λ t k. elim is [
    | inl e ↦ apart (sym (ap words.key e) ∙ k)
    | inr v ↦ elim v [ inl x ↦ two_tables 1 2 (omega arith) (sym t ∙ ap words.table x.2) | inr x ↦ two_tables 1 3 (omega arith) (sym t ∙ ap words.table x.2) ]
  ])

  module _ (id : ℕ) (apart : eight own ≡ eight id → ⊥) where
    pub block_not_version : (r : AnyRow) → BlockRow r → is_at words 2 (eight id) r ≡ false
    block_not_version r is = not_at any_join words r 2 (eight id) (λ t k. elim is [
      | inl e ↦ two_tables 1 2 (omega arith) (sym (ap words.table e) ∙ t)
      | inr v ↦ elim v [ inl x ↦ apart (sym (ap words.key x.2) ∙ k) | inr x ↦ two_tables 2 3 (omega arith) (sym t ∙ ap words.table x.2) ]
    ])

    pub block_not_reference : (hash : List ℕ) → length hash ≡ 32 → (r : AnyRow) → BlockRow r → is_at words 3 (hash ++ eight id) r ≡ false
    block_not_reference hash size r is = not_at any_join words r 3 (hash ++ eight id) (λ t k. elim is [
      | inl e ↦ two_tables 1 3 (omega arith) (sym (ap words.table e) ∙ t)
      | inr v ↦ elim v [
        | inl x ↦ two_tables 2 3 (omega arith) (sym (ap words.table x.2) ∙ t)
        | inr x ↦ apart (key_parts (piece_hash block body x.0) (record { 0 = hash }) (eight own) (eight id) (digest_length (piece block body x.0)) size (sym (ap words.key x.2) ∙ k)).1
      ]
    ])

-- no row is such
abbrev pub IsNoRow : AnyRow → Type 0
IsNoRow r = ⊥

module _ (l : Layout) (layout : IsLayout layouts 256 l) (before : State) (n q : ℕ) (kind : Kind) (object name : Name) (value : Option AnyRow) (version : Version) (Was : Version → Type 0)
    (all : AllHad l layout before n q kind object (a_row 1 (row_key name) value) (nodes_at l (digest_of name.bucket).0)) (begins : Begins l before name value version Was)
    (block : ℕ) (content : Content) (long : is_long content.body ≡ true) (count : ℕ) (counts : IsCount block content.body count)
    (Bytes : List ℕ → Type 0) (given_before : (m : ℕ) → AllKept Bytes (before.world.nodes m).blocks)
    (is_fed : ℕ → Bool) (there : (i : ℕ) → is_fed i ≡ true → has_piece block content.body i ≡ true) (pieces : (i : ℕ) → is_fed i ≡ true → Bytes (piece block content.body i)) where
  abbrev body : List ℕ
  body = content.body

  abbrev id : ℕ
  id = version.id

  abbrev U : AnyRow
  U = uploading name version

  abbrev had : ℕ → List AnyRow
  had = base l layout before n q

  abbrev begun : Option AnyRow
  begun = begun_over name version value

  -- ---- the rows

  -- those of a phase: the upload is announced, and each block that may come is stored
  abbrev pub rows_at : ℕ → List (AnyRow × Option (List ℕ))
  rows_at zero = (U, None) ∷ []
  rows_at (suc i) = elim (is_fed i) as (λ b. List (AnyRow × Option (List ℕ))) [ true ↦ block_rows id block body i | false ↦ (U, None) ∷ [] ]

  -- one of these rows
  abbrev Mine : AnyRow → Type 0
  Mine r = BlockRow name version block body is_fed r

  abbrev Beside : AnyRow × Option (List ℕ) → Type 0
  Beside r = IsBeside (blake2b 32) (words.live_block r.0) r.1

  pub steps : Steps q rows_at
  steps = record { is_step = is_step; brings = brings }
    where
      is_step : (j : ℕ) → IsStep words 256 (phases q (Store (rows_at j))).step
      is_step zero = one_is_step q U (uploading_is_placed name version)
      is_step (suc i) = elim (is_fed i) as (λ b. IsStep words 256 (phases q (Store (elim b as (λ b. List (AnyRow × Option (List ℕ))) [ true ↦ block_rows id block body i | false ↦ (U, None) ∷ [] ]))).step) [
        | true ↦ block_is_step id begins.low block body i q
        | false ↦ one_is_step q U (uploading_is_placed name version)
      ]

      brings : (j : ℕ) → BringsBlocks (blake2b 32) words (Store (rows_at j))
      brings zero = All-cons Beside (U, None) [] refl (All-nil Beside)
      brings (suc i) = elim (is_fed i) as (λ b. BringsBlocks (blake2b 32) words (Store (elim b as (λ b. List (AnyRow × Option (List ℕ))) [ true ↦ block_rows id block body i | false ↦ (U, None) ∷ [] ]))) [
        | true ↦ All-cons Beside (version_row id block body i, None) ((reference_row id block body i, Some (piece block body i)) ∷ []) refl (All-cons Beside (reference_row id block body i, Some (piece block body i)) [] refl (All-nil Beside))
        | false ↦ All-cons Beside (U, None) [] refl (All-nil Beside)
      ]

  pub such : AreSuch rows_at Mine Bytes
  such = record { mine = mine; given = given }
    where
      mine : (j : ℕ) → AllByRecursion Mine (new_rows rows_at j)
      mine zero = (inl refl, tt)
      mine (suc i) = elim (is_fed i) as (λ b. is_fed i ≡ b → AllByRecursion Mine (map (λ (r : AnyRow × Option (List ℕ)). r.0) (elim b as (λ b. List (AnyRow × Option (List ℕ))) [ true ↦ block_rows id block body i | false ↦ (U, None) ∷ [] ]))) [
        | true ↦ λ e. (inr (inl (i, e, refl)), (inr (inr (i, e, refl)), tt))
        | false ↦ λ e. (inl refl, tt)
      ] refl

      given : (j : ℕ) → AllByRecursion (λ (r : AnyRow × Option (List ℕ)). AreGiven Bytes r.1) (rows_at j)
      given zero = (tt, tt)
      given (suc i) = elim (is_fed i) as (λ b. is_fed i ≡ b → AllByRecursion (λ (r : AnyRow × Option (List ℕ)). AreGiven Bytes r.1) (elim b as (λ b. List (AnyRow × Option (List ℕ))) [ true ↦ block_rows id block body i | false ↦ (U, None) ∷ [] ])) [
        | true ↦ λ e. (tt, (pieces i e, tt))
        | false ↦ λ e. (tt, tt)
      ] refl

  -- they are rows of the put of these bytes
  abbrev PutRow : AnyRow → Type 0
  PutRow r = OfPut q name version block content long count counts r

  as_put : (r : AnyRow) → Mine r → PutRow r
  as_put r (inl e) = inl e
  as_put r (inr (inl v)) = inr (inr (inl (v.0, there v.0 v.1, v.2)))
  as_put r (inr (inr v)) = inr (inr (inr (v.0, there v.0 v.1, v.2)))

  all_as_put : (news : List AnyRow) → AllByRecursion Mine news → AllByRecursion PutRow news
  all_as_put news mine = all_weaker Mine PutRow as_put news mine

  -- at the object's place there is no other than that it has begun
  begun_or_apart : (news : List AnyRow) → AllByRecursion Mine news → AllByRecursion (IsRowOrApart any_join words U 1 (row_key name)) news
  begun_or_apart news mine =
      all_weaker Mine (IsRowOrApart any_join words U 1 (row_key name)) (λ r is. elim is [
        | inl e ↦ inl e
        | inr v ↦ inr (not_at any_join words r 1 (row_key name) (λ t k. elim v [ inl x ↦ two_tables 1 2 (omega arith) (sym t ∙ ap words.table x.2) | inr x ↦ two_tables 1 3 (omega arith) (sym t ∙ ap words.table x.2) ]))
      ]) news mine

  -- ---- what these call for

  begins_so : (o : Option AnyRow) → (o ≡ value) ⊎ (o ≡ begun) → called_for any_join words o (option_join any_join o (Some U)) ≡ []
  begins_so o (inl e) = ap (λ o. called_for any_join words o (option_join any_join o (Some U))) e ∙ begins_quietly name version Was value begins.past
  begins_so o (inr e) =
      ap (λ o. called_for any_join words o (option_join any_join o (Some U))) e
      ∙ (ap (called_for any_join words begun) (begun_twice name version value) ∙ begun_quietly name version Was value begins.past)

  -- nothing, where a row comes to a node
  quietly : (older : List AnyRow) (r : AnyRow) (table : ℕ) (key : List ℕ) → words.table r ≡ table → words.key r ≡ key → called_for any_join words (row_at any_join words older table key) (option_join any_join (row_at any_join words older table key) (Some r)) ≡ [] → CallsFor IsNoRow older r
  quietly older r table key t k none =
      subst (λ t. AllByRecursion IsNoRow (called_for any_join words (row_at any_join words older t (words.key r)) (row_at any_join words (r ∷ older) t (words.key r)))) (sym t)
      (subst (λ k. AllByRecursion IsNoRow (called_for any_join words (row_at any_join words older table k) (row_at any_join words (r ∷ older) table k))) (sym k)
      (subst (λ (o : Option AnyRow). AllByRecursion IsNoRow (called_for any_join words (row_at any_join words older table key) o)) (sym (joins_there r older table key t k)) (subst (AllByRecursion IsNoRow) (sym none) tt)))

  pub queues : (m : ℕ) (news : List AnyRow) → AllByRecursion Mine news → (r : AnyRow) → Mine r → IsDue words layouts l m r → CallsFor IsNoRow (news ++ had m) r
  queues m news mine r (inl e) due =
      subst (CallsFor IsNoRow (news ++ had m)) (sym e)
      (quietly (news ++ had m) U 1 (row_key name) refl refl (begins_so (row_at any_join words (news ++ had m) 1 (row_key name))
      (becomes_either any_join words U 1 (row_key name) refl refl value begun refl (begun_twice name version value) (had m) (all m (subst (IsDue words layouts l m) e due)) news (begun_or_apart news mine))))
  queues m news mine r (inr (inl v)) due =
      subst (CallsFor IsNoRow (news ++ had m)) (sym v.2)
      (quietly (news ++ had m) (version_row id block body v.0) 2 (eight id) refl refl
      (naming_comes q name version block content long count counts v.0 (row_at any_join words (news ++ had m) 2 (eight id)) (naming_of q name version block content long count counts (had m) (begins.no_version m) news (all_as_put news mine))).1)
  queues m news mine r (inr (inr v)) due =
      let key : List ℕ = (piece_hash block body v.0).0 ++ eight id in
      subst (CallsFor IsNoRow (news ++ had m)) (sym v.2)
      (quietly (news ++ had m) (reference_row id block body v.0) 3 key refl refl
      (ref_comes q name version block content long count counts v.0 (row_at any_join words (news ++ had m) 3 key)
      (ref_of q name version block content long count counts (had m) v.0 (begins.no_reference m (piece_hash block body v.0).0 (digest_length (piece block body v.0))) news (all_as_put news mine))).1)

  -- ---- its phases

  -- the request is in a phase of this kind, and goes on so when that has ended; the rows of the phases up to this one were sent
  abbrev pub IsAt : (Present AnyRow → Type 0) → Flow → ℕ → State → Type 0
  IsAt Kind then j t = InPhase l layout before n q kind object name value all rows_at 0 Aborted steps Mine Bytes such given_before begins.equal.proper IsNoRow queues Kind then j t

  -- so many blocks have come: it needs the next one
  abbrev pub needs : ℕ → Flow
  needs i = needing q block name version content i

  abbrev pub Rests : ℕ → State → Type 0
  Rests i t = IsAt IsResting (needs i) i t

  abbrev pub reads : Flow
  reads = reading q name version block content long count counts

  -- it was asked, and all is delivered: it rests, and nothing waits
  pub left_announced : drawn q value (before.world.time + before.world.skew_of n) ≡ version → (t : State) → Asking l layout before n q kind object reads (a_row 1 (row_key name) value) (nodes_at l (digest_of name.bucket).0) all t →
      FitAll any_join words t.world (drains all_messages t).moves → (let u = (drains all_messages t).state in Rests 0 u × (undelivered u.world ≡ None))
  left_announced drawn_is =
      announced l layout before n q kind object name value all rows_at 0 Aborted steps Mine Bytes such given_before begins.equal.proper IsNoRow queues reads (receiving q block name version content 0) (needs 0) (length (piece block body 0))
      (announces_so q name version block content long count counts value (before.world.time + before.world.skew_of n) drawn_is) (needs_so q name version block content long count counts 0)

  abbrev storing : Flow → List (AnyRow × Option (List ℕ)) → Step
  storing flow rows = Some (flow, Store rows)

  -- a block comes, and all is delivered: it rests, and nothing waits
  pub left_fed : (i : ℕ) → is_fed i ≡ true → (t : State) → Rests i t →
      (let acts : List Act = feeds q (piece block body i) ∷ drain all_messages ∷ [] in ActsFit t acts → Rests (suc i) (after_acts t acts) × (undelivered (after_acts t acts).world ≡ None))
  left_fed i here =
      feeds_on l layout before n q kind object name value all rows_at 0 Aborted steps Mine Bytes such given_before begins.equal.proper IsNoRow queues (needs i) (receiving q block name version content (suc i)) (needs (suc i)) (length (piece block body (suc i))) i (piece block body i)
      (fed_next q block name version content i (there i here)
      ∙ ap (λ b. storing (receiving q block name version content (suc i)) (elim b as (λ b. List (AnyRow × Option (List ℕ))) [ true ↦ block_rows id block body i | false ↦ (U, None) ∷ [] ])) (sym here))
      (needs_so q name version block content long count counts (suc i))

  -- what it needs where it rests
  pub left_needs : (i : ℕ) (t : State) → Rests i t → need_at t q ≡ Some (length (piece block body i))
  left_needs i t rests =
      needs_now l layout before n q kind object name value all rows_at 0 Aborted steps Mine Bytes such given_before begins.equal.proper IsNoRow queues (needs i) i t rests
      ∙ need_is q name version block content long count counts i

  -- ---- where it rests

  module _ (k : ℕ) (t : State) (rests : Rests k t) (none_left : undelivered t.world ≡ None) where
    abbrev is : IsAccounted words layouts l had t.world
    is = rests.open_so.is

    pub rest_none : waiting t.world ≡ []
    rest_none = none_waits t.world none_left

    abbrev news : ℕ → List AnyRow
    news m = is.account.news m

    all_mine : (m : ℕ) → AllByRecursion Mine (news m)
    all_mine = news_mine l layout before n q kind object name value all rows_at 0 Aborted steps Mine Bytes such given_before begins.equal.proper IsNoRow queues t.world is k rests.open_so.sent_so

    accepted_are : (m : ℕ) → (t.world.nodes m).accepted ≡ news m ++ had m
    accepted_are = accepted_so l layout before n q kind object name value all rows_at 0 Aborted steps Mine Bytes such given_before begins.equal.proper IsNoRow queues t.world is k rests.open_so.sent_so

    -- outboxes are empty
    pub rest_idle : (m : ℕ) → (t.world.nodes m).items ≡ []
    rest_idle m = no_items (t.world.nodes m).items (rests.keeps.queued m)
      where
        no_items : (items : List (Item AnyRow)) → AllByRecursion (λ (item : Item AnyRow). IsNoRow item.row) items → items ≡ []
        no_items [] all = refl
        no_items (item ∷ items) all = absurd all.0

    begun_sent : (j : ℕ) → IsIn (sent_to rows_at j) U
    begun_sent zero = inl refl
    begun_sent (suc j) = some_right (λ r. r ≡ U) (new_rows rows_at (suc j)) (sent_to rows_at j) (begun_sent j)

    -- each node of the object has what it had, and that the upload has begun
    pub begun_there : (m : ℕ) → IsTrue (is_among m (nodes_at l (digest_of name.bucket).0)) → row_at any_join words (t.world.nodes m).accepted 1 (row_key name) ≡ begun
    begun_there m here =
        let came : IsIn (news m) U = elim (is.sound.all U (subst (λ rs. IsIn rs U) (sym rests.open_so.sent_so) (begun_sent k)) m here) [
          | inl it ↦ it
          | inr brought ↦ absurd (subst (SomeOf (Brings words layouts l m U)) rest_none brought)
        ] in
        ap (λ rs. row_at any_join words rs 1 (row_key name)) (accepted_are m)
        ∙ becomes any_join words U 1 (row_key name) refl refl value begun refl (begun_twice name version value) (had m) (all m here) (news m) (begun_or_apart (news m) (all_mine m)) came

    -- and what it had where no row of the upload lies
    pub rest_away : (m table : ℕ) (key : List ℕ) → ((r : AnyRow) → Mine r → is_at words table key r ≡ false) → row_at any_join words (t.world.nodes m).accepted table key ≡ row_at any_join words (before.world.nodes m).accepted table key
    rest_away m table key apart =
        ap (λ rs. row_at any_join words rs table key) (accepted_are m) ∙ passed any_join words table key (news m) (had m) (all_weaker Mine (λ r. is_at words table key r ≡ false) apart (news m) (all_mine m))

    -- replicas are equal
    pub rest_equal : AreEqual any_join words layouts l (accepted_in any_join words layouts l t.world)
    rest_equal = equal_when_drained any_laws schema_laws layouts l had t.world is rest_none begins.equal

    -- nothing was sent since
    abbrev Now : ℕ → List AnyRow
    Now = base l layout t n q

    abbrev anew : IsAccounted words layouts l Now t.world
    anew = record {
      account = record { base = Now; news = λ m. []; sent = [] };
      began_so = refl;
      marked = is.marked;
      sound = record {
        views = is.sound.views;
        proper = tt;
        messages = subst (AllByRecursion _) (sym rest_none) tt;
        accepted = λ m. refl;
        only = λ m. tt;
        all = λ r h. absurd h;
        calls = is.sound.calls;
      };
    }

    pub rest_open : Open l layout t n q [] (asks l layout t n q kind object (needs k)) IsResting t
    rest_open = record {
      frame = record { buckets = refl; block = refl; time = refl; skews = λ m. refl; stocked = rests.open_so.frame.stocked; requests = rests.open_so.frame.requests; asked = rests.open_so.frame.asked };
      is = anew;
      sent_so = refl;
      alone = rests.open_so.alone;
      call = rests.open_so.call;
      there = rests.open_so.there;
      kind = rests.open_so.kind;
      asked_is = rests.open_so.asked_is;
      ends_so = refl;
    }
