-- The blocks of an upload come one by one, whole, until it is given up; what is there when the rounds of work after that are over.
use Rattle.std.proofs.Common.{◌≡◌, ◌⊎◌, ◌<◌, ◌≤◌, ◌+◌, ◌-◌, ◌*◌, ◌^◌, ℕ, zero, suc, Bool, true, false, ◌||◌, Option, Some, None, List, [], ◌∷◌, ◌++◌, take, drop, length, refl, sym, ap, ◌∙◌, subst, arith}
use Rattle.std.specs.Prelude.{IsTrue, ◌==◌, nat_lt, if◌then◌else◌}
use Rattle.std.proofs.lemmas.Bool.{eqb-false, ltb-false}
use Rattle.blake2_hash.specs.Hash.{digest_of}
use Rattle.layout_roles.specs.declared.layout.Layout.{Layout}
use Rattle.crdt_rows.specs.declared.version.Version.{Version}
use Rattle.crdt_rows.specs.declared.any_row.AnyRow.{AnyRow}
use Rattle.cluster_machine.specs.Layouts.{layouts}
use Rattle.cluster_machine.specs.Run.{IsLayout}
use Rattle.cluster_machine.specs.World.{undelivered}
use Rattle.history_model.specs.declared.record.Kind.{Kind}
use Rattle.flow_model.specs.declared.flow.Name.{Name}
use Rattle.flow_model.specs.declared.flow.Content.{Content}
use Rattle.flow_model.specs.Blocks.{piece, has_piece, is_long}
use Rattle.flow_model.specs.Rows.{row_key}
use Rattle.store_model.specs.Run.{State, need_at}
use Rattle.store_model.specs.Acts.{Act, gives_up as stops, ActsFit, after_acts}
use Rattle.store_model.proofs.Acts.{acts_after, fit_in_parts}
use Rattle.serve_model.specs.Clusters.{round, delivered, fed_block, fed_acts, received_acts, decided, streamed}
use Rattle.plain_laws.specs.Holds.{nodes_at}
use Rattle.plain_laws.proofs.Given.{AllKept, IsGiven}
use Rattle.plain_laws.proofs.LeftBlocks.{BlockRow, block_not_object, block_not_version, block_not_reference, Begins, Rests, left_announced, left_needs, left_fed, rest_none, rest_idle, rest_equal, rest_away, rest_open, begun_there}
use Rattle.plain_laws.proofs.LeftBytes.{padded, comes_whole, there_padded, whole_so, comes_so, rest_so}
use Rattle.std.proofs.lemmas.List.{append_assoc}
use Rattle.blake2_hash.specs.Blake2b.{blake2b}
use Rattle.row_codec.specs.Spelling.{eight}
use Rattle.crdt_rows.specs.AnyRow.{any_join}
use Rattle.crdt_rows.specs.RowLaws.{any_laws}
use Rattle.object_schema.specs.Schema.{words}
use Rattle.object_schema.specs.Laws.{schema_laws}
use Rattle.table_model.specs.Rows.{is_at, row_at}
use Rattle.quorum_model.specs.Quorum.{is_among}
use Rattle.cluster_machine.specs.Blocks.{AllStocked}
use Rattle.flow_model.specs.declared.flow.Stage.TheVariants.{Aborting}
use Rattle.flow_model.specs.declared.flow.FlowEnd.TheVariants.{Aborted}
use Rattle.flow_model.specs.Next.{drawn}
use Rattle.flow_laws.specs.Streams.{needing}
use Rattle.drained_laws.specs.Calm.{IsAtRest}
use Rattle.drained_laws.specs.Drained.{AreEqual, accepted_in}
use Rattle.drained_laws.specs.Outboxes.{HasLeft}
use Rattle.drained_laws.specs.Waiting.{waiting}
use Rattle.drained_laws.proofs.Drained.{equal_when_drained}
use Rattle.drained_laws.proofs.Working.{none_left}
use Rattle.plain_laws.proofs.Frames.{none_found}
use Rattle.plain_laws.proofs.Holding.{SameOf, KeepsOf}
use Rattle.plain_laws.proofs.LeftRows.{begun_over, given_over}
use Rattle.plain_laws.proofs.Leaving.{EndRow, end_not_object, end_not_version, end_not_reference, Clears, left_clears, given_there, left_away}
use Rattle.plain_laws.proofs.Looks.{AllHad, Asking}
use Rattle.plain_laws.proofs.Requests.{base}
use Rattle.plain_laws.proofs.Streamed.{reading}
use Rattle.plain_laws.proofs.Parts.{IsCount}
use Rattle.plain_laws.proofs.Seeking.{a_row}

either_false : (x y : Bool) → (x || y) ≡ false → (x ≡ false) × (y ≡ false)
either_false true y e = absurd (cc)
either_false false y e = (refl, e)

-- a number that isn't none is one at least
some_of : (n : ℕ) → (n ≡ 0 → ⊥) → 1 ≤ n
some_of zero other = absurd (other refl)
some_of (suc n) other = omega arith

module _ (l : Layout) (layout : IsLayout layouts 256 l) (before : State) (n q : ℕ) (kind : Kind) (object name : Name) (value : Option AnyRow) (version : Version) (Was : Version → Type 0)
    (all : AllHad l layout before n q kind object (a_row 1 (row_key name) value) (nodes_at l (digest_of name.bucket).0)) (begins : Begins l before name value version Was)
    (block announced : ℕ) (came : List ℕ) (headers : List (List ℕ × List ℕ)) (long : is_long (padded block announced came) ≡ true) (count : ℕ) (counts : IsCount block (padded block announced came) count)
    (Bytes : List ℕ → Type 0) (given_before : (m : ℕ) → AllKept Bytes (before.world.nodes m).blocks) (pieces : (i : ℕ) → comes_whole block announced came i ≡ true → Bytes (piece block (padded block announced came) i)) where
  abbrev body : List ℕ
  body = padded block announced came

  -- an upload of as many bytes as were announced, the first of which came
  abbrev pub content : Content
  content = record { body = body; headers = headers }

  abbrev pub whole : ℕ → Bool
  whole i = comes_whole block announced came i

  abbrev pub there : (i : ℕ) → whole i ≡ true → has_piece block body i ≡ true
  there i e = there_padded block announced came i e

  abbrev pub RestsAt : ℕ → State → Type 0
  RestsAt i t = Rests l layout before n q kind object name value version Was all begins block content long count counts Bytes given_before whole there pieces i t

  -- it rests after so many blocks, and nothing waits
  pub record HasCome (t : State) : Type 0 where
    pub blocks : ℕ
    pub rests : RestsAt blocks t
    pub none_left : undelivered t.world ≡ None

  abbrev size : ℕ → ℕ
  size i = length (piece block body i)

  need : (i : ℕ) (t : State) → RestsAt i t → need_at t q ≡ Some (size i)
  need i t rests = left_needs l layout before n q kind object name value version Was all begins block content long count counts Bytes given_before whole there pieces i t rests

  -- what comes for a request that needs so much
  abbrev with_need : ℕ → State → List ℕ → Option ℕ → List Act
  with_need more t rest o = elim o as (λ o. List Act) [
    | None ↦ []
    | Some k ↦ if k == 0 || nat_lt (length rest) k then [] else fed_block q (take k rest) ++ fed_acts more (after_acts t (fed_block q (take k rest))) q (drop k rest)
  ]

  -- what comes where that is there whole, or isn't
  abbrev with_test : ℕ → State → List ℕ → ℕ → Bool → List Act
  with_test more t rest k test = if test then [] else fed_block q (take k rest) ++ fed_acts more (after_acts t (fed_block q (take k rest))) q (drop k rest)

  -- the request rests after these bytes came
  abbrev ComesOn : ℕ → ℕ → State → List ℕ → Type 0
  ComesOn more i t rest = RestsAt i t → undelivered t.world ≡ None → (has_piece block body i ≡ true → rest ≡ drop (i * block) came) → ActsFit t (fed_acts more t q rest) → HasCome (after_acts t (fed_acts more t q rest))

  by_test : (more i : ℕ) → ((u : State) (left : List ℕ) → ComesOn more (suc i) u left) → (t : State) (rest : List ℕ) → RestsAt i t → undelivered t.world ≡ None → (has_piece block body i ≡ true → rest ≡ drop (i * block) came) →
      (b : Bool) → (size i == 0 || nat_lt (length rest) (size i)) ≡ b → ActsFit t (with_test more t rest (size i) b) → HasCome (after_acts t (with_test more t rest (size i) b))
  by_test more i on t rest rests none is_rest true e fits = record { blocks = i; rests = rests; none_left = none }
  by_test more i on t rest rests none is_rest false e fits =
      let parts = either_false (size i == 0) (nat_lt (length rest) (size i)) e in
      let some : 1 ≤ size i = some_of (size i) (eqb-false (size i) 0 parts.0) in
      let enough : size i ≤ length rest = ltb-false (length rest) (size i) parts.1 in
      let acts : List Act = fed_block q (take (size i) rest) in
      let u : State = after_acts t acts in
      let here : whole i ≡ true = whole_so block announced came i rest is_rest some enough in
      let both = fit_in_parts t acts (fed_acts more u q (drop (size i) rest)) fits in
      let comes : ActsFit t acts → RestsAt (suc i) u × (undelivered u.world ≡ None) =
      subst (λ xs. ActsFit t (fed_block q xs) → RestsAt (suc i) (after_acts t (fed_block q xs)) × (undelivered (after_acts t (fed_block q xs)).world ≡ None)) (sym (comes_so block announced came i rest is_rest some enough))
      (left_fed l layout before n q kind object name value version Was all begins block content long count counts Bytes given_before whole there pieces i here t rests) in
      let rested = comes both.0 in
      subst HasCome (sym (acts_after t acts (fed_acts more u q (drop (size i) rest))))
      (on u (drop (size i) rest) rested.0 rested.1 (rest_so block announced came i rest is_rest some enough) both.1)

  -- these bytes come, as far as blocks are there whole
  pub comes_on : (more i : ℕ) (t : State) (rest : List ℕ) → ComesOn more i t rest
  comes_on zero i t rest rests none is_rest fits = record { blocks = i; rests = rests; none_left = none }
  comes_on (suc more) i t rest rests none is_rest fits =
      let by_need : ActsFit t (with_need more t rest (need_at t q)) → HasCome (after_acts t (with_need more t rest (need_at t q))) =
      subst (λ o. ActsFit t (with_need more t rest o) → HasCome (after_acts t (with_need more t rest o))) (sym (need i t rests))
      (by_test more i (comes_on more (suc i)) t rest rests none is_rest (size i == 0 || nat_lt (length rest) (size i)) refl) in
      by_need fits

  -- ---- it is given up

  -- what is there once it is given up and the rounds of work are over: nothing goes on, the version lies at its object as given up, and nothing else has changed but what is of this version
  pub record IsLeft (v : State) : Type 0 where
    pub buckets : v.buckets ≡ before.buckets
    pub block_is : v.block ≡ before.block
    pub time : v.world.time ≡ before.world.time
    pub skews : (m : ℕ) → v.world.skew_of m ≡ before.world.skew_of m
    pub stocked : AllStocked (blake2b 32) words any_join v.world
    pub requests : length v.world.requests ≡ q
    pub asked : length v.asked ≡ q
    pub at_rest : IsAtRest layouts l v.world
    pub equal : AreEqual any_join words layouts l (accepted_in any_join words layouts l v.world)
    pub here : (m : ℕ) → IsTrue (is_among m (nodes_at l (digest_of name.bucket).0)) → row_at any_join words (v.world.nodes m).accepted 1 (row_key name) ≡ given_over name version value
    pub objects : (other : Name) → (row_key name ≡ row_key other → ⊥) → (m : ℕ) → row_at any_join words (v.world.nodes m).accepted 1 (row_key other) ≡ row_at any_join words (before.world.nodes m).accepted 1 (row_key other)
    pub others : (id : ℕ) → (eight version.id ≡ eight id → ⊥) → SameOf before.world v.world id × KeepsOf before.world v.world id
    pub given : (m : ℕ) → AllKept Bytes (v.world.nodes m).blocks
    pub ends : v.ends ≡ before.ends ++ (q, Aborted) ∷ []

  module _ (members : List ℕ) (members_are : members ≡ layouts.reading.members l) where
    abbrev rounds : List Act
    rounds = round members ++ round members

    abbrev left_acts : List Act
    left_acts = (stops q ∷ delivered) ++ rounds

    -- where it rests
    module _ (t : State) (come : HasCome t) (fits : ActsFit t left_acts) where
      abbrev v : State
      v = after_acts t left_acts

      none : waiting t.world ≡ []
      none = rest_none l layout before n q kind object name value version Was all begins block content long count counts Bytes given_before whole there pieces come.blocks t come.rests come.none_left

      equal_there : AreEqual any_join words layouts l (accepted_in any_join words layouts l t.world)
      equal_there = rest_equal l layout before n q kind object name value version Was all begins block content long count counts Bytes given_before whole there pieces come.blocks t come.rests come.none_left

      begun_so : (m : ℕ) → IsTrue (is_among m (nodes_at l (digest_of name.bucket).0)) → row_at any_join words (t.world.nodes m).accepted 1 (row_key name) ≡ begun_over name version value
      begun_so = begun_there l layout before n q kind object name value version Was all begins block content long count counts Bytes given_before whole there pieces come.blocks t come.rests come.none_left

      away_so : (m table : ℕ) (key : List ℕ) → ((r : AnyRow) → BlockRow name version block body whole r → is_at words table key r ≡ false) → row_at any_join words (t.world.nodes m).accepted table key ≡ row_at any_join words (before.world.nodes m).accepted table key
      away_so = rest_away l layout before n q kind object name value version Was all begins block content long count counts Bytes given_before whole there pieces come.blocks t come.rests come.none_left

      given_here : IsGiven Bytes t.world
      given_here = come.rests.keeps.given

      abbrev IsCleared : Type 0
      IsCleared = Clears l layout t n q kind object name value version Was begins.past Bytes given_here equal_there begun_so v

      over : IsCleared × HasLeft words layouts l 3 v.world
      over =
          left_clears l layout t n q kind object name value version Was begins.past Bytes given_here equal_there begun_so (needing q block name version content come.blocks) (record { id = q; block = block; stage = Aborting version }) refl (λ now. refl)
          (rest_open l layout before n q kind object name value version Was all begins block content long count counts Bytes given_before whole there pieces come.blocks t come.rests come.none_left) none
          (rest_idle l layout before n q kind object name value version Was all begins block content long count counts Bytes given_before whole there pieces come.blocks t come.rests come.none_left) members members_are fits

      -- nodes have what they had where no row of the upload lies
      away_too : (m table : ℕ) (key : List ℕ) → ((r : AnyRow) → BlockRow name version block body whole r → is_at words table key r ≡ false) → ((r : AnyRow) → EndRow name version r → is_at words table key r ≡ false) →
          row_at any_join words (v.world.nodes m).accepted table key ≡ row_at any_join words (before.world.nodes m).accepted table key
      away_too m table key first second = left_away l layout t n q kind object name value version Was begins.past Bytes given_here equal_there begun_so v over.0 m table key second ∙ away_so m table key first

      pub is_left : IsLeft v
      is_left =
          let done = over.0.done_so in
          let frame = come.rests.open_so.frame in
          record {
            buckets = done.frame.buckets ∙ frame.buckets;
            block_is = done.frame.block ∙ frame.block;
            time = done.frame.time ∙ frame.time;
            skews = λ m. done.frame.skews m ∙ frame.skews m;
            stocked = done.frame.stocked;
            requests = done.frame.requests;
            asked = done.frame.asked;
            at_rest = record {
              views = done.is.sound.views;
              marked = done.is.marked;
              delivered = over.1.none;
              calls = λ m. none_found (v.world.nodes m).calls (done.none m);
              items = none_left words layouts l v.world over.1;
            };
            equal = equal_when_drained any_laws schema_laws layouts l (base l layout t n q) v.world done.is over.1.none equal_there;
            here = given_there l layout t n q kind object name value version Was begins.past Bytes given_here equal_there begun_so v over.0 over.1;
            objects = λ other apart m. away_too m 1 (row_key other) (block_not_object name version block body whole other apart) (end_not_object name version other apart);
            others = λ id apart. (
              record {
                row = λ m. away_too m 2 (eight id) (block_not_version name version block body whole id apart) (end_not_version name version id apart);
                references = λ m hash size. away_too m 3 (hash ++ eight id) (block_not_reference name version block body whole id apart hash size) (end_not_reference name version id apart hash size);
              },
              λ m hash row bytes size at live is.
                  over.0.kept m (hash ++ eight id) row hash bytes (end_not_reference name version id apart hash size) (away_so m 3 (hash ++ eight id) (block_not_reference name version block body whole id apart hash size) ∙ at) live (come.rests.keeps.kept m hash bytes is),
            );
            given = over.0.waits.given.nodes;
            ends = done.ends_so ∙ ap (λ es. es ++ (q, Aborted) ∷ []) come.rests.open_so.ends_so;
          }

    -- ---- from its beginning

    streamed_is : (s : State) → streamed false s q came ≡ received_acts s q came ++ decided false q (need_at (after_acts s (received_acts s q came)) q)
    unfolding streamed
    streamed_is s = refl

    module _ (drawn_is : drawn q value (before.world.time + before.world.skew_of n) ≡ version) (s : State)
        (asking : Asking l layout before n q kind object (reading q name version block content long count counts) (a_row 1 (row_key name) value) (nodes_at l (digest_of name.bucket).0) all s) (fits : ActsFit s (streamed false s q came ++ rounds)) where
      -- what comes, and where it then rests
      abbrev received : List Act
      received = received_acts s q came

      abbrev announced_there : State
      announced_there = after_acts s delivered

      abbrev t : State
      t = after_acts s received

      abbrev tail : List Act
      tail = decided false q (need_at t q)

      received_fits : ActsFit s received
      received_fits = (fit_in_parts s received tail (fit_in_parts s (received ++ tail) rounds (subst (λ acts. ActsFit s (acts ++ rounds)) (streamed_is s) fits)).0).0

      come : HasCome t
      come =
          let none : 0 * block ≡ 0 = omega arith in
          let first = left_announced l layout before n q kind object name value version Was all begins block content long count counts Bytes given_before whole there pieces drawn_is s asking received_fits.0 in
          comes_on (length came) 0 announced_there came first.0 first.1 (λ e. ap (λ k. drop k came) (sym none)) received_fits.1

      acts_are : streamed false s q came ++ rounds ≡ received ++ left_acts
      acts_are =
          ap (λ acts. acts ++ rounds) (streamed_is s ∙ ap (λ o. received ++ decided false q o) (need come.blocks t come.rests))
          ∙ append_assoc received (stops q ∷ delivered) rounds

      -- an upload whose request was asked, whose bytes came, and that is given up
      pub leaves : IsLeft (after_acts s (streamed false s q came ++ rounds))
      leaves =
          subst (λ acts. IsLeft (after_acts s acts)) (sym acts_are)
          (subst IsLeft (sym (acts_after s received left_acts)) (is_left t come (fit_in_parts s received left_acts (subst (ActsFit s) acts_are fits)).1))
