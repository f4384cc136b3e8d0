-- What an open request has got came in messages, and so did both answers that a phase gives: one lemma for each handler.
use Rattle.std.specs.Prelude.{◌≡◌, ◌≤◌, ℕ, suc, Bool, true, false, not, cond, ◌==◌, nat_lt, List, [], ◌∷◌, ◌++◌, Option, Some, None, refl, ⊤}
use Rattle.std.specs.List.{AllByRecursion}
use Rattle.std.proofs.Common.{sym, subst, ◌∙◌}
use Rattle.std.proofs.lemmas.Bool.{eqb-true}
use Rattle.crdt_core.specs.Members.{Has}
use Rattle.crdt_core.proofs.Each.{all_append}
use Rattle.blake2_hash.specs.declared.digest.Hash32.{Hash32}
use Rattle.view_model.specs.View.{oldest, newest, merged as merged_views, cleaned}
use Rattle.table_schema.specs.Words.{Words}
use Rattle.walk_model.specs.Walking.{is_open}
use Rattle.quorum_model.specs.declared.range.RangeAnswer.{RangeAnswer}
use Rattle.quorum_model.specs.Quorum.{StoreSlot, is_kept, with_confirmation}
use Rattle.quorum_model.specs.Answers.{first_two_at, merged}
use Rattle.quorum_model.specs.Window.{window}
use Rattle.wire_messages.specs.declared.message.Message.{Message}
use Rattle.wire_messages.specs.declared.message.Message.TheVariants.{Get, Row, Range, Rows, Store, Stored, Behind, NotHere, BlockGet, Block, NoBlock, Walk as AsksValue, Same as HasSame, Differ, Tomb, Tombed, Forget}
use Rattle.wire_messages.specs.declared.message.Tag.{Tag}
use Rattle.wire_messages.specs.declared.message.Tag.TheVariants.{Call as ForCall, Round as ForRound, Item as ForItem}
use Rattle.wire_messages.specs.declared.phase.Phase.{Phase}
use Rattle.wire_messages.specs.declared.phase.Phase.TheVariants.{Read, Range as Scans, Store as Keeps, Block as Fetches}
use Rattle.wire_messages.specs.declared.phase.PhaseEnd.{PhaseEnd}
use Rattle.wire_messages.specs.declared.phase.PhaseEnd.TheVariants.{Row as GaveRow, Window as GaveWindow}
use Rattle.cluster_machine.specs.declared.step.Action.{Action}
use Rattle.cluster_machine.specs.declared.step.Action.TheVariants.{Ack as RaiseAck, Sync as GoOn, SyncAck as RaiseSyncAck, Clean as CleanUp, Work as WorkOff, Repair as Mend, Collect as Gather}
use Rattle.cluster_machine.specs.Layouts.{Layouts, is_given, is_stored}
use Rattle.cluster_machine.specs.Node.{Question, Scan, Present, resting, asking, scanning, storing, fetching, Call, Walk, Round, Mending, Node, Packet, says, shows, Reading, read, scanned, Ended, Did, quiet}
use Rattle.cluster_machine.specs.Rows.{block_at, accepts_all}
use Rattle.cluster_machine.specs.Phases.{call_at, with_call, asked, looked, stored, merged_at, row_came, window_at, rows_came, stored_came, block_came, at_call, begins}
use Rattle.cluster_machine.specs.Rounds.{may_sync, begin_round, again, goes_on, found_same, walk_at, walks_after, walk_after, walked_anew, round_walks, mending_walks, at_walk, mending_came, with_mending, with_lasting, late_came, answer_came}
use Rattle.cluster_machine.specs.Receives.{answers, where_stored, gives_block, takes, compares, walks_on, round_came, confirms, hears, receives}
use Rattle.cluster_machine.specs.Acts.{Acted, syncs, acts}
use Rattle.cluster_machine.specs.World.{Sent}
use Rattle.machine_origins.proofs.Lists.{all_found}
use Rattle.machine_origins.proofs.Good.{IsFound, two_have}
use Rattle.machine_origins.proofs.Sound.{for_row, for_rows, Asks, IsAnswer, AnswersTo, IsMessage, IsPacket, IsPresent, IsCall, IsNode}
use Rattle.machine_origins.proofs.FollowingSteps.{calls_all, calls_seen, calls_round, calls_begun}
use Rattle.machine_origins.proofs.Collecting.{tomb_beside, tombed_beside, forget_beside, collects_beside}

-- the properties that all rows and all blocks have
abbrev pub AnyRow : {R : Type 0} → R → Type 0
AnyRow = λ r. ⊤

abbrev pub AnyBlock : List ℕ → List ℕ → Type 0
AnyBlock = λ hash bytes. ⊤

module _ {R L : Type 0} (messages : List (Sent R L)) where
  -- a row that came for a request
  pub record CameRow (request : ℕ) (r : R) : Type 0 where
    pub message : Sent R L
    pub there : Has messages message
    pub phase : ℕ
    pub is : message.packet ≡ says (Row request phase (Some r))

  -- an answer with one row, if any
  abbrev pub CameAnswer : ℕ → Option R → Type 0
  CameAnswer request None = ⊤
  CameAnswer request (Some r) = CameRow request r

  -- rows that came for a request
  pub record CameRows (request : ℕ) (a : RangeAnswer R) : Type 0 where
    pub message : Sent R L
    pub there : Has messages message
    pub phase : ℕ
    pub is : message.packet ≡ says (Rows request phase a.rows a.more)

  -- what a phase has got
  abbrev pub Holds : ℕ → Present R → Type 0
  Holds request (asking q as') = AllByRecursion (λ (a : ℕ × Option R). CameAnswer request a.1) as'
  Holds request (scanning q as') = AllByRecursion (λ (a : ℕ × RangeAnswer R). CameRows request a.1) as'
  Holds request _ = ⊤

  -- an open request, of a number from 1
  pub record HoldsSent (c : Call R) : Type 0 where
    pub some : 1 ≤ c.request
    pub holds : Holds c.request c.present

  module _ (join : R → R → R) (s : Words R) where
    -- a phase of this request ended
    pub record HasEnded (ends : List (Ended R)) (request : ℕ) : Type 0 where
      pub how : PhaseEnd R
      pub is : ends ≡ record { request = request; how = how } ∷ []

    -- what a read phase gives is merged of two answers that came for its request
    pub record GivesRow (ends : List (Ended R)) (q : Question R) (value : Option R) : Type 0 where
      pub request : ℕ
      pub some : 1 ≤ request
      pub ended : HasEnded ends request
      pub two : Option R × Option R
      pub came : CameAnswer request two.0 × CameAnswer request two.1
      pub found : IsFound s AnyRow q.table q.key two.0 × IsFound s AnyRow q.table q.key two.1
      pub is : value ≡ merged join two

    -- and what a range phase gives is the window of two
    pub record GivesRows (ends : List (Ended R)) (q : Scan R) (rows : List R) : Type 0 where
      pub request : ℕ
      pub some : 1 ≤ request
      pub ended : HasEnded ends request
      pub two : RangeAnswer R × RangeAnswer R
      pub came : CameRows request two.0 × CameRows request two.1
      pub found : IsAnswer join s AnyRow AnyBlock q.position q.prefix q.after two.0 × IsAnswer join s AnyRow AnyBlock q.position q.prefix q.after two.1
      pub is : rows ≡ (window join s two).rows

    abbrev pub Gives : List (Ended R) → Reading R → Type 0
    Gives ends (read q value) = GivesRow ends q value
    Gives ends (scanned q rows end) = GivesRows ends q rows

    -- what a node holds and gives came in messages
    pub record IsTraced (d : Did R L) : Type 0 where
      pub calls : AllByRecursion HoldsSent d.node.calls
      pub reads : AllByRecursion (Gives d.ends) d.reads

    module _ (x : Node R L) (held : AllByRecursion HoldsSent x.calls) where
      same : (d : Did R L) → d.node.calls ≡ x.calls → d.reads ≡ [] → IsTraced d
      same d calls reads = record { calls = subst (AllByRecursion HoldsSent) (sym calls) held; reads = subst (AllByRecursion (Gives d.ends)) (sym reads) tt }

      rests : IsTraced (quiet x)
      rests = same (quiet x) refl refl

      either : (b : Bool) (d e : Did R L) → IsTraced d → IsTraced e → IsTraced (cond b d e)
      either true d e h i = h
      either false d e h i = i

      either_acted : (b : Bool) (d e : Acted R L) → IsTraced d.did → IsTraced e.did → IsTraced (cond b d e).did
      either_acted true d e h i = h
      either_acted false d e h i = i

      -- one request is in another phase
      with_held : (c : Call R) (phases : ℕ) (p : Present R) → Holds c.request p → (calls : List (Call R)) → AllByRecursion HoldsSent calls → AllByRecursion HoldsSent (with_call (record c { phases = phases; present = p }) calls)
      with_held c phases p h [] a = tt
      with_held c phases p h (d ∷ calls) a = (
        elim (d.request == c.request) as (λ b. (d.request == c.request) ≡ b → HoldsSent (cond b (record d { phases = phases; present = p }) d)) [
          | true ↦ (λ e. record { some = a.0.some; holds = subst (λ request. Holds request p) (sym (eqb-true d.request c.request e)) h })
          | false ↦ (λ e. a.0)
        ] refl,
        with_held c phases p h calls a.1,
      )

      -- ---- walks, rounds and stores: requests stay as they are, and nothing is given

      module _ (k : Layouts L) where
        at_walk_traced : (table : ℕ) (prefix : List ℕ) (f : Walk → Did R L) (o : Option Walk) → ((w : Walk) → IsTraced (f w)) → IsTraced (at_walk join s k x table prefix f o)
        at_walk_traced table prefix f None h = rests
        at_walk_traced table prefix f (Some w) h = either (is_open table prefix w.state.prefixes) (f w) (quiet x) (h w) rests

        mending_traced : (now : Mending → Node R L) (other : Did R L) → ((m : Mending) → (now m).calls ≡ x.calls) → IsTraced other → (from number p table : ℕ) (prefix : List ℕ) (answer : Option (List (ℕ × Hash32))) (o : Option Mending) → IsTraced (mending_came join s k x now other from number p table prefix answer o)
        mending_traced now other calls h from number p table prefix answer None = h
        mending_traced now other calls h from number p table prefix answer (Some mending) =
            either (mending.number == number) _ other (at_walk_traced table prefix (mending_walks join s k x now table prefix answer mending) (walk_at p from mending.walks) (λ w. same _ (calls _) refl)) h

        late_traced : (from number p table : ℕ) (prefix : List ℕ) (answer : Option (List (ℕ × Hash32))) → IsTraced (late_came join s k x from number p table prefix answer)
        late_traced from number p table prefix answer =
            mending_traced (with_lasting join s k x) _ (λ m. refl) (mending_traced (with_mending join s k x) _ (λ m. refl) rests from number p table prefix answer x.mending) from number p table prefix answer x.lasting

        calls_walked : (id table : ℕ) (prefix : List ℕ) (answer : Option (List (ℕ × Hash32))) (round : Round) (w : Walk) → (round_walks join s k id x table prefix answer round w).node.calls ≡ x.calls
        calls_walked id table prefix answer round w =
            let later = walk_after join s x w table prefix answer in
            let now : Round = record round { walks = walks_after later round.walks } in
            let there : Round = record now { confirmed = now.confirmed ++ record { partition = w.state.partition; node = w.node } ∷ [] } in
            elim (found_same later) as (λ b. (cond b (goes_on join s k id x there) (record x { round = Some now })).calls ≡ x.calls) [ true ↦ calls_round join s k id x there | false ↦ refl ]

        answer_traced : (id from number p table : ℕ) (prefix : List ℕ) (answer : Option (List (ℕ × Hash32))) (o : Option Round) → IsTraced (answer_came join s k id x from number p table prefix answer o)
        answer_traced id from number p table prefix answer None = late_traced from number p table prefix answer
        answer_traced id from number p table prefix answer (Some round) =
            either (round.number == number) _ _
            (at_walk_traced table prefix (round_walks join s k id x table prefix answer round) (walk_at p from round.walks) (λ w. same (round_walks join s k id x table prefix answer round w) (calls_walked id table prefix answer round w) refl))
            (late_traced from number p table prefix answer)

        walks_traced : (id from : ℕ) (tag : Tag) (table : ℕ) (prefix : List ℕ) (answer : Option (List (ℕ × Hash32))) → IsTraced (walks_on join s k id x from tag table prefix answer)
        walks_traced id from (ForCall request phase slot) table prefix answer = rests
        walks_traced id from (ForRound number p) table prefix answer = answer_traced id from number p table prefix answer x.round
        walks_traced id from (ForItem number) table prefix answer = rests

        compares_traced : (id from : ℕ) (tag : Tag) (named p table : ℕ) (prefix : List ℕ) (hash : Hash32) → IsTraced (compares join s k id x from tag named p table prefix hash)
        compares_traced id from tag named p table prefix hash =
            either (nat_lt (newest k.reading x.view) named) _ _ (same _ refl refl) (either (not (is_given k x.view id p)) _ _ (same _ refl refl) (same _ refl refl))

        takes_traced : (id now from : ℕ) (tag : Tag) (named p : ℕ) (rows : List (List ℕ × Option (List ℕ))) → IsTraced (takes join s k id now x from tag named p rows)
        takes_traced id now from tag named p rows =
            either (nat_lt (newest k.reading x.view) named) _ _ (same _ refl refl)
            (either (not (is_given k x.view id p)) _ _ (same _ refl refl) (same (answers (accepts_all join s now x rows) from (Stored tag)) (calls_all join s k now x rows) refl))

        round_traced : (id from number p : ℕ) (o : Option Round) → IsTraced (round_came join s k id x from number p o)
        round_traced id from number p None = rests
        round_traced id from number p (Some round) =
            let now : Round = record round { confirmed = round.confirmed ++ record { partition = p; node = from } ∷ [] } in
            either (round.number == number) (quiet (goes_on join s k id x now)) (quiet x) (same (quiet (goes_on join s k id x now)) (calls_round join s k id x now) refl) rests

        where_traced : (from request phase at : ℕ) (d : Did R L) → IsTraced d → IsTraced (where_stored join s k x from request phase at d)
        where_traced from request phase at d h = either (is_stored k x.view at) d _ h (same _ refl refl)

        gives_block_traced : (from request phase : ℕ) (b : Option (List ℕ)) → IsTraced (gives_block join s k x from request phase b)
        gives_block_traced from request phase None = same _ refl refl
        gives_block_traced from request phase (Some bytes) = same _ refl refl

        -- ---- what a node does by itself

        syncs_traced : (id : ℕ) (o : Option Round) → IsTraced (syncs join s k id x o).did
        syncs_traced id (Some round) = same (again join s k id x round) (calls_round join s k id x (walked_anew join s k x round)) refl
        syncs_traced id None = either_acted (may_sync join s k id x.view) _ _ (same (begin_round join s k id x) (calls_begun join s k id x) refl) rests

        pub acts_traced : (id now : ℕ) (action : Action) → IsTraced (acts join s k id now x action).did
        acts_traced id now RaiseAck = same _ refl refl
        acts_traced id now GoOn = syncs_traced id x.round
        acts_traced id now RaiseSyncAck = same _ refl refl
        acts_traced id now CleanUp = same _ (calls_seen join s k id now x (cleaned k.reading x.view)) refl
        acts_traced id now WorkOff = same _ refl refl
        acts_traced id now Mend = same _ refl refl
        acts_traced id now Gather = (let b = collects_beside join s x k id now in same _ b.calls b.reads)

        -- a phase of a request begins
        pub begins_traced : (kept : List R) (c : Call R) (phase : Phase R) → IsTraced (begins s k kept x c phase)
        begins_traced kept c (Read table position key) = record { calls = with_held c (suc c.phases) (asking _ []) tt x.calls held; reads = tt }
        begins_traced kept c (Scans position prefix after) = record { calls = with_held c (suc c.phases) (scanning _ []) tt x.calls held; reads = tt }
        begins_traced kept c (Keeps rows) = record { calls = with_held c (suc c.phases) (storing _ _) tt x.calls held; reads = tt }
        begins_traced kept c (Fetches hash) = record { calls = with_held c (suc c.phases) (fetching _) tt x.calls held; reads = tt }

        -- ---- answers

        module _ (g : Asks) (count n : ℕ) (sound : IsNode join s AnyRow AnyBlock g count n x) where
          in_phase : (request phase : ℕ) (f : Call R → Did R L) → ((c : Call R) → c.request ≡ request → c.phases ≡ phase → HoldsSent c → IsCall join s AnyRow AnyBlock g count n c → IsTraced (f c)) → IsTraced (at_call x phase f (call_at x.calls request))
          in_phase request phase f h = by_call (call_at x.calls request) refl
            where
              by_call : (o : Option (Call R)) → call_at x.calls request ≡ o → IsTraced (at_call x phase f o)
              by_call None e = rests
              by_call (Some c) e =
                  let one = all_found HoldsSent (λ c. c.request == request) x.calls c held e in
                  let two = all_found (IsCall join s AnyRow AnyBlock g count n) (λ c. c.request == request) x.calls c sound.calls e in
                  elim (c.phases == phase) as (λ b. (c.phases == phase) ≡ b → IsTraced (cond b (f c) (quiet x))) [
                    | true ↦ (λ there. h c (eqb-true c.request request one.1) (eqb-true c.phases phase there) one.0 two.0)
                    | false ↦ (λ there. rests)
                  ] refl

          module _ (c : Call R) (holds : HoldsSent c) (is : IsCall join s AnyRow AnyBlock g count n c) where
            -- the request goes on in this phase, or has ended it and gives nothing
            goes_with : (p : Present R) → Holds c.request p → AllByRecursion HoldsSent (with_call (record c { present = p }) x.calls)
            goes_with p h = with_held c c.phases p h x.calls held

            asked_traced : (q : Question R) (as' : List (ℕ × Option R)) (a : ℕ × Option R) (o : Option (Option R × Option R)) → first_two_at q.set as' a ≡ o → Holds c.request (asking q as') → CameAnswer c.request a.1 →
                AllByRecursion (λ (a : ℕ × Option R). IsFound s AnyRow q.table q.key a.1) as' → IsFound s AnyRow q.table q.key a.1 → IsTraced (asked x c q as' a (merged_at join o))
            asked_traced q as' a None e has came all found = record { calls = goes_with (asking q (as' ++ a ∷ [])) (all_append (λ (a : ℕ × Option R). CameAnswer c.request a.1) as' (a ∷ []) has (came, tt)); reads = tt }
            asked_traced q as' a (Some two) e has came all found = record {
              calls = goes_with resting tt;
              reads = (
                record {
                  request = c.request;
                  some = holds.some;
                  ended = record { how = GaveRow (merged join two); is = refl };
                  two = two;
                  came = two_have (CameAnswer c.request) q.set as' a two has came e;
                  found = two_have (IsFound s AnyRow q.table q.key) q.set as' a two all found e;
                  is = refl;
                },
                tt,
              );
            }

            -- what came for a phase that asks for this
            answer_found : (from table : ℕ) (key : List ℕ) (row : Option R) → g n c.request c.phases ≡ Some (for_row table key) → IsMessage join s AnyRow AnyBlock g from n (Row c.request c.phases row) → IsFound s AnyRow table key row
            answer_found from table key None e m = tt
            answer_found from table key (Some r) e m =
                let both : Some (for_row (s.table r) (s.key r)) ≡ Some (for_row table key) = sym m.0 ∙ e in
                record { good = m.1; table_is = cc; key_is = cc }

            row_traced : (from : ℕ) (row : Option R) (p : Present R) → c.present ≡ p → CameAnswer c.request row → IsMessage join s AnyRow AnyBlock g from n (Row c.request c.phases row) → IsTraced (row_came join x c from row p)
            row_traced from row resting e came m = rests
            row_traced from row (asking q as') e came m =
                let has = subst (IsPresent join s AnyRow AnyBlock (g n c.request c.phases)) e is.present in
                asked_traced q as' (from, row) (first_two_at q.set as' (from, row)) refl (subst (Holds c.request) e holds.holds) came has.1 (answer_found from q.table q.key row has.0 m)
            row_traced from row (scanning q as') e came m = rests
            row_traced from row (storing rs slots) e came m = rests
            row_traced from row (fetching hash) e came m = rests

            looked_traced : (q : Scan R) (as' : List (ℕ × RangeAnswer R)) (a : ℕ × RangeAnswer R) (o : Option (RangeAnswer R × RangeAnswer R)) → first_two_at q.set as' a ≡ o → Holds c.request (scanning q as') → CameRows c.request a.1 →
                AllByRecursion (λ (a : ℕ × RangeAnswer R). IsAnswer join s AnyRow AnyBlock q.position q.prefix q.after a.1) as' → IsAnswer join s AnyRow AnyBlock q.position q.prefix q.after a.1 → IsTraced (looked x c q as' a (window_at join s o))
            looked_traced q as' a None e has came all found = record { calls = goes_with (scanning q (as' ++ a ∷ [])) (all_append (λ (a : ℕ × RangeAnswer R). CameRows c.request a.1) as' (a ∷ []) has (came, tt)); reads = tt }
            looked_traced q as' a (Some two) e has came all found = record {
              calls = goes_with resting tt;
              reads = (
                record {
                  request = c.request;
                  some = holds.some;
                  ended = record { how = GaveWindow (window join s two).rows (window join s two).end; is = refl };
                  two = two;
                  came = two_have (CameRows c.request) q.set as' a two has came e;
                  found = two_have (IsAnswer join s AnyRow AnyBlock q.position q.prefix q.after) q.set as' a two all found e;
                  is = refl;
                },
                tt,
              );
            }

            rows_traced : (from : ℕ) (rs : List R) (more : Bool) (p : Present R) → c.present ≡ p → CameRows c.request (record { rows = rs; more = more }) → AnswersTo join s AnyRow AnyBlock (g n c.request c.phases) (record { rows = rs; more = more }) → IsTraced (rows_came join s x c from rs more p)
            rows_traced from rs more resting e came m = rests
            rows_traced from rs more (asking q as') e came m = rests
            rows_traced from rs more (scanning q as') e came m =
                let found : RangeAnswer R = record { rows = rs; more = more } in
                let has = subst (IsPresent join s AnyRow AnyBlock (g n c.request c.phases)) e is.present in
                let both : Some (for_rows m.position m.prefix m.after) ≡ Some (for_rows q.position q.prefix q.after) = sym m.is ∙ has.0 in
                let first : m.position ≡ q.position = cc in
                let second : m.prefix ≡ q.prefix = cc in
                let third : m.after ≡ q.after = cc in
                let is_answer = subst (λ t. IsAnswer join s AnyRow AnyBlock t q.prefix q.after found) first (subst (λ t. IsAnswer join s AnyRow AnyBlock m.position t q.after found) second (subst (λ t. IsAnswer join s AnyRow AnyBlock m.position m.prefix t found) third m.answer)) in
                looked_traced q as' (from, found) (first_two_at q.set as' (from, found)) refl (subst (Holds c.request) e holds.holds) came has.2 is_answer
            rows_traced from rs more (storing others slots) e came m = rests
            rows_traced from rs more (fetching hash) e came m = rests

            stored_traced : (rs : List R) (slots : List StoreSlot) (b : Bool) → IsTraced (stored x c rs slots b)
            stored_traced rs slots false = record { calls = goes_with (storing rs slots) tt; reads = tt }
            stored_traced rs slots true = record { calls = goes_with resting tt; reads = tt }

            slot_traced : (slot from : ℕ) (p : Present R) → IsTraced (stored_came k x c slot from p)
            slot_traced slot from resting = rests
            slot_traced slot from (asking q as') = rests
            slot_traced slot from (scanning q as') = rests
            slot_traced slot from (storing rs slots) = (let now = with_confirmation slots slot from in stored_traced rs now (is_kept now (oldest k.reading x.view)))
            slot_traced slot from (fetching hash) = rests

            block_traced : (bytes : List ℕ) (p : Present R) → IsTraced (block_came x c bytes p)
            block_traced bytes resting = rests
            block_traced bytes (asking q as') = rests
            block_traced bytes (scanning q as') = rests
            block_traced bytes (storing rs slots) = rests
            block_traced bytes (fetching hash) = record { calls = goes_with resting tt; reads = tt }

          confirms_traced : (id from : ℕ) (tag : Tag) → IsTraced (confirms join s k id x from tag)
          confirms_traced id from (ForCall request phase slot) = in_phase request phase _ (λ c request_is phase_is h i. slot_traced c h i slot from c.present)
          confirms_traced id from (ForRound number p) = round_traced id from number p x.round
          confirms_traced id from (ForItem number) = same _ refl refl

          -- a message that was sent is heard
          module _ (m : Sent R L) (there : Has messages m) where
            came_row : (request phase : ℕ) (row : Option R) → m.packet ≡ says (Row request phase row) → CameAnswer request row
            came_row request phase None e = tt
            came_row request phase (Some r) e = record { message = m; there = there; phase = phase; is = e }

            hears_traced : (id now from : ℕ) (msg : Message R) → m.packet ≡ says msg → IsMessage join s AnyRow AnyBlock g from n msg → IsTraced (hears join s k id now x from msg)
            hears_traced id now from (Get request phase at table key) e i = where_traced from request phase at _ (same _ refl refl)
            hears_traced id now from (Row request phase row) e i =
                in_phase request phase (λ c. row_came join x c from row c.present) (λ c request_is phase_is h is.
                row_traced c h is from row c.present refl (subst (λ q. CameAnswer q row) (sym request_is) (came_row request phase row e))
                (subst (λ q. IsMessage join s AnyRow AnyBlock g from n (Row q c.phases row)) (sym request_is) (subst (λ p. IsMessage join s AnyRow AnyBlock g from n (Row request p row)) (sym phase_is) i)))
            hears_traced id now from (Range request phase at bucket prefix after) e i = where_traced from request phase at _ (same _ refl refl)
            hears_traced id now from (Rows request phase rs more) e i =
                in_phase request phase (λ c. rows_came join s x c from rs more c.present) (λ c request_is phase_is h is.
                rows_traced c h is from rs more c.present refl (subst (λ q. CameRows q (record { rows = rs; more = more })) (sym request_is) (record { message = m; there = there; phase = phase; is = e }))
                (subst (λ q. AnswersTo join s AnyRow AnyBlock (g n q c.phases) (record { rows = rs; more = more })) (sym request_is) (subst (λ p. AnswersTo join s AnyRow AnyBlock (g n request p) (record { rows = rs; more = more })) (sym phase_is) i)))
            hears_traced id now from (Store tag named p rows) e i = takes_traced id now from tag named p rows
            hears_traced id now from (Stored tag) e i = confirms_traced id from tag
            hears_traced id now from (Behind tag v) e i = rests
            hears_traced id now from (NotHere tag) e i = rests
            hears_traced id now from (BlockGet request phase at hash) e i = where_traced from request phase at _ (gives_block_traced from request phase (block_at x.blocks hash.0))
            hears_traced id now from (Block request phase bytes) e i = in_phase request phase _ (λ c request_is phase_is h is. block_traced c h is bytes c.present)
            hears_traced id now from (NoBlock request phase) e i = rests
            hears_traced id now from (AsksValue tag named p table prefix hash) e i = compares_traced id from tag named p table prefix hash
            hears_traced id now from (HasSame tag table prefix) e i = walks_traced id from tag table prefix None
            hears_traced id now from (Differ tag table prefix pairs) e i = walks_traced id from tag table prefix (Some pairs)
            hears_traced id now from (Tomb number round row) e i = (let b = tomb_beside join s x k id now from number round row in same _ b.calls b.reads)
            hears_traced id now from (Tombed number round named) e i = (let b = tombed_beside join s x k id now from number round named in same _ b.calls b.reads)
            hears_traced id now from (Forget table key hash) e i = (let b = forget_beside join s x table key hash.0 in same _ b.calls b.reads)

            pub receives_traced : (id now from : ℕ) (p : Packet R L) → m.packet ≡ p → IsPacket join s AnyRow AnyBlock g from n p → IsTraced (receives join s k id now x from p)
            receives_traced id now from (says msg) e i = hears_traced id now from msg e i
            receives_traced id now from (shows v) e i = same _ (calls_seen join s k id now x (merged_views k.reading x.view v)) refl
