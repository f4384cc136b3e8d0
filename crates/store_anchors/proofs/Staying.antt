-- Where no open request of a node rests, one rests after a message only where its phase ended, and none after what a node does by itself.
use Rattle.std.specs.Prelude.{◌≡◌, ◌⊎◌, ℕ, Bool, true, false, not, cond, ◌==◌, nat_lt, List, [], ◌∷◌, ◌++◌, Option, Some, None, refl}
use Rattle.std.proofs.Common.{ap, sym, subst, ◌∙◌, inl, inr}
use Rattle.crdt_core.specs.Members.{Has}
use Rattle.view_model.specs.View.{newest, merged, cleaned}
use Rattle.table_schema.specs.Words.{Words}
use Rattle.quorum_model.specs.declared.range.RangeAnswer.{RangeAnswer}
use Rattle.quorum_model.specs.Quorum.{StoreSlot, with_confirmation}
use Rattle.quorum_model.specs.Window.{Window}
use Rattle.wire_messages.specs.declared.message.Message.{Message}
use Rattle.wire_messages.specs.declared.message.Message.TheVariants.{Get, Row, Range, Rows, Store, Stored, Behind, NotHere, BlockGet, Block, NoBlock, Walk as AsksValue, Same as HasSame, Differ, Tomb, Tombed, Forget}
use Rattle.blake2_hash.specs.declared.digest.Hash32.{Hash32}
use Rattle.wire_messages.specs.declared.message.Tag.{Tag}
use Rattle.wire_messages.specs.declared.message.Tag.TheVariants.{Call as ForCall, Round as ForRound, Item as ForItem}
use Rattle.wire_messages.specs.declared.phase.PhaseEnd.{PhaseEnd}
use Rattle.wire_messages.specs.declared.phase.PhaseEnd.TheVariants.{Row as GaveRow, Window as GaveWindow, Kept as IsKept, Block as GaveBlock}
use Rattle.cluster_machine.specs.declared.step.Action.{Action}
use Rattle.cluster_machine.specs.declared.step.Action.TheVariants.{Ack as RaiseAck, Sync as GoOn, SyncAck as RaiseSyncAck, Clean, Work, Repair, Collect}
use Rattle.cluster_machine.specs.Layouts.{Layouts, is_given, is_stored}
use Rattle.cluster_machine.specs.Node.{Question, Scan, Present, resting, asking, scanning, storing, fetching, Call, Node, Walk, Round, Mending, Packet, says, shows, read, scanned, Did, Ended, Reading, quiet}
use Rattle.cluster_machine.specs.Rows.{accepts_all, block_at}
use Rattle.cluster_machine.specs.Phases.{call_at, calls_now, ended, asked, looked, stored, value_after, row_came, rows_came, stored_came, block_came, at_call}
use Rattle.cluster_machine.specs.Rounds.{goes_on, may_sync, walk_at, walk_after, walks_after, found_same, round_walks, mending_walks, at_walk, mending_came, with_mending, with_lasting, late_came, answer_came, walked_anew}
use Rattle.cluster_machine.specs.Receives.{answers, where_stored, gives_block, takes, round_came, compares, walks_on, confirms, hears, receives}
use Rattle.cluster_machine.specs.Acts.{Acted, syncs, acts}
use Rattle.machine_origins.proofs.Collecting.{tomb_beside, tombed_beside, forget_beside, collects_beside}
use Rattle.machine_origins.proofs.FollowingCalls.{was}
use Rattle.machine_origins.proofs.FollowingSteps.{calls_all, calls_seen, calls_round, calls_begun}

-- this request's phase is the one that ended
abbrev pub FirstEnded : {R : Type 0} → List (Ended R) → ℕ → Type 0
FirstEnded [] q = ⊥
FirstEnded (e ∷ es) q = q ≡ e.request

module _ {R L : Type 0} (x : Node R L) (may : ℕ → Type 0) (busy : (c : Call R) → Has x.calls c → c.present ≡ resting → may c.request) where
  -- a request that rests now is one whose phase ended, or rested before
  pub record Stays (d : Did R L) : Type 0 where
    pub rests : (c : Call R) → Has d.node.calls c → c.present ≡ resting → FirstEnded d.ends c.request ⊎ may c.request

  stays_same : (d : Did R L) → d.node.calls ≡ x.calls → Stays d
  stays_same d calls = record { rests = λ c h rests. inr (busy c (subst (λ cs. Has cs c) calls h) rests) }

  stays_on : (c : Call R) (p : Present R) → (p ≡ resting → ⊥) → Stays (quiet (calls_now x (record c { present = p })))
  stays_on c p not = record {
    rests = λ e h rests. elim (was x.calls (record c { present = p }) e h) [
      | inl same ↦ inr (busy e same.0 rests)
      | inr k ↦ absurd (not (ap (λ (z : Call R). z.present) k.3 ∙ rests))
    ];
  }

  stays_ended : (c : Call R) (how : PhaseEnd R) (keeps : List R) (reads : List (Reading R)) → Stays (record (ended x c how) { keeps = keeps; reads = reads })
  stays_ended c how keeps reads = record {
    rests = λ e h rests. elim (was x.calls (record c { present = resting }) e h) [
      | inl same ↦ inr (busy e same.0 rests)
      | inr k ↦ inl (sym (ap (λ (z : Call R). z.request) k.3) ∙ k.2)
    ];
  }

  stays_cond : (b : Bool) (d e : Did R L) → Stays d → Stays e → Stays (cond b d e)
  stays_cond true d e h k = h
  stays_cond false d e h k = k

  stays_quiet : Stays (quiet x)
  stays_quiet = stays_same (quiet x) refl

  stays_at : (phase : ℕ) (f : Call R → Did R L) (o : Option (Call R)) → ((c : Call R) → Stays (f c)) → Stays (at_call x phase f o)
  stays_at phase f None h = stays_quiet
  stays_at phase f (Some c) h = stays_cond (c.phases == phase) (f c) (quiet x) (h c) stays_quiet

  module _ (c : Call R) where
    stays_asked : (q : Question R) (as' : List (ℕ × Option R)) (a : ℕ × Option R) (value : Option (Option R)) → Stays (asked x c q as' a value)
    stays_asked q as' a None = stays_on c (asking q (as' ++ a ∷ [])) (λ e. cc)
    stays_asked q as' a (Some value) = stays_ended c (GaveRow value) [] (read q value ∷ [])

    stays_looked : (q : Scan R) (as' : List (ℕ × RangeAnswer R)) (a : ℕ × RangeAnswer R) (w : Option (Window R)) → Stays (looked x c q as' a w)
    stays_looked q as' a None = stays_on c (scanning q (as' ++ a ∷ [])) (λ e. cc)
    stays_looked q as' a (Some w) = stays_ended c (GaveWindow w.rows w.end) [] (scanned q w.rows w.end ∷ [])

    stays_stored : (rows : List R) (now : List StoreSlot) (b : Bool) → Stays (stored x c rows now b)
    stays_stored rows now false = stays_on c (storing rows now) (λ e. cc)
    stays_stored rows now true = stays_ended c IsKept rows []

    stays_block : (bytes : List ℕ) (p : Present R) → Stays (block_came x c bytes p)
    stays_block bytes (fetching hash) = stays_ended c (GaveBlock bytes) [] []
    stays_block bytes resting = stays_quiet
    stays_block bytes (asking q as') = stays_quiet
    stays_block bytes (scanning q as') = stays_quiet
    stays_block bytes (storing rows slots) = stays_quiet

    module _ (join : R → R → R) (s : Words R) (k : Layouts L) where
      stays_row : (from : ℕ) (row : Option R) (p : Present R) → Stays (row_came join x c from row p)
      stays_row from row (asking q as') = stays_asked q as' (from, row) (value_after join q as' (from, row))
      stays_row from row resting = stays_quiet
      stays_row from row (scanning q as') = stays_quiet
      stays_row from row (storing rows slots) = stays_quiet
      stays_row from row (fetching hash) = stays_quiet

      stays_rows : (from : ℕ) (rows : List R) (more : Bool) (p : Present R) → Stays (rows_came join s x c from rows more p)
      stays_rows from rows more (scanning q as') = stays_looked q as' _ _
      stays_rows from rows more resting = stays_quiet
      stays_rows from rows more (asking q as') = stays_quiet
      stays_rows from rows more (storing others slots) = stays_quiet
      stays_rows from rows more (fetching hash) = stays_quiet

      stays_confirmed : (slot from : ℕ) (p : Present R) → Stays (stored_came k x c slot from p)
      stays_confirmed slot from (storing rows slots) = stays_stored rows (with_confirmation slots slot from) _
      stays_confirmed slot from resting = stays_quiet
      stays_confirmed slot from (asking q as') = stays_quiet
      stays_confirmed slot from (scanning q as') = stays_quiet
      stays_confirmed slot from (fetching hash) = stays_quiet

  module _ (join : R → R → R) (s : Words R) (k : Layouts L) where
    stays_answer : (y : Node R L) (to : ℕ) (m : Message R) → y.calls ≡ x.calls → Stays (answers y to m)
    stays_answer y to m e = stays_same (answers y to m) e

    stays_where : (from request phase at : ℕ) (d : Did R L) → Stays d → Stays (where_stored join s k x from request phase at d)
    stays_where from request phase at d h = stays_cond (is_stored k x.view at) d _ h (stays_answer x from _ refl)

    stays_gives_block : (from request phase : ℕ) (b : Option (List ℕ)) → Stays (gives_block join s k x from request phase b)
    stays_gives_block from request phase None = stays_answer x from _ refl
    stays_gives_block from request phase (Some bytes) = stays_answer x from _ refl

    stays_takes : (id now from : ℕ) (tag : Tag) (named p : ℕ) (rows : List (List ℕ × Option (List ℕ))) → Stays (takes join s k id now x from tag named p rows)
    stays_takes id now from tag named p rows =
        stays_cond (nat_lt (newest k.reading x.view) named) _ _ (stays_answer x from _ refl)
        (stays_cond (not (is_given k x.view id p)) _ _ (stays_answer x from _ refl) (stays_answer (accepts_all join s now x rows) from _ (calls_all join s k now x rows)))

    stays_round : (id from number p : ℕ) (o : Option Round) → Stays (round_came join s k id x from number p o)
    stays_round id from number p None = stays_quiet
    stays_round id from number p (Some round) =
        let now : Round = record round { confirmed = round.confirmed ++ record { partition = p; node = from } ∷ [] } in
        stays_cond (round.number == number) (quiet (goes_on join s k id x now)) (quiet x) (stays_same (quiet (goes_on join s k id x now)) (calls_round join s k id x now)) stays_quiet

    stays_compares : (id from : ℕ) (tag : Tag) (named p table : ℕ) (prefix : List ℕ) (hash : Hash32) → Stays (compares join s k id x from tag named p table prefix hash)
    stays_compares id from tag named p table prefix hash =
        stays_cond (nat_lt (newest k.reading x.view) named) _ _ (stays_answer x from _ refl) (stays_cond (not (is_given k x.view id p)) _ _ (stays_answer x from _ refl) (stays_same _ refl))

    stays_at_walk : (table : ℕ) (prefix : List ℕ) (f : Walk → Did R L) (o : Option Walk) → ((w : Walk) → Stays (f w)) → Stays (at_walk join s k x table prefix f o)
    stays_at_walk table prefix f None h = stays_quiet
    stays_at_walk table prefix f (Some w) h = stays_cond _ (f w) (quiet x) (h w) stays_quiet

    module _ (id from number p table : ℕ) (prefix : List ℕ) (answer : Option (List (ℕ × Hash32))) where
      stays_walked : (round : Round) (w : Walk) → Stays (round_walks join s k id x table prefix answer round w)
      stays_walked round w =
          let later : Walk = walk_after join s x w table prefix answer in
          let now : Round = record round { walks = walks_after later round.walks } in
          let there : Round = record now { confirmed = now.confirmed ++ record { partition = w.state.partition; node = w.node } ∷ [] } in
          stays_same (round_walks join s k id x table prefix answer round w)
          (elim (found_same later) as (λ b. (cond b (goes_on join s k id x there) (record x { round = Some now })).calls ≡ x.calls) [ true ↦ calls_round join s k id x there | false ↦ refl ])

      stays_mending : (now : Mending → Node R L) (other : Did R L) → ((m : Mending) → (now m).calls ≡ x.calls) → Stays other → (o : Option Mending) → Stays (mending_came join s k x now other from number p table prefix answer o)
      stays_mending now other same h None = h
      stays_mending now other same h (Some mending) =
          stays_cond (mending.number == number) _ other (stays_at_walk table prefix (mending_walks join s k x now table prefix answer mending) (walk_at p from mending.walks) (λ w. stays_same _ (same _))) h

      stays_late : Stays (late_came join s k x from number p table prefix answer)
      stays_late = stays_mending (with_lasting join s k x) _ (λ m. refl) (stays_mending (with_mending join s k x) (quiet x) (λ m. refl) stays_quiet x.mending) x.lasting

      stays_answered : (o : Option Round) → Stays (answer_came join s k id x from number p table prefix answer o)
      stays_answered None = stays_late
      stays_answered (Some round) =
          stays_cond (round.number == number) _ _ (stays_at_walk table prefix (round_walks join s k id x table prefix answer round) (walk_at p from round.walks) (stays_walked round)) stays_late

    stays_walks : (id from : ℕ) (tag : Tag) (table : ℕ) (prefix : List ℕ) (answer : Option (List (ℕ × Hash32))) → Stays (walks_on join s k id x from tag table prefix answer)
    stays_walks id from (ForCall request phase slot) table prefix answer = stays_quiet
    stays_walks id from (ForRound number p) table prefix answer = stays_answered id from number p table prefix answer x.round
    stays_walks id from (ForItem number) table prefix answer = stays_quiet

    stays_confirms : (id from : ℕ) (tag : Tag) → Stays (confirms join s k id x from tag)
    stays_confirms id from (ForCall request phase slot) = stays_at phase _ (call_at x.calls request) (λ c. stays_confirmed c join s k slot from c.present)
    stays_confirms id from (ForRound number p) = stays_round id from number p x.round
    stays_confirms id from (ForItem number) = stays_same _ refl

    stays_hears : (id now from : ℕ) (m : Message R) → Stays (hears join s k id now x from m)
    stays_hears id now from (Get request phase at table key) = stays_where from request phase at _ (stays_same _ refl)
    stays_hears id now from (Row request phase row) = stays_at phase _ (call_at x.calls request) (λ c. stays_row c join s k from row c.present)
    stays_hears id now from (Range request phase at bucket prefix after) = stays_where from request phase at _ (stays_same _ refl)
    stays_hears id now from (Rows request phase found more) = stays_at phase _ (call_at x.calls request) (λ c. stays_rows c join s k from found more c.present)
    stays_hears id now from (Store tag named p rows) = stays_takes id now from tag named p rows
    stays_hears id now from (Stored tag) = stays_confirms id from tag
    stays_hears id now from (Behind tag v) = stays_quiet
    stays_hears id now from (NotHere tag) = stays_quiet
    stays_hears id now from (BlockGet request phase at hash) = stays_where from request phase at _ (stays_gives_block from request phase (block_at x.blocks hash.0))
    stays_hears id now from (Block request phase bytes) = stays_at phase _ (call_at x.calls request) (λ c. stays_block c bytes c.present)
    stays_hears id now from (NoBlock request phase) = stays_quiet
    stays_hears id now from (AsksValue tag named p table prefix hash) = stays_compares id from tag named p table prefix hash
    stays_hears id now from (HasSame tag table prefix) = stays_walks id from tag table prefix None
    stays_hears id now from (Differ tag table prefix pairs) = stays_walks id from tag table prefix (Some pairs)
    stays_hears id now from (Tomb number round row) = stays_same _ (tomb_beside join s x k id now from number round row).calls
    stays_hears id now from (Tombed number round named) = stays_same _ (tombed_beside join s x k id now from number round named).calls
    stays_hears id now from (Forget table key hash) = stays_same _ (forget_beside join s x table key hash.0).calls

    pub stays_receives : (id now from : ℕ) (packet : Packet R L) → Stays (receives join s k id now x from packet)
    stays_receives id now from (says m) = stays_hears id now from m
    stays_receives id now from (shows v) = stays_same _ (calls_seen join s k id now x (merged k.reading x.view v))

module _ {R L : Type 0} (join : R → R → R) (s : Words R) (k : Layouts L) (x : Node R L) where
  -- what a node does by itself leaves its requests
  abbrev pub Leaves : Did R L → Type 0
  Leaves d = d.node.calls ≡ x.calls

  leaves_acted : (b : Bool) (d e : Acted R L) → Leaves d.did → Leaves e.did → Leaves (cond b d e).did
  leaves_acted true d e h k = h
  leaves_acted false d e h k = k

  leaves_syncs : (id : ℕ) (o : Option Round) → Leaves (syncs join s k id x o).did
  leaves_syncs id (Some round) = calls_round join s k id x (walked_anew join s k x round)
  leaves_syncs id None = leaves_acted (may_sync join s k id x.view) _ _ (calls_begun join s k id x) refl

  pub leaves_acts : (id now : ℕ) (action : Action) → Leaves (acts join s k id now x action).did
  leaves_acts id now RaiseAck = refl
  leaves_acts id now GoOn = leaves_syncs id x.round
  leaves_acts id now RaiseSyncAck = refl
  leaves_acts id now Clean = calls_seen join s k id now x (cleaned k.reading x.view)
  leaves_acts id now Work = refl
  leaves_acts id now Repair = refl
  leaves_acts id now Collect = (collects_beside join s x k id now).calls
