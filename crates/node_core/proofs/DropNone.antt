-- What a node does where it drops no row.
use Rattle.std.specs.Prelude.{◌≡◌, ◌⊎◌, ℕ, ◌==◌, Bool, true, false, cond, List, Option, Some, None, refl, ⊤}
use Rattle.std.proofs.Common.{ap, sym, subst, ◌∙◌, inl, inr}
use Rattle.layout_roles.specs.declared.layout.Layout.{Layout}
use Rattle.blake2_hash.specs.declared.digest.Hash32.{Hash32}
use Rattle.table_schema.specs.Words.{Words}
use Rattle.view_model.specs.View.{oldest}
use Rattle.walk_model.specs.Walking.{is_open}
use Rattle.quorum_model.specs.Quorum.{StoreSlot, is_kept, with_confirmation}
use Rattle.quorum_model.specs.Answers.{first_two_at}
use Rattle.quorum_model.specs.declared.range.RangeAnswer.{RangeAnswer}
use Rattle.quorum_model.specs.Window.{Window}
use Rattle.wire_messages.specs.declared.message.Message.{Message}
use Rattle.wire_messages.specs.declared.message.Message.TheVariants.{Get, Row, Range, Rows, Store, Stored, Behind, NotHere, BlockGet, Block, NoBlock, Walk as AsksValue, Same, Differ, Tomb, Tombed, Forget}
use Rattle.wire_messages.specs.declared.message.Tag.{Tag}
use Rattle.wire_messages.specs.declared.message.Tag.TheVariants.{Call as ForCall, Round as ForRound, Item as ForItem}
use Rattle.wire_messages.specs.declared.phase.Phase.{Phase}
use Rattle.wire_messages.specs.declared.phase.PhaseEnd.{PhaseEnd}
use Rattle.wire_messages.specs.declared.phase.Phase.TheVariants.{Read, Range as Scans, Store as Keeps, Block as Fetches}
use Rattle.cluster_machine.specs.declared.step.Action.{Action}
use Rattle.cluster_machine.specs.declared.step.Action.TheVariants.{Ack as RaiseAck, Sync as GoOn, SyncAck as RaiseSyncAck, Clean, Work, Repair, Collect}
use Rattle.cluster_machine.specs.Layouts.{Layouts, is_stored, layouts}
use Rattle.cluster_machine.specs.Node.{Node, Call, Question, Scan, Round, Mending, Present, resting, asking, scanning, storing, fetching, Walk, Did, quiet}
use Rattle.cluster_machine.specs.Phases.{asked, looked, stored, value_after, window_at, row_came, rows_came, stored_came, block_came, at_call, call_at, begins}
use Rattle.cluster_machine.specs.Rounds.{may_sync, round_walks, mending_walks, at_walk, mending_came, late_came, answer_came, with_mending, with_lasting, walk_at}
use Rattle.cluster_machine.specs.Receives.{answers, where_stored, gives_row, gives_rows, gives_block, takes, compares, walks_on, round_came, confirms, hears}
use Rattle.cluster_machine.specs.Acts.{Acted, acts, syncs}
use Rattle.node_core.specs.declared.node.Heard.{Heard}

-- neither an end of a collection nor a row that another node collected
abbrev pub IsOther : {R : Type 0} → Message R → Type 0
IsOther (Tombed number round named) = ⊥
IsOther (Forget table key hash) = ⊥
IsOther _ = ⊤

module _ {R L : Type 0} where
  -- one of two that drop none
  either : (b : Bool) (d e : Did R L) → d.dropped ≡ None → e.dropped ≡ None → (cond b d e).dropped ≡ None
  either true d e h k = h
  either false d e h k = k

  either_act : (b : Bool) (d e : Acted R L) → d.did.dropped ≡ None → e.did.dropped ≡ None → (cond b d e).did.dropped ≡ None
  either_act true d e h k = h
  either_act false d e h k = k

  in_call : (x : Node R L) (phase : ℕ) (f : Call R → Did R L) → ((c : Call R) → (f c).dropped ≡ None) → (o : Option (Call R)) → (at_call x phase f o).dropped ≡ None
  in_call x phase f none None = refl
  in_call x phase f none (Some c) = either (c.phases == phase) (f c) (quiet x) (none c) refl

  asked_none : (x : Node R L) (c : Call R) (q : Question R) (given : List (ℕ × Option R)) (a : ℕ × Option R) (o : Option (Option R)) → (asked x c q given a o).dropped ≡ None
  asked_none x c q given a None = refl
  asked_none x c q given a (Some value) = refl

  looked_none : (x : Node R L) (c : Call R) (q : Scan R) (given : List (ℕ × RangeAnswer R)) (a : ℕ × RangeAnswer R) (o : Option (Window R)) → (looked x c q given a o).dropped ≡ None
  looked_none x c q given a None = refl
  looked_none x c q given a (Some w) = refl

  stored_none : (x : Node R L) (c : Call R) (rows : List R) (now : List StoreSlot) (b : Bool) → (stored x c rows now b).dropped ≡ None
  stored_none x c rows now true = refl
  stored_none x c rows now false = refl

  block_none : (x : Node R L) (c : Call R) (bytes : List ℕ) (p : Present R) → (block_came x c bytes p).dropped ≡ None
  block_none x c bytes resting = refl
  block_none x c bytes (asking q given) = refl
  block_none x c bytes (scanning q given) = refl
  block_none x c bytes (storing rows slots) = refl
  block_none x c bytes (fetching hash) = refl

module _ {R : Type 0} (join : R → R → R) (s : Words R) where
  module _ {L : Type 0} where
    row_none : (x : Node R L) (c : Call R) (from : ℕ) (row : Option R) (p : Present R) → (row_came join x c from row p).dropped ≡ None
    row_none x c from row resting = refl
    row_none x c from row (asking q given) = asked_none x c q given (from, row) (value_after join q given (from, row))
    row_none x c from row (scanning q given) = refl
    row_none x c from row (storing rows slots) = refl
    row_none x c from row (fetching hash) = refl

    rows_none : (x : Node R L) (c : Call R) (from : ℕ) (rows : List R) (more : Bool) (p : Present R) → (rows_came join s x c from rows more p).dropped ≡ None
    rows_none x c from rows more resting = refl
    rows_none x c from rows more (asking q given) = refl
    rows_none x c from rows more (scanning q given) = looked_none x c q given (from, record { rows = rows; more = more }) (window_at join s (first_two_at q.set given (from, record { rows = rows; more = more })))
    rows_none x c from rows more (storing kept slots) = refl
    rows_none x c from rows more (fetching hash) = refl

  module _ {L : Type 0} (k : Layouts L) where
    confirmed_none : (x : Node R L) (c : Call R) (slot from : ℕ) (p : Present R) → (stored_came k x c slot from p).dropped ≡ None
    confirmed_none x c slot from resting = refl
    confirmed_none x c slot from (asking q given) = refl
    confirmed_none x c slot from (scanning q given) = refl
    confirmed_none x c slot from (storing rows slots) = stored_none x c rows (with_confirmation slots slot from) (is_kept (with_confirmation slots slot from) (oldest k.reading x.view))
    confirmed_none x c slot from (fetching hash) = refl

    walk_none : (x : Node R L) (table : ℕ) (prefix : List ℕ) (f : Walk → Did R L) → ((w : Walk) → (f w).dropped ≡ None) → (o : Option Walk) → (at_walk join s k x table prefix f o).dropped ≡ None
    walk_none x table prefix f none None = refl
    walk_none x table prefix f none (Some w) = either (is_open table prefix w.state.prefixes) (f w) (quiet x) (none w) refl

    mending_none : (x : Node R L) (now : Mending → Node R L) (other : Did R L) (from number p table : ℕ) (prefix : List ℕ) (answer : Option (List (ℕ × Hash32))) → other.dropped ≡ None → (o : Option Mending) → (mending_came join s k x now other from number p table prefix answer o).dropped ≡ None
    mending_none x now other from number p table prefix answer none None = none
    mending_none x now other from number p table prefix answer none (Some mending) =
        either (mending.number == number) (at_walk join s k x table prefix (mending_walks join s k x now table prefix answer mending) (walk_at p from mending.walks)) other
        (walk_none x table prefix (mending_walks join s k x now table prefix answer mending) (λ w. refl) (walk_at p from mending.walks)) none

    late_none : (x : Node R L) (from number p table : ℕ) (prefix : List ℕ) (answer : Option (List (ℕ × Hash32))) → (late_came join s k x from number p table prefix answer).dropped ≡ None
    late_none x from number p table prefix answer =
        mending_none x (with_lasting join s k x) (mending_came join s k x (with_mending join s k x) (quiet x) from number p table prefix answer x.mending) from number p table prefix answer
        (mending_none x (with_mending join s k x) (quiet x) from number p table prefix answer refl x.mending) x.lasting

    answer_none : (id : ℕ) (x : Node R L) (from number p table : ℕ) (prefix : List ℕ) (answer : Option (List (ℕ × Hash32))) (o : Option Round) → (answer_came join s k id x from number p table prefix answer o).dropped ≡ None
    answer_none id x from number p table prefix answer None = late_none x from number p table prefix answer
    answer_none id x from number p table prefix answer (Some round) =
        either (round.number == number) (at_walk join s k x table prefix (round_walks join s k id x table prefix answer round) (walk_at p from round.walks)) (late_came join s k x from number p table prefix answer)
        (walk_none x table prefix (round_walks join s k id x table prefix answer round) (λ w. refl) (walk_at p from round.walks)) (late_none x from number p table prefix answer)

    walks_none : (id : ℕ) (x : Node R L) (from : ℕ) (tag : Tag) (table : ℕ) (prefix : List ℕ) (answer : Option (List (ℕ × Hash32))) → (walks_on join s k id x from tag table prefix answer).dropped ≡ None
    walks_none id x from (ForCall request phase slot) table prefix answer = refl
    walks_none id x from (ForRound number p) table prefix answer = answer_none id x from number p table prefix answer x.round
    walks_none id x from (ForItem number) table prefix answer = refl

    round_none : (id : ℕ) (x : Node R L) (from number p : ℕ) (o : Option Round) → (round_came join s k id x from number p o).dropped ≡ None
    round_none id x from number p None = refl
    round_none id x from number p (Some round) = either (round.number == number) (quiet _) (quiet x) refl refl

    confirms_none : (id : ℕ) (x : Node R L) (from : ℕ) (tag : Tag) → (confirms join s k id x from tag).dropped ≡ None
    confirms_none id x from (ForCall request phase slot) = in_call x phase (λ c. stored_came k x c slot from c.present) (λ c. confirmed_none x c slot from c.present) (call_at x.calls request)
    confirms_none id x from (ForRound number p) = round_none id x from number p x.round
    confirms_none id x from (ForItem number) = refl

    stored_at_none : (x : Node R L) (from request phase at : ℕ) (d : Did R L) → d.dropped ≡ None → (where_stored join s k x from request phase at d).dropped ≡ None
    stored_at_none x from request phase at d none = either (is_stored k x.view at) d (answers x from (NotHere (ForCall request phase 0))) none refl

    gives_none : (x : Node R L) (from request phase : ℕ) (o : Option (List ℕ)) → (gives_block join s k x from request phase o).dropped ≡ None
    gives_none x from request phase None = refl
    gives_none x from request phase (Some bytes) = refl

    takes_none : (id now : ℕ) (x : Node R L) (from : ℕ) (tag : Tag) (named p : ℕ) (rows : List (List ℕ × Option (List ℕ))) → (takes join s k id now x from tag named p rows).dropped ≡ None
    takes_none id now x from tag named p rows = either _ (answers x from _) _ refl (either _ (answers x from (NotHere tag)) (answers _ from (Stored tag)) refl refl)

    compares_none : (id : ℕ) (x : Node R L) (from : ℕ) (tag : Tag) (named p table : ℕ) (prefix : List ℕ) (hash : Hash32) → (compares join s k id x from tag named p table prefix hash).dropped ≡ None
    compares_none id x from tag named p table prefix hash = either _ (answers x from _) _ refl (either _ (answers x from (NotHere tag)) (record (answers x from _) { is_spelled = _ }) refl refl)

    -- such a message makes a node drop no row
    pub hears_none : (id now : ℕ) (x : Node R L) (from : ℕ) (m : Message R) → IsOther m → (hears join s k id now x from m).dropped ≡ None
    hears_none id now x from (Get request phase at table key) other = stored_at_none x from request phase at (gives_row join s k x from request phase _) refl
    hears_none id now x from (Row request phase row) other = in_call x phase (λ c. row_came join x c from row c.present) (λ c. row_none x c from row c.present) (call_at x.calls request)
    hears_none id now x from (Range request phase at bucket prefix after) other = stored_at_none x from request phase at (gives_rows join s k x from request phase _) refl
    hears_none id now x from (Rows request phase found more) other = in_call x phase (λ c. rows_came join s x c from found more c.present) (λ c. rows_none x c from found more c.present) (call_at x.calls request)
    hears_none id now x from (Store tag named p rows) other = takes_none id now x from tag named p rows
    hears_none id now x from (Stored tag) other = confirms_none id x from tag
    hears_none id now x from (Behind tag named) other = refl
    hears_none id now x from (NotHere tag) other = refl
    hears_none id now x from (BlockGet request phase at hash) other = stored_at_none x from request phase at (gives_block join s k x from request phase _) (gives_none x from request phase _)
    hears_none id now x from (Block request phase bytes) other = in_call x phase (λ c. block_came x c bytes c.present) (λ c. block_none x c bytes c.present) (call_at x.calls request)
    hears_none id now x from (NoBlock request phase) other = refl
    hears_none id now x from (AsksValue tag named p table prefix hash) other = compares_none id x from tag named p table prefix hash
    hears_none id now x from (Same tag table prefix) other = walks_none id x from tag table prefix None
    hears_none id now x from (Differ tag table prefix pairs) other = walks_none id x from tag table prefix (Some pairs)
    hears_none id now x from (Tomb number round row) other = refl
    hears_none id now x from (Tombed number round named) other = absurd other
    hears_none id now x from (Forget table key hash) other = absurd other

    -- nor does what it does by itself
    pub acts_none : (id now : ℕ) (x : Node R L) (a : Action) → (acts join s k id now x a).did.dropped ≡ None
    acts_none id now x RaiseAck = refl
    acts_none id now x GoOn = syncs_none x.round
      where
        syncs_none : (o : Option Round) → (syncs join s k id x o).did.dropped ≡ None
        syncs_none (Some round) = refl
        syncs_none None = either_act (may_sync join s k id x.view) _ _ refl refl
    acts_none id now x RaiseSyncAck = refl
    acts_none id now x Clean = refl
    acts_none id now x Work = refl
    acts_none id now x Repair = refl
    acts_none id now x Collect = refl

    -- nor does a phase that begins
    pub begins_none : (kept : List R) (x : Node R L) (c : Call R) (phase : Phase R) → (begins s k kept x c phase).dropped ≡ None
    begins_none kept x c (Read table position key) = refl
    begins_none kept x c (Scans position prefix after) = refl
    begins_none kept x c (Keeps rows) = refl
    begins_none kept x c (Fetches hash) = refl

-- messages to which nothing is done
pub passed_over : {R : Type 0} (m : Message R) →
    ((tag : Tag) × (named : ℕ) × (m ≡ Behind tag named)) ⊎ (((tag : Tag) × (m ≡ NotHere tag)) ⊎ ((request : ℕ) × (phase : ℕ) × (m ≡ NoBlock request phase))) → IsOther m
passed_over m (inl behind) = subst IsOther (sym behind.2) tt
passed_over m (inr (inl absent)) = subst IsOther (sym absent.1) tt
passed_over m (inr (inr no_block)) = subst IsOther (sym no_block.2) tt

-- what came of such a message has no delete marker
pub has_none : {R : Type 0} (join : R → R → R) (s : Words R) (id now : ℕ) (x : Node R Layout) (from : ℕ) (m : Message R) (heard : Heard R) (ended : Option (ℕ × PhaseEnd R)) →
    heard ≡ record { ended = ended; dropped = None } → IsOther m → heard.dropped ≡ (hears join s layouts id now x from m).dropped
has_none join s id now x from m heard ended is other = ap (λ (h : Heard _). h.dropped) is ∙ sym (hears_none join s layouts id now x from m other)
