-- What becomes of the open requests where a message comes, where a node acts, and where a phase begins.
use Rattle.std.specs.Prelude.{◌≡◌, ℕ, suc, Bool, true, false, not, cond, ◌==◌, leb, nat_lt, map, List, [], ◌∷◌, ◌++◌, Option, Some, None, refl}
use Rattle.std.proofs.Common.{ap, sym, subst, ◌∙◌, inl, inr}
use Rattle.crdt_core.specs.Members.{Has}
use Rattle.view_model.specs.View.{View, oldest, newest, layout_at, read_version, merged, cleaned}
use Rattle.blake2_hash.specs.declared.digest.Hash32.{Hash32}
use Rattle.walk_model.specs.Walking.{is_open}
use Rattle.table_schema.specs.Words.{Words}
use Rattle.quorum_model.specs.declared.range.RangeAnswer.{RangeAnswer}
use Rattle.quorum_model.specs.Quorum.{StoreSlot, with_confirmation}
use Rattle.quorum_model.specs.Window.{Window}
use Rattle.wire_messages.specs.declared.message.Message.{Message}
use Rattle.wire_messages.specs.declared.message.Message.TheVariants.{Get, Row, Range, Rows, Store, Stored, Behind, NotHere, BlockGet, Block, NoBlock, Walk as AsksValue, Same as HasSame, Differ, Tomb, Tombed, Forget}
use Rattle.wire_messages.specs.declared.message.Tag.{Tag}
use Rattle.wire_messages.specs.declared.message.Tag.TheVariants.{Call as ForCall, Round as ForRound, Item as ForItem}
use Rattle.wire_messages.specs.declared.phase.Phase.{Phase}
use Rattle.wire_messages.specs.declared.phase.Phase.TheVariants.{Read, Range as Scans, Store as Keeps, Block as Fetches}
use Rattle.wire_messages.specs.declared.phase.PhaseEnd.TheVariants.{Row as GaveRow, Window as GaveWindow, Kept as IsKept, Block as GaveBlock}
use Rattle.cluster_machine.specs.declared.step.Action.{Action}
use Rattle.cluster_machine.specs.declared.step.Action.TheVariants.{Ack as RaiseAck, Sync as GoOn, SyncAck as RaiseSyncAck, Clean, Work, Repair, Collect}
use Rattle.cluster_machine.specs.Layouts.{Layouts, is_given, is_stored}
use Rattle.cluster_machine.specs.Node.{Question, Scan, Present, resting, asking, scanning, storing, fetching, Call, Node, Round, Packet, says, shows, read, scanned, Did, quiet, Walk, Mending}
use Rattle.cluster_machine.specs.Rows.{accepts_read, accepts_all, block_at, still, drops, sees}
use Rattle.cluster_machine.specs.Phases.{call_at, with_call, asked, looked, stored, slots_of, begins, value_after, row_came, rows_came, stored_came, block_came, at_call}
use Rattle.cluster_machine.specs.Rounds.{is_complete, synced, goes_on, may_sync, walk_at, walks_of, walks_after, found_same, walk_after, other_nodes, parts_of, begin_round, round_walks, mending_walks, at_walk, mending_came, with_mending, with_lasting, late_came, answer_came, walked_anew, again}
use Rattle.cluster_machine.specs.Receives.{answers, where_stored, gives_block, takes, compares, walks_on, round_came, confirms, hears, receives}
use Rattle.cluster_machine.specs.Acts.{Acted, syncs, acts}
use Rattle.cluster_machine.specs.Keeping.{AreDifferent}
use Rattle.machine_origins.specs.Following.{GoesOn, EndsSo, Follows, Began, Begins}
use Rattle.machine_origins.proofs.Collecting.{beside_follows, tomb_beside, tombed_beside, forget_beside, collects_beside}
use Rattle.machine_origins.proofs.FollowingCalls.{found_there, was, follows_same, follows_quiet, follows_on, follows_ended}

module _ {R L : Type 0} (x : Node R L) where
  pub follows_cond : (b : Bool) (d e : Did R L) → Follows x d → Follows x e → Follows x (cond b d e)
  follows_cond true d e h k = h
  follows_cond false d e h k = k

  pub follows_acted : (b : Bool) (d e : Acted R L) → Follows x d.did → Follows x e.did → Follows x (cond b d e).did
  follows_acted true d e h k = h
  follows_acted false d e h k = k

  pub follows_at_call : (phase : ℕ) (f : Call R → Did R L) (o : Option (Call R)) → ((c : Call R) → o ≡ Some c → Follows x (f c)) → Follows x (at_call x phase f o)
  follows_at_call phase f None h = follows_quiet x
  follows_at_call phase f (Some c) h = follows_cond (c.phases == phase) (f c) (quiet x) (h c refl) (follows_quiet x)

  module _ (differ : AreDifferent x.calls) (c : Call R) (there : Has x.calls c) where
    pub follows_asked : (q : Question R) (as' : List (ℕ × Option R)) (a : ℕ × Option R) (value : Option (Option R)) → c.present ≡ asking q as' → Follows x (asked x c q as' a value)
    follows_asked q as' a None e = follows_on x differ c there (asking q (as' ++ a ∷ [])) (subst (λ p. GoesOn p (asking q (as' ++ a ∷ []))) (sym e) refl)
    follows_asked q as' a (Some value) e = follows_ended x differ c there (GaveRow value) [] (read q value ∷ []) (subst (λ p. EndsSo p (GaveRow value) [] (read q value ∷ [])) (sym e) (refl, refl))

    pub follows_looked : (q : Scan R) (as' : List (ℕ × RangeAnswer R)) (a : ℕ × RangeAnswer R) (w : Option (Window R)) → c.present ≡ scanning q as' → Follows x (looked x c q as' a w)
    follows_looked q as' a None e = follows_on x differ c there (scanning q (as' ++ a ∷ [])) (subst (λ p. GoesOn p (scanning q (as' ++ a ∷ []))) (sym e) refl)
    follows_looked q as' a (Some w) e =
        follows_ended x differ c there (GaveWindow w.rows w.end) [] (scanned q w.rows w.end ∷ []) (subst (λ p. EndsSo p (GaveWindow w.rows w.end) [] (scanned q w.rows w.end ∷ [])) (sym e) (refl, refl))

    pub follows_stored : (rows : List R) (slots now : List StoreSlot) (b : Bool) → c.present ≡ storing rows slots → Follows x (stored x c rows now b)
    follows_stored rows slots now false e = follows_on x differ c there (storing rows now) (subst (λ p. GoesOn p (storing rows now)) (sym e) refl)
    follows_stored rows slots now true e = follows_ended x differ c there IsKept rows [] (subst (λ p. EndsSo p IsKept rows []) (sym e) (refl, refl))

    pub follows_block : (bytes : List ℕ) (p : Present R) → c.present ≡ p → Follows x (block_came x c bytes p)
    follows_block bytes resting e = follows_quiet x
    follows_block bytes (asking q as') e = follows_quiet x
    follows_block bytes (scanning q as') e = follows_quiet x
    follows_block bytes (storing rows slots) e = follows_quiet x
    follows_block bytes (fetching hash) e = follows_ended x differ c there (GaveBlock bytes) [] [] (subst (λ p. EndsSo p (GaveBlock bytes) [] []) (sym e) (refl, refl))

    module _ (join : R → R → R) (s : Words R) (k : Layouts L) where
      pub follows_row : (from : ℕ) (row : Option R) (p : Present R) → c.present ≡ p → Follows x (row_came join x c from row p)
      follows_row from row resting e = follows_quiet x
      follows_row from row (asking q as') e = follows_asked q as' (from, row) (value_after join q as' (from, row)) e
      follows_row from row (scanning q as') e = follows_quiet x
      follows_row from row (storing rows slots) e = follows_quiet x
      follows_row from row (fetching hash) e = follows_quiet x

      pub follows_rows : (from : ℕ) (rows : List R) (more : Bool) (p : Present R) → c.present ≡ p → Follows x (rows_came join s x c from rows more p)
      follows_rows from rows more resting e = follows_quiet x
      follows_rows from rows more (asking q as') e = follows_quiet x
      follows_rows from rows more (scanning q as') e = follows_looked q as' _ _ e
      follows_rows from rows more (storing others slots) e = follows_quiet x
      follows_rows from rows more (fetching hash) e = follows_quiet x

      pub follows_confirmed : (slot from : ℕ) (p : Present R) → c.present ≡ p → Follows x (stored_came k x c slot from p)
      follows_confirmed slot from resting e = follows_quiet x
      follows_confirmed slot from (asking q as') e = follows_quiet x
      follows_confirmed slot from (scanning q as') e = follows_quiet x
      follows_confirmed slot from (storing rows slots) e = follows_stored rows slots (with_confirmation slots slot from) _ e
      follows_confirmed slot from (fetching hash) e = follows_quiet x

module _ {R L : Type 0} (join : R → R → R) (s : Words R) (k : Layouts L) where
  pub calls_read : (now : ℕ) (x : Node R L) (r : Option R) (given : Option (List ℕ)) → (accepts_read join s now x r given).calls ≡ x.calls
  calls_read now x None given = refl
  calls_read now x (Some r) given = refl

  pub calls_all : (now : ℕ) (x : Node R L) (rows : List (List ℕ × Option (List ℕ))) → (accepts_all join s now x rows).calls ≡ x.calls
  calls_all now x [] = refl
  calls_all now x (r ∷ rows) = calls_all now (accepts_read join s now x (s.read r.0) r.1) rows ∙ calls_read now x (s.read r.0) r.1

  pub calls_seen : (id now : ℕ) (x : Node R L) (v : View L) → (sees join s k id now x v).calls ≡ x.calls
  calls_seen id now x v =
      let new : Node R L = record x { view = v; round = still (oldest k.reading v) x.round } in
      elim (leb (oldest k.reading v) (oldest k.reading x.view)) as (λ b. (cond b new (drops join s k id now new)).calls ≡ x.calls) [ true ↦ refl | false ↦ refl ]

  pub calls_round : (id : ℕ) (x : Node R L) (round : Round) → (goes_on join s k id x round).calls ≡ x.calls
  calls_round id x round = elim (is_complete round) as (λ b. (cond b (synced join s k id x round) (record x { round = Some round })).calls ≡ x.calls) [ true ↦ refl | false ↦ refl ]

  -- the round that begins
  abbrev pub round_begun : ℕ → Node R L → Round
  round_begun id x =
      let at = read_version k.reading x.view in
      let parts = parts_of join s k id x (layout_at k.reading x.view at) (layout_at k.reading x.view (suc at)) in
      record { number = suc x.rounds; target = suc at; parts = parts; confirmed = map (λ part. record { partition = part.partition; node = id }) parts; walks = walks_of join s x (other_nodes join s k id) parts }

  pub calls_begun : (id : ℕ) (x : Node R L) → (begin_round join s k id x).node.calls ≡ x.calls
  calls_begun id x = calls_round id (record x { rounds = suc x.rounds; lasting = None }) (round_begun id x)

  module _ (x : Node R L) where
    pub follows_answer : (y : Node R L) (to : ℕ) (m : Message R) → y.calls ≡ x.calls → Follows x (answers y to m)
    follows_answer y to m e = follows_same x (answers y to m) e refl refl refl

    pub follows_where : (from request phase at : ℕ) (d : Did R L) → Follows x d → Follows x (where_stored join s k x from request phase at d)
    follows_where from request phase at d h = follows_cond x (is_stored k x.view at) d _ h (follows_answer x from _ refl)

    pub follows_gives_block : (from request phase : ℕ) (b : Option (List ℕ)) → Follows x (gives_block join s k x from request phase b)
    follows_gives_block from request phase None = follows_answer x from _ refl
    follows_gives_block from request phase (Some bytes) = follows_answer x from _ refl

    pub follows_takes : (id now from : ℕ) (tag : Tag) (named p : ℕ) (rows : List (List ℕ × Option (List ℕ))) → Follows x (takes join s k id now x from tag named p rows)
    follows_takes id now from tag named p rows =
        follows_cond x (nat_lt (newest k.reading x.view) named) _ _ (follows_answer x from _ refl)
        (follows_cond x (not (is_given k x.view id p)) _ _ (follows_answer x from _ refl)
        (follows_answer (accepts_all join s now x rows) from _ (calls_all now x rows)))

    pub follows_round : (id from number p : ℕ) (o : Option Round) → Follows x (round_came join s k id x from number p o)
    follows_round id from number p None = follows_quiet x
    follows_round id from number p (Some round) =
        let now : Round = record round { confirmed = round.confirmed ++ record { partition = p; node = from } ∷ [] } in
        follows_cond x (round.number == number) (quiet (goes_on join s k id x now)) (quiet x) (follows_same x (quiet (goes_on join s k id x now)) (calls_round id x now) refl refl refl) (follows_quiet x)

    pub follows_compares : (id from : ℕ) (tag : Tag) (named p table : ℕ) (prefix : List ℕ) (hash : Hash32) → Follows x (compares join s k id x from tag named p table prefix hash)
    follows_compares id from tag named p table prefix hash =
        follows_cond x (nat_lt (newest k.reading x.view) named) _ _ (follows_answer x from _ refl)
        (follows_cond x (not (is_given k x.view id p)) _ _ (follows_answer x from _ refl)
        (follows_same x _ refl refl refl refl))

    follows_at_walk : (table : ℕ) (prefix : List ℕ) (f : Walk → Did R L) (o : Option Walk) → ((w : Walk) → Follows x (f w)) → Follows x (at_walk join s k x table prefix f o)
    follows_at_walk table prefix f None h = follows_quiet x
    follows_at_walk table prefix f (Some w) h = follows_cond x (is_open table prefix w.state.prefixes) (f w) (quiet x) (h w) (follows_quiet x)

    follows_mending : (now : Mending → Node R L) (other : Did R L) → ((m : Mending) → (now m).calls ≡ x.calls) → Follows x other → (from number p table : ℕ) (prefix : List ℕ) (answer : Option (List (ℕ × Hash32))) (o : Option Mending) → Follows x (mending_came join s k x now other from number p table prefix answer o)
    follows_mending now other same h from number p table prefix answer None = h
    follows_mending now other same h from number p table prefix answer (Some mending) =
        follows_cond x (mending.number == number) _ _ (follows_at_walk table prefix (mending_walks join s k x now table prefix answer mending) (walk_at p from mending.walks) (λ w. follows_same x _ (same _) refl refl refl)) h

    follows_late : (from number p table : ℕ) (prefix : List ℕ) (answer : Option (List (ℕ × Hash32))) → Follows x (late_came join s k x from number p table prefix answer)
    follows_late from number p table prefix answer =
        follows_mending (with_lasting join s k x) _ (λ m. refl) (follows_mending (with_mending join s k x) _ (λ m. refl) (follows_quiet x) from number p table prefix answer x.mending) from number p table prefix answer x.lasting

    calls_walked : (id table : ℕ) (prefix : List ℕ) (answer : Option (List (ℕ × Hash32))) (round : Round) (w : Walk) → (round_walks join s k id x table prefix answer round w).node.calls ≡ x.calls
    calls_walked id table prefix answer round w =
        let later = walk_after join s x w table prefix answer in
        let now : Round = record round { walks = walks_after later round.walks } in
        let there : Round = record now { confirmed = now.confirmed ++ record { partition = w.state.partition; node = w.node } ∷ [] } in
        elim (found_same later) as (λ b. (cond b (goes_on join s k id x there) (record x { round = Some now })).calls ≡ x.calls) [ true ↦ calls_round id x there | false ↦ refl ]

    follows_answered : (id from number p table : ℕ) (prefix : List ℕ) (answer : Option (List (ℕ × Hash32))) (o : Option Round) → Follows x (answer_came join s k id x from number p table prefix answer o)
    follows_answered id from number p table prefix answer None = follows_late from number p table prefix answer
    follows_answered id from number p table prefix answer (Some round) =
        follows_cond x (round.number == number) _ _
        (follows_at_walk table prefix (round_walks join s k id x table prefix answer round) (walk_at p from round.walks) (λ w. follows_same x (round_walks join s k id x table prefix answer round w) (calls_walked id table prefix answer round w) refl refl refl))
        (follows_late from number p table prefix answer)

    pub follows_walks : (id from : ℕ) (tag : Tag) (table : ℕ) (prefix : List ℕ) (answer : Option (List (ℕ × Hash32))) → Follows x (walks_on join s k id x from tag table prefix answer)
    follows_walks id from (ForCall request phase slot) table prefix answer = follows_quiet x
    follows_walks id from (ForRound number p) table prefix answer = follows_answered id from number p table prefix answer x.round
    follows_walks id from (ForItem number) table prefix answer = follows_quiet x

    -- an answer to a request's phase
    pub follows_in_phase : (request phase : ℕ) (f : Call R → Did R L) → ((c : Call R) → Has x.calls c → Follows x (f c)) → Follows x (at_call x phase f (call_at x.calls request))
    follows_in_phase request phase f h = follows_at_call x phase f (call_at x.calls request) (λ c e. h c (found_there x.calls request c e))

    module _ (differ : AreDifferent x.calls) where
      pub follows_confirms : (id from : ℕ) (tag : Tag) → Follows x (confirms join s k id x from tag)
      follows_confirms id from (ForCall request phase slot) = follows_in_phase request phase _ (λ c there. follows_confirmed x differ c there join s k slot from c.present refl)
      follows_confirms id from (ForRound number p) = follows_round id from number p x.round
      follows_confirms id from (ForItem number) = follows_same x _ refl refl refl refl

      pub follows_hears : (id now from : ℕ) (m : Message R) → Follows x (hears join s k id now x from m)
      follows_hears id now from (Get request phase at table key) = follows_where from request phase at _ (follows_same x _ refl refl refl refl)
      follows_hears id now from (Row request phase row) = follows_in_phase request phase _ (λ c there. follows_row x differ c there join s k from row c.present refl)
      follows_hears id now from (Range request phase at bucket prefix after) = follows_where from request phase at _ (follows_same x _ refl refl refl refl)
      follows_hears id now from (Rows request phase found more) = follows_in_phase request phase _ (λ c there. follows_rows x differ c there join s k from found more c.present refl)
      follows_hears id now from (Store tag named p rows) = follows_takes id now from tag named p rows
      follows_hears id now from (Stored tag) = follows_confirms id from tag
      follows_hears id now from (Behind tag v) = follows_quiet x
      follows_hears id now from (NotHere tag) = follows_quiet x
      follows_hears id now from (BlockGet request phase at hash) = follows_where from request phase at _ (follows_gives_block from request phase (block_at x.blocks hash.0))
      follows_hears id now from (Block request phase bytes) = follows_in_phase request phase _ (λ c there. follows_block x differ c there bytes c.present refl)
      follows_hears id now from (NoBlock request phase) = follows_quiet x
      follows_hears id now from (AsksValue tag named p table prefix hash) = follows_compares id from tag named p table prefix hash
      follows_hears id now from (HasSame tag table prefix) = follows_walks id from tag table prefix None
      follows_hears id now from (Differ tag table prefix pairs) = follows_walks id from tag table prefix (Some pairs)
      follows_hears id now from (Tomb number round row) = beside_follows x _ (tomb_beside join s x k id now from number round row)
      follows_hears id now from (Tombed number round named) = beside_follows x _ (tombed_beside join s x k id now from number round named)
      follows_hears id now from (Forget table key hash) = beside_follows x _ (forget_beside join s x table key hash.0)

      pub follows_receives : (id now from : ℕ) (packet : Packet R L) → Follows x (receives join s k id now x from packet)
      follows_receives id now from (says m) = follows_hears id now from m
      follows_receives id now from (shows v) = follows_same x _ (calls_seen id now x (merged k.reading x.view v)) refl refl refl

    pub follows_syncs : (id : ℕ) (o : Option Round) → Follows x (syncs join s k id x o).did
    follows_syncs id (Some round) = follows_same x (again join s k id x round) (calls_round id x (walked_anew join s k x round)) refl refl refl
    follows_syncs id None = follows_acted x (may_sync join s k id x.view) _ _ (follows_same x (begin_round join s k id x) (calls_begun id x) refl refl refl) (follows_quiet x)

    pub follows_acts : (id now : ℕ) (action : Action) → Follows x (acts join s k id now x action).did
    follows_acts id now RaiseAck = follows_same x _ refl refl refl refl
    follows_acts id now GoOn = follows_syncs id x.round
    follows_acts id now RaiseSyncAck = follows_same x _ refl refl refl refl
    follows_acts id now Clean = follows_same x _ (calls_seen id now x (cleaned k.reading x.view)) refl refl refl
    follows_acts id now Work = follows_same x _ refl refl refl refl
    follows_acts id now Repair = follows_same x _ refl refl refl refl
    follows_acts id now Collect = beside_follows x _ (collects_beside join s x k id now)

module _ {R L : Type 0} (s : Words R) (k : Layouts L) (kept : List R) (x : Node R L) (c : Call R) (differ : AreDifferent x.calls) (there : Has x.calls c) where
  -- the call's phase begins, and each other call stays
  pub begins_with : (phase : Phase R) (n : ℕ) (p : Present R) → Began kept phase p → (d : Did R L) → d.node.calls ≡ with_call (record c { phases = n; present = p }) x.calls →
      d.ends ≡ [] → d.keeps ≡ [] → d.reads ≡ [] → Begins kept x c phase d
  begins_with phase n p began d calls ends keeps reads = record {
    calls = λ e h. elim (was x.calls (record c { phases = n; present = p }) e (subst (λ cs. Has cs e) calls h)) [
      | inl same ↦ inl same.0
      | inr h ↦ inr (
        ap (λ (z : Call R). z.request) (sym h.3) ∙ h.2,
        ap (λ (z : Call R). z.start) (sym h.3) ∙ ap (λ (z : Call R). z.start) (differ h.0 c h.1 there h.2),
        subst (Began kept phase) (ap (λ (z : Call R). z.present) h.3) began,
      )
    ];
    ends = (ends, keeps, reads);
  }

  pub begins_follow : (phase : Phase R) → Begins kept x c phase (begins s k kept x c phase)
  begins_follow (Read table position key) = begins_with (Read table position key) (suc c.phases) _ (refl, refl, refl, refl, refl) _ refl refl refl refl
  begins_follow (Scans position prefix after) = begins_with (Scans position prefix after) (suc c.phases) _ (refl, refl, refl, refl, refl) _ refl refl refl refl
  begins_follow (Keeps rows) = begins_with (Keeps rows) (suc c.phases) (storing (map (λ r. r.0) rows) (slots_of s k x.view rows)) refl _ refl refl refl refl
  begins_follow (Fetches hash) = begins_with (Fetches hash) (suc c.phases) (fetching hash.0) refl _ refl refl refl refl
