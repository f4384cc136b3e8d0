-- A calm time leaves views and rounds as they are, so that a cluster at rest is at rest when all is done.
use Rattle.std.specs.Prelude.{◌≡◌, ℕ, ◌+◌, Bool, true, false, cond, not, nat_lt, ◌==◌, Option, Some, None, List, [], ◌∷◌, ◌++◌, length, refl}
use Rattle.std.specs.Option.{unwrap_or}
use Rattle.std.specs.List.{AllByRecursion}
use Rattle.std.proofs.Common.{ap, sym, subst, ◌∙◌, arith}
use Rattle.layout_roles.specs.declared.role.Role.{Role}
use Rattle.table_schema.specs.Words.{Words}
use Rattle.table_schema.specs.Laws.{Laws}
use Rattle.table_model.specs.Rows.{row_at, rows, range}
use Rattle.view_model.specs.View.{newest, oldest}
use Rattle.quorum_model.specs.Quorum.{is_kept, with_confirmation}
use Rattle.quorum_model.specs.Answers.{first_two_at}
use Rattle.wire_messages.specs.declared.message.Message.{Message}
use Rattle.wire_messages.specs.declared.message.Message.TheVariants.{Get, Row, Range, Rows, Store, Stored, Behind, NotHere, BlockGet, Block, NoBlock, Walk as AsksValue, Same as HasSame, Differ, Tomb, Tombed, Forget}
use Rattle.wire_messages.specs.declared.message.Tag.{Tag}
use Rattle.wire_messages.specs.declared.message.Tag.TheVariants.{Call as ForCall, Round as ForRound, Item as ForItem}
use Rattle.wire_messages.specs.declared.phase.Phase.{Phase}
use Rattle.wire_messages.specs.declared.phase.Phase.TheVariants.{Read, Range as Scans, Store as Keeps, Block as Fetches}
use Rattle.cluster_machine.specs.declared.step.Step.{Step}
use Rattle.cluster_machine.specs.declared.step.Step.TheVariants.{Tick, Deliver, Expire, Work, Open, Phase as Begin, Close}
use Rattle.cluster_machine.specs.declared.step.Refusal.TheVariants.{NotMember, AlreadyEnded, NoSuchRequest}
use Rattle.cluster_machine.specs.declared.step.Refusal.{Refusal}
use Rattle.cluster_machine.specs.Layouts.{Layouts, is_given, is_stored, is_member, has_none}
use Rattle.cluster_machine.specs.Node.{Present, resting, asking, scanning, storing, fetching, Call, Node, Packet, says, shows, Did, quiet}
use Rattle.cluster_machine.specs.Acts.{works}
use Rattle.cluster_machine.specs.Phases.{call_at, asked, looked, stored, value_after, window_at, row_came, rows_came, stored_came, block_came, at_call, begins}
use Rattle.cluster_machine.specs.Receives.{most_rows, answers, where_stored, gives_row, gives_rows, gives_block, hears, receives}
use Rattle.cluster_machine.specs.Rows.{block_at, accepts_all}
use Rattle.cluster_machine.specs.World.{Sent, Request, World, numbered, clock}
use Rattle.cluster_machine.specs.Step.{Choice, Effects, refusal, nothing, only, did, received, at_message, begun, beginning, expires, closing, effects}
use Rattle.cluster_machine.specs.Run.{IsLayout, Move, next, run}
use Rattle.machine_origins.proofs.Lists.{all_parts}
use Rattle.drained_laws.specs.Waiting.{fresh, waiting}
use Rattle.drained_laws.specs.Calm.{IsCalm, IsCalmRun}
use Rattle.drained_laws.specs.Accounts.{IsOwn, IsUsualMessage, IsUsual, IsAccounted}
use Rattle.drained_laws.proofs.Waits.{taken}
use Rattle.drained_laws.proofs.Deliveries.{one_changes}
use Rattle.drained_laws.proofs.Steps.{at_number, calm_next}
use Rattle.change_laws.specs.Resting.{IsBehind, IsPast, IsResting}
use Rattle.change_laws.proofs.Rounding.{all_self}

module _ {R L : Type 0} where
  -- view and round are as they were
  pub record Leaves (x y : Node R L) : Type 0 where
    pub view : y.view ≡ x.view
    pub round : y.round ≡ x.round

  leaves_itself : (x : Node R L) → Leaves x x
  leaves_itself x = record { view = refl; round = refl }

  in_call : (Q : Did R L → Type 0) (y : Node R L) (phase : ℕ) (f : Call R → Did R L) (o : Option (Call R)) → Q (quiet y) → ((c : Call R) → Q (f c)) → Q (at_call y phase f o)
  in_call Q y phase f None h g = h
  in_call Q y phase f (Some c) h g = elim (c.phases == phase) as (λ b. Q (cond b (f c) (quiet y))) [ true ↦ g c | false ↦ h ]

module _ {R : Type 0} (join : R → R → R) (s : Words R) {L : Type 0} (k : Layouts L) (id now : ℕ) (y : Node R L) (from : ℕ) where
  abbrev Left : Did R L → Type 0
  Left d = Leaves y d.node

  row_left : (c : Call R) (row : Option R) (p : Present R) → Left (row_came join y c from row p)
  row_left c row (asking q as') = elim (value_after join q as' (from, row)) as (λ o. Left (asked y c q as' (from, row) o)) [ None ↦ record { view = refl; round = refl } | Some value ↦ record { view = refl; round = refl } ]
  row_left c row resting = leaves_itself y
  row_left c row (scanning q as') = leaves_itself y
  row_left c row (storing rs slots) = leaves_itself y
  row_left c row (fetching hash) = leaves_itself y

  rows_left : (c : Call R) (rs : List R) (more : Bool) (p : Present R) → Left (rows_came join s y c from rs more p)
  rows_left c rs more (scanning q as') = elim (window_at join s (first_two_at q.set as' (from, record { rows = rs; more = more }))) as (λ o. Left (looked y c q as' (from, record { rows = rs; more = more }) o)) [ None ↦ record { view = refl; round = refl } | Some w ↦ record { view = refl; round = refl } ]
  rows_left c rs more resting = leaves_itself y
  rows_left c rs more (asking q as') = leaves_itself y
  rows_left c rs more (storing others slots) = leaves_itself y
  rows_left c rs more (fetching hash) = leaves_itself y

  stored_left : (c : Call R) (slot : ℕ) (p : Present R) → Left (stored_came k y c slot from p)
  stored_left c slot (storing rs slots) = elim (is_kept (with_confirmation slots slot from) (oldest k.reading y.view)) as (λ b. Left (stored y c rs (with_confirmation slots slot from) b)) [ true ↦ record { view = refl; round = refl } | false ↦ record { view = refl; round = refl } ]
  stored_left c slot resting = leaves_itself y
  stored_left c slot (asking q as') = leaves_itself y
  stored_left c slot (scanning q as') = leaves_itself y
  stored_left c slot (fetching hash) = leaves_itself y

  block_left : (c : Call R) (bytes : List ℕ) (p : Present R) → Left (block_came y c bytes p)
  block_left c bytes (fetching hash) = record { view = refl; round = refl }
  block_left c bytes resting = leaves_itself y
  block_left c bytes (asking q as') = leaves_itself y
  block_left c bytes (scanning q as') = leaves_itself y
  block_left c bytes (storing rs slots) = leaves_itself y

  where_left : (request phase at : ℕ) (d : Did R L) → Left d → Left (where_stored join s k y from request phase at d)
  where_left request phase at d h = elim (is_stored k y.view at) as (λ b. Left (cond b d (answers y from (NotHere (ForCall request phase 0))))) [ true ↦ h | false ↦ leaves_itself y ]

  gives_left : (request phase : ℕ) (o : Option (List ℕ)) → Left (gives_block join s k y from request phase o)
  gives_left request phase None = leaves_itself y
  gives_left request phase (Some bytes) = leaves_itself y

  takes_left : (tag : Tag) (named p : ℕ) (rs : List (List ℕ × Option (List ℕ))) → Left (hears join s k id now y from (Store tag named p rs))
  takes_left tag named p rs =
      let self = all_self join s now y rs in
      elim (nat_lt (newest k.reading y.view) named) as (λ b. Left (cond b (answers y from (Behind tag (newest k.reading y.view))) (cond (not (is_given k y.view id p)) (answers y from (NotHere tag)) (answers (accepts_all join s now y rs) from (Stored tag))))) [
        | true ↦ leaves_itself y
        | false ↦ (elim (not (is_given k y.view id p)) as (λ b. Left (cond b (answers y from (NotHere tag)) (answers (accepts_all join s now y rs) from (Stored tag)))) [ true ↦ leaves_itself y | false ↦ record { view = self.view; round = self.round } ])
      ]

  confirms_left : (tag : Tag) → IsOwn tag → Left (hears join s k id now y from (Stored tag))
  confirms_left (ForCall request phase slot) h = in_call Left y phase (λ c. stored_came k y c slot from c.present) (call_at y.calls request) (leaves_itself y) (λ c. stored_left c slot c.present)
  confirms_left (ForRound number p) h = elim h [ ]
  confirms_left (ForItem number) h = record { view = refl; round = refl }

  -- a usual message leaves view and round
  pub usual_left : (l : L) (sent : List R) (m : Message R) → IsUsualMessage s k l sent id m → Left (hears join s k id now y from m)
  usual_left l sent (Get request phase at table key) u = where_left request phase at (gives_row join s k y from request phase (row_at join s y.accepted table key)) (leaves_itself y)
  usual_left l sent (Row request phase row) u = in_call Left y phase (λ c. row_came join y c from row c.present) (call_at y.calls request) (leaves_itself y) (λ c. row_left c row c.present)
  usual_left l sent (Range request phase at bucket prefix after) u = where_left request phase at (gives_rows join s k y from request phase (range s 1 (bucket.0 ++ prefix) (bucket.0 ++ after) most_rows (rows join s y.accepted))) (leaves_itself y)
  usual_left l sent (Rows request phase found more) u = in_call Left y phase (λ c. rows_came join s y c from found more c.present) (call_at y.calls request) (leaves_itself y) (λ c. rows_left c found more c.present)
  usual_left l sent (Store tag named p rs) u = takes_left tag named p rs
  usual_left l sent (Stored tag) u = confirms_left tag u
  usual_left l sent (Behind tag v) u = leaves_itself y
  usual_left l sent (NotHere tag) u = leaves_itself y
  usual_left l sent (BlockGet request phase at hash) u = where_left request phase at (gives_block join s k y from request phase (block_at y.blocks hash.0)) (gives_left request phase (block_at y.blocks hash.0))
  usual_left l sent (Block request phase bytes) u = in_call Left y phase (λ c. block_came y c bytes c.present) (call_at y.calls request) (leaves_itself y) (λ c. block_left c bytes c.present)
  usual_left l sent (NoBlock request phase) u = leaves_itself y
  usual_left l sent (AsksValue tag named p table prefix hash) u = elim u [ ]
  usual_left l sent (HasSame tag table prefix) u = elim u [ ]
  usual_left l sent (Differ tag table prefix pairs) u = elim u [ ]
  usual_left l sent (Tomb number round row) u = elim u [ ]
  usual_left l sent (Tombed number round named) u = elim u [ ]
  usual_left l sent (Forget table key hash) u = elim u [ ]

module _ {R L : Type 0} (A C : Type 0) where
  -- each node's view and round are as they were, and no version is applied
  pub record LeavesAll (w : World R L) (e : Effects R L A C) : Type 0 where
    pub nodes : (n : ℕ) → Leaves (w.nodes n) (unwrap_or (e.nodes n) (w.nodes n))
    pub applies : e.applies ≡ 0

  leaves_none : (w : World R L) (e : Effects R L A C) → e.nodes ≡ (λ n. None) → e.applies ≡ 0 → LeavesAll w e
  leaves_none w e nodes applies = record { nodes = λ n. subst (λ (ns : ℕ → Option (Node R L)). Leaves (w.nodes n) (unwrap_or (ns n) (w.nodes n))) (sym nodes) (leaves_itself (w.nodes n)); applies = applies }

  leaves_one : (w : World R L) (e : Effects R L A C) (n : ℕ) (y : Node R L) → e.nodes ≡ only n y → e.applies ≡ 0 → Leaves (w.nodes n) y → LeavesAll w e
  leaves_one w e n y nodes applies h = record {
    nodes = λ m. subst (λ (ns : ℕ → Option (Node R L)). Leaves (w.nodes m) (unwrap_or (ns m) (w.nodes m))) (sym nodes) (one_changes (λ j z. Leaves (w.nodes j) z) n y w.nodes h (λ j apart. leaves_itself (w.nodes j)) m);
    applies = applies;
  }

  leaves_by : (w : World R L) (b : Bool) (d e : Effects R L A C) → LeavesAll w d → LeavesAll w e → LeavesAll w (cond b d e)
  leaves_by w true d e h g = h
  leaves_by w false d e h g = g

  module _ (join : R → R → R) (s : Words R) (k : Layouts L) (l : L) (trio : L) (trio_roles : List Role → List Role) (base : ℕ → List R) (w : World R L) (is : IsAccounted s k l base w) where
    refused : (r : Refusal C) → LeavesAll w (refusal w r)
    refused r = leaves_none w (refusal w r) refl refl

    expires_left : (q : ℕ) (o : Option Request) → LeavesAll w (expires w q o)
    expires_left q None = refused NoSuchRequest
    expires_left q (Some r) = leaves_by w r.is_open _ (refusal w AlreadyEnded) (leaves_one w _ r.coordinator _ refl refl (record { view = refl; round = refl })) (refused AlreadyEnded)

    closing_left : (q : ℕ) (o : Option Request) → LeavesAll w (closing w q o)
    closing_left q None = leaves_none w (nothing w) refl refl
    closing_left q (Some r) = leaves_by w r.is_open _ (nothing w) (leaves_one w _ r.coordinator _ refl refl (record { view = refl; round = refl })) (leaves_none w (nothing w) refl refl)

    begins_left : (n : ℕ) (phase : Phase R) (c : Call R) → Leaves (w.nodes n) (begins s k w.kept (w.nodes n) c phase).node
    begins_left n (Read table position key) c = record { view = refl; round = refl }
    begins_left n (Scans position prefix after) c = record { view = refl; round = refl }
    begins_left n (Keeps rs) c = record { view = refl; round = refl }
    begins_left n (Fetches hash) c = record { view = refl; round = refl }

    begun_left : (n : ℕ) (phase : Phase R) (o : Option (Call R)) → LeavesAll w (begun join s k trio trio_roles w n phase o)
    begun_left n phase None = leaves_none w (nothing w) refl refl
    begun_left n phase (Some c) = leaves_one w (begun join s k trio trio_roles w n phase (Some c)) n (begins s k w.kept (w.nodes n) c phase).node refl refl (begins_left n phase c)

    beginning_left : (q : ℕ) (phase : Phase R) (o : Option Request) → LeavesAll w (beginning join s k trio trio_roles w q phase o)
    beginning_left q phase None = leaves_none w (nothing w) refl refl
    beginning_left q phase (Some r) = leaves_by w r.is_open _ (nothing w) (begun_left r.coordinator phase (call_at (w.nodes r.coordinator).calls q)) (leaves_none w (nothing w) refl refl)

    deliver_left : (m : ℕ) (choice : Choice L A C) → numbered w.marks m ≡ Some fresh → LeavesAll w (effects join s k trio trio_roles w (Deliver m) choice)
    deliver_left m choice mark =
        let x = at_number w.messages w.marks m fresh is.marked mark in
        let f : Sent R L → Effects R L A C = λ sent. received m (did w sent.to (receives join s k sent.to (clock w sent.to) (w.nodes sent.to) sent.from sent.packet)) in
        let t = taken w.messages w.marks m x.0 x.1 mark in
        let u = (all_parts (IsUsual s k l is.account.sent) t.before (x.0 ∷ t.after) (subst (AllByRecursion (IsUsual s k l is.account.sent)) t.was is.sound.messages)).1.0 in
        subst (λ (e : Effects R L A C). LeavesAll w e) (sym (ap (λ o. at_message w f o (numbered w.marks m)) x.1 ∙ ap (at_message w f (Some x.0)) mark)) (by_packet x.0.packet x.0.from x.0.to x.0.moment u)
      where
        by_packet : (p : Packet R L) (from to moment : ℕ) → IsUsual s k l is.account.sent (record { from = from; to = to; packet = p; moment = moment }) → LeavesAll w (received {A = A} {C = C} m (did w to (receives join s k to (clock w to) (w.nodes to) from p)))
        by_packet (shows v) from to moment u = elim u.2 [ ]
        by_packet (says g) from to moment u = leaves_one w _ to (receives join s k to (clock w to) (w.nodes to) from (says g)).node refl refl (usual_left join s k to (clock w to) (w.nodes to) from l is.account.sent g u.2)

    calm_left : (step : Step R) (choice : Choice L A C) → IsCalm k l w step → LeavesAll w (effects join s k trio trio_roles w step choice)
    calm_left (Tick ms) choice c = leaves_none w (effects join s k trio trio_roles w (Tick ms) choice) refl refl
    calm_left (Deliver m) choice c = deliver_left m choice c
    calm_left (Expire q) choice c = expires_left q (numbered w.requests q)
    calm_left (Work n) choice c = leaves_by w (has_none k (w.nodes n).view) (refusal w NotMember) _ (refused NotMember) (leaves_one w _ n (works join s k (clock w n) (w.nodes n)).did.node refl refl (record { view = refl; round = refl }))
    calm_left (Open n) choice c = leaves_by w (is_member k (w.nodes n).view n) _ (refusal w NotMember) (leaves_one w _ n _ refl refl (record { view = refl; round = refl })) (refused NotMember)
    calm_left (Begin q phase) choice c = beginning_left q phase (numbered w.requests q)
    calm_left (Close q) choice c = closing_left q (numbered w.requests q)
    calm_left _ choice c = elim c [ ]

module _ {R : Type 0} {join : R → R → R} {s : Words R} (laws : Laws join s) {L : Type 0} (k : Layouts L) (l : L) (layout : IsLayout k 256 l) (A C : Type 0) (trio : L) (trio_roles : List Role → List Role) (base : ℕ → List R) where
  -- between two worlds views and rounds are the same
  pub record SameViews (w v : World R L) : Type 0 where
    pub nodes : (n : ℕ) → Leaves (w.nodes n) (v.nodes n)
    pub applied : v.applied ≡ w.applied

  pub calm_views : (w : World R L) (moves : List (Move R L A C)) → IsAccounted s k l base w → IsCalmRun k l join s trio trio_roles w moves → SameViews w (run join s k trio trio_roles w moves)
  calm_views w [] is calm = record { nodes = λ n. leaves_itself (w.nodes n); applied = refl }
  calm_views w (m ∷ ms) is calm =
      let e = effects join s k trio trio_roles w m.step m.choice in
      let one = calm_left A C join s k l trio trio_roles base w is m.step m.choice calm.0 in
      let rest = calm_views (next join s k trio trio_roles w m) ms (calm_next laws k l layout base A C w is trio trio_roles m.step m.choice calm.0 calm.1 calm.2) calm.3 in
      record {
        nodes = λ n. record { view = (rest.nodes n).view ∙ (one.nodes n).view; round = (rest.nodes n).round ∙ (one.nodes n).round };
        applied = rest.applied ∙ (ap (λ a. w.applied + a) one.applies ∙ omega arith);
      }

  -- so a cluster at rest is at rest after a calm time, where nothing waits and no request is open
  pub still_rests : (w v : World R L) → IsResting k l w → SameViews w v → length v.messages ≡ length v.marks → waiting v ≡ [] → ((n : ℕ) → (v.nodes n).calls ≡ []) → IsResting k l v
  still_rests w v rest same marked none calls = record {
    members = λ n member. (let a = rest.members n member in record { layouts = ap (λ u. u.layouts) (same.nodes n).view ∙ a.layouts; round = (same.nodes n).round ∙ a.round });
    nodes = λ n. (let b = rest.nodes n in record {
      view = subst (IsBehind k l) (sym (same.nodes n).view) b.view;
      calls = calls n;
      round = subst (IsPast k l) (sym (same.nodes n).round) b.round;
    });
    marked = marked;
    delivered = none;
    applied = same.applied ∙ rest.applied;
  }

  pub calm_rests : (w : World R L) (moves : List (Move R L A C)) → IsResting k l w → IsAccounted s k l base w → IsCalmRun k l join s trio trio_roles w moves → waiting (run join s k trio trio_roles w moves) ≡ [] → length (run join s k trio trio_roles w moves).messages ≡ length (run join s k trio trio_roles w moves).marks →
      ((n : ℕ) → ((run join s k trio trio_roles w moves).nodes n).calls ≡ []) → IsResting k l (run join s k trio trio_roles w moves)
  calm_rests w moves rest is calm none marked calls = still_rests w (run join s k trio trio_roles w moves) rest (calm_views w moves is calm) marked none calls
