-- What a step adds to the time, the requests and the rounds of a world.
use Rattle.std.specs.Prelude.{◌≡◌, ◌≤◌, ◌+◌, ℕ, suc, Bool, true, false, not, ◌&&◌, ◌==◌, leb, cond, List, [], ◌∷◌, Option, Some, None, length, refl}
use Rattle.std.specs.Option.{unwrap_or}
use Rattle.std.proofs.Common.{ap, sym, subst, ◌∙◌, arith, length-append}
use Rattle.std.proofs.lemmas.Bool.{eqb-true}
use Rattle.layout_roles.specs.declared.cut.Cut.{Cut}
use Rattle.layout_roles.specs.declared.layout.Layout.{Layout}
use Rattle.layout_roles.specs.declared.role.Role.{Role}
use Rattle.view_model.specs.View.{newest}
use Rattle.quorum_model.specs.Quorum.{is_among}
use Rattle.table_schema.specs.Words.{Words}
use Rattle.wire_messages.specs.declared.phase.Phase.{Phase}
use Rattle.cluster_machine.specs.declared.applied.Applied.{Applied}
use Rattle.cluster_machine.specs.declared.step.Step.{Step}
use Rattle.cluster_machine.specs.declared.step.Step.TheVariants.{Trio, Role as Stage, Redundancy as Spread, Apply, Tick, Skew, Deliver, Lose, Expire, Restart, Gossip, Ack, Sync as Syncs, SyncAck, Clean, Work, Repair, Collect, Open, Phase as Begin, Close}
use Rattle.cluster_machine.specs.declared.step.Action.{Action}
use Rattle.cluster_machine.specs.declared.step.Action.TheVariants.{Ack as RaiseAck, Sync as GoOn, SyncAck as RaiseSyncAck, Clean as CleanUp, Work as WorkOff, Repair as Mend, Collect as Gather}
use Rattle.cluster_machine.specs.declared.step.Refusal.{Refusal}
use Rattle.cluster_machine.specs.declared.step.Refusal.TheVariants.{VersionTaken, VersionLimit, NotMember, NoSuchMessage, Lost, NoSuchRequest, AlreadyEnded}
use Rattle.cluster_machine.specs.Layouts.{layouts, is_member, has_none}
use Rattle.cluster_machine.specs.Node.{Call, Node, shows, Did, quiet}
use Rattle.cluster_machine.specs.Phases.{opened, closed, begins, call_at}
use Rattle.cluster_machine.specs.Receives.{receives}
use Rattle.cluster_machine.specs.Acts.{acts, appends, restarts}
use Rattle.cluster_machine.specs.World.{Sent, Mark, Request, numbered, clock}
use Rattle.cluster_machine.specs.Step.{most_versions, Choice, given, none_given, nothing, refusal, only, did, received, at_message, expires, closing, chosen, applies_at, trio_applies, acting, begun, beginning, opening, effects, applied}
use Rattle.cluster_machine.specs.Trio.{trio, stage_trio}
use Rattle.cluster_machine.specs.Worlds.{Model, Done}
use Rattle.cluster_machine.proofs.Closing.{length_shut}
use Rattle.serve_limits.specs.Counts.{passes as passes_of, opens as opens_of, rounds as rounds_of, IsEven}
use Rattle.serve_limits.proofs.Rounds.{beginning_by, receives_same, acts_more, begins_same}

-- at most so much time passes, no clock is put ahead, so many requests are opened at most, and each node begins so many rounds at most
pub record Adds {R : Type 0} (t q r : ℕ) (w : Model R) (e : Done R) : Type 0 where
  pub passes : e.passes ≤ t
  pub skews : e.skews ≡ None
  pub opens : length e.opens ≤ q
  pub rounds : (n : ℕ) → (unwrap_or (e.nodes n) (w.nodes n)).rounds ≤ (w.nodes n).rounds + r

module _ {R : Type 0} (join : R → R → R) (s : Words R) (w : Model R) where
  module _ (t q r : ℕ) where
    abbrev Added : Done R → Type 0
    Added e = Adds t q r w e

    by_test : (c : Bool) (d e : Done R) → Added d → Added e → Added (cond c d e)
    by_test true d e f h = f
    by_test false d e f h = h

    -- effects without time, skews or new requests
    plain : (e : Done R) → e.passes ≡ 0 → e.skews ≡ None → e.opens ≡ [] → ((n : ℕ) → (unwrap_or (e.nodes n) (w.nodes n)).rounds ≤ (w.nodes n).rounds + r) → Added e
    plain e passes skews opens rounds = record { passes = omega (arith, passes); skews = skews; opens = (let none : length e.opens ≡ 0 = ap length opens in omega (arith, none)); rounds = rounds }

    stays : (n : ℕ) → (w.nodes n).rounds ≤ (w.nodes n).rounds + r
    stays n = omega arith

    -- one node changes
    one : (n : ℕ) (x : Node R Layout) → x.rounds ≤ (w.nodes n).rounds + r → (m : ℕ) → (unwrap_or (only n x m) (w.nodes m)).rounds ≤ (w.nodes m).rounds + r
    one n x low m = by_same (m == n) refl
      where
        by_same : (c : Bool) → (m == n) ≡ c → (unwrap_or (cond c (Some x) None) (w.nodes m)).rounds ≤ (w.nodes m).rounds + r
        by_same true e = subst (λ j. x.rounds ≤ (w.nodes j).rounds + r) (sym (eqb-true m n e)) low
        by_same false e = stays m

    refused : (reason : Refusal Cut) → Added (refusal w reason)
    refused reason = plain (refusal w reason) refl refl refl stays

    nothing_adds : Added (nothing w)
    nothing_adds = plain (nothing w) refl refl refl stays

    did_adds : (n : ℕ) (d : Did R Layout) → d.node.rounds ≤ (w.nodes n).rounds + r → Added (did {A = Applied} {C = Cut} w n d)
    did_adds n d low = plain (did w n d) refl refl refl (one n d.node low)

    acting_adds : (n : ℕ) (c : Bool) (action : Action) → beginning_by action ≤ r → Added (acting join s layouts trio stage_trio w n c (acts join s layouts n (clock w n) (w.nodes n) action))
    acting_adds n c action low =
        let a = acts join s layouts n (clock w n) (w.nodes n) action in
        let more = acts_more join s n (w.nodes n) (clock w n) action in
        let d = did_adds n a.did (omega (arith, more, low)) in
        by_test c (refusal w NotMember) _ (refused NotMember) (record { passes = d.passes; skews = d.skews; opens = d.opens; rounds = d.rounds })

    message_adds : (f : Sent R Layout → Done R) (o : Option (Sent R Layout)) (mark : Option Mark) → ((x : Sent R Layout) → Added (f x)) → Added (at_message w f o mark)
    message_adds f None mark h = refused NoSuchMessage
    message_adds f (Some x) None h = refused NoSuchMessage
    message_adds f (Some x) (Some mark) h = by_test mark.is_lost (refusal w Lost) (f x) (refused Lost) (h x)

    delivered_adds : (i : ℕ) (x : Sent R Layout) → Added (received i (did {A = Applied} {C = Cut} w x.to (receives join s layouts x.to (clock w x.to) (w.nodes x.to) x.from x.packet)))
    delivered_adds i x =
        let same = ap (λ (c : ℕ × ℕ). c.0) (receives_same join s x.to (w.nodes x.to) (clock w x.to) x.from x.packet) in
        let d = did_adds x.to (receives join s layouts x.to (clock w x.to) (w.nodes x.to) x.from x.packet) (omega (arith, same)) in
        record { passes = d.passes; skews = d.skews; opens = d.opens; rounds = d.rounds }

    pub trio_adds : (first : Layout) (stage : List Role → List Role) → Added (trio_applies join s layouts first stage w)
    trio_adds first stage =
        plain (trio_applies join s layouts first stage w) refl refl refl
        (λ n. by_member n (is_among n (layouts.reading.members first)))
      where
        by_member : (n : ℕ) (c : Bool) → (unwrap_or (cond c (Some (appends layouts (w.nodes n) first)) None) (w.nodes n)).rounds ≤ (w.nodes n).rounds + r
        by_member n true = omega arith
        by_member n false = omega arith

    chosen_adds : (n new : ℕ) (choice : Choice Layout Applied Cut) → Added (chosen join s layouts trio stage_trio w n new choice)
    chosen_adds n new (none_given reason) = refused reason
    chosen_adds n new (given l shown) = plain _ refl refl refl (one n (appends layouts (w.nodes n) l) (omega arith))

    applies_add : (n : ℕ) (choice : Choice Layout Applied Cut) → Added (applies_at join s layouts trio stage_trio w n choice)
    applies_add n choice =
        let after = suc (newest layouts.reading (w.nodes n).view) in
        by_test (leb 1 w.applied && not (is_member layouts (w.nodes n).view n)) (refusal w NotMember) _ (refused NotMember)
        (by_test (leb after w.applied) (refusal w (VersionTaken after)) _ (refused (VersionTaken after))
        (by_test (leb most_versions w.applied) (refusal w VersionLimit) _ (refused VersionLimit) (chosen_adds n after choice)))

    closed_one : (n q : ℕ) (m : ℕ) → (unwrap_or (only n (closed q (w.nodes n)) m) (w.nodes m)).rounds ≤ (w.nodes m).rounds + r
    closed_one n q = one n (closed q (w.nodes n)) (omega arith)

    expires_add : (q : ℕ) (o : Option Request) → Added (expires {A = Applied} {C = Cut} w q o)
    expires_add q None = refused NoSuchRequest
    expires_add q (Some request) = by_test request.is_open _ (refusal w AlreadyEnded) (plain _ refl refl refl (closed_one request.coordinator q)) (refused AlreadyEnded)

    closing_adds : (q : ℕ) (o : Option Request) → Added (closing {A = Applied} {C = Cut} w q o)
    closing_adds q None = nothing_adds
    closing_adds q (Some request) = by_test request.is_open _ (nothing w) (plain _ refl refl refl (closed_one request.coordinator q)) nothing_adds

    begun_adds : (n : ℕ) (phase : Phase R) (o : Option (Call R)) → Added (begun {A = Applied} {C = Cut} join s layouts trio stage_trio w n phase o)
    begun_adds n phase None = nothing_adds
    begun_adds n phase (Some c) = let same = ap (λ (k : ℕ × ℕ). k.0) (begins_same join s w.kept (w.nodes n) c phase) in did_adds n (begins s layouts w.kept (w.nodes n) c phase) (omega (arith, same))

    beginning_adds : (q : ℕ) (phase : Phase R) (o : Option Request) → Added (beginning {A = Applied} {C = Cut} join s layouts trio stage_trio w q phase o)
    beginning_adds q phase None = nothing_adds
    beginning_adds q phase (Some request) =
        by_test request.is_open _ (nothing w) (begun_adds request.coordinator phase (call_at (w.nodes request.coordinator).calls q)) nothing_adds

  opening_adds : (n : ℕ) → Adds 0 1 0 w (opening {A = Applied} {C = Cut} join s layouts trio stage_trio w n)
  opening_adds n =
      let q = suc (length w.requests) in
      let start = newest layouts.reading (w.nodes n).view in
      by_test 0 1 0 (is_member layouts (w.nodes n).view n) _ (refusal w NotMember)
      (record { passes = omega arith; skews = refl; opens = omega arith; rounds = one 0 1 0 n (opened q start (w.nodes n)) (omega arith) }) (refused 0 1 0 NotMember)

  -- a step adds no more than its own
  pub step_adds : (st : Step R) (choice : Choice Layout Applied Cut) → IsEven st → Adds (passes_of st) (opens_of st) (rounds_of st) w (effects join s layouts trio stage_trio w st choice)
  step_adds Trio choice even = by_test 0 0 0 (leb 1 w.applied) (refusal w (VersionTaken 1)) _ (refused 0 0 0 (VersionTaken 1)) (trio_adds 0 0 0 trio stage_trio)
  step_adds (Stage n role) choice even = plain 0 0 0 _ refl refl refl (stays 0 0 0)
  step_adds (Spread wanted) choice even = plain 0 0 0 _ refl refl refl (stays 0 0 0)
  step_adds (Apply n) choice even = applies_add 0 0 0 n choice
  step_adds (Tick ms) choice even = record { passes = omega arith; skews = refl; opens = omega arith; rounds = stays ms 0 0 }
  step_adds (Skew n ms) choice even = absurd even
  step_adds (Deliver i) choice even = message_adds 0 0 0 _ (numbered w.messages i) (numbered w.marks i) (delivered_adds 0 0 0 i)
  step_adds (Lose i) choice even = message_adds 0 0 0 _ (numbered w.messages i) (numbered w.marks i) (λ x. plain 0 0 0 _ refl refl refl (stays 0 0 0))
  step_adds (Expire q) choice even = expires_add 0 0 0 q (numbered w.requests q)
  step_adds (Restart n) choice even = plain 0 0 0 _ refl refl refl (one 0 0 0 n (restarts (w.nodes n)) (omega arith))
  step_adds (Gossip from to) choice even = did_adds 0 0 0 from (record (quiet (w.nodes from)) { posts = record { to = to; packet = shows (w.nodes from).view } ∷ [] }) (omega arith)
  step_adds (Ack n) choice even = acting_adds 0 0 0 n (has_none layouts (w.nodes n).view) RaiseAck (omega arith)
  step_adds (Syncs n) choice even = acting_adds 0 0 1 n (has_none layouts (w.nodes n).view) GoOn (omega arith)
  step_adds (SyncAck n) choice even = acting_adds 0 0 0 n (has_none layouts (w.nodes n).view) RaiseSyncAck (omega arith)
  step_adds (Clean n) choice even = acting_adds 0 0 0 n (has_none layouts (w.nodes n).view) CleanUp (omega arith)
  step_adds (Work n) choice even = acting_adds 0 0 0 n (has_none layouts (w.nodes n).view) WorkOff (omega arith)
  step_adds (Repair n) choice even = acting_adds 0 0 1 n (not (is_member layouts (w.nodes n).view n)) Mend (omega arith)
  step_adds (Collect n) choice even = acting_adds 0 0 0 n (has_none layouts (w.nodes n).view) Gather (omega arith)
  step_adds (Open n) choice even = opening_adds n
  step_adds (Begin q phase) choice even = beginning_adds 0 0 0 q phase (numbered w.requests q)
  step_adds (Close q) choice even = closing_adds 0 0 0 q (numbered w.requests q)

-- how many requests there are then
pub requests_after : {R : Type 0} (w : Model R) (e : Done R) → length (applied w e).requests ≡ length w.requests + length e.opens
requests_after w e = length-append _ e.opens ∙ ap (λ n. n + length e.opens) (length_shut w.requests e.closes)
