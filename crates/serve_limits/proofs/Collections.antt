-- No collection begins but where a node collects.
use Rattle.std.specs.Prelude.{◌≡◌, ◌≤◌, ℕ, suc, Bool, true, false, not, ◌&&◌, ◌==◌, leb, cond, List, [], ◌∷◌, Option, Some, None, refl}
use Rattle.std.specs.Option.{unwrap_or}
use Rattle.std.proofs.Common.{ap, sym, subst}
use Rattle.std.proofs.lemmas.Bool.{eqb-true}
use Rattle.crdt_rows.specs.AnyRow.{any_join}
use Rattle.object_schema.specs.Schema.{words}
use Rattle.layout_roles.specs.declared.cut.Cut.{Cut}
use Rattle.layout_roles.specs.declared.layout.Layout.{Layout}
use Rattle.layout_roles.specs.declared.role.Role.{Role}
use Rattle.view_model.specs.View.{newest}
use Rattle.quorum_model.specs.Quorum.{is_among}
use Rattle.table_schema.specs.Words.{Words}
use Rattle.wire_messages.specs.declared.phase.Phase.{Phase}
use Rattle.machine_collects.specs.Without.{IsOther, AreOther}
use Rattle.cluster_machine.specs.declared.applied.Applied.{Applied}
use Rattle.cluster_machine.specs.declared.step.Step.{Step}
use Rattle.cluster_machine.specs.declared.step.Step.TheVariants.{Trio, Role as Stage, Redundancy as Spread, Apply, Tick, Skew, Deliver, Lose, Expire, Restart, Gossip, Ack, Sync as Syncs, SyncAck, Clean, Work, Repair, Collect, Open, Phase as Begin, Close}
use Rattle.cluster_machine.specs.declared.step.Action.{Action}
use Rattle.cluster_machine.specs.declared.step.Action.TheVariants.{Ack as RaiseAck, Sync as GoOn, SyncAck as RaiseSyncAck, Clean as CleanUp, Work as WorkOff, Repair as Mend}
use Rattle.cluster_machine.specs.declared.step.Refusal.{Refusal}
use Rattle.cluster_machine.specs.declared.step.Refusal.TheVariants.{VersionTaken, VersionLimit, NotMember, NoSuchMessage, Lost, NoSuchRequest, AlreadyEnded}
use Rattle.cluster_machine.specs.Layouts.{layouts, is_member, has_none}
use Rattle.cluster_machine.specs.Node.{Call, Node}
use Rattle.cluster_machine.specs.Phases.{opened, closed, begins, call_at}
use Rattle.cluster_machine.specs.Receives.{receives}
use Rattle.cluster_machine.specs.Acts.{acts, appends, restarts}
use Rattle.cluster_machine.specs.World.{Sent, Mark, Request, numbered, clock}
use Rattle.cluster_machine.specs.Step.{most_versions, Choice, given, none_given, nothing, refusal, only, did, received, at_message, expires, closing, chosen, applies_at, trio_applies, acting, begun, beginning, opening, effects}
use Rattle.cluster_machine.specs.Trio.{trio, stage_trio}
use Rattle.cluster_machine.specs.Worlds.{Model, Done, next, run}
use Rattle.store_model.specs.Run.{World, Moving}
use Rattle.serve_limits.specs.Counts.{HaveBegun, AllHaveBegun}
use Rattle.serve_limits.proofs.Rounds.{IsNoGather, receives_same, acts_begun, begins_same}

module _ {R : Type 0} (join : R → R → R) (s : Words R) (w : Model R) where
  -- each node began as many as before
  abbrev pub Same : Done R → Type 0
  Same e = (n : ℕ) → (unwrap_or (e.nodes n) (w.nodes n)).gc.begun ≡ (w.nodes n).gc.begun

  by_test : (c : Bool) (d e : Done R) → Same d → Same e → Same (cond c d e)
  by_test true d e f h = f
  by_test false d e f h = h

  one : (n : ℕ) (x : Node R Layout) → x.gc.begun ≡ (w.nodes n).gc.begun → (m : ℕ) → (unwrap_or (only n x m) (w.nodes m)).gc.begun ≡ (w.nodes m).gc.begun
  one n x low m = by_same (m == n) refl
    where
      by_same : (c : Bool) → (m == n) ≡ c → (unwrap_or (cond c (Some x) None) (w.nodes m)).gc.begun ≡ (w.nodes m).gc.begun
      by_same true e = subst (λ j. x.gc.begun ≡ (w.nodes j).gc.begun) (sym (eqb-true m n e)) low
      by_same false e = refl

  refused : (reason : Refusal Cut) → Same (refusal w reason)
  refused reason n = refl

  acting_same : (n : ℕ) (c : Bool) (action : Action) → IsNoGather action → Same (acting join s layouts trio stage_trio w n c (acts join s layouts n (clock w n) (w.nodes n) action))
  acting_same n c action other = by_test c (refusal w NotMember) _ (refused NotMember) (one n (acts join s layouts n (clock w n) (w.nodes n) action).did.node (acts_begun join s n (w.nodes n) (clock w n) action other))

  message_same : (f : Sent R Layout → Done R) (o : Option (Sent R Layout)) (mark : Option Mark) → ((x : Sent R Layout) → Same (f x)) → Same (at_message w f o mark)
  message_same f None mark h = refused NoSuchMessage
  message_same f (Some x) None h = refused NoSuchMessage
  message_same f (Some x) (Some mark) h = by_test mark.is_lost (refusal w Lost) (f x) (refused Lost) (h x)

  delivered_same : (i : ℕ) (x : Sent R Layout) → Same (received i (did {A = Applied} {C = Cut} w x.to (receives join s layouts x.to (clock w x.to) (w.nodes x.to) x.from x.packet)))
  delivered_same i x = one x.to (receives join s layouts x.to (clock w x.to) (w.nodes x.to) x.from x.packet).node (ap (λ (c : ℕ × ℕ). c.1) (receives_same join s x.to (w.nodes x.to) (clock w x.to) x.from x.packet))

  pub trio_same : (first : Layout) (stage : List Role → List Role) → Same (trio_applies join s layouts first stage w)
  trio_same first stage n = by_member (is_among n (layouts.reading.members first))
    where
      by_member : (c : Bool) → (unwrap_or (cond c (Some (appends layouts (w.nodes n) first)) None) (w.nodes n)).gc.begun ≡ (w.nodes n).gc.begun
      by_member true = refl
      by_member false = refl

  chosen_same : (n new : ℕ) (choice : Choice Layout Applied Cut) → Same (chosen join s layouts trio stage_trio w n new choice)
  chosen_same n new (none_given reason) = refused reason
  chosen_same n new (given l shown) = one n (appends layouts (w.nodes n) l) refl

  applies_same : (n : ℕ) (choice : Choice Layout Applied Cut) → Same (applies_at join s layouts trio stage_trio w n choice)
  applies_same n choice =
      let after = suc (newest layouts.reading (w.nodes n).view) in
      by_test (leb 1 w.applied && not (is_member layouts (w.nodes n).view n)) (refusal w NotMember) _ (refused NotMember)
      (by_test (leb after w.applied) (refusal w (VersionTaken after)) _ (refused (VersionTaken after))
      (by_test (leb most_versions w.applied) (refusal w VersionLimit) _ (refused VersionLimit) (chosen_same n after choice)))

  closed_same : (n q : ℕ) (m : ℕ) → (unwrap_or (only n (closed q (w.nodes n)) m) (w.nodes m)).gc.begun ≡ (w.nodes m).gc.begun
  closed_same n q = one n (closed q (w.nodes n)) refl

  expires_same : (q : ℕ) (o : Option Request) → Same (expires {A = Applied} {C = Cut} w q o)
  expires_same q None = refused NoSuchRequest
  expires_same q (Some request) = by_test request.is_open _ (refusal w AlreadyEnded) (closed_same request.coordinator q) (refused AlreadyEnded)

  closing_same : (q : ℕ) (o : Option Request) → Same (closing {A = Applied} {C = Cut} w q o)
  closing_same q None = λ n. refl
  closing_same q (Some request) = by_test request.is_open _ (nothing w) (closed_same request.coordinator q) (λ n. refl)

  begun_same : (n : ℕ) (phase : Phase R) (o : Option (Call R)) → Same (begun {A = Applied} {C = Cut} join s layouts trio stage_trio w n phase o)
  begun_same n phase None = λ m. refl
  begun_same n phase (Some c) = one n (begins s layouts w.kept (w.nodes n) c phase).node (ap (λ (k : ℕ × ℕ). k.1) (begins_same join s w.kept (w.nodes n) c phase))

  beginning_same : (q : ℕ) (phase : Phase R) (o : Option Request) → Same (beginning {A = Applied} {C = Cut} join s layouts trio stage_trio w q phase o)
  beginning_same q phase None = λ n. refl
  beginning_same q phase (Some request) =
      by_test request.is_open _ (nothing w) (begun_same request.coordinator phase (call_at (w.nodes request.coordinator).calls q)) (λ n. refl)

  opening_same : (n : ℕ) → Same (opening {A = Applied} {C = Cut} join s layouts trio stage_trio w n)
  opening_same n = by_test (is_member layouts (w.nodes n).view n) _ (refusal w NotMember) (one n (opened _ _ (w.nodes n)) refl) (refused NotMember)

  -- a step that doesn't collect
  pub step_same : (st : Step R) (choice : Choice Layout Applied Cut) → IsOther st → Same (effects join s layouts trio stage_trio w st choice)
  step_same Trio choice other = by_test (leb 1 w.applied) (refusal w (VersionTaken 1)) _ (refused (VersionTaken 1)) (trio_same trio stage_trio)
  step_same (Stage n role) choice other = λ m. refl
  step_same (Spread wanted) choice other = λ m. refl
  step_same (Apply n) choice other = applies_same n choice
  step_same (Tick ms) choice other = λ m. refl
  step_same (Skew n ms) choice other = λ m. refl
  step_same (Deliver i) choice other = message_same _ (numbered w.messages i) (numbered w.marks i) (delivered_same i)
  step_same (Lose i) choice other = message_same _ (numbered w.messages i) (numbered w.marks i) (λ x n. refl)
  step_same (Expire q) choice other = expires_same q (numbered w.requests q)
  step_same (Restart n) choice other = one n (restarts (w.nodes n)) refl
  step_same (Gossip from to) choice other = one from (w.nodes from) refl
  step_same (Ack n) choice other = acting_same n (has_none layouts (w.nodes n).view) RaiseAck tt
  step_same (Syncs n) choice other = acting_same n (has_none layouts (w.nodes n).view) GoOn tt
  step_same (SyncAck n) choice other = acting_same n (has_none layouts (w.nodes n).view) RaiseSyncAck tt
  step_same (Clean n) choice other = acting_same n (has_none layouts (w.nodes n).view) CleanUp tt
  step_same (Work n) choice other = acting_same n (has_none layouts (w.nodes n).view) WorkOff tt
  step_same (Repair n) choice other = acting_same n (not (is_member layouts (w.nodes n).view n)) Mend tt
  step_same (Collect n) choice other = absurd other
  step_same (Open n) choice other = opening_same n
  step_same (Begin q phase) choice other = beginning_same q phase (numbered w.requests q)
  step_same (Close q) choice other = closing_same q (numbered w.requests q)

-- steps that don't collect
pub along_begun : (k : ℕ) (w : World) (ms : List Moving) → AreOther ms → HaveBegun k w → AllHaveBegun k w ms × HaveBegun k (run any_join words w ms)
along_begun k w [] other h = (tt, h)
along_begun k w (m ∷ ms) other h =
    let now : HaveBegun k (next any_join words w m) = (λ n. subst (λ (b : ℕ). b ≤ k) (sym (step_same any_join words w m.step m.choice other.0 n)) (h n)) in
    let rest = along_begun k (next any_join words w m) ms other.1 now in
    ((now, rest.0), rest.1)
