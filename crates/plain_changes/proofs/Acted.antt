-- What the acts of a change come to: the change of the world, and nothing else.
use Rattle.std.specs.Prelude.{◌≡◌, ℕ, zero, suc, Bool, true, false, cond, not, ◌&&◌, leb, Option, Some, None, List, [], ◌∷◌, ◌++◌, length, refl}
use Rattle.std.specs.Option.{unwrap_or}
use Rattle.std.specs.List.{AllByRecursion}
use Rattle.std.proofs.Common.{ap, sym, subst, ◌∙◌, inl}
use Rattle.std.proofs.lemmas.List.{append-nil}
use Rattle.crdt_core.specs.Members.{Has}
use Rattle.crdt_rows.specs.AnyRow.{any_join}
use Rattle.crdt_rows.specs.declared.any_row.AnyRow.{AnyRow}
use Rattle.object_schema.specs.Schema.{words}
use Rattle.layout_roles.specs.declared.layout.Layout.{Layout}
use Rattle.layout_roles.specs.declared.cut.Cut.{Cut}
use Rattle.view_model.specs.View.{newest}
use Rattle.cluster_machine.specs.declared.applied.Applied.{Applied}
use Rattle.cluster_machine.specs.declared.step.Step.{Step}
use Rattle.cluster_machine.specs.declared.step.Step.TheVariants.{Apply, Deliver, Gossip, Ack, Sync, SyncAck, Clean}
use Rattle.cluster_machine.specs.declared.step.Action.{Action}
use Rattle.cluster_machine.specs.declared.step.Action.TheVariants.{Ack as RaiseAck, Sync as GoOn, SyncAck as RaiseSyncAck, Clean as CleanUp}
use Rattle.cluster_machine.specs.declared.step.Refusal.{Refusal}
use Rattle.cluster_machine.specs.declared.step.Refusal.TheVariants.{NotMember, VersionTaken, VersionLimit, NoSuchMessage, Lost}
use Rattle.cluster_machine.specs.Acts.{acts, appends}
use Rattle.cluster_machine.specs.Layouts.{layouts, has_none}
use Rattle.cluster_machine.specs.Node.{Call, Node, Ended, Did}
use Rattle.cluster_machine.specs.Receives.{receives}
use Rattle.cluster_machine.specs.Run.{run as machine_run, next as machine_next}
use Rattle.cluster_machine.specs.Step.{Choice, given, none_given, Effects, most_versions, refusal, only, did, received, at_message, chosen, local, effects}
use Rattle.cluster_machine.specs.Trio.{trio, stage_trio}
use Rattle.cluster_machine.specs.World.{Sent, Mark, numbered, clock, undelivered, is_member_at}
use Rattle.cluster_machine.specs.Worlds.{FitAll, run}
use Rattle.machine_origins.specs.Following.{Continues, AtMostOne, Follows}
use Rattle.machine_origins.proofs.FollowingSteps.{follows_receives, follows_acts}
use Rattle.store_model.specs.Run.{World, Moving, State, Outcome, silent, plainly, effect, doing, goes_on, after_step, delivers, then_drains, drains}
use Rattle.store_model.specs.Acts.{moves, drain, endings, acted, after_acts, all_messages}
use Rattle.store_model.proofs.Leads.{drains_lead}
use Rattle.store_laws.proofs.Emptied.{emptied_from}
use Rattle.drained_laws.specs.Waiting.{waiting}
use Rattle.drained_laws.proofs.Weights.{first_fresh, none_waits}
use Rattle.drained_laws.proofs.Deliveries.{one_changes}
use Rattle.store_laws.specs.Hashed.{StepsHash}
use Rattle.change_laws.specs.Script.{IsOfChange, AreFresh, AreSpelled, Drains}
use Rattle.serve_changes.specs.Acts.{steps}

-- no node has an open request
abbrev pub IsIdle : World → Type 0
IsIdle w = (n : ℕ) → (w.nodes n).calls ≡ []

abbrev Made : Type 0
Made = Effects AnyRow Layout Applied Cut

-- nor has it after these effects, and no phase ends
pub record StaysIdle (w : World) (e : Made) : Type 0 where
  pub nodes : (n : ℕ) → (unwrap_or (e.nodes n) (w.nodes n)).calls ≡ []
  pub ends : e.ends ≡ []

-- ---- one node

no_calls : (x : Node AnyRow Layout) (d : Did AnyRow Layout) → x.calls ≡ [] → Follows x d → d.node.calls ≡ []
no_calls x d none f = by_calls d.node.calls f.calls
  where
    by_calls : (cs : List (Call AnyRow)) → ((c : Call AnyRow) → Has cs c → Continues x.calls c) → cs ≡ []
    by_calls [] h = refl
    by_calls (c ∷ cs) h = let was = h c (inl refl) in absurd (subst (λ old. Has old was.before) none was.is_there)

no_ends : (x : Node AnyRow Layout) (d : Did AnyRow Layout) → x.calls ≡ [] → Follows x d → d.ends ≡ []
no_ends x d none f = by_ends d.ends f.ends
  where
    by_ends : (es : List (Ended AnyRow)) → AtMostOne x.calls d.node.calls es d.keeps d.reads → es ≡ []
    by_ends [] h = refl
    by_ends (e ∷ []) h = absurd (subst (λ old. Has old h.call) none h.is_there)
    by_ends (e ∷ f ∷ es) h = absurd h

module _ (w : World) (idle : IsIdle w) where
  idle_none : (e : Made) → e.nodes ≡ (λ n. None) → e.ends ≡ [] → StaysIdle w e
  idle_none e nodes ends = record { nodes = λ n. subst (λ (ns : ℕ → Option (Node AnyRow Layout)). (unwrap_or (ns n) (w.nodes n)).calls ≡ []) (sym nodes) (idle n); ends = ends }

  idle_one : (e : Made) (n : ℕ) (y : Node AnyRow Layout) → e.nodes ≡ only n y → e.ends ≡ [] → y.calls ≡ [] → StaysIdle w e
  idle_one e n y nodes ends h = record {
    nodes = λ m. subst (λ (ns : ℕ → Option (Node AnyRow Layout)). (unwrap_or (ns m) (w.nodes m)).calls ≡ []) (sym nodes) (one_changes (λ j (z : Node AnyRow Layout). z.calls ≡ []) n y w.nodes h (λ j apart. idle j) m);
    ends = ends;
  }

  idle_by : (b : Bool) (d e : Made) → StaysIdle w d → StaysIdle w e → StaysIdle w (cond b d e)
  idle_by true d e g h = g
  idle_by false d e g h = h

  idle_refusal : (r : Refusal Cut) → StaysIdle w (refusal w r)
  idle_refusal r = idle_none (refusal w r) refl refl

  idle_local : (n : ℕ) (a : Action) → StaysIdle w (local any_join words layouts trio stage_trio w n a)
  idle_local n a =
      let d = (acts any_join words layouts n (clock w n) (w.nodes n) a).did in
      let f = follows_acts any_join words layouts (w.nodes n) n (clock w n) a in
      idle_by (has_none layouts (w.nodes n).view) (refusal w NotMember) _ (idle_refusal NotMember) (idle_one _ n d.node refl (no_ends (w.nodes n) d (idle n) f) (no_calls (w.nodes n) d (idle n) f))

  idle_chosen : (n at : ℕ) (choice : Choice Layout Applied Cut) → StaysIdle w (chosen any_join words layouts trio stage_trio w n at choice)
  idle_chosen n at (given l shown) = idle_one (chosen any_join words layouts trio stage_trio w n at (given l shown)) n (appends layouts (w.nodes n) l) refl refl (idle n)
  idle_chosen n at (none_given r) = idle_refusal r

  idle_message : (f : Sent AnyRow Layout → Made) → ((x : Sent AnyRow Layout) → StaysIdle w (f x)) → (o : Option (Sent AnyRow Layout)) (mark : Option Mark) → StaysIdle w (at_message w f o mark)
  idle_message f h None mark = idle_refusal NoSuchMessage
  idle_message f h (Some x) None = idle_refusal NoSuchMessage
  idle_message f h (Some x) (Some mark) = idle_by mark.is_lost (refusal w Lost) (f x) (idle_refusal Lost) (h x)

  idle_deliver : (m : ℕ) (choice : Choice Layout Applied Cut) → StaysIdle w (effects any_join words layouts trio stage_trio w (Deliver m) choice)
  idle_deliver m choice =
      idle_message (λ sent. received m (did w sent.to (receives any_join words layouts sent.to (clock w sent.to) (w.nodes sent.to) sent.from sent.packet)))
      (λ x.
      (let d = receives any_join words layouts x.to (clock w x.to) (w.nodes x.to) x.from x.packet in
      let differ : (c e : Call AnyRow) → Has (w.nodes x.to).calls c → Has (w.nodes x.to).calls e → c.request ≡ e.request → c ≡ e = λ c e there also same. absurd (subst (λ old. Has old c) (idle x.to) there) in
      let f = follows_receives any_join words layouts (w.nodes x.to) differ x.to (clock w x.to) x.from x.packet in
      idle_one _ x.to d.node refl (no_ends (w.nodes x.to) d (idle x.to) f) (no_calls (w.nodes x.to) d (idle x.to) f)))
      (numbered w.messages m) (numbered w.marks m)

  pub idle_step : (step : Step AnyRow) (choice : Choice Layout Applied Cut) → IsOfChange step → StaysIdle w (effects any_join words layouts trio stage_trio w step choice)
  idle_step (Apply n) choice h =
      let at = suc (newest layouts.reading (w.nodes n).view) in
      idle_by (leb 1 w.applied && not (is_member_at layouts w n)) (refusal w NotMember) _ (idle_refusal NotMember)
      (idle_by (leb at w.applied) (refusal w (VersionTaken at)) _ (idle_refusal (VersionTaken at))
      (idle_by (leb most_versions w.applied) (refusal w VersionLimit) _ (idle_refusal VersionLimit) (idle_chosen n at choice)))
  idle_step (Deliver m) choice h = idle_deliver m choice
  idle_step (Gossip from to) choice h = idle_one (effects any_join words layouts trio stage_trio w (Gossip from to) choice) from (w.nodes from) refl refl (idle from)
  idle_step (Ack n) choice h = idle_local n RaiseAck
  idle_step (Sync n) choice h = idle_local n GoOn
  idle_step (SyncAck n) choice h = idle_local n RaiseSyncAck
  idle_step (Clean n) choice h = idle_local n CleanUp
  idle_step _ choice h = elim h [ ]

-- ---- runs

abbrev pub machine : World → List Moving → World
machine w ms = machine_run {A = Applied} {C = Cut} any_join words layouts trio stage_trio w ms

same_run : (ms : List Moving) (w : World) → run any_join words w ms ≡ machine w ms
same_run [] w = refl
same_run (m ∷ ms) w = same_run ms (machine_next any_join words layouts trio stage_trio w m)

pub idle_run : (ms : List Moving) (w : World) → AllByRecursion (λ (m : Moving). IsOfChange m.step) ms → IsIdle w → IsIdle (machine w ms)
idle_run [] w h idle = idle
idle_run (m ∷ ms) w h idle = idle_run ms (machine_next any_join words layouts trio stage_trio w m) h.1 (idle_step w idle m.step m.choice h.0).nodes

-- the state in another world
abbrev pub in_world : State → World → State
in_world s w = record s { world = w }

-- a step of a change is a step of the world alone
no_endings : (step : Step AnyRow) (e : Made) → IsOfChange step → endings step e ≡ []
no_endings (Apply n) e h = refl
no_endings (Deliver m) e h = refl
no_endings (Gossip from to) e h = refl
no_endings (Ack n) e h = refl
no_endings (Sync n) e h = refl
no_endings (SyncAck n) e h = refl
no_endings (Clean n) e h = refl
no_endings _ e h = elim h [ ]

pub one_step : (s : State) (m : Moving) → IsOfChange m.step → (acted s (moves m)).state ≡ in_world s (machine s.world (m ∷ []))
one_step s m h = ap (λ hs. record (doing s m) { history = s.history ++ hs }) (no_endings m.step (effect s m) h) ∙ ap (λ hs. record (doing s m) { history = hs }) (append-nil s.history)

pub all_steps : (ms : List Moving) (s : State) → AllByRecursion (λ (m : Moving). IsOfChange m.step) ms → after_acts s (steps ms) ≡ in_world s (machine s.world ms)
all_steps [] s h = refl
all_steps (m ∷ ms) s h = ap (λ t. after_acts t (steps ms)) (one_step s m h.0) ∙ all_steps ms (in_world s (machine s.world (m ∷ []))) h.1

-- ---- drains

-- deliveries of messages that wait, after which the state is the same but for its world
pub record IsDrained (s : State) (o : Outcome) : Type 0 where
  pub fresh_ones : AreFresh Applied Cut any_join words layouts trio stage_trio s.world o.moves
  pub state : o.state ≡ in_world s o.state.world

quietly : (s : State) (m : ℕ) → IsIdle s.world → delivers s m ≡ after_step (plainly (Deliver m)) (effect s (plainly (Deliver m))) (silent (doing s (plainly (Deliver m))))
quietly s m idle = ap (λ es. after_step (plainly (Deliver m)) (effect s (plainly (Deliver m))) (goes_on (doing s (plainly (Deliver m))) es)) (idle_deliver s.world idle m (none_given VersionLimit)).ends

drained_so : (n : ℕ) (s : State) → IsIdle s.world → IsDrained s (drains n s)
drained_so zero s idle = record { fresh_ones = tt; state = refl }
drained_so (suc n) s idle =
    elim (undelivered s.world) as (λ o. undelivered s.world ≡ o → IsDrained s (elim o as (λ o. Outcome) [ None ↦ silent s | Some m ↦ let o = delivers s m in then_drains o (drains n o.state) ])) [
      | None ↦ (λ e. record { fresh_ones = tt; state = refl })
      | Some m ↦ (λ e.
          let d = plainly (Deliver m) in
          let t = doing s d in
          let rest = drained_so n t (idle_deliver s.world idle m (none_given VersionLimit)).nodes in
          subst (λ (o : Outcome). IsDrained s (then_drains o (drains n o.state))) (sym (quietly s m idle))
          (record { fresh_ones = (first_fresh s.world.marks m e, rest.fresh_ones); state = rest.state }))
    ] refl

module _ (s : State) (idle : IsIdle s.world) (matched : length s.world.messages ≡ length s.world.marks) (fits : FitAll any_join words s.world (drains all_messages s).moves) where
  pub drain_drains : Drains Applied Cut any_join words layouts trio stage_trio s.world (acted s (drain all_messages)).state.world
  drain_drains =
      let leads : (drains all_messages s).state.world ≡ machine s.world (drains all_messages s).moves = sym (drains_lead all_messages s) ∙ same_run (drains all_messages s).moves s.world in
      record {
        deliveries = (drains all_messages s).moves;
        fresh_ones = (drained_so all_messages s idle).fresh_ones;
        none = subst (λ w. waiting w ≡ []) leads (none_waits (drains all_messages s).state.world (emptied_from s matched fits));
        leads = leads;
      }

  -- what was delivered is what a drain delivers
  pub drain_spelled : AreSpelled Applied Cut any_join words layouts trio stage_trio s.world (drains all_messages s).moves → AreSpelled Applied Cut any_join words layouts trio stage_trio s.world drain_drains.deliveries
  unfolding drain_drains
  drain_spelled h = h

  -- and what was hashed for it the drain hashes
  pub drain_hashes : (y : List ℕ) → StepsHash s.world drain_drains.deliveries y → StepsHash s.world (acted s (drain all_messages)).moves y
  unfolding drain_drains
  drain_hashes y h = h

  pub drain_state : (acted s (drain all_messages)).state ≡ in_world s (acted s (drain all_messages)).state.world
  drain_state = (drained_so all_messages s idle).state
