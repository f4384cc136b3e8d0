-- The requests that lines said to have begun are those of the state, with their kinds; and each line of a request's end tells what its kind may.
use Rattle.std.proofs.Common.{◌≡◌, ◌≤◌, ◌-◌, inl, inr, ℕ, zero, suc, Bool, true, false, not, ◌&&◌, ◌==◌, leb, cond, if◌then◌else◌, Option, Some, None, List, [], ◌∷◌, ◌++◌, length, map, refl, sym, ap, subst, ◌∙◌, arith, ne_eqb, eq-eqb}
use Rattle.std.specs.Prelude.{⊤, reverse, slice_set}
use Rattle.std.specs.List.{AllByRecursion}
use Rattle.std.specs.Option.{unwrap_or}
use Rattle.std.proofs.lemmas.List.{append-nil, length-set}
use Rattle.std.proofs.lemmas.Grind.{reverse_onto}
use Rattle.crdt_core.specs.Members.{Has}
use Rattle.crdt_core.proofs.Each.{all_append}
use Rattle.layout_roles.specs.declared.layout.Layout.{Layout}
use Rattle.view_model.specs.View.{newest}
use Rattle.view_model.specs.Layouts.{reading}
use Rattle.crdt_rows.specs.declared.any_row.AnyRow.{AnyRow}
use Rattle.crdt_rows.specs.AnyRow.{any_join}
use Rattle.object_schema.specs.Schema.{words}
use Rattle.wire_messages.specs.declared.phase.Phase.{Phase}
use Rattle.wire_messages.specs.declared.phase.PhaseEnd.{PhaseEnd}
use Rattle.cluster_machine.specs.declared.applied.Applied.{Applied}
use Rattle.cluster_machine.specs.declared.line.Line.{Line}
use Rattle.cluster_machine.specs.declared.line.Line.TheVariants.{Synced, Ended as HasEnded}
use Rattle.cluster_machine.specs.declared.line.EndWord.TheVariants.{Restarted}
use Rattle.cluster_machine.specs.declared.step.Action.TheVariants.{Ack as RaiseAck, Sync as GoOn, SyncAck as RaiseSyncAck, Clean as CleanUp, Work as WorkOff, Repair as Mend, Collect as Gather}
use Rattle.cluster_machine.specs.declared.step.Step.{Step}
use Rattle.cluster_machine.specs.declared.step.Step.TheVariants as step
use Rattle.cluster_machine.specs.declared.step.Refusal.TheVariants.{VersionTaken, VersionLimit, NotMember, Lost, AlreadyEnded}
use Rattle.cluster_machine.specs.declared.step.Words.TheVariants.{One}
use Rattle.cluster_machine.specs.Layouts.{layouts, has_none}
use Rattle.cluster_machine.specs.Node.{Call, Did, Ended, shows, quiet}
use Rattle.cluster_machine.specs.Phases.{call_at, begins as begins_phase, opened as opens_call}
use Rattle.cluster_machine.specs.Receives.{receives}
use Rattle.cluster_machine.specs.Acts.{Acted, acts}
use Rattle.cluster_machine.specs.World.{Sent, Mark, Request, numbered, clock, is_member_at, undelivered}
use Rattle.cluster_machine.specs.Choices.{Decision}
use Rattle.cluster_machine.specs.Step.{most_versions, given, none_given, nothing, refusal as world_refusal, sent_by, sent_from, sync_line, dropped_line, did, at_message, expires, closing, chosen, applies_at, trio_applies, acting, begun, beginning, effects, changed, applied, shut, only, requests_of}
use Rattle.cluster_machine.specs.Trio.{trio, stage_trio}
use Rattle.cluster_machine.specs.Worlds.{Done as Effect, IsLawful, IsSound, next}
use Rattle.cluster_machine.proofs.Closing.{length_shut}
use Rattle.machine_origins.proofs.Calm.{IsCalm, IsCalmStep, calm_step}
use Rattle.machine_origins.proofs.Begun.{IsBegun, begun_step}
use Rattle.machine_origins.proofs.Places.{numbered_push_cases, numbered_within, numbered_set_cases, numbered_there, length_push}
use Rattle.history_model.specs.declared.record.Kind.{Kind}
use Rattle.history_model.specs.declared.record.Kind.TheVariants as kind
use Rattle.flow_model.specs.declared.order.Order.{Order}
use Rattle.flow_model.specs.declared.flow.Flow.{Flow}
use Rattle.flow_model.specs.declared.flow.FlowStep.{FlowStep}
use Rattle.flow_model.specs.declared.flow.FlowStep.TheVariants.{More, Need, Wait, End}
use Rattle.flow_model.specs.declared.flow.FlowEnd.{FlowEnd}
use Rattle.flow_model.specs.declared.flow.FlowEnd.TheVariants.{Stored, Found, Nothing, Listed, Superseded, Aborted}
use Rattle.flow_model.specs.Flow.{started}
use Rattle.flow_model.specs.Next.{next as next_of}
use Rattle.store_model.specs.Answers.{lines_of_end}
use Rattle.store_model.specs.Orders.{kind_of}
use Rattle.store_model.specs.Run.{World, Moving, State, Asked, Draw, Outcome, silent, plainly, effect, doing, phases, new_request, opened, draws_of, takes, follows, follow, goes_on, delivers, then_drains, drains}
use Rattle.store_model.specs.Acts.{plain, IsOuter}
use Rattle.audit_model.specs.Heard.{kind_at}
use Rattle.audit_laws.specs.Told.{IsHeard}
use Rattle.audit_accounts.specs.Saying.{IsTold}
use Rattle.audit_accounts.proofs.Flows.{IsStage, IsEnd, IsNext, next_is, started_is, any_version, any_number, any_rows, gives_any}

-- after a step that is given something lawful a sound world is sound
abbrev pub StaysSound : Type 0
StaysSound = (w : World) (m : Moving) → IsSound w → IsLawful w m → IsSound (next any_join words w m)

-- ---- requests

abbrev WaitsAs : Kind → Option Flow → Type 0
WaitsAs k None = ⊤
WaitsAs k (Some flow) = IsStage any_version any_number any_rows k flow.stage

-- each request that was asked for has begun by its line, and waits as its kind does; each open call is of one of them
pub record Known (asked : List (ℕ × Kind)) (xs : List Asked) (w : World) : Type 0 where
  pub sound : IsSound w
  pub lengths : length xs ≡ length w.requests
  pub kinds : (q : ℕ) (a : Asked) → numbered xs q ≡ Some a → kind_at asked q ≡ Some a.kind
  pub waits : (q : ℕ) (a : Asked) → numbered xs q ≡ Some a → WaitsAs a.kind a.flow
  pub calls : (n : ℕ) (c : Call AnyRow) → Has (w.nodes n).calls c → (1 ≤ c.request) × (c.request ≤ length xs)

abbrev pub KnownIn : List (ℕ × Kind) → State → Type 0
KnownIn asked s = Known asked s.asked s.world

-- a line can be heard, and tells what it may
abbrev pub IsFine : List (ℕ × Kind) → Line Applied → Type 0
IsFine asked l = IsHeard asked l × IsTold l

abbrev pub AreFine : List (ℕ × Kind) → List (Line Applied) → Type 0
AreFine asked ls = AllByRecursion (IsFine asked) ls

both_fine : (asked : List (ℕ × Kind)) (a b : List (Line Applied)) → AreFine asked a → AreFine asked b → AreFine asked (a ++ b)
both_fine asked a b h k = all_append (IsFine asked) a b h k

-- a request that there is has its kind
asked_kind : (asked : List (ℕ × Kind)) (xs : List Asked) (w : World) → Known asked xs w → (q : ℕ) → 1 ≤ q → q ≤ length xs → (k : Kind) × (kind_at asked q ≡ Some k)
asked_kind asked xs w known q low high = let a = numbered_there xs q low high in (a.0.kind, known.kinds q a.0 a.1)

-- ---- what steps of the world tell

module _ (asked : List (ℕ × Kind)) (xs : List Asked) (w : World) (known : Known asked xs w) where
  abbrev StepFine : Effect AnyRow → Type 0
  StepFine e = AreFine asked e.tells

  sent_fine : (m : ℕ) (ss : List (Sent AnyRow Layout)) → AreFine asked (sent_from m ss)
  sent_fine m [] = tt
  sent_fine m (s ∷ ss) = ((tt, tt), sent_fine (suc m) ss)

  synced_fine : (b : Bool) (n after : ℕ) → AreFine asked (cond b [] (Synced n after ∷ []))
  synced_fine true n after = tt
  synced_fine false n after = ((tt, tt), tt)

  dropped_fine : (n : ℕ) (o : Option (ℕ × ℕ)) → AreFine asked (dropped_line {A = Applied} n o)
  dropped_fine n None = tt
  dropped_fine n (Some version) = ((tt, tt), tt)

  cond_fine : (b : Bool) (d e : Effect AnyRow) → StepFine d → StepFine e → StepFine (cond b d e)
  cond_fine true d e h k = h
  cond_fine false d e h k = k

  did_fine : (n : ℕ) (d : Did AnyRow Layout) → StepFine (did w n d)
  did_fine n d =
      let sends : List (Sent AnyRow Layout) = sent_by w n d.posts in
      let sent : List (Line Applied) = sent_from (suc (length w.messages)) sends in
      let last : List (Line Applied) = sync_line n (w.nodes n).view d.node.view in
      both_fine asked (dropped_line n d.dropped) (sent ++ last) (dropped_fine n d.dropped) (both_fine asked sent last (sent_fine (suc (length w.messages)) sends) (synced_fine _ n _))

  message_fine : (f : Sent AnyRow Layout → Effect AnyRow) → ((s : Sent AnyRow Layout) → StepFine (f s)) → (o : Option (Sent AnyRow Layout)) (mark : Option Mark) → StepFine (at_message w f o mark)
  message_fine f each None mark = tt
  message_fine f each (Some s) None = tt
  message_fine f each (Some s) (Some mark) = cond_fine mark.is_lost (world_refusal w Lost) (f s) tt (each s)

  positive : (q : ℕ) (r : Request) → numbered w.requests q ≡ Some r → 1 ≤ q
  positive zero r is = cc
  positive (suc q) r is = omega arith

  expires_fine : (q : ℕ) (o : Option Request) → numbered w.requests q ≡ o → StepFine (expires w q o)
  expires_fine q None is = tt
  expires_fine q (Some r) is =
      let within = numbered_within w.requests q r is in
      let same = known.lengths in
      cond_fine r.is_open _ (world_refusal w AlreadyEnded) ((asked_kind asked xs w known q (positive q r is) (omega arith), tt), tt) tt

  closing_fine : (q : ℕ) (o : Option Request) → StepFine (closing w q o)
  closing_fine q None = tt
  closing_fine q (Some r) = cond_fine r.is_open _ (nothing w) tt tt

  chosen_fine : (n new : ℕ) (choice : Decision) → StepFine (chosen any_join words layouts trio stage_trio w n new choice)
  chosen_fine n new (none_given r) = tt
  chosen_fine n new (given l shown) = ((tt, tt), tt)

  applies_fine : (n : ℕ) (choice : Decision) → StepFine (applies_at any_join words layouts trio stage_trio w n choice)
  applies_fine n choice =
      let new : ℕ = suc (newest reading (w.nodes n).view) in
      let laid : Effect AnyRow = chosen any_join words layouts trio stage_trio w n new choice in
      let within : Effect AnyRow = cond (leb most_versions w.applied) (world_refusal w VersionLimit) laid in
      let free : Effect AnyRow = cond (leb new w.applied) (world_refusal w (VersionTaken new)) within in
      cond_fine (leb 1 w.applied && not (is_member_at layouts w n)) (world_refusal w NotMember) free tt
      (cond_fine (leb new w.applied) (world_refusal w (VersionTaken new)) within tt
      (cond_fine (leb most_versions w.applied) (world_refusal w VersionLimit) laid tt (chosen_fine n new choice)))

  acting_fine : (n : ℕ) (b : Bool) (a : Acted AnyRow Layout) → StepFine (acting any_join words layouts trio stage_trio w n b a)
  acting_fine n true a = tt
  acting_fine n false a = did_fine n a.did

  begun_fine : (n : ℕ) (phase : Phase AnyRow) (o : Option (Call AnyRow)) → StepFine (begun any_join words layouts trio stage_trio w n phase o)
  begun_fine n phase None = tt
  begun_fine n phase (Some c) = did_fine n (begins_phase words layouts w.kept (w.nodes n) c phase)

  beginning_fine : (q : ℕ) (phase : Phase AnyRow) (o : Option Request) → StepFine (beginning any_join words layouts trio stage_trio w q phase o)
  beginning_fine q phase None = tt
  beginning_fine q phase (Some r) =
      cond_fine r.is_open (begun any_join words layouts trio stage_trio w r.coordinator phase (call_at (w.nodes r.coordinator).calls q)) (nothing w) (begun_fine r.coordinator phase (call_at (w.nodes r.coordinator).calls q)) tt

  ended_fine : (qs : List ℕ) → AllByRecursion (λ q. (1 ≤ q) × (q ≤ length xs)) qs → AreFine asked (map (λ q. HasEnded q Restarted) qs)
  ended_fine [] h = tt
  ended_fine (q ∷ qs) h = ((asked_kind asked xs w known q h.0.0 h.0.1, tt), ended_fine qs h.1)

  calls_known : (cs : List (Call AnyRow)) → ((c : Call AnyRow) → Has cs c → (1 ≤ c.request) × (c.request ≤ length xs)) → AllByRecursion (λ q. (1 ≤ q) × (q ≤ length xs)) (requests_of cs)
  calls_known [] h = tt
  calls_known (c ∷ cs) h = (h c (inl refl), calls_known cs (λ d i. h d (inr i)))

  turned_all : (P : ℕ → Type 0) (qs : List ℕ) → AllByRecursion P qs → AllByRecursion P (reverse qs)
  turned_all P [] h = tt
  turned_all P (q ∷ qs) h = subst (AllByRecursion P) (sym (reverse_onto qs q [])) (all_append P (reverse qs) (q ∷ []) (turned_all P qs h.1) (h.0, tt))

  pub step_fine : (st : Step AnyRow) (choice : Decision) → StepFine (effects any_join words layouts trio stage_trio w st choice)
  step_fine step.Trio choice = cond_fine (leb 1 w.applied) (world_refusal w (VersionTaken 1)) (trio_applies any_join words layouts trio stage_trio w) tt tt
  step_fine (step.Role n role) choice = tt
  step_fine (step.Redundancy r) choice = tt
  step_fine (step.Apply n) choice = applies_fine n choice
  step_fine (step.Tick ms) choice = tt
  step_fine (step.Skew n ms) choice = tt
  step_fine (step.Deliver m) choice = message_fine _ (λ sent. ((tt, tt), did_fine sent.to (receives any_join words layouts sent.to (clock w sent.to) (w.nodes sent.to) sent.from sent.packet))) (numbered w.messages m) (numbered w.marks m)
  step_fine (step.Lose m) choice = message_fine _ (λ sent. tt) (numbered w.messages m) (numbered w.marks m)
  step_fine (step.Expire q) choice = expires_fine q (numbered w.requests q) refl
  step_fine (step.Restart n) choice = ended_fine (reverse (requests_of (w.nodes n).calls)) (turned_all _ (requests_of (w.nodes n).calls) (calls_known (w.nodes n).calls (known.calls n)))
  step_fine (step.Gossip from to) choice = did_fine from (record (quiet (w.nodes from)) { posts = record { to = to; packet = shows (w.nodes from).view } ∷ [] })
  step_fine (step.Ack n) choice = acting_fine n (has_none layouts (w.nodes n).view) (acts any_join words layouts n (clock w n) (w.nodes n) RaiseAck)
  step_fine (step.Sync n) choice = acting_fine n (has_none layouts (w.nodes n).view) (acts any_join words layouts n (clock w n) (w.nodes n) GoOn)
  step_fine (step.SyncAck n) choice = acting_fine n (has_none layouts (w.nodes n).view) (acts any_join words layouts n (clock w n) (w.nodes n) RaiseSyncAck)
  step_fine (step.Clean n) choice = acting_fine n (has_none layouts (w.nodes n).view) (acts any_join words layouts n (clock w n) (w.nodes n) CleanUp)
  step_fine (step.Work n) choice = acting_fine n (has_none layouts (w.nodes n).view) (acts any_join words layouts n (clock w n) (w.nodes n) WorkOff)
  step_fine (step.Repair n) choice = acting_fine n (not (is_member_at layouts w n)) (acts any_join words layouts n (clock w n) (w.nodes n) Mend)
  step_fine (step.Collect n) choice = acting_fine n (has_none layouts (w.nodes n).view) (acts any_join words layouts n (clock w n) (w.nodes n) Gather)
  step_fine (step.Open n) choice = cond_fine (is_member_at layouts w n) _ (world_refusal w NotMember) tt tt
  step_fine (step.Phase q phase) choice = beginning_fine q phase (numbered w.requests q)
  step_fine (step.Close q) choice = closing_fine q (numbered w.requests q)

  -- ---- what they leave

  -- what leaves each call as one of before, and opens none
  left_known : (e : Effect AnyRow) → e.opens ≡ [] → ((n : ℕ) (c : Call AnyRow) → Has (changed e.nodes w.nodes n).calls c → (d : Call AnyRow) × (Has (w.nodes n).calls d × (d.request ≡ c.request))) → IsSound (applied w e) →
      Known asked xs (applied w e)
  left_known e opens before sound = record {
    sound = sound;
    lengths = known.lengths ∙ sym (ap (λ (o : List Request). length (shut w.requests e.closes ++ o)) opens ∙ (ap length (append-nil (shut w.requests e.closes)) ∙ length_shut w.requests e.closes));
    kinds = known.kinds;
    waits = known.waits;
    calls = λ n c h. (let d = before n c h in subst (λ q. (1 ≤ q) × (q ≤ length xs)) d.1.1 (known.calls n d.0 d.1.0));
  }

  module _ (stays : StaysSound) where
    -- a step in which no request opens and no phase begins
    calm_known : (m : Moving) → IsCalmStep m.step → IsLawful w m → Known asked xs (next any_join words w m)
    calm_known m calm lawful =
        let is : IsCalm w (effects any_join words layouts trio stage_trio w m.step m.choice) = calm_step any_join words layouts trio stage_trio w known.sound.different m.step m.choice calm in
        left_known (effects any_join words layouts trio stage_trio w m.step m.choice) is.opens (λ n c h. (let d = is.calls n c h in (d.before, (d.is_there, d.request)))) (stays w m known.sound lawful)

    -- a phase begins
    phase_known : (q : ℕ) (phase : Phase AnyRow) → Known asked xs (next any_join words w (phases q phase))
    phase_known q phase =
        let is : IsBegun w q phase (beginning any_join words layouts trio stage_trio w q phase (numbered w.requests q)) = begun_step w q phase any_join words layouts trio stage_trio known.sound.different (numbered w.requests q) in
        left_known (beginning any_join words layouts trio stage_trio w q phase (numbered w.requests q)) is.opens
        (λ n c h. elim (is.calls n c h) [ inl old ↦ (c, (old, refl)) | inr new ↦ (new.was, (new.was_there, new.was_its ∙ sym new.request)) ]) (stays w (phases q phase) known.sound tt)

-- one request waits for something else
set_known : (asked : List (ℕ × Kind)) (xs : List Asked) (w : World) (q : ℕ) (a : Asked) (flow : Option Flow) → numbered xs q ≡ Some a → WaitsAs a.kind flow → Known asked xs w → Known asked (slice_set xs (q - 1) (record a { flow = flow })) w
set_known asked xs w q a flow at waits known =
    let new : Asked = record a { flow = flow } in
    let same : length (slice_set xs (q - 1) new) ≡ length xs = length-set xs (q - 1) new in
    record {
      sound = known.sound;
      lengths = same ∙ known.lengths;
      kinds = λ p x h. elim (numbered_set_cases xs q p a new x at h) [
        | inl here ↦ ap (kind_at asked) here.0 ∙ (known.kinds q a at ∙ ap (λ (y : Asked). Some y.kind) here.1)
        | inr old ↦ known.kinds p x old
      ];
      waits = λ p x h. elim (numbered_set_cases xs q p a new x at h) [
        | inl here ↦ subst (λ (y : Asked). WaitsAs y.kind y.flow) here.1 waits
        | inr old ↦ known.waits p x old
      ];
      calls = λ n c h. (let old = known.calls n c h in (old.0, subst (λ k. c.request ≤ k) (sym same) old.1));
    }

-- ---- requests that end

end_fine : (asked : List (ℕ × Kind)) (q : ℕ) (k : Kind) (end : FlowEnd) → kind_at asked q ≡ Some k → IsEnd any_version any_number any_rows k end → AreFine asked (lines_of_end q k end)
end_fine asked q kind.Put (Stored version meta) e h = (((kind.Put, (e, refl)), tt), tt)
end_fine asked q kind.Delete (Stored version meta) e h = (((kind.Delete, (e, refl)), tt), tt)
end_fine asked q kind.Copy (Stored version meta) e h = (((kind.Copy, (e, refl)), tt), tt)
end_fine asked q kind.Get (Stored version meta) e h = absurd (let no : false ≡ true = h.0 in cc)
end_fine asked q kind.Head (Stored version meta) e h = absurd (let no : false ≡ true = h.0 in cc)
end_fine asked q kind.List (Stored version meta) e h = absurd (let no : false ≡ true = h.0 in cc)
end_fine asked q kind.Get (Found version meta body) e h = (((kind.Get, (e, refl)), tt), tt)
end_fine asked q kind.Head (Found version meta body) e h = (((kind.Head, (e, refl)), tt), tt)
end_fine asked q kind.Put (Found version meta body) e h = absurd h
end_fine asked q kind.Delete (Found version meta body) e h = absurd h
end_fine asked q kind.Copy (Found version meta body) e h = absurd h
end_fine asked q kind.List (Found version meta body) e h = absurd h
end_fine asked q kind.Get Nothing e h = (((kind.Get, (e, refl)), (refl, refl)), tt)
end_fine asked q kind.Head Nothing e h = (((kind.Head, (e, refl)), (refl, refl)), tt)
end_fine asked q kind.Copy Nothing e h = (((kind.Copy, (e, refl)), (refl, refl)), tt)
end_fine asked q kind.Put Nothing e h = absurd h
end_fine asked q kind.Delete Nothing e h = absurd h
end_fine asked q kind.List Nothing e h = absurd h
end_fine asked q k (Listed rows) e h = ((e ∙ ap (λ (x : Kind). Some x) h.0, tt), tt)
end_fine asked q k (Superseded id) e h = (((k, e), tt), tt)
end_fine asked q k Aborted e h = tt

-- ---- acts

-- what comes of an act leaves requests known, and its lines can be heard
pub record OutKnown (asked : List (ℕ × Kind)) (o : Outcome) : Type 0 where
  pub known : KnownIn asked o.state
  pub fine : AreFine asked o.lines

module _ (stays : StaysSound) (asked : List (ℕ × Kind)) where
  abbrev Out : Outcome → Type 0
  Out o = OutKnown asked o

  takes_known : (s : State) (q : ℕ) (a : Asked) (draws : List Draw) (does : FlowStep) → numbered s.asked q ≡ Some a → IsNext any_version any_number any_rows a.kind does → KnownIn asked s → Out (takes s q a draws does)
  takes_known s q a draws (More flow phase) at is known = record {
    known = set_known asked s.asked (next any_join words s.world (phases q phase)) q a (Some flow) at is (phase_known asked s.asked s.world known stays q phase);
    fine = step_fine asked s.asked s.world known (step.Phase q phase) (none_given VersionLimit);
  }
  takes_known s q a draws (Need flow wanted) at is known = record { known = set_known asked s.asked s.world q a (Some flow) at is known; fine = tt }
  takes_known s q a draws (Wait flow) at is known = record { known = set_known asked s.asked s.world q a (Some flow) at is known; fine = tt }
  takes_known s q a draws (End end) at is known = record {
    known = set_known asked s.asked (next any_join words s.world (plainly (step.Close q))) q a None at tt (calm_known asked s.asked s.world known stays (plainly (step.Close q)) tt tt);
    fine = end_fine asked q a.kind end (known.kinds q a at) is;
  }

  follows_known : (s : State) (q : ℕ) (a : Asked) (end : PhaseEnd AnyRow) (o : Option Flow) → numbered s.asked q ≡ Some a → WaitsAs a.kind o → KnownIn asked s → Out (follows s q a end o)
  follows_known s q a end None at waits known = record { known = known; fine = tt }
  follows_known s q a end (Some flow) at waits known =
      let now = clock s.world a.node in
      takes_known (record s { saw = record { request = q; end = end } ∷ s.saw }) q a (draws_of s q flow.block flow.stage end now) (next_of flow end now) at
      (next_is any_version any_number any_rows any_rows (λ rows h. h) tt a.kind flow.id flow.block flow.stage end now waits (gives_any flow.id flow.stage end now)) known

  follow_known : (s : State) (q : ℕ) (o : Option Asked) (end : PhaseEnd AnyRow) → numbered s.asked q ≡ o → KnownIn asked s → Out (follow s q o end)
  follow_known s q None end at known = record { known = known; fine = tt }
  follow_known s q (Some a) end at known = follows_known s q a end a.flow at (known.waits q a at) known

  goes_on_known : (s : State) (ends : List (Ended AnyRow)) → KnownIn asked s → Out (goes_on s ends)
  goes_on_known s [] known = record { known = known; fine = tt }
  goes_on_known s (e ∷ es) known = follow_known s e.request (numbered s.asked e.request) e.how refl known

  pub delivers_known : (s : State) (m : ℕ) → KnownIn asked s → Out (delivers s m)
  delivers_known s m known =
      let d : Moving = plainly (step.Deliver m) in
      let e : Effect AnyRow = effect s d in
      let o = goes_on_known (doing s d) e.ends (calm_known asked s.asked s.world known stays d tt tt) in
      record { known = o.known; fine = both_fine asked e.tells (goes_on (doing s d) e.ends).lines (step_fine asked s.asked s.world known (step.Deliver m) (none_given VersionLimit)) o.fine }

  pub drains_known : (n : ℕ) (s : State) → KnownIn asked s → Out (drains n s)
  drains_known zero s known = record { known = known; fine = tt }
  drains_known (suc n) s known =
      elim (undelivered s.world) as (λ o. Out (elim o as (λ o. Outcome) [ None ↦ silent s | Some m ↦ let o = delivers s m in then_drains o (drains n o.state) ])) [
        | None ↦ record { known = known; fine = tt }
        | Some m ↦
            let first = delivers_known s m known in
            let rest = drains_known n (delivers s m).state first.known in
            record { known = rest.known; fine = both_fine asked (delivers s m).lines (drains n (delivers s m).state).lines first.fine rest.fine }
      ]

  -- a step of the world that is an act of its own
  outer_calm : (st : Step AnyRow) → IsOuter st → IsCalmStep st
  outer_calm step.Trio h = tt
  outer_calm (step.Role n role) h = tt
  outer_calm (step.Redundancy wanted) h = tt
  outer_calm (step.Apply n) h = tt
  outer_calm (step.Tick ms) h = tt
  outer_calm (step.Skew n ms) h = tt
  outer_calm (step.Deliver m) h = absurd h
  outer_calm (step.Lose m) h = tt
  outer_calm (step.Expire q) h = tt
  outer_calm (step.Restart n) h = tt
  outer_calm (step.Gossip from to) h = tt
  outer_calm (step.Ack n) h = tt
  outer_calm (step.Sync n) h = tt
  outer_calm (step.SyncAck n) h = tt
  outer_calm (step.Clean n) h = tt
  outer_calm (step.Work n) h = tt
  outer_calm (step.Repair n) h = tt
  outer_calm (step.Collect n) h = tt
  outer_calm (step.Open n) h = absurd h
  outer_calm (step.Phase q phase) h = absurd h
  outer_calm (step.Close q) h = absurd h

  pub plain_known : (s : State) (m : Moving) → IsOuter m.step → IsLawful s.world m → KnownIn asked s → Out (plain s m)
  plain_known s m outer lawful known = record {
    known = calm_known asked s.asked s.world known stays m (outer_calm m.step outer) lawful;
    fine = step_fine asked s.asked s.world known m.step m.choice;
  }

-- ---- requests that begin

if_same : {A : Type 0} (b : Bool) (x y : A) → b ≡ true → (if b then x else y) ≡ x
if_same true x y h = refl
if_same false x y h = cc

if_other : {A : Type 0} (b : Bool) (x y : A) → b ≡ false → (if b then x else y) ≡ y
if_other true x y h = cc
if_other false x y h = refl

module _ (stays : StaysSound) (asked : List (ℕ × Kind)) (s : State) (n : ℕ) (order : Order) (known : KnownIn asked s) where
  abbrev q : ℕ
  q = suc (length s.world.requests)

  abbrev first : Flow × Phase AnyRow
  first = started order q s.block

  abbrev new : Asked
  new = new_request n order first.0

  abbrev now_asked : List (ℕ × Kind)
  now_asked = (q, kind_of order) ∷ asked

  abbrev here : World
  here = next any_join words s.world (plainly (step.Open n))

  -- the request has opened
  opening_known : (b : Bool) → is_member_at layouts s.world n ≡ b → b ≡ true → IsSound here → Known now_asked (s.asked ++ new ∷ []) here
  opening_known false member there sound = cc
  opening_known true member there sound =
      let longer : length (s.asked ++ new ∷ []) ≡ suc (length s.asked) = length_push s.asked new in
      let same = known.lengths in
      subst (λ (e : Effect AnyRow). IsSound (applied s.world e) → Known now_asked (s.asked ++ new ∷ []) (applied s.world e))
      (sym (ap (λ b. cond b (opens_here) (world_refusal s.world NotMember)) member))
      (λ sound. record {
        sound = sound;
        lengths = longer ∙ (ap suc same ∙ sym (length_push s.world.requests (record { coordinator = n; is_open = true })));
        kinds = λ p x h. elim (numbered_push_cases s.asked new p x h) [
          | inl old ↦
              let within = numbered_within s.asked p x old in
              if_other (q == p) (Some (kind_of order)) (kind_at asked p) (ne_eqb q p (λ e. omega arith)) ∙ known.kinds p x old
          | inr last ↦ if_same (q == p) (Some (kind_of order)) (kind_at asked p) (eq-eqb q p (ap suc (sym same) ∙ sym last.0)) ∙ ap (λ (y : Asked). Some y.kind) last.1
        ];
        waits = λ p x h. elim (numbered_push_cases s.asked new p x h) [
          | inl old ↦ known.waits p x old
          | inr last ↦ subst (λ (y : Asked). WaitsAs y.kind y.flow) last.1 (started_is any_version any_number any_rows tt order q s.block)
        ];
        calls = λ m c h. elim (m == n) as (λ t. Has (unwrap_or (cond t (Some (opens_call q (newest layouts.reading (s.world.nodes n).view) (s.world.nodes n))) None) (s.world.nodes m)).calls c → (m == n) ≡ t → (1 ≤ c.request) × (c.request ≤ length (s.asked ++ new ∷ []))) [
          | true ↦ λ g t. elim g [
            | inl is ↦ (let number : q ≡ c.request = ap (λ (d : Call AnyRow). d.request) is in (omega arith, omega arith))
            | inr old ↦ (let w = known.calls n c old in let low = w.0 in let high = w.1 in (low, omega arith))
          ]
          | false ↦ λ g t. (let w = known.calls m c g in let low = w.0 in let high = w.1 in (low, omega arith))
        ] h refl;
      })
      sound
    where
      opens_here : Effect AnyRow
      opens_here = record (nothing s.world) {
        words = One q;
        nodes = only n (opens_call q (newest layouts.reading (s.world.nodes n).view) (s.world.nodes n));
        opens = record { coordinator = n; is_open = true } ∷ [];
      }

  pub opened_known : is_member_at layouts s.world n ≡ true → OutKnown now_asked (opened s n order)
  opened_known member =
      let sound : IsSound here = stays s.world (plainly (step.Open n)) known.sound tt in
      let begun_so = opening_known (is_member_at layouts s.world n) refl member sound in
      record {
        known = phase_known now_asked (s.asked ++ new ∷ []) here begun_so stays q first.1;
        fine = step_fine now_asked (s.asked ++ new ∷ []) here begun_so (step.Phase q first.1) (none_given VersionLimit);
      }
