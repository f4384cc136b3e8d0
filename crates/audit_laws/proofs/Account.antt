-- The records that the lines of an act give are those that it adds to the history.
use Rattle.std.proofs.Common.{◌≡◌, ℕ, zero, suc, Bool, true, false, not, ◌&&◌, leb, cond, if◌then◌else◌, Option, Some, None, List, [], ◌∷◌, ◌++◌, length, map, refl, ap, sym, ◌∙◌}
use Rattle.std.proofs.lemmas.List.{append-nil, append_assoc}
use Rattle.layout_roles.specs.declared.layout.Layout.{Layout}
use Rattle.view_model.specs.View.{newest}
use Rattle.view_model.specs.Layouts.{reading}
use Rattle.crdt_rows.specs.declared.any_row.AnyRow.{AnyRow}
use Rattle.crdt_rows.specs.AnyRow.{any_join}
use Rattle.object_schema.specs.Schema.{words}
use Rattle.wire_messages.specs.declared.phase.Phase.{Phase}
use Rattle.wire_messages.specs.declared.phase.PhaseEnd.{PhaseEnd}
use Rattle.cluster_machine.specs.declared.applied.Applied.{Applied}
use Rattle.cluster_machine.specs.declared.line.Line.{Line}
use Rattle.cluster_machine.specs.declared.line.Line.TheVariants.{Synced, Ended as HasEnded}
use Rattle.cluster_machine.specs.declared.line.EndWord.TheVariants.{Expired, Restarted}
use Rattle.cluster_machine.specs.declared.step.Action.TheVariants.{Ack as RaiseAck, Sync as GoOn, SyncAck as RaiseSyncAck, Clean as CleanUp, Work as WorkOff, Repair as Mend, Collect as Gather}
use Rattle.cluster_machine.specs.declared.step.Step.{Step}
use Rattle.cluster_machine.specs.declared.step.Step.TheVariants.{Trio, Role as Stage, Redundancy as Spread, Apply, Tick, Skew, Deliver, Lose, Expire, Restart, Gossip, Ack, Sync as Syncs, SyncAck, Clean, Work, Repair, Collect, Open, Phase as Begin, Close}
use Rattle.cluster_machine.specs.declared.step.Refusal.TheVariants.{VersionTaken, VersionLimit, NotMember, Lost, AlreadyEnded, NoSuchBucket}
use Rattle.cluster_machine.specs.Layouts.{layouts, has_none}
use Rattle.cluster_machine.specs.Node.{Call, Did, Ended, shows, quiet}
use Rattle.cluster_machine.specs.Phases.{call_at, closed, begins}
use Rattle.cluster_machine.specs.Receives.{receives}
use Rattle.cluster_machine.specs.Acts.{Acted, acts}
use Rattle.cluster_machine.specs.World.{Sent, Mark, Request, numbered, clock, is_member_at, undelivered}
use Rattle.cluster_machine.specs.Choices.{Decision}
use Rattle.cluster_machine.specs.Step.{most_versions, given, none_given, nothing, refusal as world_refusal, only, sent_by, sent_from, sync_line, dropped_line, did, at_message, expires, closing, chosen, applies_at, trio_applies, acting, begun, beginning, effects}
use Rattle.cluster_machine.specs.Trio.{trio, stage_trio}
use Rattle.cluster_machine.specs.Worlds.{Done as Effect}
use Rattle.history_model.specs.declared.record.Kind.{Kind}
use Rattle.history_model.specs.declared.record.Kind.TheVariants as kind
use Rattle.history_model.specs.declared.record.Answer.TheVariants as answer
use Rattle.history_model.specs.declared.record.Record.{Record}
use Rattle.history_model.specs.declared.record.Record.TheVariants.{Finished, Ended as EndedSo}
use Rattle.history_model.specs.declared.record.Cause.TheVariants.{Restarted as WasRestarted}
use Rattle.flow_model.specs.declared.order.Order.{Order}
use Rattle.flow_model.specs.declared.flow.Flow.{Flow}
use Rattle.flow_model.specs.declared.flow.FlowStep.{FlowStep}
use Rattle.flow_model.specs.declared.flow.FlowStep.TheVariants.{More, Need, Wait, End}
use Rattle.flow_model.specs.declared.flow.FlowEnd.{FlowEnd}
use Rattle.flow_model.specs.declared.flow.FlowEnd.TheVariants.{Stored, Found, Nothing, Listed, Superseded, Aborted}
use Rattle.flow_model.specs.Next.{next}
use Rattle.flow_model.specs.Streams.{Step as FedStep, fed, finished, given_up}
use Rattle.store_model.specs.Answers.{Entry, entries, versions_of, lines_of, record_of, lines_of_end}
use Rattle.store_model.specs.Orders.{buckets_of}
use Rattle.store_model.specs.Run.{World, Moving, State, Asked, Draw, Outcome, silent, refusal, plainly, effect, doing, opened, begins as begins_at, draws_of, goes, takes, follows, follow, goes_on, delivers, then_drains, drains, are_buckets, hears, heard_in, heard, fills_at}
use Rattle.store_model.specs.Acts.{Act, moves, installs, asks, delivery, drain, forgets, takes as takes_end, adds, cuts, feeds, keeps, gives_up, endings, plain, acted, IsOuter}
use Rattle.audit_laws.specs.Account.{key_version, record_told, records_told, blunt, began_of, IsOuterAct, IsNotGivenUp, NoneGivenUp}
use Rattle.audit_laws.proofs.GivenUp.{IsNoGivingUp, next_goes, delivers_goes}

pub told_append : (a b : List (Line Applied)) → records_told (a ++ b) ≡ records_told a ++ records_told b
told_append [] b = refl
told_append (l ∷ a) b = ap (λ rs. record_told l ++ rs) (told_append a b) ∙ sym (append_assoc (record_told l) (records_told a) (records_told b))

blunt_append : (a b : List Record) → map blunt (a ++ b) ≡ map blunt a ++ map blunt b
blunt_append [] b = refl
blunt_append (r ∷ a) b = ap (λ rs. blunt r ∷ rs) (blunt_append a b)

-- ---- steps of the world

-- the step gives no record
abbrev Quiet : Effect AnyRow → Type 0
Quiet e = records_told e.tells ≡ []

sent_quiet : (m : ℕ) (ss : List (Sent AnyRow Layout)) → records_told (sent_from m ss) ≡ []
sent_quiet m [] = refl
sent_quiet m (s ∷ ss) = sent_quiet (suc m) ss

synced_quiet : (b : Bool) (n after : ℕ) → records_told (cond b [] (Synced n after ∷ [])) ≡ []
synced_quiet true n after = refl
synced_quiet false n after = refl

dropped_quiet : (n : ℕ) (o : Option (ℕ × ℕ)) → records_told (dropped_line {A = Applied} n o) ≡ []
dropped_quiet n None = refl
dropped_quiet n (Some version) = refl

cond_quiet : (b : Bool) (x y : Effect AnyRow) → Quiet x → Quiet y → Quiet (cond b x y)
cond_quiet true x y h k = h
cond_quiet false x y h k = k

module _ (w : World) where
  did_quiet : (n : ℕ) (d : Did AnyRow Layout) → Quiet (did w n d)
  did_quiet n d =
      let sends : List (Sent AnyRow Layout) = sent_by w n d.posts in
      let first : List (Line Applied) = dropped_line n d.dropped in
      let sent : List (Line Applied) = sent_from (suc (length w.messages)) sends in
      let last : List (Line Applied) = sync_line n (w.nodes n).view d.node.view in
      told_append first (sent ++ last)
      ∙ ((λ i. dropped_quiet n d.dropped i ++ records_told (sent ++ last))
      ∙ (told_append sent last ∙ ((λ i. sent_quiet (suc (length w.messages)) sends i ++ records_told last) ∙ synced_quiet _ n _)))

  message_quiet : (f : Sent AnyRow Layout → Effect AnyRow) → ((s : Sent AnyRow Layout) → Quiet (f s)) → (o : Option (Sent AnyRow Layout)) (mark : Option Mark) → Quiet (at_message w f o mark)
  message_quiet f each None mark = refl
  message_quiet f each (Some s) None = refl
  message_quiet f each (Some s) (Some mark) = cond_quiet mark.is_lost (world_refusal w Lost) (f s) refl (each s)

  closing_quiet : (q : ℕ) (o : Option Request) → Quiet (closing w q o)
  closing_quiet q None = refl
  closing_quiet q (Some r) = cond_quiet r.is_open (record (nothing w) { nodes = only r.coordinator (closed q (w.nodes r.coordinator)); closes = q ∷ [] }) (nothing w) refl refl

  chosen_quiet : (n next : ℕ) (choice : Decision) → Quiet (chosen any_join words layouts trio stage_trio w n next choice)
  chosen_quiet n next (none_given r) = refl
  chosen_quiet n next (given l shown) = refl

  applies_quiet : (n : ℕ) (choice : Decision) → Quiet (applies_at any_join words layouts trio stage_trio w n choice)
  applies_quiet n choice =
      let next : ℕ = suc (newest reading (w.nodes n).view) in
      let laid : Effect AnyRow = chosen any_join words layouts trio stage_trio w n next choice in
      let within : Effect AnyRow = cond (leb most_versions w.applied) (world_refusal w VersionLimit) laid in
      let free : Effect AnyRow = cond (leb next w.applied) (world_refusal w (VersionTaken next)) within in
      cond_quiet (leb 1 w.applied && not (is_member_at layouts w n)) (world_refusal w NotMember) free refl
      (cond_quiet (leb next w.applied) (world_refusal w (VersionTaken next)) within refl
      (cond_quiet (leb most_versions w.applied) (world_refusal w VersionLimit) laid refl (chosen_quiet n next choice)))

  acting_quiet : (n : ℕ) (b : Bool) (a : Acted AnyRow Layout) → Quiet (acting any_join words layouts trio stage_trio w n b a)
  acting_quiet n true a = refl
  acting_quiet n false a = did_quiet n a.did

  begun_quiet : (n : ℕ) (phase : Phase AnyRow) (o : Option (Call AnyRow)) → Quiet (begun any_join words layouts trio stage_trio w n phase o)
  begun_quiet n phase None = refl
  begun_quiet n phase (Some c) = did_quiet n (begins words layouts w.kept (w.nodes n) c phase)

  beginning_quiet : (q : ℕ) (phase : Phase AnyRow) (o : Option Request) → Quiet (beginning any_join words layouts trio stage_trio w q phase o)
  beginning_quiet q phase None = refl
  beginning_quiet q phase (Some r) = cond_quiet r.is_open (begun any_join words layouts trio stage_trio w r.coordinator phase (call_at (w.nodes r.coordinator).calls q)) (nothing w) (begun_quiet r.coordinator phase (call_at (w.nodes r.coordinator).calls q)) refl

  deliver_quiet : (m : ℕ) (choice : Decision) → Quiet (effects any_join words layouts trio stage_trio w (Deliver m) choice)
  deliver_quiet m choice = message_quiet _ (λ s. did_quiet s.to (receives any_join words layouts s.to (clock w s.to) (w.nodes s.to) s.from s.packet)) (numbered w.messages m) (numbered w.marks m)

  -- ---- steps that end requests

  -- the records that a step's lines give are those of the requests that it ends
  abbrev Ends : Step AnyRow → Effect AnyRow → Type 0
  Ends st e = records_told e.tells ≡ map blunt (endings st e)

  expires_ends : (q : ℕ) (o : Option Request) → Ends (Expire q) (expires w q o)
  expires_ends q None = refl
  expires_ends q (Some r) = elim r.is_open as (λ b. Ends (Expire q) (cond b (record (nothing w) { nodes = only r.coordinator (closed q (w.nodes r.coordinator)); closes = q ∷ []; tells = HasEnded q Expired ∷ [] }) (world_refusal w AlreadyEnded))) [ true ↦ refl | false ↦ refl ]

  lost_ends : (qs : List ℕ) → records_told (map (λ q. HasEnded q Restarted) qs) ≡ map blunt (endings (Restart 0) (record (nothing w) { lost = qs }))
  lost_ends [] = refl
  lost_ends (q ∷ qs) = ap (λ rs. EndedSo q WasRestarted ∷ rs) (lost_ends qs)

  step_ends : (st : Step AnyRow) (choice : Decision) → IsOuter st → Ends st (effects any_join words layouts trio stage_trio w st choice)
  step_ends Trio choice h = cond_quiet (leb 1 w.applied) (world_refusal w (VersionTaken 1)) (trio_applies any_join words layouts trio stage_trio w) refl refl
  step_ends (Stage n role) choice h = refl
  step_ends (Spread r) choice h = refl
  step_ends (Apply n) choice h = applies_quiet n choice
  step_ends (Tick ms) choice h = refl
  step_ends (Skew n ms) choice h = refl
  step_ends (Deliver m) choice h = absurd h
  step_ends (Lose m) choice h = message_quiet (λ sent. record (nothing w) { marks = Some (m, record { is_delivered = false; is_lost = true }) }) (λ sent. refl) (numbered w.messages m) (numbered w.marks m)
  step_ends (Expire q) choice h = expires_ends q (numbered w.requests q)
  step_ends (Restart n) choice h = lost_ends _
  step_ends (Gossip from to) choice h = did_quiet from (record (quiet (w.nodes from)) { posts = record { to = to; packet = shows (w.nodes from).view } ∷ [] })
  step_ends (Ack n) choice h = acting_quiet n (has_none layouts (w.nodes n).view) (acts any_join words layouts n (clock w n) (w.nodes n) RaiseAck)
  step_ends (Syncs n) choice h = acting_quiet n (has_none layouts (w.nodes n).view) (acts any_join words layouts n (clock w n) (w.nodes n) GoOn)
  step_ends (SyncAck n) choice h = acting_quiet n (has_none layouts (w.nodes n).view) (acts any_join words layouts n (clock w n) (w.nodes n) RaiseSyncAck)
  step_ends (Clean n) choice h = acting_quiet n (has_none layouts (w.nodes n).view) (acts any_join words layouts n (clock w n) (w.nodes n) CleanUp)
  step_ends (Work n) choice h = acting_quiet n (has_none layouts (w.nodes n).view) (acts any_join words layouts n (clock w n) (w.nodes n) WorkOff)
  step_ends (Repair n) choice h = acting_quiet n (not (is_member_at layouts w n)) (acts any_join words layouts n (clock w n) (w.nodes n) Mend)
  step_ends (Collect n) choice h = acting_quiet n (has_none layouts (w.nodes n).view) (acts any_join words layouts n (clock w n) (w.nodes n) Gather)
  step_ends (Open n) choice h = absurd h
  step_ends (Begin q phase) choice h = absurd h
  step_ends (Close q) choice h = absurd h

-- ---- requests that end

keys_told : (es : List Entry) → map key_version (lines_of es) ≡ versions_of es
keys_told [] = refl
keys_told (e ∷ es) = ap (λ vs. (e.key, e.version) ∷ vs) (keys_told es)

-- the line of a request that ended, and wasn't given up, gives its record
end_told : (q : ℕ) (k : Kind) (end : FlowEnd) → IsNoGivingUp (End end) → records_told (lines_of_end q k end) ≡ blunt (record_of q end) ∷ []
end_told q k (Stored version meta) so = refl
end_told q kind.Put (Found version meta body) so = refl
end_told q kind.Get (Found version meta body) so = refl
end_told q kind.Head (Found version meta body) so = refl
end_told q kind.Delete (Found version meta body) so = refl
end_told q kind.Copy (Found version meta body) so = refl
end_told q kind.List (Found version meta body) so = refl
end_told q k Nothing so = refl
end_told q k (Listed rows) so = ap (λ vs. Finished q (answer.Listed vs) ∷ []) (keys_told (entries rows))
end_told q k (Superseded id) so = refl
end_told q k Aborted so = absurd so

-- what an outcome adds to the history its lines give, after these records
abbrev pub Adds : State → List Record → Outcome → Type 0
Adds s first o = map blunt o.state.history ≡ map blunt s.history ++ (first ++ records_told o.lines)

-- nothing is added, and no line gives a record
same_adds : (s : State) (o : Outcome) → o.state.history ≡ s.history → records_told o.lines ≡ [] → Adds s [] o
same_adds s o e none = ap (map blunt) e ∙ (sym (append-nil (map blunt s.history)) ∙ ap (λ rs. map blunt s.history ++ rs) (sym none))

goes_adds : (s : State) (q : ℕ) (a : Asked) (draws : List Draw) (flow : Flow) (phase : Phase AnyRow) → Adds s [] (goes s q a draws flow phase)
goes_adds s q a draws flow phase = same_adds s (goes s q a draws flow phase) refl (beginning_quiet s.world q phase (numbered s.world.requests q))

takes_adds : (s : State) (q : ℕ) (a : Asked) (draws : List Draw) (does : FlowStep) → IsNoGivingUp does → Adds s [] (takes s q a draws does)
takes_adds s q a draws (More flow phase) so = goes_adds s q a draws flow phase
takes_adds s q a draws (Need flow wanted) so = same_adds s (takes s q a draws (Need flow wanted)) refl refl
takes_adds s q a draws (Wait flow) so = same_adds s (takes s q a draws (Wait flow)) refl refl
takes_adds s q a draws (End end) so = blunt_append s.history (record_of q end ∷ []) ∙ ap (λ rs. map blunt s.history ++ rs) (sym (end_told q a.kind end so))

follows_adds : (s : State) (q : ℕ) (a : Asked) (end : PhaseEnd AnyRow) (o : Option Flow) → ((f : Flow) → o ≡ Some f → IsNotGivenUp f.stage) → Adds s [] (follows s q a end o)
follows_adds s q a end None so = same_adds s (silent s) refl refl
follows_adds s q a end (Some flow) so =
    let now = clock s.world a.node in
    takes_adds (record s { saw = record { request = q; end = end } ∷ s.saw }) q a (draws_of s q flow.block flow.stage end now) (next flow end now) (next_goes flow end now (so flow refl))

follow_adds : (s : State) (q : ℕ) (a : Option Asked) (end : PhaseEnd AnyRow) → numbered s.asked q ≡ a → NoneGivenUp s.asked → Adds s [] (follow s q a end)
follow_adds s q None end at so = same_adds s (silent s) refl refl
follow_adds s q (Some a) end at so = follows_adds s q a end a.flow (λ f is. so q a f at is)

goes_on_adds : (s : State) (ends : List (Ended AnyRow)) → NoneGivenUp s.asked → Adds s [] (goes_on s ends)
goes_on_adds s [] so = same_adds s (silent s) refl refl
goes_on_adds s (e ∷ es) so = follow_adds s e.request (numbered s.asked e.request) e.how refl so

delivers_adds : (s : State) (m : ℕ) → NoneGivenUp s.asked → Adds s [] (delivers s m)
delivers_adds s m so =
    let d : Moving = plainly (Deliver m) in
    let e : Effect AnyRow = effect s d in
    let o : Outcome = goes_on (doing s d) e.ends in
    let lines : records_told (e.tells ++ o.lines) ≡ records_told o.lines = told_append e.tells o.lines ∙ ap (λ rs. rs ++ records_told o.lines) (deliver_quiet s.world m d.choice) in
    goes_on_adds (doing s d) e.ends so ∙ ap (λ rs. map blunt s.history ++ rs) (sym lines)

drains_adds : (n : ℕ) (s : State) → NoneGivenUp s.asked → Adds s [] (drains n s)
drains_adds zero s so = same_adds s (silent s) refl refl
drains_adds (suc n) s so =
    elim (undelivered s.world) as (λ o. Adds s [] (elim o as (λ o. Outcome) [ None ↦ silent s | Some m ↦ let o = delivers s m in then_drains o (drains n o.state) ])) [
      | None ↦ same_adds s (silent s) refl refl
      | Some m ↦
          let first : Outcome = delivers s m in
          let rest : Outcome = drains n first.state in
          drains_adds n first.state (delivers_goes s m so)
          ∙ (ap (λ rs. rs ++ records_told rest.lines) (delivers_adds s m so)
          ∙ (append_assoc (map blunt s.history) (records_told first.lines) (records_told rest.lines) ∙ ap (λ rs. map blunt s.history ++ rs) (sym (told_append first.lines rest.lines))))
    ]

-- ---- streamed uploads whose client was heard

hears_adds : (s : State) (q : ℕ) (a : Asked) (next : FedStep) → Adds s [] (hears s q a next)
hears_adds s q a None = same_adds s (silent s) refl refl
hears_adds s q a (Some next) = goes_adds s q a [] next.0 next.1

heard_in_adds : (s : State) (q : ℕ) (says : Flow → FedStep) (a : Asked) (o : Option Flow) → Adds s [] (heard_in s q says a o)
heard_in_adds s q says a None = same_adds s (silent s) refl refl
heard_in_adds s q says a (Some flow) = hears_adds s q a (says flow)

heard_adds : (s : State) (q : ℕ) (says : Flow → FedStep) (o : Option Asked) → Adds s [] (heard s q says o)
heard_adds s q says None = same_adds s (silent s) refl refl
heard_adds s q says (Some a) = heard_in_adds s q says a a.flow

-- ---- requests that begin

module _ (s : State) (n : ℕ) (order : Order) where
  abbrev AddsHere : Outcome → Type 0
  AddsHere o = Adds s (began_of (asks n order) o) o

  by_if : (b : Bool) (o p : Outcome) → AddsHere o → AddsHere p → AddsHere (if b then o else p)
  by_if true o p h k = h
  by_if false o p h k = k

  opened_adds : AddsHere (opened s n order)
  opened_adds =
      let o : Outcome = opened s n order in
      let q : ℕ = suc (length s.world.requests) in
      let none : records_told o.lines ≡ [] = beginning_quiet (doing s (plainly (Open n))).world q _ (numbered (doing s (plainly (Open n))).world.requests q) in
      blunt_append s.history (began_of (asks n order) o) ∙ ap (λ rs. map blunt s.history ++ rs) (sym (ap (λ rs. began_of (asks n order) o ++ rs) none))

  begins_adds : AddsHere (begins_at s n order)
  begins_adds =
      by_if (is_member_at layouts s.world n) _ _
      (by_if (are_buckets s.buckets (buckets_of order)) _ _ opened_adds (same_adds s (refusal s NoSuchBucket) refl refl))
      (same_adds s (refusal s NotMember) refl refl)

-- ---- acts

plain_adds : (s : State) (m : Moving) → IsOuter m.step → Adds s [] (plain s m)
plain_adds s m outer =
    let e : Effect AnyRow = effect s m in
    blunt_append s.history (endings m.step e) ∙ ap (λ rs. map blunt s.history ++ rs) (sym (step_ends s.world m.step m.choice outer))

-- the records that an act adds are those that its event's line names and its lines give
pub act_adds : (s : State) (a : Act) → IsOuterAct a → NoneGivenUp s.asked → Adds s (began_of a (acted s a)) (acted s a)
act_adds s (moves m) h so = plain_adds s m h
act_adds s (installs first) h so = same_adds s (acted s (installs first)) refl refl
act_adds s (asks n order) h so = begins_adds s n order
act_adds s (delivery m) h so = delivers_adds s m so
act_adds s (drain n) h so = drains_adds n s so
act_adds s forgets h so = same_adds s (acted s forgets) refl refl
act_adds s (takes_end q) h so = same_adds s (acted s (takes_end q)) refl refl
act_adds s (adds name) h so = same_adds s (acted s (adds name)) refl refl
act_adds s (cuts block) h so = same_adds s (acted s (cuts block)) refl refl
act_adds s (feeds q bytes) h so = heard_adds s q (λ flow. fed flow bytes) (numbered s.asked q)
act_adds s (keeps q) h so = heard_adds (record s { draws = fills_at s q (numbered s.asked q) ++ s.draws }) q finished (numbered s.asked q)
act_adds s (gives_up q) h so = heard_adds s q given_up (numbered s.asked q)
