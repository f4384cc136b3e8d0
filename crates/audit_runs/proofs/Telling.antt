-- What steps of the world tell beside a layout that is given.
use Rattle.std.proofs.Common.{ℕ, suc, Bool, true, false, not, ◌&&◌, leb, cond, Option, Some, None, List, [], ◌∷◌, ◌++◌, length, map}
use Rattle.std.specs.Prelude.{⊤, reverse}
use Rattle.std.specs.List.{AllByRecursion}
use Rattle.crdt_core.proofs.Each.{all_append}
use Rattle.layout_roles.specs.declared.layout.Layout.{Layout}
use Rattle.view_model.specs.View.{newest}
use Rattle.view_model.specs.Layouts.{reading}
use Rattle.crdt_rows.specs.declared.any_row.AnyRow.{AnyRow}
use Rattle.crdt_rows.specs.AnyRow.{any_join}
use Rattle.object_schema.specs.Schema.{words}
use Rattle.wire_messages.specs.declared.phase.Phase.{Phase}
use Rattle.cluster_machine.specs.declared.applied.Applied.{Applied}
use Rattle.cluster_machine.specs.declared.line.Line.{Line}
use Rattle.cluster_machine.specs.declared.line.Line.TheVariants.{Layout as Laid, Got, Sent as WasSent, Synced, Dropped, Done, Ended as HasEnded}
use Rattle.cluster_machine.specs.declared.line.DoneWord.{DoneWord}
use Rattle.cluster_machine.specs.declared.line.EndWord.{EndWord}
use Rattle.cluster_machine.specs.declared.line.EndWord.TheVariants.{Expired, Restarted}
use Rattle.cluster_machine.specs.declared.line.SentKind.{SentKind}
use Rattle.cluster_machine.specs.declared.step.Action.TheVariants.{Ack as RaiseAck, Sync as GoOn, SyncAck as RaiseSyncAck, Clean as CleanUp, Work as WorkOff, Repair as Mend, Collect as Gather}
use Rattle.cluster_machine.specs.declared.step.Step.{Step}
use Rattle.cluster_machine.specs.declared.step.Step.TheVariants as step
use Rattle.cluster_machine.specs.declared.step.Refusal.TheVariants.{VersionTaken, VersionLimit, NotMember, Lost, AlreadyEnded}
use Rattle.cluster_machine.specs.Layouts.{layouts, has_none}
use Rattle.cluster_machine.specs.Node.{Call, Did, shows, quiet}
use Rattle.cluster_machine.specs.Phases.{call_at, begins as begins_phase}
use Rattle.cluster_machine.specs.Receives.{receives}
use Rattle.cluster_machine.specs.Acts.{Acted, acts}
use Rattle.cluster_machine.specs.World.{Sent, Mark, Request, numbered, clock, is_member_at}
use Rattle.cluster_machine.specs.Choices.{Decision}
use Rattle.cluster_machine.specs.Step.{most_versions, given, none_given, nothing, refusal as world_refusal, sent_by, sent_from, sync_line, dropped_line, did, at_message, expires, closing, chosen, applies_at, trio_applies, acting, begun, beginning, effects, requests_of, kind_of}
use Rattle.cluster_machine.specs.Trio.{trio, stage_trio}
use Rattle.cluster_machine.specs.Worlds.{Done as Effect}
use Rattle.store_model.specs.Run.{World}

-- a layout that is given is told so
abbrev pub GivenTells : (Line Applied → Type 0) → Decision → Type 0
GivenTells P (given l shown) = P (Laid shown)
GivenTells P (none_given r) = ⊤

-- lines that tell neither a layout nor a list's keys have the property
pub record HasPlain (P : Line Applied → Type 0) : Type 0 where
  pub got : (m : ℕ) → P (Got m)
  pub sent : (m a b : ℕ) (k : SentKind) → P (WasSent m k a b)
  pub synced : (n v : ℕ) → P (Synced n v)
  pub dropped : (n ts id : ℕ) → P (Dropped n ts id)
  pub ended : (q : ℕ) (word : EndWord) → P (HasEnded q word)
  pub done : (q : ℕ) (word : DoneWord) (version : Option (ℕ × ℕ)) (size : Option ℕ) (md5 : Option (List ℕ)) → P (Done q word version size md5)

module _ (P : Line Applied → Type 0) (plain : HasPlain P) (w : World) where
  abbrev Quiet : Effect AnyRow → Type 0
  Quiet e = AllByRecursion P e.tells

  sent_quiet : (m : ℕ) (ss : List (Sent AnyRow Layout)) → AllByRecursion P (sent_from m ss)
  sent_quiet m [] = tt
  sent_quiet m (s ∷ ss) = (plain.sent m s.from s.to (kind_of s.packet), sent_quiet (suc m) ss)

  synced_quiet : (b : Bool) (n after : ℕ) → AllByRecursion P (cond b [] (Synced n after ∷ []))
  synced_quiet true n after = tt
  synced_quiet false n after = (plain.synced n after, tt)

  dropped_quiet : (n : ℕ) (o : Option (ℕ × ℕ)) → AllByRecursion P (dropped_line n o)
  dropped_quiet n None = tt
  dropped_quiet n (Some version) = (plain.dropped n version.0 version.1, tt)

  cond_quiet : (b : Bool) (d e : Effect AnyRow) → Quiet d → Quiet e → Quiet (cond b d e)
  cond_quiet true d e h k = h
  cond_quiet false d e h k = k

  did_quiet : (n : ℕ) (d : Did AnyRow Layout) → Quiet (did w n d)
  did_quiet n d =
      let sends : List (Sent AnyRow Layout) = sent_by w n d.posts in
      let sent : List (Line Applied) = sent_from (suc (length w.messages)) sends in
      let last : List (Line Applied) = sync_line n (w.nodes n).view d.node.view in
      all_append P (dropped_line n d.dropped) (sent ++ last) (dropped_quiet n d.dropped) (all_append P sent last (sent_quiet (suc (length w.messages)) sends) (synced_quiet _ n _))

  message_quiet : (f : Sent AnyRow Layout → Effect AnyRow) → ((s : Sent AnyRow Layout) → Quiet (f s)) → (o : Option (Sent AnyRow Layout)) (mark : Option Mark) → Quiet (at_message w f o mark)
  message_quiet f each None mark = tt
  message_quiet f each (Some s) None = tt
  message_quiet f each (Some s) (Some mark) = cond_quiet mark.is_lost (world_refusal w Lost) (f s) tt (each s)

  expires_quiet : (q : ℕ) (o : Option Request) → Quiet (expires w q o)
  expires_quiet q None = tt
  expires_quiet q (Some r) = cond_quiet r.is_open _ (world_refusal w AlreadyEnded) (plain.ended q Expired, tt) tt

  closing_quiet : (q : ℕ) (o : Option Request) → Quiet (closing w q o)
  closing_quiet q None = tt
  closing_quiet q (Some r) = cond_quiet r.is_open _ (nothing w) tt tt

  chosen_quiet : (n new : ℕ) (choice : Decision) → GivenTells P choice → Quiet (chosen any_join words layouts trio stage_trio w n new choice)
  chosen_quiet n new (none_given r) h = tt
  chosen_quiet n new (given l shown) h = (h, tt)

  applies_quiet : (n : ℕ) (choice : Decision) → GivenTells P choice → Quiet (applies_at any_join words layouts trio stage_trio w n choice)
  applies_quiet n choice h =
      let new : ℕ = suc (newest reading (w.nodes n).view) in
      let laid : Effect AnyRow = chosen any_join words layouts trio stage_trio w n new choice in
      let within : Effect AnyRow = cond (leb most_versions w.applied) (world_refusal w VersionLimit) laid in
      let free : Effect AnyRow = cond (leb new w.applied) (world_refusal w (VersionTaken new)) within in
      cond_quiet (leb 1 w.applied && not (is_member_at layouts w n)) (world_refusal w NotMember) free tt
      (cond_quiet (leb new w.applied) (world_refusal w (VersionTaken new)) within tt
      (cond_quiet (leb most_versions w.applied) (world_refusal w VersionLimit) laid tt (chosen_quiet n new choice h)))

  acting_quiet : (n : ℕ) (b : Bool) (a : Acted AnyRow Layout) → Quiet (acting any_join words layouts trio stage_trio w n b a)
  acting_quiet n true a = tt
  acting_quiet n false a = did_quiet n a.did

  begun_quiet : (n : ℕ) (phase : Phase AnyRow) (o : Option (Call AnyRow)) → Quiet (begun any_join words layouts trio stage_trio w n phase o)
  begun_quiet n phase None = tt
  begun_quiet n phase (Some c) = did_quiet n (begins_phase words layouts w.kept (w.nodes n) c phase)

  beginning_quiet : (q : ℕ) (phase : Phase AnyRow) (o : Option Request) → Quiet (beginning any_join words layouts trio stage_trio w q phase o)
  beginning_quiet q phase None = tt
  beginning_quiet q phase (Some r) =
      cond_quiet r.is_open (begun any_join words layouts trio stage_trio w r.coordinator phase (call_at (w.nodes r.coordinator).calls q)) (nothing w) (begun_quiet r.coordinator phase (call_at (w.nodes r.coordinator).calls q)) tt

  ended_quiet : (qs : List ℕ) → AllByRecursion P (map (λ q. HasEnded q Restarted) qs)
  ended_quiet [] = tt
  ended_quiet (q ∷ qs) = (plain.ended q Restarted, ended_quiet qs)

  pub step_tells : (st : Step AnyRow) (choice : Decision) → GivenTells P choice → Quiet (effects any_join words layouts trio stage_trio w st choice)
  step_tells step.Trio choice h = cond_quiet (leb 1 w.applied) (world_refusal w (VersionTaken 1)) (trio_applies any_join words layouts trio stage_trio w) tt tt
  step_tells (step.Role n role) choice h = tt
  step_tells (step.Redundancy r) choice h = tt
  step_tells (step.Apply n) choice h = applies_quiet n choice h
  step_tells (step.Tick ms) choice h = tt
  step_tells (step.Skew n ms) choice h = tt
  step_tells (step.Deliver m) choice h = message_quiet _ (λ x. (plain.got m, did_quiet x.to (receives any_join words layouts x.to (clock w x.to) (w.nodes x.to) x.from x.packet))) (numbered w.messages m) (numbered w.marks m)
  step_tells (step.Lose m) choice h = message_quiet _ (λ x. tt) (numbered w.messages m) (numbered w.marks m)
  step_tells (step.Expire q) choice h = expires_quiet q (numbered w.requests q)
  step_tells (step.Restart n) choice h = ended_quiet (reverse (requests_of (w.nodes n).calls))
  step_tells (step.Gossip from to) choice h = did_quiet from (record (quiet (w.nodes from)) { posts = record { to = to; packet = shows (w.nodes from).view } ∷ [] })
  step_tells (step.Ack n) choice h = acting_quiet n (has_none layouts (w.nodes n).view) (acts any_join words layouts n (clock w n) (w.nodes n) RaiseAck)
  step_tells (step.Sync n) choice h = acting_quiet n (has_none layouts (w.nodes n).view) (acts any_join words layouts n (clock w n) (w.nodes n) GoOn)
  step_tells (step.SyncAck n) choice h = acting_quiet n (has_none layouts (w.nodes n).view) (acts any_join words layouts n (clock w n) (w.nodes n) RaiseSyncAck)
  step_tells (step.Clean n) choice h = acting_quiet n (has_none layouts (w.nodes n).view) (acts any_join words layouts n (clock w n) (w.nodes n) CleanUp)
  step_tells (step.Work n) choice h = acting_quiet n (has_none layouts (w.nodes n).view) (acts any_join words layouts n (clock w n) (w.nodes n) WorkOff)
  step_tells (step.Repair n) choice h = acting_quiet n (not (is_member_at layouts w n)) (acts any_join words layouts n (clock w n) (w.nodes n) Mend)
  step_tells (step.Collect n) choice h = acting_quiet n (has_none layouts (w.nodes n).view) (acts any_join words layouts n (clock w n) (w.nodes n) Gather)
  step_tells (step.Open n) choice h = cond_quiet (is_member_at layouts w n) _ (world_refusal w NotMember) tt tt
  step_tells (step.Phase q phase) choice h = beginning_quiet q phase (numbered w.requests q)
  step_tells (step.Close q) choice h = closing_quiet q (numbered w.requests q)
