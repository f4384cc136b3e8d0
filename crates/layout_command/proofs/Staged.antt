-- What is staged stays in order and in its range, so each apply can be given something lawful: of steps of worlds of any rows.
use Rattle.std.proofs.Common.{ℕ, suc, ◌≤◌, Bool, true, false, not, ◌&&◌, leb, cond, IsTrue, Option, Some, None, List, [], ◌∷◌, length, refl, arith}
use Rattle.std.specs.Prelude.{⊤}
use Rattle.std.specs.List.{list_all}
use Rattle.layout_roles.specs.declared.role.Role.{Role}
use Rattle.layout_roles.specs.declared.role.Zone.{Zone}
use Rattle.layout_roles.specs.declared.role.Kind.{Kind}
use Rattle.layout_roles.specs.declared.role.Kind.TheVariants.{Storage}
use Rattle.layout_roles.specs.declared.layout.Layout.{Layout}
use Rattle.layout_roles.specs.declared.redundancy.Redundancy.{Redundancy}
use Rattle.layout_roles.specs.declared.cut.Cut.{Cut}
use Rattle.layout_roles.specs.Zones.{nodes_ascend, is_numbered, storage_nodes, zone_names}
use Rattle.layout_roles.specs.Certificates.{IsRedundancy, zones_wanted}
use Rattle.table_schema.specs.Words.{Words}
use Rattle.wire_messages.specs.declared.phase.Phase.{Phase}
use Rattle.cluster_machine.specs.declared.step.Step.{Step}
use Rattle.cluster_machine.specs.declared.step.Step.TheVariants.{Trio, Role as Stage, Redundancy as Spread, Apply, Tick, Skew, Deliver, Lose, Expire, Restart, Gossip, Ack, Sync as Syncs, SyncAck, Clean, Work, Repair, Collect, Open, Phase as Begin, Close}
use Rattle.cluster_machine.specs.declared.step.Action.{Action}
use Rattle.cluster_machine.specs.declared.step.Action.TheVariants.{Ack as RaiseAck, Sync as GoOn, SyncAck as RaiseSyncAck, Clean as CleanUp, Work as WorkOff, Repair as Mend, Collect as Gather}
use Rattle.cluster_machine.specs.declared.step.Words.TheVariants.{One}
use Rattle.cluster_machine.specs.declared.line.Line.TheVariants.{Ended as HasEnded}
use Rattle.cluster_machine.specs.declared.line.EndWord.TheVariants.{Expired}
use Rattle.cluster_machine.specs.declared.step.Refusal.{Refusal}
use Rattle.cluster_machine.specs.declared.step.Refusal.TheVariants.{VersionTaken, VersionLimit, NotMember, NoSuchMessage, Lost, NoSuchRequest, AlreadyEnded, TooFewNodes, TooFewZones, NoAssignment}
use Rattle.cluster_machine.specs.Node.{Call}
use Rattle.cluster_machine.specs.Acts.{Acted, acts}
use Rattle.cluster_machine.specs.Receives.{receives}
use Rattle.cluster_machine.specs.Phases.{call_at, opened, closed}
use Rattle.cluster_machine.specs.World.{Sent, Mark, Request, numbered, clock, is_member_at, staged}
use Rattle.cluster_machine.specs.Trio.{zone, trio, stage_trio}
use Rattle.cluster_machine.specs.Layouts.{layouts, has_none}
use Rattle.cluster_machine.specs.Step.{given, none_given, most_versions, nothing, refusal, did, only, told, received, at_message, expires, closing, chosen, applies_at, trio_applies, acting, local, begun, beginning, opening, effects}
use Rattle.cluster_machine.specs.Choices.{Decision, IsComputed, IsNone}
use Rattle.cluster_machine.specs.Worlds.{Model, Done, IsMeant, newest_at, comes_to_layout, IsLawfulStep}
use Rattle.staged_roles.proofs.StagedList.{staged_ascends, staged_numbered}
use Rattle.layout_command.proofs.Computed.{Computed, few_nodes, few_zones, none, layout, something_computed}

-- the roles are of nodes 1 to 64, in order, each once, and the redundancy is in its range
pub record AreStaged (roles : List Role) (wanted : Redundancy) : Type 0 where
  pub ascend : IsTrue (nodes_ascend roles)
  pub numbered : IsTrue (list_all is_numbered roles)
  pub wanted_in : IsRedundancy wanted

stage_one : (n : ℕ) (role : Option (Zone × Kind)) (roles : List Role) (wanted : Redundancy) → 1 ≤ n → n ≤ 64 → AreStaged roles wanted → AreStaged (staged n role roles) wanted
stage_one n role roles wanted low high h = record {
  ascend = staged_ascends n role 0 roles (omega arith) h.ascend;
  numbered = staged_numbered n role roles high h.numbered;
  wanted_in = h.wanted_in;
}

stage_three : (roles : List Role) (wanted : Redundancy) → AreStaged roles wanted → AreStaged (stage_trio roles) wanted
stage_three roles wanted h =
    let a : Option (Zone × Kind) = Some (zone 97, Storage 1000) in
    let b : Option (Zone × Kind) = Some (zone 98, Storage 1000) in
    let c : Option (Zone × Kind) = Some (zone 99, Storage 1000) in
    stage_one 1 a (staged 2 b (staged 3 c roles)) wanted (omega arith) (omega arith)
    (stage_one 2 b (staged 3 c roles) wanted (omega arith) (omega arith) (stage_one 3 c roles wanted (omega arith) (omega arith) h))

-- what a step stages is in its range
abbrev pub IsInRange : {R : Type 0} → Step R → Type 0
IsInRange (Stage n role) = (1 ≤ n) × (n ≤ 64)
IsInRange (Spread wanted) = IsRedundancy wanted
IsInRange _ = ⊤

-- what a step that is meant stages is in its range
pub in_range : {R : Type 0} (st : Step R) → IsMeant st → IsInRange st
in_range Trio meant = tt
in_range (Stage n role) meant = meant
in_range (Spread wanted) meant = meant
in_range (Apply n) meant = tt
in_range (Tick ms) meant = tt
in_range (Skew n ms) meant = tt
in_range (Deliver m) meant = tt
in_range (Lose m) meant = tt
in_range (Expire q) meant = tt
in_range (Restart n) meant = tt
in_range (Gossip from to) meant = tt
in_range (Ack n) meant = tt
in_range (Syncs n) meant = tt
in_range (SyncAck n) meant = tt
in_range (Clean n) meant = tt
in_range (Work n) meant = tt
in_range (Repair n) meant = tt
in_range (Collect n) meant = tt
in_range (Open n) meant = tt
in_range (Begin q phase) meant = tt
in_range (Close q) meant = tt

-- a step leaves what is staged in its ranges
record Fine {R : Type 0} (e : Done R) : Type 0 where
  staged : AreStaged e.roles e.redundancy

either : {R : Type 0} (b : Bool) (x y : Done R) → Fine x → Fine y → Fine (cond b x y)
either true x y h k = h
either false x y h k = k

module _ {R : Type 0} (join : R → R → R) (words : Words R) (w : Model R) (h : AreStaged w.roles w.redundancy) where
  -- what is refused changes nothing
  refused : (r : Refusal Cut) → Fine (refusal w r)
  refused r = record { staged = h }

  message_fine : (f : Sent R Layout → Done R) → ((s : Sent R Layout) → Fine (f s)) → (m : Option (Sent R Layout)) (mark : Option Mark) → Fine (at_message w f m mark)
  message_fine f each None mark = refused NoSuchMessage
  message_fine f each (Some s) None = refused NoSuchMessage
  message_fine f each (Some s) (Some mark) = either mark.is_lost (refusal w Lost) (f s) (refused Lost) (each s)

  expires_fine : (q : ℕ) (r : Option Request) → Fine (expires w q r)
  expires_fine q None = refused NoSuchRequest
  expires_fine q (Some r) =
      either r.is_open (record (nothing w) { nodes = only r.coordinator (closed q (w.nodes r.coordinator)); closes = q ∷ []; tells = HasEnded q Expired ∷ [] }) (refusal w AlreadyEnded)
      (record { staged = h }) (refused AlreadyEnded)

  closing_fine : (q : ℕ) (r : Option Request) → Fine (closing w q r)
  closing_fine q None = record { staged = h }
  closing_fine q (Some r) =
      either r.is_open (record (nothing w) { nodes = only r.coordinator (closed q (w.nodes r.coordinator)); closes = q ∷ [] }) (nothing w) (record { staged = h }) (record { staged = h })

  chosen_fine : (n v : ℕ) (choice : Decision) → Fine (chosen join words layouts trio stage_trio w n v choice)
  chosen_fine n v (given l shown) = record { staged = h }
  chosen_fine n v (none_given r) = refused r

  applies_fine : (n : ℕ) (choice : Decision) → Fine (applies_at join words layouts trio stage_trio w n choice)
  applies_fine n choice =
      let v = suc (newest_at w n) in
      let last = chosen join words layouts trio stage_trio w n v choice in
      let third = cond (leb most_versions w.applied) (refusal w VersionLimit) last in
      let second = cond (leb v w.applied) (refusal w (VersionTaken v)) third in
      either (leb 1 w.applied && not (is_member_at layouts w n)) (refusal w NotMember) second (refused NotMember)
      (either (leb v w.applied) (refusal w (VersionTaken v)) third (refused (VersionTaken v))
      (either (leb most_versions w.applied) (refusal w VersionLimit) last (refused VersionLimit) (chosen_fine n v choice)))

  acting_fine : (n : ℕ) (b : Bool) (a : Acted R Layout) → Fine (acting join words layouts trio stage_trio w n b a)
  acting_fine n b a = either b (refusal w NotMember) (record (did w n a.did) { words = told a.how }) (refused NotMember) (record { staged = h })

  local_fine : (n : ℕ) (a : Action) → Fine (local join words layouts trio stage_trio w n a)
  local_fine n a = acting_fine n (has_none layouts (w.nodes n).view) (acts join words layouts n (clock w n) (w.nodes n) a)

  begun_fine : (n : ℕ) (phase : Phase R) (c : Option (Call R)) → Fine (begun join words layouts trio stage_trio w n phase c)
  begun_fine n phase None = record { staged = h }
  begun_fine n phase (Some c) = record { staged = h }

  beginning_fine : (q : ℕ) (phase : Phase R) (r : Option Request) → Fine (beginning join words layouts trio stage_trio w q phase r)
  beginning_fine q phase None = record { staged = h }
  beginning_fine q phase (Some r) =
      either r.is_open (begun join words layouts trio stage_trio w r.coordinator phase (call_at (w.nodes r.coordinator).calls q)) (nothing w)
      (begun_fine r.coordinator phase (call_at (w.nodes r.coordinator).calls q)) (record { staged = h })

  opening_fine : (n : ℕ) → Fine (opening join words layouts trio stage_trio w n)
  opening_fine n =
      let q = suc (length w.requests) in
      either (is_member_at layouts w n) (record (nothing w) {
        words = One q;
        nodes = only n (opened q (newest_at w n) (w.nodes n));
        opens = record { coordinator = n; is_open = true } ∷ [];
      }) (refusal w NotMember) (record { staged = h }) (refused NotMember)

  fine_after : (step : Step R) (choice : Decision) → IsInRange step → Fine (effects join words layouts trio stage_trio w step choice)
  fine_after Trio choice meant =
      either (leb 1 w.applied) (refusal w (VersionTaken 1)) (trio_applies join words layouts trio stage_trio w) (refused (VersionTaken 1)) (record { staged = stage_three w.roles w.redundancy h })
  fine_after (Stage n role) choice meant = record { staged = stage_one n role w.roles w.redundancy meant.0 meant.1 h }
  fine_after (Spread r) choice meant = record { staged = record { ascend = h.ascend; numbered = h.numbered; wanted_in = meant } }
  fine_after (Apply n) choice meant = applies_fine n choice
  fine_after (Tick ms) choice meant = record { staged = h }
  fine_after (Skew n ms) choice meant = record { staged = h }
  fine_after (Deliver m) choice meant =
      message_fine (λ sent. received m (did w sent.to (receives join words layouts sent.to (clock w sent.to) (w.nodes sent.to) sent.from sent.packet))) (λ s. record { staged = h }) (numbered w.messages m) (numbered w.marks m)
  fine_after (Lose m) choice meant =
      message_fine (λ sent. record (nothing w) { marks = Some (m, record { is_delivered = false; is_lost = true }) }) (λ s. record { staged = h }) (numbered w.messages m) (numbered w.marks m)
  fine_after (Expire q) choice meant = expires_fine q (numbered w.requests q)
  fine_after (Restart n) choice meant = record { staged = h }
  fine_after (Gossip from to) choice meant = record { staged = h }
  fine_after (Ack n) choice meant = local_fine n RaiseAck
  fine_after (Syncs n) choice meant = local_fine n GoOn
  fine_after (SyncAck n) choice meant = local_fine n RaiseSyncAck
  fine_after (Clean n) choice meant = local_fine n CleanUp
  fine_after (Work n) choice meant = local_fine n WorkOff
  fine_after (Repair n) choice meant = acting_fine n (not (is_member_at layouts w n)) (acts join words layouts n (clock w n) (w.nodes n) Mend)
  fine_after (Collect n) choice meant = local_fine n Gather
  fine_after (Open n) choice meant = opening_fine n
  fine_after (Begin q phase) choice meant = beginning_fine q phase (numbered w.requests q)
  fine_after (Close q) choice meant = closing_fine q (numbered w.requests q)

  pub step_fine : (step : Step R) (choice : Decision) → IsInRange step → AreStaged (effects join words layouts trio stage_trio w step choice).roles (effects join words layouts trio stage_trio w step choice).redundancy
  step_fine step choice meant = (fine_after step choice meant).staged

-- something lawful is computed from what is staged
of_computed : (roles : List Role) (wanted : Redundancy) (version : ℕ) → AreStaged roles wanted → Computed roles wanted → (choice : Decision) × IsComputed roles wanted version choice
of_computed roles wanted version h (few_nodes few) = (none_given (TooFewNodes (length (storage_nodes roles))), (refl, few))
of_computed roles wanted version h (few_zones enough few) = (none_given (TooFewZones (length (zone_names roles)) (zones_wanted wanted roles)), (enough, refl, refl, few))
of_computed roles wanted version h (none cut enough shows) = (none_given (NoAssignment cut), (enough, shows))
of_computed roles wanted version h (layout certified enough is) = (
  given (record { version = version; roles = record { list = roles; ascending = h.ascend; numbered = h.numbered }; r = certified.r; size = certified.size; sets = certified.sets })
      (record { certified = certified; roles = record { list = roles; ascending = h.ascend; numbered = h.numbered } }),
  record { version_is = refl; roles_are = refl; shown_roles = refl; redundancy = refl; size = refl; sets = refl; enough = enough; certified = is },
)

-- an apply may be given something
pub apply_lawful : {R : Type 0} (w : Model R) (n : ℕ) → AreStaged w.roles w.redundancy → (choice : Decision) × IsLawfulStep w (Apply n) choice
apply_lawful w n h =
    elim (comes_to_layout w n) as (λ b. (choice : Decision) × cond b (IsComputed w.roles w.redundancy (suc (newest_at w n)) choice) (IsNone choice)) [
      | true ↦ of_computed w.roles w.redundancy (suc (newest_at w n)) h (something_computed w.roles w.redundancy h.ascend h.numbered h.wanted_in)
      | false ↦ (none_given VersionLimit, tt)
    ]
