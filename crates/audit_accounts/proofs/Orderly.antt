-- A replay of a schedule prints layouts in order, and differs from itself in no cut.
use Rattle.std.proofs.Common.{◌≡◌, ℕ, zero, suc, Bool, true, false, cond, if◌then◌else◌, Option, Some, None, List, [], ◌∷◌, length, refl, sym, subst}
use Rattle.std.specs.List.{AllByRecursion}
use Rattle.crdt_core.proofs.Each.{all_append}
use Rattle.layout_roles.specs.declared.cut.Cut.{Cut}
use Rattle.layout_roles.specs.declared.layout.Layout.{Layout}
use Rattle.layout_roles.specs.declared.redundancy.Redundancy.{Redundancy as Wanted}
use Rattle.layout_roles.specs.declared.role.Role.{Role}
use Rattle.layout_roles.specs.Certificates.{IsRedundancy}
use Rattle.crdt_rows.specs.declared.any_row.AnyRow.{AnyRow}
use Rattle.crdt_rows.specs.AnyRow.{any_join}
use Rattle.object_schema.specs.Schema.{words}
use Rattle.wire_messages.specs.declared.phase.PhaseEnd.{PhaseEnd}
use Rattle.cluster_machine.specs.declared.applied.Applied.{Applied}
use Rattle.cluster_machine.specs.declared.line.Line.{Line}
use Rattle.cluster_machine.specs.declared.step.Refusal.{Refusal}
use Rattle.cluster_machine.specs.declared.step.Refusal.TheVariants.{VersionLimit, NotMember, NoSuchBucket}
use Rattle.cluster_machine.specs.declared.step.Step.{Step}
use Rattle.cluster_machine.specs.declared.step.Step.TheVariants as step
use Rattle.cluster_machine.specs.Choices.{Decision, IsBest, IsComputed, IsNone}
use Rattle.cluster_machine.specs.Layouts.{layouts}
use Rattle.cluster_machine.specs.Node.{Ended}
use Rattle.cluster_machine.specs.Step.{given, none_given, effects}
use Rattle.cluster_machine.specs.Trio.{trio, stage_trio}
use Rattle.cluster_machine.specs.World.{clock, is_member_at, numbered, undelivered}
use Rattle.cluster_machine.specs.Worlds.{newest_at, comes_to_layout}
use Rattle.history_model.specs.declared.record.Kind.{Kind}
use Rattle.history_model.specs.declared.record.Kind.TheVariants as kind
use Rattle.flow_model.specs.declared.order.Order.{Order}
use Rattle.flow_model.specs.declared.order.Order.TheVariants as order
use Rattle.flow_model.specs.declared.flow.Flow.{Flow}
use Rattle.flow_model.specs.declared.flow.FlowStep.{FlowStep}
use Rattle.flow_model.specs.declared.flow.FlowStep.TheVariants.{More, Need, Wait, End}
use Rattle.flow_model.specs.declared.flow.FlowEnd.{FlowEnd}
use Rattle.flow_model.specs.declared.flow.FlowEnd.TheVariants.{Stored, Found, Nothing, Listed, Superseded, Aborted}
use Rattle.flow_model.specs.Flow.{started}
use Rattle.flow_model.specs.Next.{next as next_of}
use Rattle.store_model.specs.Answers.{lines_of_end}
use Rattle.store_model.specs.Orders.{buckets_of}
use Rattle.store_model.specs.declared.event.Event.{Event}
use Rattle.store_model.specs.declared.event.Event.TheVariants.{Trio, Block, Bucket, Role as Stage, Redundancy, Apply, Tick, Skew, Put, Get, Head, Delete, Copy, List as Keys, Deliver, Lose, Drain, Expire, Restart, Gossip, Ack, Sync, SyncAck, Clean, Work, Repair, Collect}
use Rattle.store_model.specs.Run.{World, State, Asked, Draw, Outcome, silent, refusal, plainly, effect, doing, opened, begins, are_buckets, draws_of, takes, follows, follow, goes_on, delivers, then_drains, drains}
use Rattle.store_model.specs.Acts.{IsLawfulAct}
use Rattle.store_model.specs.Events.{Turn, object_bytes, act_of, outcome, outcome_of, after}
use Rattle.store_model.specs.Turns.{AreLawful}
use Rattle.text_model.specs.Grammar.{IsAllowed}
use Rattle.text_model.specs.Played.{AreAllowed}
use Rattle.audit_model.specs.Printed.{Staged, stages}
use Rattle.audit_model.specs.Audit.{staged_in}
use Rattle.audit_runs.specs.Alike.{DifferInCut, DifferInCuts}
use Rattle.audit_runs.specs.Told.{stages_by}
use Rattle.audit_sheets.specs.Sheets.{IsOrderly, AreInRange, IsStagedInRange}
use Rattle.audit_accounts.specs.Saying.{IsOrderlyLine, TellOrderly}
use Rattle.audit_runs.proofs.Telling.{GivenTells, HasPlain, step_tells}

abbrev AreOrderly : List (Line Applied) → Type 0
AreOrderly ls = AllByRecursion IsOrderlyLine ls

orderly_plain : HasPlain IsOrderlyLine
orderly_plain = record { got = λ m. tt; sent = λ m a b k. tt; synced = λ n v. tt; dropped = λ n ts id. tt; ended = λ q word. tt; done = λ q word version size md5. tt }

step_orderly : (w : World) (st : Step AnyRow) (choice : Decision) → GivenTells IsOrderlyLine choice → AreOrderly (effects any_join words layouts trio stage_trio w st choice).tells
step_orderly w st choice h = step_tells IsOrderlyLine orderly_plain w st choice h

-- ---- requests print no layout

end_orderly : (q : ℕ) (k : Kind) (end : FlowEnd) → AreOrderly (lines_of_end q k end)
end_orderly q k (Stored version meta) = (tt, tt)
end_orderly q kind.Put (Found version meta body) = (tt, tt)
end_orderly q kind.Get (Found version meta body) = (tt, tt)
end_orderly q kind.Head (Found version meta body) = (tt, tt)
end_orderly q kind.Delete (Found version meta body) = (tt, tt)
end_orderly q kind.Copy (Found version meta body) = (tt, tt)
end_orderly q kind.List (Found version meta body) = (tt, tt)
end_orderly q k Nothing = (tt, tt)
end_orderly q k (Listed rows) = (tt, tt)
end_orderly q k (Superseded id) = (tt, tt)
end_orderly q k Aborted = tt

takes_orderly : (s : State) (q : ℕ) (a : Asked) (ds : List Draw) (st : FlowStep) → AreOrderly (takes s q a ds st).lines
takes_orderly s q a ds (More flow phase) = step_orderly s.world (step.Phase q phase) (none_given VersionLimit) tt
takes_orderly s q a ds (Need flow wanted) = tt
takes_orderly s q a ds (Wait flow) = tt
takes_orderly s q a ds (End end) = end_orderly q a.kind end

follows_orderly : (s : State) (q : ℕ) (a : Asked) (end : PhaseEnd AnyRow) (flow : Option Flow) → AreOrderly (follows s q a end flow).lines
follows_orderly s q a end None = tt
follows_orderly s q a end (Some flow) =
    let now = clock s.world a.node in takes_orderly (record s { saw = record { request = q; end = end } ∷ s.saw }) q a (draws_of s q flow.block flow.stage end now) (next_of flow end now)

follow_orderly : (s : State) (q : ℕ) (asked : Option Asked) (end : PhaseEnd AnyRow) → AreOrderly (follow s q asked end).lines
follow_orderly s q None end = tt
follow_orderly s q (Some a) end = follows_orderly s q a end a.flow

goes_on_orderly : (s : State) (ends : List (Ended AnyRow)) → AreOrderly (goes_on s ends).lines
goes_on_orderly s [] = tt
goes_on_orderly s (e ∷ es) = follow_orderly s e.request (numbered s.asked e.request) e.how

delivers_orderly : (s : State) (m : ℕ) → AreOrderly (delivers s m).lines
delivers_orderly s m =
    let d = plainly (step.Deliver m) in
    all_append IsOrderlyLine (effect s d).tells (goes_on (doing s d) (effect s d).ends).lines (step_orderly s.world (step.Deliver m) (none_given VersionLimit) tt) (goes_on_orderly (doing s d) (effect s d).ends)

drains_orderly : (n : ℕ) (s : State) → AreOrderly (drains n s).lines
drains_orderly zero s = tt
drains_orderly (suc n) s =
    elim (undelivered s.world) as (λ o. AreOrderly (elim o as (λ o. Outcome) [ None ↦ silent s | Some m ↦ let o = delivers s m in then_drains o (drains n o.state) ]).lines) [
      | None ↦ tt
      | Some m ↦ all_append IsOrderlyLine (delivers s m).lines (drains n (delivers s m).state).lines (delivers_orderly s m) (drains_orderly n (delivers s m).state)
    ]

begins_orderly : (s : State) (n : ℕ) (o : Order) → AreOrderly (begins s n o).lines
begins_orderly s n o = by_tests (is_member_at layouts s.world n) (are_buckets s.buckets (buckets_of o)) where
  by_tests : (b c : Bool) → AreOrderly (if b then (if c then opened s n o else refusal s NoSuchBucket) else refusal s NotMember).lines
  by_tests true true = step_orderly (doing s (plainly (step.Open n))).world (step.Phase (suc (length s.world.requests)) (started o (suc (length s.world.requests)) s.block).1) (none_given VersionLimit) tt
  by_tests true false = tt
  by_tests false c = tt

-- ---- applies

-- an apply is given no layout, or one that is in order
abbrev pub ApplyGives : Event → Decision → Type 0
ApplyGives e c = (n : ℕ) → e ≡ Apply n → GivenTells IsOrderlyLine c

-- each apply of these turns is
abbrev pub AppliesGive : List Turn → Type 0
AppliesGive ts = AllByRecursion (λ (t : Turn). ApplyGives t.numbered.event t.choice) ts

event_orderly : (s : State) (e : Event) (c : Decision) → ApplyGives e c → AreOrderly (outcome s e c).lines
event_orderly s Trio c gives = step_orderly s.world step.Trio (none_given VersionLimit) tt
event_orderly s (Block size) c gives = tt
event_orderly s (Bucket name) c gives = tt
event_orderly s (Stage n role) c gives = tt
event_orderly s (Redundancy wanted) c gives = tt
event_orderly s (Apply n) c gives = step_orderly s.world (step.Apply n) c (gives n refl)
event_orderly s (Tick ms) c gives = tt
event_orderly s (Skew n ms) c gives = tt
event_orderly s (Put n bucket key size fill) c gives = begins_orderly s n (order.Put bucket key (object_bytes size fill) [])
event_orderly s (Get n bucket key) c gives = begins_orderly s n (order.Get bucket key)
event_orderly s (Head n bucket key) c gives = begins_orderly s n (order.Head bucket key)
event_orderly s (Delete n bucket key) c gives = begins_orderly s n (order.Delete bucket key)
event_orderly s (Copy n from_bucket from_key bucket key) c gives = begins_orderly s n (order.Copy from_bucket from_key bucket key None)
event_orderly s (Keys n bucket prefix) c gives = begins_orderly s n (order.List bucket prefix)
event_orderly s (Deliver m) c gives = delivers_orderly s m
event_orderly s (Lose m) c gives = step_orderly s.world (step.Lose m) (none_given VersionLimit) tt
event_orderly s (Drain n) c gives = drains_orderly n s
event_orderly s (Expire q) c gives = step_orderly s.world (step.Expire q) (none_given VersionLimit) tt
event_orderly s (Restart n) c gives = step_orderly s.world (step.Restart n) (none_given VersionLimit) tt
event_orderly s (Gossip from to) c gives = step_orderly s.world (step.Gossip from to) (none_given VersionLimit) tt
event_orderly s (Ack n) c gives = step_orderly s.world (step.Ack n) (none_given VersionLimit) tt
event_orderly s (Sync n) c gives = step_orderly s.world (step.Sync n) (none_given VersionLimit) tt
event_orderly s (SyncAck n) c gives = step_orderly s.world (step.SyncAck n) (none_given VersionLimit) tt
event_orderly s (Clean n) c gives = step_orderly s.world (step.Clean n) (none_given VersionLimit) tt
event_orderly s (Work n) c gives = step_orderly s.world (step.Work n) (none_given VersionLimit) tt
event_orderly s (Repair n) c gives = step_orderly s.world (step.Repair n) (none_given VersionLimit) tt
event_orderly s (Collect n) c gives = step_orderly s.world (step.Collect n) (none_given VersionLimit) tt

-- what is computed of roles in range is in order
abbrev pub ComputedAreOrderly : Type 0
ComputedAreOrderly = (roles : List Role) (wanted : Wanted) (version : ℕ) (l : Layout) (shown : Applied) → IsRedundancy wanted → IsBest roles wanted version l shown → AreInRange shown.roles.list → IsOrderly shown

module _ (computed : ComputedAreOrderly) where
  best_orderly : (roles : List Role) (wanted : Wanted) (version : ℕ) (c : Decision) → AreInRange roles → IsRedundancy wanted → IsComputed roles wanted version c → GivenTells IsOrderlyLine c
  best_orderly roles wanted version (given l shown) range h best = computed roles wanted version l shown h best (subst AreInRange (sym best.shown_roles) range)
  best_orderly roles wanted version (none_given r) range h best = tt

  none_orderly : (c : Decision) → IsNone c → GivenTells IsOrderlyLine c
  none_orderly (given l shown) none = absurd none
  none_orderly (none_given r) none = tt

  given_orderly : (s : State) (n : ℕ) (c : Decision) → IsStagedInRange (staged_in s) → IsLawfulAct s (act_of (Apply n) c) → GivenTells IsOrderlyLine c
  given_orderly s n c staged lawful =
      let w = s.world in
      elim (comes_to_layout w n) as (λ b. cond b (IsComputed w.roles w.redundancy (suc (newest_at w n)) c) (IsNone c) → GivenTells IsOrderlyLine c) [
        | true ↦ best_orderly w.roles w.redundancy (suc (newest_at w n)) c staged.roles staged.wanted
        | false ↦ none_orderly c
      ] lawful.2

  pub lawful_gives : (s : State) (e : Event) (c : Decision) → IsStagedInRange (staged_in s) → IsLawfulAct s (act_of e c) → ApplyGives e c
  lawful_gives s e c staged lawful = λ n is. given_orderly s n c staged (subst (λ x. IsLawfulAct s (act_of x c)) is lawful)

-- ---- turns

abbrev pub EventsStage : Type 0
EventsStage = (s : State) (t : Turn) → staged_in (after s t) ≡ stages_by (staged_in s) t.numbered.event (outcome_of s t).refused

abbrev pub StagesInRange : Type 0
StagesInRange = (s : Staged) (e : Event) → IsAllowed e → IsStagedInRange s → IsStagedInRange (stages s e)

by_refusal : StagesInRange → (s : Staged) (e : Event) (r : Option (Refusal Cut)) → IsAllowed e → IsStagedInRange s → IsStagedInRange (stages_by s e r)
by_refusal more s e None allowed h = more s e allowed h
by_refusal more s e (Some r) allowed h = h

-- what is staged next
pub next_staged : EventsStage → StagesInRange → (s : State) (t : Turn) → IsAllowed t.numbered.event → IsStagedInRange (staged_in s) → IsStagedInRange (staged_in (after s t))
next_staged stage more s t allowed h = subst IsStagedInRange (sym (stage s t)) (by_refusal more (staged_in s) t.numbered.event (outcome_of s t).refused allowed h)

pub lawful_give : ComputedAreOrderly → EventsStage → StagesInRange → (s : State) (ts : List Turn) → AreLawful s ts → AreAllowed ts → IsStagedInRange (staged_in s) → AppliesGive ts
lawful_give computed stage more s [] lawful allowed staged = tt
lawful_give computed stage more s (t ∷ ts) lawful allowed staged =
    (lawful_gives computed s t.numbered.event t.choice staged lawful.0, lawful_give computed stage more (after s t) ts lawful.1 allowed.1 (next_staged stage more s t allowed.0 staged))

-- turns whose applies are given such layouts print them in order
pub given_orderly_so : (s : State) (ts : List Turn) → AppliesGive ts → TellOrderly s ts
given_orderly_so s [] give = tt
given_orderly_so s (t ∷ ts) give = (event_orderly s t.numbered.event t.choice give.0, given_orderly_so (after s t) ts give.1)

-- so do lawful turns of allowed events
pub turns_orderly : ComputedAreOrderly → EventsStage → StagesInRange → (s : State) (ts : List Turn) → AreLawful s ts → AreAllowed ts → IsStagedInRange (staged_in s) → TellOrderly s ts
turns_orderly computed stage more s ts lawful allowed staged = given_orderly_so s ts (lawful_give computed stage more s ts lawful allowed staged)

-- ---- no cut differs from itself

same_cut : (c : Decision) → DifferInCut c c
same_cut (given l shown) = (refl, record { roles = refl; redundancy = refl; size = refl; sets = refl })
same_cut (none_given r) = refl

pub same_cuts : (ts : List Turn) → DifferInCuts ts ts
same_cuts [] = tt
same_cuts (t ∷ ts) = (refl, same_cut t.choice, same_cuts ts)
