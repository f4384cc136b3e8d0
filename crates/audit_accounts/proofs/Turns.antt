-- Turns can be heard: each event is found, answers with words that it may, and its lines name requests that lines said to have begun.
use Rattle.std.proofs.Common.{◌≡◌, ℕ, zero, suc, Bool, true, false, if◌then◌else◌, Some, None, List, [], ◌∷◌, ◌++◌, refl, sym, ap, subst, ◌∙◌}
use Rattle.std.specs.Prelude.{⊤}
use Rattle.std.specs.List.{AllByRecursion}
use Rattle.layout_roles.specs.declared.layout.Layout.{Layout}
use Rattle.crdt_rows.specs.declared.any_row.AnyRow.{AnyRow}
use Rattle.cluster_machine.specs.declared.applied.Applied.{Applied}
use Rattle.cluster_machine.specs.declared.line.Line.{Line}
use Rattle.cluster_machine.specs.declared.step.Step.TheVariants as step
use Rattle.cluster_machine.specs.declared.step.Refusal.TheVariants.{NotMember, NoSuchBucket}
use Rattle.cluster_machine.specs.Choices.{Decision}
use Rattle.cluster_machine.specs.Layouts.{layouts}
use Rattle.cluster_machine.specs.World.{empty, is_member_at, numbered}
use Rattle.cluster_machine.specs.Worlds.{IsSound}
use Rattle.history_model.specs.declared.record.Kind.{Kind}
use Rattle.flow_model.specs.declared.order.Order.{Order}
use Rattle.flow_model.specs.declared.order.Order.TheVariants as order
use Rattle.store_model.specs.declared.event.Event.{Event}
use Rattle.store_model.specs.declared.event.Event.TheVariants as event
use Rattle.store_model.specs.declared.event.Numbered.{Numbered}
use Rattle.store_model.specs.Orders.{kind_of, name_of, buckets_of}
use Rattle.store_model.specs.Run.{Asked, State, Outcome, start, refusal, plainly, opened, begins, are_buckets}
use Rattle.store_model.specs.Acts.{IsLawfulAct}
use Rattle.store_model.specs.Events.{object_bytes, Turn, act_of, outcome, outcome_of, after, events_of}
use Rattle.store_model.specs.Turns.{AreLawful}
use Rattle.audit_model.specs.Heard.{Asking}
use Rattle.audit_laws.specs.Told.{AreHeard, asked_by, asked_after, CanBeHeard, TurnsCanBeHeard}
use Rattle.audit_laws.proofs.Answering.{event_answers}
use Rattle.audit_runs.specs.Alike.{DifferInCuts}
use Rattle.audit_runs.proofs.Cuts.{turn_alike}
use Rattle.audit_accounts.specs.Saying.{IsTold}
use Rattle.audit_runs.proofs.Staging.{IsFound}
use Rattle.audit_accounts.proofs.Known.{StaysSound, KnownIn, AreFine, OutKnown, delivers_known, drains_known, step_fine, plain_known, opened_known}

heard_of : (asked : List (ℕ × Kind)) (ls : List (Line Applied)) → AreFine asked ls → AreHeard asked ls
heard_of asked [] h = tt
heard_of asked (l ∷ ls) h = (h.0.0, heard_of asked ls h.1)

told_of : (asked : List (ℕ × Kind)) (ls : List (Line Applied)) → AreFine asked ls → AllByRecursion IsTold ls
told_of asked [] h = tt
told_of asked (l ∷ ls) h = (h.0.1, told_of asked ls h.1)

-- the lines of each turn tell what they may
abbrev pub AreTold : State → List Turn → Type 0
AreTold s [] = ⊤
AreTold s (t ∷ ts) = AllByRecursion IsTold (outcome_of s t).lines × AreTold (outcome_of s t).state ts

module _ (stays : StaysSound) where
  -- ---- requests

  module _ (asked : List (ℕ × Kind)) (s : State) (n : ℕ) (o : Order) (known : KnownIn asked s) where
    -- what it asks
    abbrev asking : Asking
    asking = record { node = n; kind = kind_of o; bucket = (name_of o).bucket; key = (name_of o).key }

    abbrev OutAt : Outcome → Type 0
    OutAt x = OutKnown (asked_by (Some asking) x.refused x.words ++ asked) x

    by_tests : (b c : Bool) → is_member_at layouts s.world n ≡ b → OutAt (if b then (if c then opened s n o else refusal s NoSuchBucket) else refusal s NotMember)
    by_tests true true member = opened_known stays asked s n o known member
    by_tests true false member = record { known = known; fine = tt }
    by_tests false c member = record { known = known; fine = tt }

    begins_known : OutAt (begins s n o)
    begins_known = by_tests (is_member_at layouts s.world n) (are_buckets s.buckets (buckets_of o)) refl

  -- ---- events

  event_known : (asked : List (ℕ × Kind)) (s : State) (e : Event) (choice : Decision) → IsLawfulAct s (act_of e choice) → KnownIn asked s → OutKnown (asked_after asked e (outcome s e choice)) (outcome s e choice)
  event_known asked s event.Trio choice lawful known = plain_known stays asked s (plainly step.Trio) tt lawful.2 known
  event_known asked s (event.Block size) choice lawful known = record { known = known; fine = tt }
  event_known asked s (event.Bucket name) choice lawful known = record { known = known; fine = tt }
  event_known asked s (event.Role n role) choice lawful known = plain_known stays asked s (plainly (step.Role n role)) tt lawful.2 known
  event_known asked s (event.Redundancy wanted) choice lawful known = plain_known stays asked s (plainly (step.Redundancy wanted)) tt lawful.2 known
  event_known asked s (event.Apply n) choice lawful known = plain_known stays asked s (record { step = step.Apply n; choice = choice }) tt lawful.2 known
  event_known asked s (event.Tick ms) choice lawful known = plain_known stays asked s (plainly (step.Tick ms)) tt lawful.2 known
  event_known asked s (event.Skew n ms) choice lawful known = plain_known stays asked s (plainly (step.Skew n ms)) tt lawful.2 known
  event_known asked s (event.Put n bucket key size fill) choice lawful known = begins_known asked s n (order.Put bucket key (object_bytes size fill) []) known
  event_known asked s (event.Get n bucket key) choice lawful known = begins_known asked s n (order.Get bucket key) known
  event_known asked s (event.Head n bucket key) choice lawful known = begins_known asked s n (order.Head bucket key) known
  event_known asked s (event.Delete n bucket key) choice lawful known = begins_known asked s n (order.Delete bucket key) known
  event_known asked s (event.Copy n from_bucket from_key bucket key) choice lawful known = begins_known asked s n (order.Copy from_bucket from_key bucket key None) known
  event_known asked s (event.List n bucket prefix) choice lawful known = begins_known asked s n (order.List bucket prefix) known
  event_known asked s (event.Deliver m) choice lawful known = delivers_known stays asked s m known
  event_known asked s (event.Lose m) choice lawful known = plain_known stays asked s (plainly (step.Lose m)) tt lawful.2 known
  event_known asked s (event.Drain n) choice lawful known = drains_known stays asked n s known
  event_known asked s (event.Expire q) choice lawful known = plain_known stays asked s (plainly (step.Expire q)) tt lawful.2 known
  event_known asked s (event.Restart n) choice lawful known = plain_known stays asked s (plainly (step.Restart n)) tt lawful.2 known
  event_known asked s (event.Gossip from to) choice lawful known = plain_known stays asked s (plainly (step.Gossip from to)) tt lawful.2 known
  event_known asked s (event.Ack n) choice lawful known = plain_known stays asked s (plainly (step.Ack n)) tt lawful.2 known
  event_known asked s (event.Sync n) choice lawful known = plain_known stays asked s (plainly (step.Sync n)) tt lawful.2 known
  event_known asked s (event.SyncAck n) choice lawful known = plain_known stays asked s (plainly (step.SyncAck n)) tt lawful.2 known
  event_known asked s (event.Clean n) choice lawful known = plain_known stays asked s (plainly (step.Clean n)) tt lawful.2 known
  event_known asked s (event.Work n) choice lawful known = plain_known stays asked s (plainly (step.Work n)) tt lawful.2 known
  event_known asked s (event.Repair n) choice lawful known = plain_known stays asked s (plainly (step.Repair n)) tt lawful.2 known
  event_known asked s (event.Collect n) choice lawful known = plain_known stays asked s (plainly (step.Collect n)) tt lawful.2 known

  -- an event that is given another cut tells other lines of its layout alone
  other_fine : (asked : List (ℕ × Kind)) (s : State) (e : Event) (c d : Decision) → KnownIn asked s → AreFine (asked_after asked e (outcome s e d)) (outcome s e d).lines → AreFine (asked_after asked e (outcome s e c)) (outcome s e c).lines
  other_fine asked s event.Trio c d known h = h
  other_fine asked s (event.Block size) c d known h = h
  other_fine asked s (event.Bucket name) c d known h = h
  other_fine asked s (event.Role n role) c d known h = h
  other_fine asked s (event.Redundancy wanted) c d known h = h
  other_fine asked s (event.Apply n) c d known h = step_fine asked s.asked s.world known (step.Apply n) c
  other_fine asked s (event.Tick ms) c d known h = h
  other_fine asked s (event.Skew n ms) c d known h = h
  other_fine asked s (event.Put n bucket key size fill) c d known h = h
  other_fine asked s (event.Get n bucket key) c d known h = h
  other_fine asked s (event.Head n bucket key) c d known h = h
  other_fine asked s (event.Delete n bucket key) c d known h = h
  other_fine asked s (event.Copy n from_bucket from_key bucket key) c d known h = h
  other_fine asked s (event.List n bucket prefix) c d known h = h
  other_fine asked s (event.Deliver m) c d known h = h
  other_fine asked s (event.Lose m) c d known h = h
  other_fine asked s (event.Drain n) c d known h = h
  other_fine asked s (event.Expire q) c d known h = h
  other_fine asked s (event.Restart n) c d known h = h
  other_fine asked s (event.Gossip from to) c d known h = h
  other_fine asked s (event.Ack n) c d known h = h
  other_fine asked s (event.Sync n) c d known h = h
  other_fine asked s (event.SyncAck n) c d known h = h
  other_fine asked s (event.Clean n) c d known h = h
  other_fine asked s (event.Work n) c d known h = h
  other_fine asked s (event.Repair n) c d known h = h
  other_fine asked s (event.Collect n) c d known h = h

  same_asked : (asked : List (ℕ × Kind)) (s : State) (e : Event) (c d : Decision) → asked_after asked e (outcome s e d) ≡ asked_after asked e (outcome s e c)
  same_asked asked s event.Trio c d = refl
  same_asked asked s (event.Block size) c d = refl
  same_asked asked s (event.Bucket name) c d = refl
  same_asked asked s (event.Role n role) c d = refl
  same_asked asked s (event.Redundancy wanted) c d = refl
  same_asked asked s (event.Apply n) c d = refl
  same_asked asked s (event.Tick ms) c d = refl
  same_asked asked s (event.Skew n ms) c d = refl
  same_asked asked s (event.Put n bucket key size fill) c d = refl
  same_asked asked s (event.Get n bucket key) c d = refl
  same_asked asked s (event.Head n bucket key) c d = refl
  same_asked asked s (event.Delete n bucket key) c d = refl
  same_asked asked s (event.Copy n from_bucket from_key bucket key) c d = refl
  same_asked asked s (event.List n bucket prefix) c d = refl
  same_asked asked s (event.Deliver m) c d = refl
  same_asked asked s (event.Lose m) c d = refl
  same_asked asked s (event.Drain n) c d = refl
  same_asked asked s (event.Expire q) c d = refl
  same_asked asked s (event.Restart n) c d = refl
  same_asked asked s (event.Gossip from to) c d = refl
  same_asked asked s (event.Ack n) c d = refl
  same_asked asked s (event.Sync n) c d = refl
  same_asked asked s (event.SyncAck n) c d = refl
  same_asked asked s (event.Clean n) c d = refl
  same_asked asked s (event.Work n) c d = refl
  same_asked asked s (event.Repair n) c d = refl
  same_asked asked s (event.Collect n) c d = refl

  -- ---- turns

  -- turns that differ in cuts from lawful ones can be heard, and tell what they may
  pub turns_heard : (events : List Numbered) (asked : List (ℕ × Kind)) (s : State) (ts us : List Turn) → DifferInCuts ts us → AllByRecursion (IsFound events) (events_of ts) → AreLawful s us → KnownIn asked s → TurnsCanBeHeard events asked s ts × AreTold s ts
  turns_heard events asked s [] us differ found lawful known = (tt, tt)
  turns_heard events asked s (t ∷ ts) [] differ found lawful known = absurd differ
  turns_heard events asked s (t ∷ ts) (u ∷ us) differ found lawful known =
      let e : Event = t.numbered.event in
      let o : Outcome = outcome_of s t in
      let p : Outcome = outcome s e u.choice in
      let now : List (ℕ × Kind) = asked_after asked e o in
      let same : after s t ≡ after s u = (turn_alike s t u differ.0 differ.1).0 in
      let other : after s u ≡ p.state = ap (λ (x : Numbered). (outcome s x.event u.choice).state) (sym differ.0) in
      let meant : IsLawfulAct s (act_of e u.choice) = subst (λ (x : Numbered). IsLawfulAct s (act_of x.event u.choice)) (sym differ.0) lawful.0 in
      let here : OutKnown (asked_after asked e p) p = event_known asked s e u.choice meant known in
      let fine = other_fine asked s e t.choice u.choice known here.fine in
      let later : KnownIn now o.state = subst (λ (x : State). KnownIn now x) (sym (same ∙ other)) (subst (λ as'. KnownIn as' p.state) (same_asked asked s e t.choice u.choice) here.known) in
      let rest = turns_heard events now o.state ts us differ.2 found.1 (subst (λ (x : State). AreLawful x us) (sym same) lawful.1) later in
      let heard : CanBeHeard events asked t.numbered o = record { named = found.0; answered = event_answers s e t.choice; lines = heard_of now o.lines fine } in
      ((heard, rest.0), (told_of now o.lines fine, rest.1))

pub start_known : IsSound (empty {R = AnyRow} {L = Layout}) → KnownIn [] start
start_known sound = record {
  sound = sound;
  lengths = refl;
  kinds = λ q a h. absurd (no_numbered q a h);
  waits = λ q a h. absurd (no_numbered q a h);
  calls = λ n c h. absurd h;
}
  where
    no_numbered : (q : ℕ) (a : Asked) → numbered [] q ≡ Some a → ⊥
    no_numbered zero a h = cc
    no_numbered (suc q) a h = cc
