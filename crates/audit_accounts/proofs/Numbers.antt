-- Turns tell numbers of the code, where they differ in cuts alone from a replay within the limits.
use Rattle.std.proofs.Common.{◌≡◌, ◌≤◌, ◌<◌, ◌+◌, ℕ, zero, suc, Bool, true, false, not, ◌&&◌, leb, cond, Option, Some, None, List, [], ◌∷◌, ◌++◌, length, refl, sym, ap, subst, ◌∙◌, arith}
use Rattle.std.specs.Prelude.{⊤}
use Rattle.std.specs.List.{AllByRecursion}
use Rattle.crdt_core.proofs.Each.{all_append}
use Rattle.layout_roles.specs.declared.cut.Cut.{Cut}
use Rattle.crdt_rows.specs.declared.any_row.AnyRow.{AnyRow}
use Rattle.crdt_rows.specs.AnyRow.{any_join}
use Rattle.object_schema.specs.Schema.{words}
use Rattle.cluster_machine.specs.declared.applied.Applied.{Applied}
use Rattle.cluster_machine.specs.declared.line.Line.{Line}
use Rattle.cluster_machine.specs.declared.step.Refusal.{Refusal}
use Rattle.cluster_machine.specs.declared.step.Refusal.TheVariants.{VersionTaken, VersionLimit, NotMember}
use Rattle.cluster_machine.specs.declared.step.Words.{Words as Answer}
use Rattle.cluster_machine.specs.declared.step.Words.TheVariants.{Empty}
use Rattle.cluster_machine.specs.Layouts.{layouts}
use Rattle.cluster_machine.specs.World.{is_member_at, undelivered}
use Rattle.cluster_machine.specs.Choices.{Decision}
use Rattle.cluster_machine.specs.Step.{most_versions, given, none_given, refusal as world_refusal, chosen, applies_at}
use Rattle.cluster_machine.specs.Trio.{trio, stage_trio}
use Rattle.cluster_machine.specs.Worlds.{Done as Effect, newest_at}
use Rattle.machine_limits.proofs.Moves.{StaysSound}
use Rattle.object_origins.proofs.Shown.{Facts}
use Rattle.store_model.specs.declared.event.Event.{Event}
use Rattle.store_model.specs.declared.event.Event.TheVariants.{Trio, Block, Bucket, Role, Redundancy, Apply, Tick, Skew, Put, Get, Head, Delete, Copy, List as Keys, Deliver, Lose, Drain, Expire, Restart, Gossip, Ack, Sync, SyncAck, Clean, Work, Repair, Collect}
use Rattle.store_model.specs.declared.event.Numbered.{Numbered}
use Rattle.store_model.specs.Run.{World, State, Outcome, silent, delivers, then_drains, drains}
use Rattle.store_model.specs.Acts.{IsLawfulAct}
use Rattle.store_model.specs.Events.{Turn, act_of, outcome, outcome_of, after, run}
use Rattle.store_model.specs.Turns.{AreLawful}
use Rattle.text_model.specs.Grammar.{IsAllowed}
use Rattle.text_model.specs.Played.{Step, deliveries, steps_of, GoesOn, AllGoOn, AreAllowed}
use Rattle.audit_runs.specs.Alike.{DifferInCut, DifferInCuts}
use Rattle.audit_runs.proofs.Cuts.{turn_alike}
use Rattle.audit_accounts.specs.Saying.{IsKeyedLine, TellKeyed}
use Rattle.audit_accounts.proofs.Worlds.{LineFits, LinesFit, AnswerFits}
use Rattle.audit_accounts.proofs.Steps.{Here, Told, here_later, delivery_told, event_told}

-- ---- drains

first_keyed : (a b : List (Line Applied)) → AllByRecursion IsKeyedLine (a ++ b) → AllByRecursion IsKeyedLine a
first_keyed [] b h = tt
first_keyed (l ∷ a) b h = (h.0, first_keyed a b h.1)

last_keyed : (a b : List (Line Applied)) → AllByRecursion IsKeyedLine (a ++ b) → AllByRecursion IsKeyedLine b
last_keyed [] b h = h
last_keyed (l ∷ a) b h = last_keyed a b h.1

drains_answer : (n : ℕ) (s : State) → AnswerFits (drains n s).refused (drains n s).words
drains_answer zero s = tt
drains_answer (suc n) s =
    elim (undelivered s.world) as (λ o. (let x : Outcome = elim o as (λ o. Outcome) [ None ↦ silent s | Some m ↦ let o = delivers s m in then_drains o (drains n o.state) ] in AnswerFits x.refused x.words)) [ None ↦ tt | Some m ↦ tt ]

module _ (facts : Facts) (stays : StaysSound any_join words) where
  drain_told : (e n : ℕ) (s : State) → e ≤ 100000 → Here e s → AllByRecursion GoesOn (deliveries n s) → AllByRecursion IsKeyedLine (drains n s).lines → LinesFit (drains n s).lines × Here e (drains n s).state
  drain_told e zero s low r on keyed = (tt, r)
  drain_told e (suc n) s low r on keyed = by_least (undelivered s.world) refl on keyed (λ m first. drain_told e n (delivers s m).state low first)
    where
      by_least : (o : Option ℕ) → undelivered s.world ≡ o → AllByRecursion GoesOn (elim o as (λ o. List Step) [ None ↦ [] | Some m ↦ record { from = s; outcome = delivers s m } ∷ deliveries n (delivers s m).state ]) →
          AllByRecursion IsKeyedLine (elim o as (λ o. Outcome) [ None ↦ silent s | Some m ↦ then_drains (delivers s m) (drains n (delivers s m).state) ]).lines →
          ((m : ℕ) → Here e (delivers s m).state → AllByRecursion GoesOn (deliveries n (delivers s m).state) → AllByRecursion IsKeyedLine (drains n (delivers s m).state).lines → LinesFit (drains n (delivers s m).state).lines × Here e (drains n (delivers s m).state).state) →
          (let x : Outcome = elim o as (λ o. Outcome) [ None ↦ silent s | Some m ↦ then_drains (delivers s m) (drains n (delivers s m).state) ] in LinesFit x.lines × Here e x.state)
      by_least None is on keyed rest = (tt, r)
      by_least (Some m) is on keyed rest =
          let one = delivery_told facts stays e s m low r is on.0 (first_keyed (delivers s m).lines (drains n (delivers s m).state).lines keyed) in
          let more = rest m one.1 on.1 (last_keyed (delivers s m).lines (drains n (delivers s m).state).lines keyed) in
          (all_append LineFits (delivers s m).lines (drains n (delivers s m).state).lines one.0 more.0, more.1)

  -- ---- events

  turn_told : (e : ℕ) (s : State) (event : Event) (choice : Decision) → e < 100000 → Here e s → IsAllowed event → IsLawfulAct s (act_of event choice) → AllByRecursion GoesOn (steps_of s event choice) → AllByRecursion IsKeyedLine (outcome s event choice).lines → Told (suc e) (outcome s event choice)
  turn_told e s (Drain n) choice low r allowed lawful on keyed =
      let d = drain_told (suc e) n s (omega arith) (here_later e (suc e) s (omega arith) r) on keyed in
      record { answer = drains_answer n s; lines = d.0; here = d.1 }
  turn_told e s Trio choice low r allowed lawful on keyed = event_told facts stays e s low r Trio choice tt allowed lawful on.0 keyed
  turn_told e s (Block size) choice low r allowed lawful on keyed = event_told facts stays e s low r (Block size) choice tt allowed lawful on.0 keyed
  turn_told e s (Bucket name) choice low r allowed lawful on keyed = event_told facts stays e s low r (Bucket name) choice tt allowed lawful on.0 keyed
  turn_told e s (Role n role) choice low r allowed lawful on keyed = event_told facts stays e s low r (Role n role) choice tt allowed lawful on.0 keyed
  turn_told e s (Redundancy wanted) choice low r allowed lawful on keyed = event_told facts stays e s low r (Redundancy wanted) choice tt allowed lawful on.0 keyed
  turn_told e s (Apply n) choice low r allowed lawful on keyed = event_told facts stays e s low r (Apply n) choice tt allowed lawful on.0 keyed
  turn_told e s (Tick ms) choice low r allowed lawful on keyed = event_told facts stays e s low r (Tick ms) choice tt allowed lawful on.0 keyed
  turn_told e s (Skew n ms) choice low r allowed lawful on keyed = event_told facts stays e s low r (Skew n ms) choice tt allowed lawful on.0 keyed
  turn_told e s (Put n bucket key size fill) choice low r allowed lawful on keyed = event_told facts stays e s low r (Put n bucket key size fill) choice tt allowed lawful on.0 keyed
  turn_told e s (Get n bucket key) choice low r allowed lawful on keyed = event_told facts stays e s low r (Get n bucket key) choice tt allowed lawful on.0 keyed
  turn_told e s (Head n bucket key) choice low r allowed lawful on keyed = event_told facts stays e s low r (Head n bucket key) choice tt allowed lawful on.0 keyed
  turn_told e s (Delete n bucket key) choice low r allowed lawful on keyed = event_told facts stays e s low r (Delete n bucket key) choice tt allowed lawful on.0 keyed
  turn_told e s (Copy n from_bucket from_key bucket key) choice low r allowed lawful on keyed = event_told facts stays e s low r (Copy n from_bucket from_key bucket key) choice tt allowed lawful on.0 keyed
  turn_told e s (Keys n bucket prefix) choice low r allowed lawful on keyed = event_told facts stays e s low r (Keys n bucket prefix) choice tt allowed lawful on.0 keyed
  turn_told e s (Deliver i) choice low r allowed lawful on keyed = event_told facts stays e s low r (Deliver i) choice tt allowed lawful on.0 keyed
  turn_told e s (Lose i) choice low r allowed lawful on keyed = event_told facts stays e s low r (Lose i) choice tt allowed lawful on.0 keyed
  turn_told e s (Expire q) choice low r allowed lawful on keyed = event_told facts stays e s low r (Expire q) choice tt allowed lawful on.0 keyed
  turn_told e s (Restart n) choice low r allowed lawful on keyed = event_told facts stays e s low r (Restart n) choice tt allowed lawful on.0 keyed
  turn_told e s (Gossip from to) choice low r allowed lawful on keyed = event_told facts stays e s low r (Gossip from to) choice tt allowed lawful on.0 keyed
  turn_told e s (Ack n) choice low r allowed lawful on keyed = event_told facts stays e s low r (Ack n) choice tt allowed lawful on.0 keyed
  turn_told e s (Sync n) choice low r allowed lawful on keyed = event_told facts stays e s low r (Sync n) choice tt allowed lawful on.0 keyed
  turn_told e s (SyncAck n) choice low r allowed lawful on keyed = event_told facts stays e s low r (SyncAck n) choice tt allowed lawful on.0 keyed
  turn_told e s (Clean n) choice low r allowed lawful on keyed = event_told facts stays e s low r (Clean n) choice tt allowed lawful on.0 keyed
  turn_told e s (Work n) choice low r allowed lawful on keyed = event_told facts stays e s low r (Work n) choice tt allowed lawful on.0 keyed
  turn_told e s (Repair n) choice low r allowed lawful on keyed = event_told facts stays e s low r (Repair n) choice tt allowed lawful on.0 keyed
  turn_told e s (Collect n) choice low r allowed lawful on keyed = event_told facts stays e s low r (Collect n) choice tt allowed lawful on.0 keyed

-- ---- other cuts

-- what an event tells that is given another cut
record OtherTold (o p : Outcome) : Type 0 where
  keyed : AllByRecursion IsKeyedLine o.lines → AllByRecursion IsKeyedLine p.lines
  lines : LinesFit p.lines → LinesFit o.lines
  answer : AnswerFits p.refused p.words → AnswerFits o.refused o.words

same_told : (o : Outcome) → OtherTold o o
same_told o = record { keyed = λ h. h; lines = λ h. h; answer = λ h. h }

module _ (w : World) (n : ℕ) where
  -- an apply tells a layout at most
  by_cond : (P : Line Applied → Type 0) (b : Bool) (d e : Effect AnyRow) → AllByRecursion P d.tells → AllByRecursion P e.tells → AllByRecursion P (cond b d e).tells
  by_cond P true d e h k = h
  by_cond P false d e h k = k

  applies_tell : (P : Line Applied → Type 0) (choice : Decision) → ((new : ℕ) → AllByRecursion P (chosen any_join words layouts trio stage_trio w n new choice).tells) → AllByRecursion P (applies_at any_join words layouts trio stage_trio w n choice).tells
  applies_tell P choice h =
      let new : ℕ = suc (newest_at w n) in
      by_cond P (leb 1 w.applied && not (is_member_at layouts w n)) (world_refusal w NotMember) _ tt
      (by_cond P (leb new w.applied) (world_refusal w (VersionTaken new)) _ tt
      (by_cond P (leb most_versions w.applied) (world_refusal w VersionLimit) _ tt (h new)))

  chosen_keyed : (choice : Decision) (new : ℕ) → AllByRecursion IsKeyedLine (chosen any_join words layouts trio stage_trio w n new choice).tells
  chosen_keyed (none_given r) new = tt
  chosen_keyed (given l shown) new = (tt, tt)

  chosen_fit : (choice : Decision) (new : ℕ) → LinesFit (chosen any_join words layouts trio stage_trio w n new choice).tells
  chosen_fit (none_given r) new = tt
  chosen_fit (given l shown) new = (tt, tt)

  -- what is answered
  abbrev seen : Effect AnyRow → Option (Refusal Cut) × Answer
  seen e = (e.refused, e.words)

  one_seen : (b : Bool) (d e f : Effect AnyRow) → seen e ≡ seen f → seen (cond b d e) ≡ seen (cond b d f)
  one_seen true d e f same = refl
  one_seen false d e f same = same

  chosen_seen : (c d : Decision) → DifferInCut c d → (new : ℕ) → seen (chosen any_join words layouts trio stage_trio w n new d) ≡ seen (chosen any_join words layouts trio stage_trio w n new c)
  chosen_seen (given l a) (given k b) differ new = refl
  chosen_seen (given l a) (none_given r) differ new = absurd differ
  chosen_seen (none_given r) (given l a) differ new = absurd differ
  chosen_seen (none_given r) (none_given q) differ new = ap (λ (x : Refusal Cut). (Some x, Empty)) (sym differ)

  applies_seen : (c d : Decision) → DifferInCut c d → seen (applies_at any_join words layouts trio stage_trio w n d) ≡ seen (applies_at any_join words layouts trio stage_trio w n c)
  applies_seen c d differ =
      let new : ℕ = suc (newest_at w n) in
      one_seen (leb 1 w.applied && not (is_member_at layouts w n)) (world_refusal w NotMember) _ _
      (one_seen (leb new w.applied) (world_refusal w (VersionTaken new)) _ _
      (one_seen (leb most_versions w.applied) (world_refusal w VersionLimit) _ _ (chosen_seen c d differ new)))

other_told : (s : State) (e : Event) (c d : Decision) → DifferInCut c d → OtherTold (outcome s e c) (outcome s e d)
other_told s (Apply n) c d differ = record {
  keyed = λ h. applies_tell s.world n IsKeyedLine d (chosen_keyed s.world n d);
  lines = λ h. applies_tell s.world n LineFits c (chosen_fit s.world n c);
  answer = λ h. subst (λ (x : Option (Refusal Cut) × Answer). AnswerFits x.0 x.1) (applies_seen s.world n c d differ) h;
}
other_told s Trio c d differ = same_told (outcome s Trio c)
other_told s (Block size) c d differ = same_told (outcome s (Block size) c)
other_told s (Bucket name) c d differ = same_told (outcome s (Bucket name) c)
other_told s (Role n role) c d differ = same_told (outcome s (Role n role) c)
other_told s (Redundancy wanted) c d differ = same_told (outcome s (Redundancy wanted) c)
other_told s (Tick ms) c d differ = same_told (outcome s (Tick ms) c)
other_told s (Skew n ms) c d differ = same_told (outcome s (Skew n ms) c)
other_told s (Put n bucket key size fill) c d differ = same_told (outcome s (Put n bucket key size fill) c)
other_told s (Get n bucket key) c d differ = same_told (outcome s (Get n bucket key) c)
other_told s (Head n bucket key) c d differ = same_told (outcome s (Head n bucket key) c)
other_told s (Delete n bucket key) c d differ = same_told (outcome s (Delete n bucket key) c)
other_told s (Copy n from_bucket from_key bucket key) c d differ = same_told (outcome s (Copy n from_bucket from_key bucket key) c)
other_told s (Keys n bucket prefix) c d differ = same_told (outcome s (Keys n bucket prefix) c)
other_told s (Deliver i) c d differ = same_told (outcome s (Deliver i) c)
other_told s (Lose i) c d differ = same_told (outcome s (Lose i) c)
other_told s (Expire q) c d differ = same_told (outcome s (Expire q) c)
other_told s (Restart n) c d differ = same_told (outcome s (Restart n) c)
other_told s (Gossip from to) c d differ = same_told (outcome s (Gossip from to) c)
other_told s (Ack n) c d differ = same_told (outcome s (Ack n) c)
other_told s (Sync n) c d differ = same_told (outcome s (Sync n) c)
other_told s (SyncAck n) c d differ = same_told (outcome s (SyncAck n) c)
other_told s (Clean n) c d differ = same_told (outcome s (Clean n) c)
other_told s (Work n) c d differ = same_told (outcome s (Work n) c)
other_told s (Repair n) c d differ = same_told (outcome s (Repair n) c)
other_told s (Collect n) c d differ = same_told (outcome s (Collect n) c)
other_told s (Drain n) c d differ = same_told (outcome s (Drain n) c)

-- ---- turns

-- what each turn tells has numbers of the code, but for layouts
abbrev pub TellNumbers : State → List Turn → Type 0
TellNumbers s [] = ⊤
TellNumbers s (t ∷ ts) = let o = outcome_of s t in (AnswerFits o.refused o.words × LinesFit o.lines) × TellNumbers o.state ts

pub turns_told : Facts → StaysSound any_join words → (e : ℕ) (s : State) (ts us : List Turn) → DifferInCuts ts us → AreLawful s us → AllGoOn s us → AreAllowed us → e + length us ≤ 100000 → Here e s → TellKeyed s ts → TellNumbers s ts × Here 100000 (run s ts)
turns_told facts stays e s [] us differ lawful on allowed few r keyed = (tt, here_later e 100000 s (omega arith) r)
turns_told facts stays e s (t ∷ ts) [] differ lawful on allowed few r keyed = absurd differ
turns_told facts stays e s (t ∷ ts) (u ∷ us) differ lawful on allowed few r keyed =
    let event : Event = t.numbered.event in
    let p : Outcome = outcome s event u.choice in
    let same : after s t ≡ after s u = (turn_alike s t u differ.0 differ.1).0 in
    let back : u.numbered ≡ t.numbered = sym differ.0 in
    let meant : IsLawfulAct s (act_of event u.choice) = subst (λ (x : Numbered). IsLawfulAct s (act_of x.event u.choice)) back lawful.0 in
    let goes : AllByRecursion GoesOn (steps_of s event u.choice) = subst (λ (x : Numbered). AllByRecursion GoesOn (steps_of s x.event u.choice)) back on.0 in
    let may : IsAllowed event = subst (λ (x : Numbered). IsAllowed x.event) back allowed.0 in
    let other : after s u ≡ p.state = ap (λ (x : Numbered). (outcome s x.event u.choice).state) back in
    let alike = other_told s event t.choice u.choice differ.1 in
    let here = turn_told facts stays e s event u.choice (omega arith) r may meant goes (alike.keyed keyed.0) in
    let later : Here (suc e) (after s t) = subst (Here (suc e)) (sym (same ∙ other)) here.here in
    let rest = turns_told facts stays (suc e) (after s t) ts us differ.2 (subst (λ (x : State). AreLawful x us) (sym same) lawful.1) (subst (λ (x : State). AllGoOn x us) (sym same) on.1) allowed.1 (omega arith) later keyed.1 in
    (((alike.answer here.answer, alike.lines here.lines), rest.0), rest.1)
