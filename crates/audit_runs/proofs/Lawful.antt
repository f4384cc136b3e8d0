-- Turns that are given layouts as they are printed have turns beside them that are given what is computed.
use Rattle.std.proofs.Common.{◌≡◌, ◌≤◌, ℕ, suc, true, false, cond, length, IsTrue, Option, Some, None, List, [], ◌∷◌, ◌++◌, append-nil, refl, sym, subst, ◌∙◌, arith}
use Rattle.std.specs.Prelude.{⊤, IfSome}
use Rattle.std.specs.List.{AllByRecursion}
use Rattle.layout_roles.specs.declared.redundancy.Redundancy.TheVariants.{AtLeast, Maximum}
use Rattle.layout_roles.specs.declared.layout.Layout.{Layout}
use Rattle.layout_roles.specs.Certificates.{IsRedundancy}
use Rattle.cluster_machine.specs.declared.applied.Applied.{Applied}
use Rattle.cluster_machine.specs.Choices.{Decision, IsBest, IsComputed, IsNone}
use Rattle.cluster_machine.specs.Step.{given, none_given}
use Rattle.cluster_machine.specs.Worlds.{newest_at, comes_to_layout}
use Rattle.store_model.specs.declared.event.Event.{Event}
use Rattle.store_model.specs.declared.event.Numbered.{Numbered}
use Rattle.store_model.specs.declared.event.Event.TheVariants.{Trio, Block, Bucket, Role, Redundancy, Apply, Tick, Skew, Put, Get, Head, Delete, Copy, List as Keys, Deliver, Lose, Drain, Expire, Restart, Gossip, Ack, Sync, SyncAck, Clean, Work, Repair, Collect}
use Rattle.store_model.specs.Run.{State, start}
use Rattle.store_model.specs.Acts.{IsLawfulAct}
use Rattle.store_model.specs.Events.{Turn, act_of, after, events_of}
use Rattle.store_model.specs.Turns.{AreLawful}
use Rattle.text_model.specs.Grammar.{IsAllowed, is_key}
use Rattle.text_model.specs.Played.{AreAllowed, ArePlayed, AreScheduled}
use Rattle.audit_model.specs.Printed.{Staged, Printed, IsLawful, IsOfPrint, Print, print_at, all_prints, IsLawfulPrint}
use Rattle.audit_model.specs.declared.said.Said.{Said}
use Rattle.audit_model.specs.Audit.{staged_in, IsOfPrinted, as_printed, as_computed, IsGiven, AreGiven, ArePrinted, AreFirstPrinted}
use Rattle.audit_runs.specs.Alike.{AreSameButCut, DifferInCut, DifferInCuts}
use Rattle.audit_runs.specs.Given.{AreRightlyGiven}
use Rattle.audit_runs.proofs.Cuts.{turn_alike, go_on_together}
use Rattle.audit_runs.proofs.Prints.{print_at_is, prints_meant, both_of}

-- a layout that is given as it was printed is one that is computed
abbrev pub PrintsAreComputed : Type 0
PrintsAreComputed = (s : Staged) (p : Printed) (version : ℕ) (l : Layout) (shown : Applied) → IsRedundancy s.wanted → IsLawful s p →
    IsOfPrint s.roles s.wanted version p l shown → (best : Applied) × (AreSameButCut shown best × IsBest s.roles s.wanted version l best)

differ_in_none : (c : Decision) → DifferInCut c c
differ_in_none (given l shown) = (refl, record { roles = refl; redundancy = refl; size = refl; sets = refl })
differ_in_none (none_given refusal) = refl

-- a key of a schedule isn't empty
key_has_bytes : (key : List ℕ) → IsTrue (is_key key) → 1 ≤ length key
key_has_bytes [] h = let no : false ≡ true = h in cc
key_has_bytes (b ∷ bs) h = omega arith

-- what an event is given, beside what it may be given lawfully
abbrev HasLawful : State → Event → Decision → Type 0
HasLawful s e c = (d : Decision) × (DifferInCut c d × IsLawfulAct s (act_of e d))

-- a print is lawful, with a redundancy in its range
abbrev pub IsFine : Print → Type 0
IsFine p = IsLawfulPrint p × IsRedundancy p.staged.wanted

module _ (computed : PrintsAreComputed) where
  printed_lawful : (s : State) (e : Event) (c : Decision) (p : Print) → IsAllowed e → IsOfPrinted s e c p → p.staged ≡ staged_in s → IsFine p → HasLawful s e c
  printed_lawful s (Apply n) (given l shown) p allowed is so fine =
      let w = s.world in
      elim (comes_to_layout w n) as
      (λ b. cond b (IsOfPrint w.roles w.redundancy (suc (newest_at w n)) p.printed l shown) ⊥ →
      (d : Decision) × (DifferInCut (given l shown) d × (⊤ × ⊤ × cond b (IsComputed w.roles w.redundancy (suc (newest_at w n)) d) (IsNone d)))) [
        | true ↦ λ o.
            let best = computed (staged_in s) p.printed (suc (newest_at w n)) l shown (subst (λ (x : Staged). IsRedundancy x.wanted) so fine.1) (subst (λ (x : Staged). IsLawful x p.printed) so fine.0) o in
            (given l best.0, ((refl, best.1.0), (tt, tt, best.1.1)))
        | false ↦ λ o. absurd o
      ] is
  printed_lawful s (Apply n) (none_given refusal) p allowed is so fine =
      let w = s.world in
      elim (comes_to_layout w n) as
      (λ b. cond b ⊥ ⊤ → (d : Decision) × (DifferInCut (none_given refusal) d × (⊤ × ⊤ × cond b (IsComputed w.roles w.redundancy (suc (newest_at w n)) d) (IsNone d)))) [
        | true ↦ λ o. absurd o
        | false ↦ λ o. (none_given refusal, (refl, (tt, tt, tt)))
      ] is
  printed_lawful s Trio c p allowed is so fine = (c, (differ_in_none c, (tt, tt, tt)))
  printed_lawful s (Block size) c p allowed is so fine = (c, (differ_in_none c, tt))
  printed_lawful s (Bucket name) c p allowed is so fine = (c, (differ_in_none c, tt))
  printed_lawful s (Role n role) c p allowed is so fine = (c, (differ_in_none c, (tt, (allowed.0.0, omega arith), tt)))
  printed_lawful s (Redundancy (AtLeast r)) c p allowed is so fine = (c, (differ_in_none c, (tt, allowed, tt)))
  printed_lawful s (Redundancy Maximum) c p allowed is so fine = (c, (differ_in_none c, (tt, tt, tt)))
  printed_lawful s (Tick ms) c p allowed is so fine = (c, (differ_in_none c, (tt, tt, tt)))
  printed_lawful s (Skew n ms) c p allowed is so fine = (c, (differ_in_none c, (tt, tt, tt)))
  printed_lawful s (Put n bucket key size fill) c p allowed is so fine = (c, (differ_in_none c, key_has_bytes key allowed.0.1.1))
  printed_lawful s (Get n bucket key) c p allowed is so fine = (c, (differ_in_none c, tt))
  printed_lawful s (Head n bucket key) c p allowed is so fine = (c, (differ_in_none c, tt))
  printed_lawful s (Delete n bucket key) c p allowed is so fine = (c, (differ_in_none c, key_has_bytes key allowed.1.1))
  printed_lawful s (Copy n from_bucket from_key bucket key) c p allowed is so fine = (c, (differ_in_none c, key_has_bytes key allowed.1.1))
  printed_lawful s (Keys n bucket prefix) c p allowed is so fine = (c, (differ_in_none c, tt))
  printed_lawful s (Deliver m) c p allowed is so fine = (c, (differ_in_none c, tt))
  printed_lawful s (Lose m) c p allowed is so fine = (c, (differ_in_none c, (tt, tt, tt)))
  printed_lawful s (Drain n) c p allowed is so fine = (c, (differ_in_none c, tt))
  printed_lawful s (Expire q) c p allowed is so fine = (c, (differ_in_none c, (tt, tt, tt)))
  printed_lawful s (Restart n) c p allowed is so fine = (c, (differ_in_none c, (tt, tt, tt)))
  printed_lawful s (Gossip from to) c p allowed is so fine = (c, (differ_in_none c, (tt, tt, tt)))
  printed_lawful s (Ack n) c p allowed is so fine = (c, (differ_in_none c, (tt, tt, tt)))
  printed_lawful s (Sync n) c p allowed is so fine = (c, (differ_in_none c, (tt, tt, tt)))
  printed_lawful s (SyncAck n) c p allowed is so fine = (c, (differ_in_none c, (tt, tt, tt)))
  printed_lawful s (Clean n) c p allowed is so fine = (c, (differ_in_none c, (tt, tt, tt)))
  printed_lawful s (Work n) c p allowed is so fine = (c, (differ_in_none c, (tt, tt, tt)))
  printed_lawful s (Repair n) c p allowed is so fine = (c, (differ_in_none c, (tt, tt, tt)))
  printed_lawful s (Collect n) c p allowed is so fine = (c, (differ_in_none c, (tt, tt, tt)))

  turn_lawful : (s : State) (t : Turn) (p : Option Print) → IsAllowed t.numbered.event → IsGiven s t p → IfSome p IsFine → HasLawful s t.numbered.event t.choice
  turn_lawful s t None allowed is fine = (t.choice, (differ_in_none t.choice, is))
  turn_lawful s t (Some p) allowed (as_printed so is) fine = printed_lawful s t.numbered.event t.choice p allowed is so fine
  turn_lawful s t (Some p) allowed (as_computed other is) fine = (t.choice, (differ_in_none t.choice, is))

  -- the same of turns one after the other
  pub have_lawful : (ps : List Print) → AllByRecursion IsFine ps → (s : State) (turns : List Turn) → AreAllowed turns → AreGiven ps s turns →
      (others : List Turn) × (DifferInCuts turns others × AreLawful s others)
  have_lawful ps fine s [] allowed is = ([], (tt, tt))
  have_lawful ps fine s (t ∷ ts) allowed is =
      let here = turn_lawful s t (print_at ps t.numbered.line) allowed.0 is.0 (print_at_is IsFine ps t.numbered.line fine) in
      let u : Turn = record { numbered = t.numbered; choice = here.0 } in
      let rest = have_lawful ps fine (after s t) ts allowed.1 is.1 in
      (u ∷ rest.0, ((refl, here.1.0, rest.1.0), (here.1.1, subst (λ (x : State). AreLawful x rest.0) (turn_alike s t u refl here.1.0).0 rest.1.1)))

-- the turns of events that are allowed are
allowed_turns : (turns : List Turn) → AllByRecursion (λ (e : Numbered). IsAllowed e.event) (events_of turns) → AreAllowed turns
allowed_turns [] h = tt
allowed_turns (t ∷ ts) h = (h.0, allowed_turns ts h.1)

-- those of the first of them are
first_allowed : (es later : List Numbered) → AllByRecursion (λ (e : Numbered). IsAllowed e.event) (es ++ later) → AllByRecursion (λ (e : Numbered). IsAllowed e.event) es
first_allowed [] later h = tt
first_allowed (e ∷ es) later h = (h.0, first_allowed es later h.1)

pub first_turns_allowed : (events : List Numbered) (turns : List Turn) (later : List Numbered) → AreScheduled events → events ≡ events_of turns ++ later → AreAllowed turns
first_turns_allowed events turns later scheduled whole = allowed_turns turns (first_allowed (events_of turns) later (subst (λ es. AllByRecursion (λ (e : Numbered). IsAllowed e.event) es) whole scheduled.allowed))

pub first_are_played : PrintsAreComputed → (events : List Numbered) (saids : List Said) (turns : List Turn) → AreScheduled events → AllByRecursion IsLawfulPrint (all_prints events saids) →
    AreFirstPrinted events (all_prints events saids) turns → (others : List Turn) × (DifferInCuts turns others × ArePlayed others)
first_are_played computed events saids turns scheduled lawful first =
    let ps = all_prints events saids in
    let fine = both_of IsLawfulPrint (λ (p : Print). IsRedundancy p.staged.wanted) ps lawful (prints_meant events saids scheduled.allowed) in
    let found = have_lawful computed ps fine start turns (first_turns_allowed events turns first.later scheduled first.whole) first.given in
    (found.0, (found.1.0, record { lawful = found.1.1; go_on = go_on_together start turns found.0 found.1.0 first.go_on }))

-- turns of all events are the first of them
pub all_first : (events : List Numbered) (ps : List Print) (turns : List Turn) → ArePrinted events ps turns → AreFirstPrinted events ps turns
all_first events ps turns printed = record { given = printed.given; go_on = printed.go_on; later = []; whole = sym printed.events_are ∙ sym (append-nil (events_of turns)) }

pub printed_are_played : PrintsAreComputed → (events : List Numbered) (saids : List Said) (turns : List Turn) → AreRightlyGiven events saids turns → (others : List Turn) × (DifferInCuts turns others × ArePlayed others)
printed_are_played computed events saids turns h = first_are_played computed events saids turns h.scheduled h.lawful (all_first events (all_prints events saids) turns h.printed)
