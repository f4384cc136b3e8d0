-- What an audit of a transcript finds.
use Rattle.std.specs.Prelude.{◌≡◌, ◌<◌, ◌≤◌, ℕ, suc, cond, ⊤, Option, Some, None, List, [], ◌∷◌, ◌++◌, length, slice_get}
use Rattle.std.specs.List.{AllByRecursion}
use Rattle.history_model.specs.declared.record.Record.{Record}
use Rattle.history_model.specs.Fresh.{Fresh}
use Rattle.history_model.specs.Pairs.{pair_count}
use Rattle.stale_model.specs.Stale.{IsFirstStale}
use Rattle.cluster_machine.specs.Choices.{Decision, IsNone}
use Rattle.cluster_machine.specs.Step.{given, none_given}
use Rattle.cluster_machine.specs.Worlds.{newest_at, comes_to_layout}
use Rattle.store_model.specs.declared.event.Event.{Event}
use Rattle.store_model.specs.declared.event.Event.TheVariants.{Apply}
use Rattle.store_model.specs.declared.event.Numbered.{Numbered}
use Rattle.store_model.specs.Run.{State, start}
use Rattle.store_model.specs.Acts.{IsLawfulAct}
use Rattle.store_model.specs.Events.{Turn, act_of_turn, after, events_of, run}
use Rattle.text_model.specs.Grammar.{lines_of}
use Rattle.text_model.specs.Transcript.{turns_text, transcript}
use Rattle.text_model.specs.Played.{sent_limit, Step, steps_of, HasSent, GoesOn, AllGoOn}
use Rattle.audit_model.specs.declared.said.Said.{Said}
use Rattle.audit_model.specs.Heard.{AreReadable, IsUnreadable}
use Rattle.audit_model.specs.Printed.{Staged, Print, all_prints, IsLawfulPrint, IsUnlawful, print_at, IsOfPrint}

-- ---- the run

-- what is staged in a state
abbrev pub staged_in : State → Staged
staged_in s = record { roles = s.world.roles; wanted = s.world.redundancy }

-- an apply in which a layout is computed is given the printed one, and another event nothing
abbrev pub IsOfPrinted : State → Event → Decision → Print → Type 0
IsOfPrinted s (Apply n) (given l shown) p = cond (comes_to_layout s.world n) (IsOfPrint s.world.roles s.world.redundancy (suc (newest_at s.world n)) p.printed l shown) ⊥
IsOfPrinted s (Apply n) (none_given refusal) p = cond (comes_to_layout s.world n) ⊥ ⊤
IsOfPrinted s event choice p = IsNone choice

-- an apply for which this layout is printed is given it, where it is of what is staged; else what is computed from the staged roles
pub data IsGivenFor (s : State) (t : Turn) (p : Print) : Type 0 where
  as_printed : p.staged ≡ staged_in s → IsOfPrinted s t.numbered.event t.choice p → IsGivenFor s t p
  as_computed : (p.staged ≡ staged_in s → ⊥) → IsLawfulAct s (act_of_turn t) → IsGivenFor s t p

-- an event is given what the transcript prints for it; where it prints nothing, what is computed
abbrev pub IsGiven : State → Turn → Option Print → Type 0
IsGiven s t None = IsLawfulAct s (act_of_turn t)
IsGiven s t (Some p) = IsGivenFor s t p

-- each of these events is given so
abbrev pub AreGiven : List Print → State → List Turn → Type 0
AreGiven ps s [] = ⊤
AreGiven ps s (t ∷ ts) = IsGiven s t (print_at ps t.numbered.line) × AreGiven ps (after s t) ts

-- turns of the events, given the printed layouts, after each step of which a replay goes on
pub record ArePrinted (events : List Numbered) (ps : List Print) (turns : List Turn) : Type 0 where
  pub events_are : events_of turns ≡ events
  pub given : AreGiven ps start turns
  pub go_on : AllGoOn start turns

-- these turns are the first of the events, given the printed layouts, and after each of their steps a replay goes on
pub record AreFirstPrinted (events : List Numbered) (ps : List Print) (turns : List Turn) : Type 0 where
  pub given : AreGiven ps start turns
  pub go_on : AllGoOn start turns
  pub later : List Numbered
  pub whole : events ≡ events_of turns ++ later

-- these turns of the events are whole, and in the next one the first step after which a replay doesn't go on has sent too much
pub record IsCutOff (events : List Numbered) (ps : List Print) (before : List Turn) : Type 0 where
  pub given : AreGiven ps start before
  pub go_on : AllGoOn start before
  pub next : Turn
  pub later : List Numbered
  pub whole : events ≡ events_of before ++ next.numbered ∷ later
  pub next_given : IsGiven (run start before) next (print_at ps next.numbered.line)
  pub first : List Step
  pub last : Step
  pub rest : List Step
  pub steps : steps_of (run start before) next.numbered.event next.choice ≡ first ++ last ∷ rest
  pub first_go_on : AllByRecursion GoesOn first
  pub bytes : ℕ
  pub sent : HasSent last.outcome.state bytes
  pub beyond : sent_limit < bytes

-- the two texts differ first in line k
pub record DifferFirst (a b : List (List ℕ)) (k : ℕ) : Type 0 where
  pub before : List (List ℕ)
  pub rest_a : List (List ℕ)
  pub rest_b : List (List ℕ)
  pub a_is : a ≡ before ++ rest_a
  pub b_is : b ≡ before ++ rest_b
  pub differ : slice_get rest_a 0 ≡ slice_get rest_b 0 → ⊥
  pub place : k ≡ suc (length before)

-- ---- what is found

-- what an audit can find
pub data Finding : Type 0 where
  unreadable : ℕ → Finding
  stale : ℕ → Finding
  unlawful : ℕ → Finding
  differs : ℕ → Finding
  too_much : Finding
  ok : ℕ → Finding

-- what is found first of this transcript of these events; where it isn't told by the transcript alone, the run is one given the layouts that it prints
pub data Finds (events : List Numbered) (text : List ℕ) : Finding → Type 0 where
  not_read : (k : ℕ) → IsUnreadable events (lines_of text) k → Finds events text (unreadable k)
  not_fresh : (saids : List Said) (h : List Record) (q : ℕ) → AreReadable events (lines_of text) saids h → IsFirstStale h q → Finds events text (stale q)
  not_lawful : (saids : List Said) (h : List Record) (k : ℕ) → AreReadable events (lines_of text) saids h → Fresh h → IsUnlawful (all_prints events saids) k → Finds events text (unlawful k)
  other_text : (saids : List Said) (h : List Record) (turns : List Turn) (k : ℕ) → AreReadable events (lines_of text) saids h → Fresh h → AllByRecursion IsLawfulPrint (all_prints events saids) →
      ArePrinted events (all_prints events saids) turns → DifferFirst (lines_of text) (lines_of (transcript turns)) k → Finds events text (differs k)
  other_before : (saids : List Said) (h : List Record) (turns : List Turn) (k : ℕ) → AreReadable events (lines_of text) saids h → Fresh h → AllByRecursion IsLawfulPrint (all_prints events saids) →
      AreFirstPrinted events (all_prints events saids) turns → DifferFirst (lines_of text) (lines_of (turns_text start turns)) k → k ≤ length (lines_of (turns_text start turns)) → Finds events text (differs k)
  past_limit : (saids : List Said) (h : List Record) (before : List Turn) (more : List (List ℕ)) → AreReadable events (lines_of text) saids h → Fresh h → AllByRecursion IsLawfulPrint (all_prints events saids) →
      IsCutOff events (all_prints events saids) before → lines_of text ≡ lines_of (turns_text start before) ++ more → Finds events text too_much
  all_well : (saids : List Said) (h : List Record) (turns : List Turn) → AreReadable events (lines_of text) saids h → Fresh h → AllByRecursion IsLawfulPrint (all_prints events saids) →
      ArePrinted events (all_prints events saids) turns → lines_of text ≡ lines_of (transcript turns) → Finds events text (ok (pair_count h))
