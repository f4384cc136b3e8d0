-- Runs of a schedule: their turns can be heard, say what is in its ranges, and their texts can be read.
use Rattle.std.proofs.Common.{◌≡◌, ◌≤◌, ◌<◌, ◌^◌, ℕ, suc, List, [], ◌∷◌, length, refl, sym, ap, subst, ◌∙◌, arith}
use Rattle.std.specs.List.{AllByRecursion}
use Rattle.layout_roles.specs.declared.layout.Layout.{Layout}
use Rattle.crdt_rows.specs.declared.any_row.AnyRow.{AnyRow}
use Rattle.crdt_rows.specs.AnyRow.{any_join}
use Rattle.object_schema.specs.Schema.{words}
use Rattle.cluster_machine.specs.World.{empty}
use Rattle.cluster_machine.specs.Worlds.{IsSound}
use Rattle.machine_limits.proofs.Moves.{StaysSound}
use Rattle.object_origins.proofs.Shown.{Facts}
use Rattle.store_model.specs.declared.event.Numbered.{Numbered}
use Rattle.store_model.specs.Run.{start}
use Rattle.store_model.specs.Events.{Turn, events_of}
use Rattle.text_model.specs.Grammar.{IsAllowed, lines_of}
use Rattle.text_model.specs.Reading.{IsSchedule}
use Rattle.text_model.specs.Transcript.{transcript}
use Rattle.text_model.specs.Played.{AreAllowed, AreScheduled}
use Rattle.audit_model.specs.Lines.{IsInRange}
use Rattle.audit_model.specs.Heard.{AscendFrom, AreReadable}
use Rattle.audit_laws.specs.Told.{TurnsCanBeHeard}
use Rattle.audit_runs.specs.Whole.{AreNumbered}
use Rattle.audit_runs.proofs.Cuts.{same_events}
use Rattle.audit_accounts.specs.Saying.{TellKeyed, TellOrderly, transcript_says}
use Rattle.audit_accounts.specs.Runs.{AreOfSchedule, history_told}
use Rattle.audit_runs.proofs.Staging.{IsFound, all_found}
use Rattle.audit_accounts.proofs.Hearing.{SheetsAreQuiet}
use Rattle.audit_accounts.proofs.Turns.{AreTold, turns_heard, start_known}
use Rattle.audit_accounts.proofs.Steps.{first_here}
use Rattle.audit_accounts.proofs.Numbers.{turns_told}
use Rattle.audit_accounts.proofs.Saids.{SheetsAreInRange, transcript_in_range}
use Rattle.audit_accounts.proofs.Spelled.{SheetsAreSpelled, transcript_spelled}
use Rattle.audit_accounts.proofs.Readable.{can_be_read}

-- ---- what is known of schedules

abbrev pub Ascends : Type 0
Ascends = (input : List ℕ) (events : List Numbered) → IsSchedule input events → AscendFrom 0 events

abbrev pub Numbers : Type 0
Numbers = (input : List ℕ) (events : List Numbered) → IsSchedule input events → length input < 2 ^ 64 → AreNumbered events

abbrev pub Limits : Type 0
Limits = (input : List ℕ) (events : List Numbered) → IsSchedule input events → AreScheduled events

allowed_of : (ts : List Turn) → AllByRecursion (λ (e : Numbered). IsAllowed e.event) (events_of ts) → AreAllowed ts
allowed_of [] h = tt
allowed_of (t ∷ ts) h = (h.0, allowed_of ts h.1)

as_many : (ts : List Turn) → length (events_of ts) ≡ length ts
as_many [] = refl
as_many (t ∷ ts) = ap suc (as_many ts)

-- the words of a schedule's events are in their ranges
pub allowed_so : (input : List ℕ) (events : List Numbered) (turns : List Turn) → IsSchedule input events → events_of turns ≡ events → Limits → AreAllowed turns
allowed_so input events turns is same limits = allowed_of turns (subst (AllByRecursion (λ (e : Numbered). IsAllowed e.event)) (sym same) (limits input events is).allowed)

module _ (input : List ℕ) (events : List Numbered) (turns others : List Turn) (of : AreOfSchedule input events turns others) where
  other_events : events_of others ≡ events
  other_events = sym (same_events turns others of.differ) ∙ of.events_are

  -- the turns can be heard, and tell what they may
  pub heard_so : Ascends → IsSound (empty {R = AnyRow} {L = Layout}) → StaysSound any_join words → TurnsCanBeHeard events [] start turns × AreTold start turns
  heard_so ascend sound stays =
      turns_heard stays events [] start turns others of.differ (subst (AllByRecursion (IsFound events)) (sym of.events_are) (all_found 0 events (ascend input events of.schedule))) of.played.lawful (start_known sound)

  pub allowed_turns : Limits → AreAllowed turns
  allowed_turns limits = allowed_so input events turns of.schedule of.events_are limits

  pub allowed_others : Limits → AreAllowed others
  allowed_others limits = allowed_so input events others of.schedule other_events limits

  few_turns : Limits → length turns ≤ 100000
  few_turns limits = let few = (limits input events of.schedule).few in let same = as_many turns in let is = ap length of.events_are in omega arith

  few_others : Limits → length others ≤ 100000
  few_others limits = let few = (limits input events of.schedule).few in let same = as_many others in let is = ap length other_events in omega arith

  -- all that their text says is in its ranges
  pub in_range_so : Limits → Numbers → IsSound (empty {R = AnyRow} {L = Layout}) → StaysSound any_join words → Facts → SheetsAreInRange → TellKeyed start turns → TellOrderly start turns → AllByRecursion IsInRange (transcript_says turns)
  in_range_so limits numbers sound stays facts sheets keyed orderly =
      let few = few_others limits in
      let told = turns_told facts stays 0 start turns others of.differ of.played.lawful of.played.go_on (allowed_others limits) (omega arith) (first_here sound) keyed in
      transcript_in_range facts sheets turns (few_turns limits) (subst AreNumbered (sym of.events_are) (numbers input events of.schedule of.short)) told.0 orderly told.1

-- so the text can be read, and gives the history
pub read_so : SheetsAreQuiet → SheetsAreSpelled → (events : List Numbered) (turns : List Turn) → TurnsCanBeHeard events [] start turns → AreTold start turns → TellOrderly start turns → AllByRecursion IsInRange (transcript_says turns) →
    AreReadable events (lines_of (transcript turns)) (transcript_says turns) (history_told turns)
read_so quiet spelled events turns heard told orderly ranges = can_be_read quiet events turns heard (transcript_spelled spelled turns told orderly) ranges
