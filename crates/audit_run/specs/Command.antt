-- What Done of an audit says, and all that is said of the command.
use Rattle.std.specs.Prelude.{◌≡◌, ◌⊎◌, ◌<◌, ◌^◌, ℕ, List, length, Option, IfSome}
use Rattle.std.specs.List.{AllByRecursion}
use Rattle.lab_outside.specs.declared.ports.Source as source
use Rattle.lab_outside.specs.declared.ports.Sink as sink
use Rattle.lab_outside.specs.declared.exit.Status.{Status}
use Rattle.lab_outside.specs.declared.exit.Status.TheVariants.{Done, Memory}
use Rattle.lab_outside.specs.Rose.{Rose}
use Rattle.lab_outside.specs.Bytes.{Wrote}
use Rattle.lab_main.specs.Input.{OrTooLong, OfInput}
use Rattle.lab_main.specs.Edges.{IsUnlinked, Edges, IsAnswered}
use Rattle.history_model.specs.declared.record.Record.{Record}
use Rattle.history_model.specs.Fresh.{Fresh}
use Rattle.store_model.specs.declared.event.Numbered.{Numbered}
use Rattle.store_model.specs.Run.{start}
use Rattle.store_model.specs.Events.{Turn, acts_of, run}
use Rattle.store_model.specs.Fresh.{NoClash}
use Rattle.store_anchors.specs.Promises.{WalksAreClear}
use Rattle.text_model.specs.Grammar.{lines_of}
use Rattle.text_model.specs.Reading.{IsSchedule}
use Rattle.text_model.specs.Transcript.{transcript}
use Rattle.text_model.specs.Played.{ArePlayed}
use Rattle.prompt_laws.specs.Times.{CollectsInTime}
use Rattle.audit_model.specs.declared.said.Said.{Said}
use Rattle.audit_model.specs.Heard.{AreReadable}
use Rattle.audit_model.specs.Printed.{all_prints, IsLawfulPrint}
use Rattle.audit_model.specs.Audit.{ok, ArePrinted}
use Rattle.audit_runs.specs.Alike.{DifferInCuts}
use Rattle.audit_runs.specs.Audited.{IsAudited}
use Rattle.audit_run.specs.Parts.{IsCut}
use Rattle.audit_run.specs.Answer.{finding_line, IsAnswer}

-- the input is a schedule and the transcript of a run of it, given the lawful layouts that the transcript prints; its account is fresh, and what is promised of replays holds beside that run; and what was written says how many pairs there were to look at
pub record IsWell (input : List ℕ) (old new : Option (List ℕ)) : Type 0 where
  pub schedule : List ℕ
  pub transcript : List ℕ
  pub cut : IsCut input schedule transcript
  pub events : List Numbered
  pub spells : IsSchedule schedule events
  pub pairs : ℕ
  pub audited : IsAudited events transcript pairs
  pub wrote : Wrote old new (finding_line (ok pairs))

-- turns of a schedule that are given lawful layouts, whatever lines print them and with whatever cuts: their own transcript can be read; and the account that it gives is fresh where no digests clash in a replay beside them, and what it collects is collected in time
pub record OwnTextsAreFresh : Type 0 where
  pub readable : (schedule : List ℕ) (events : List Numbered) (saids : List Said) (turns : List Turn) → IsSchedule schedule events → length schedule < 2 ^ 64 → AllByRecursion IsLawfulPrint (all_prints events saids) →
      ArePrinted events (all_prints events saids) turns → (said : List Said) × ((h : List Record) × AreReadable events (lines_of (transcript turns)) said h)
  pub fresh : (schedule : List ℕ) (events : List Numbered) (saids : List Said) (turns others : List Turn) → IsSchedule schedule events → length schedule < 2 ^ 64 → AllByRecursion IsLawfulPrint (all_prints events saids) →
      ArePrinted events (all_prints events saids) turns → DifferInCuts turns others → ArePlayed others →
      WalksAreClear (acts_of others) → CollectsInTime (acts_of others) → NoClash (run start turns).buckets →
      (said : List Said) (h : List Record) → AreReadable events (lines_of (transcript turns)) said h → Fresh h

-- what an audit does: input and output are as is said of every command; Done says that all is well; no run's own transcript is found stale, but for digests that clash; and where no count of faults rose, the status and the line that are stated come, which are one, or memory was wanting
pub record Audits {I O : Type 0} (i : source.Ghosts I) (o : sink.Ghosts O) (result : Status) (input input' : I) (output output' : O) : Type 0 where
  pub edges : Edges i o (OfInput IsAnswer (i.left input)) result input input' output output'
  pub done : result ≡ Done → IfSome (i.left input) (λ bytes. IsWell bytes (o.written output) (o.written output'))
  pub own : OwnTextsAreFresh
  pub statuses : IsUnlinked result
  pub answered : IsAnswered i o (OfInput IsAnswer (i.left input)) result input input' output output'
  pub complete : IfSome (i.left input) (λ bytes. (is : Status) (text : List ℕ) → OrTooLong IsAnswer bytes is text →
      (Rose (i.faults input) (i.faults input') → ⊥) → (Rose (o.faults output) (o.faults output') → ⊥) → (result ≡ is) ⊎ (result ≡ Memory))
