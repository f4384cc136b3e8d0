-- What it says that all is well with a transcript.
use Rattle.std.specs.Prelude.{◌≡◌, ℕ, List}
use Rattle.history_model.specs.declared.record.Record.{Record}
use Rattle.history_model.specs.Fresh.{Fresh}
use Rattle.history_model.specs.Pairs.{pair_count}
use Rattle.store_model.specs.declared.event.Numbered.{Numbered}
use Rattle.store_model.specs.Events.{Turn}
use Rattle.text_model.specs.Grammar.{lines_of}
use Rattle.text_model.specs.Transcript.{transcript}
use Rattle.audit_model.specs.declared.said.Said.{Said}
use Rattle.audit_model.specs.Heard.{AreReadable}
use Rattle.audit_model.specs.Printed.{all_prints}
use Rattle.audit_model.specs.Audit.{ArePrinted}
use Rattle.audit_runs.specs.Kept.{IsKeptBeside}

-- the text is the transcript of turns of these events that are given the layouts which it prints, the account that its lines give is fresh, with so many pairs to look at, and what is promised of a replay holds beside them
pub record IsAudited (events : List Numbered) (text : List ℕ) (pairs : ℕ) : Type 0 where
  pub saids : List Said
  pub history : List Record
  pub turns : List Turn
  pub readable : AreReadable events (lines_of text) saids history
  pub fresh : Fresh history
  pub pairs_are : pairs ≡ pair_count history
  pub printed : ArePrinted events (all_prints events saids) turns
  pub same_lines : lines_of text ≡ lines_of (transcript turns)
  pub kept : IsKeptBeside turns
