-- What is compared, and what is found of it.
use Rattle.std.specs.Prelude.{ℕ, List}
use Rattle.std.specs.List.{AllByRecursion}
use Rattle.history_model.specs.declared.record.Record.{Record}
use Rattle.history_model.specs.Pairs.{pair_count}
use Rattle.store_model.specs.declared.event.Numbered.{Numbered}
use Rattle.text_model.specs.Grammar.{lines_of}
use Rattle.text_model.specs.Played.{AreScheduled}
use Rattle.audit_model.specs.declared.said.Said.{Said}
use Rattle.audit_model.specs.Heard.{AreReadable}
use Rattle.audit_model.specs.Printed.{all_prints, IsLawfulPrint}
use Rattle.audit_model.specs.Audit.{Finding, differs, too_much, ok}
use Rattle.audit_prints.specs.declared.sheet.Sheet.{Sheet}
use Rattle.audit_prints.specs.Sheets.{AreSheetsOf}
use Rattle.audit_play.specs.declared.compared.Compared.{Compared}
use Rattle.audit_play.specs.declared.compared.Compared.TheVariants.{Same, Differs, TooMuch}
use Rattle.audit_play.specs.Parting.{IsWhole}

-- at most 100,000 events with words of a schedule; a text of whole lines that can be read: they say this, with this account; each layout that they print is lawful, and has a sheet
pub record AreCompared (events : List Numbered) (text : List ℕ) (saids : List Said) (h : List Record) (sheets : List Sheet) : Type 0 where
  pub scheduled : AreScheduled events
  pub whole : IsWhole text
  pub readable : AreReadable events (lines_of text) saids h
  pub lawful : AllByRecursion IsLawfulPrint (all_prints events saids)
  pub sheets_are : AreSheetsOf (all_prints events saids) sheets

-- so it is, whatever the lines say and whatever account they give
abbrev pub IsCompared : List Numbered → List ℕ → List Sheet → Type 0
IsCompared events text sheets = (saids : List Said) × ((h : List Record) × AreCompared events text saids h sheets)

-- what is found, where the account is fresh
abbrev pub finding_of : Compared → List Record → Finding
finding_of Same h = ok (pair_count h)
finding_of (Differs k) h = differs k
finding_of TooMuch h = too_much
