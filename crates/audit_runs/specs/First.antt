-- Turns whose own lines come first in a schedule's transcript.
use Rattle.std.specs.Prelude.{◌≡◌, ◌<◌, ◌^◌, ℕ, suc, length, None, List, ◌∷◌, ◌++◌, codes, decimal}
use Rattle.std.specs.List.{AllByRecursion}
use Rattle.layout_roles.specs.Text.{word, number}
use Rattle.history_model.specs.declared.record.Record.{Record}
use Rattle.store_model.specs.declared.event.Numbered.{Numbered}
use Rattle.store_model.specs.Run.{start}
use Rattle.store_model.specs.Events.{Turn}
use Rattle.cluster_machine.specs.declared.step.Words.TheVariants.{One}
use Rattle.text_model.specs.Grammar.{lines_of, name_of}
use Rattle.text_model.specs.Reading.{IsSchedule}
use Rattle.text_model.specs.Transcript.{answer_text, turns_text}
use Rattle.audit_model.specs.declared.said.Said.{Said}
use Rattle.audit_model.specs.Heard.{AreReadable}
use Rattle.audit_model.specs.Printed.{Print, all_prints, IsLawfulPrint}
use Rattle.audit_model.specs.Audit.{AreFirstPrinted}

-- the first lines of a schedule's transcript, which can be read and prints lawful layouts alone, are those of these turns, the first of its events, given the layouts that it prints; and the schedule is shorter than 2^64 bytes
pub record AreToldFirst (input text : List ℕ) (events : List Numbered) (saids : List Said) (turns : List Turn) : Type 0 where
  pub schedule : IsSchedule input events
  pub short : length input < 2 ^ 64
  pub history : List Record
  pub readable : AreReadable events (lines_of text) saids history
  pub lawful : AllByRecursion IsLawfulPrint (all_prints events saids)
  pub first : AreFirstPrinted events (all_prints events saids) turns
  pub more : List (List ℕ)
  pub same_lines : lines_of text ≡ lines_of (turns_text start turns) ++ more

-- the layout is printed behind the line that comes next after those of these turns
abbrev pub IsPrintedNext : List Turn → Print → Type 0
IsPrintedNext turns p = p.place ≡ suc (suc (length (lines_of (turns_text start turns))))

-- the line that says that an event was accepted, with this number
abbrev pub ok_line : Numbered → ℕ → List ℕ
ok_line e n = decimal e.line ++ word (name_of e.event) ++ word (answer_text None (One n))

-- the first line of a layout
abbrev pub size_words : ℕ → List ℕ
size_words size = codes "size" ++ number size

-- these lines begin with those of an apply that came to a layout of this version and this size
pub record BeginsWithLayout (lines : List (List ℕ)) (e : Numbered) (version size : ℕ) : Type 0 where
  pub after : List (List ℕ)
  pub lines_are : lines ≡ ok_line e version ∷ size_words size ∷ after
