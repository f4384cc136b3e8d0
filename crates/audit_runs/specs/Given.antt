-- Turns of a schedule that are given the layouts which lines print, each lawful.
use Rattle.std.specs.Prelude.{List}
use Rattle.std.specs.List.{AllByRecursion}
use Rattle.store_model.specs.declared.event.Numbered.{Numbered}
use Rattle.store_model.specs.Events.{Turn}
use Rattle.text_model.specs.Played.{AreScheduled}
use Rattle.audit_model.specs.declared.said.Said.{Said}
use Rattle.audit_model.specs.Printed.{all_prints, IsLawfulPrint}
use Rattle.audit_model.specs.Audit.{ArePrinted}

-- turns of these events are given the layouts that lines print, each of which is lawful for what the lines say was staged
pub record AreRightlyGiven (events : List Numbered) (saids : List Said) (turns : List Turn) : Type 0 where
  pub scheduled : AreScheduled events
  pub lawful : AllByRecursion IsLawfulPrint (all_prints events saids)
  pub printed : ArePrinted events (all_prints events saids) turns
