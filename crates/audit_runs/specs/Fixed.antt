-- Runs whose layouts are all printed, of what is staged.
use Rattle.std.specs.Prelude.{◌≡◌, true, false, ⊤, Option, Some, None, List, [], ◌∷◌}
use Rattle.cluster_machine.specs.Worlds.{comes_to_layout}
use Rattle.store_model.specs.declared.event.Event.{Event}
use Rattle.store_model.specs.declared.event.Event.TheVariants.{Apply}
use Rattle.store_model.specs.Run.{State}
use Rattle.store_model.specs.Events.{Turn, after}
use Rattle.audit_model.specs.Printed.{Print, print_at}
use Rattle.audit_model.specs.Audit.{staged_in}

-- an apply that comes to a layout has one printed, of what is staged
abbrev pub HasPrint : State → Event → Option Print → Type 0
HasPrint s (Apply n) None = comes_to_layout s.world n ≡ false
HasPrint s (Apply n) (Some p) = comes_to_layout s.world n ≡ true → p.staged ≡ staged_in s
HasPrint s event print = ⊤

-- so is each of these turns
abbrev pub HavePrints : List Print → State → List Turn → Type 0
HavePrints ps s [] = ⊤
HavePrints ps s (t ∷ ts) = HasPrint s t.numbered.event (print_at ps t.numbered.line) × HavePrints ps (after s t) ts
