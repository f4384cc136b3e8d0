-- Which lines a printed layout follows on, and with which line it begins.
use Rattle.std.specs.Prelude.{ℕ, cond, ◌&&◌, Bool, true, false, Option, Some, None, List, ◌∷◌}
use Rattle.cluster_machine.specs.declared.step.Words.TheVariants.{One}
use Rattle.store_model.specs.declared.event.Event.{Event}
use Rattle.store_model.specs.declared.event.Event.TheVariants.{Apply}
use Rattle.audit_model.specs.declared.said.Told.{Told}
use Rattle.audit_model.specs.declared.said.Told.TheVariants.{Accepted}
use Rattle.audit_model.specs.declared.said.Said.{Said}
use Rattle.audit_model.specs.declared.said.Said.TheVariants.{Size}

-- the event computes a layout
abbrev pub is_apply : Event → Bool
is_apply (Apply n) = true
is_apply other = false

-- it was accepted, with one number
abbrev pub gives_one : Told → Bool
gives_one (Accepted (One n)) = true
gives_one other = false

-- the size, where the first of these lines tells one
abbrev pub size_first : List Said → Option ℕ
size_first (Size size ∷ saids) = Some size
size_first other = None

-- the size of the layout that follows on an event of which this is told
abbrev pub size_after : Event → Told → List Said → Option ℕ
size_after e told saids = cond (is_apply e && gives_one told) (size_first saids) None
