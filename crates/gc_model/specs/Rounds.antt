-- Which nodes have confirmed a round, what each gave, and where answers lead.
use Rattle.std.specs.Prelude.{ℕ, ◌==◌, Bool, true, false, not, List, Option, Some, None, option_map}
use Rattle.std.specs.List.{find}
use Rattle.gc_model.specs.declared.collection.GcEnd.{GcEnd}
use Rattle.gc_model.specs.declared.collection.GcEnd.TheVariants.{Wait, Closed, Complete}

-- the newest layout version that the node gave first
abbrev pub given : ℕ → List (ℕ × ℕ) → Option ℕ
given node answers = option_map (λ a. a.1) (find (λ a. a.0 == node) answers)

-- what the node gave first isn't this one
abbrev pub is_changed : Option ℕ → ℕ → Bool
is_changed None newest = true
is_changed (Some first) newest = not (first == newest)

-- the collection is closed
abbrev pub is_closed : GcEnd → Bool
is_closed Wait = false
is_closed Closed = true
is_closed Complete = false
