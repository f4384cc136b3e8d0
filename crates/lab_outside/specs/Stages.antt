-- A connection that has still to come has no faults.
use Rattle.std.specs.Prelude.{ℕ, Bool, true, ◌==◌}
use Rattle.lab_outside.specs.declared.piece_link.Stage.{Stage}
use Rattle.lab_outside.specs.declared.piece_link.Stage.TheVariants.{Coming, Present, Past}

-- one that has still to come has no faults
abbrev pub is_fresh_at : Stage → ℕ → Bool
is_fresh_at Coming faults = faults == 0
is_fresh_at Present faults = true
is_fresh_at Past faults = true
