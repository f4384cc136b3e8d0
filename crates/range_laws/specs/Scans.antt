-- What two nodes answer to one range phase, and which keys the window of their answers names.
use Rattle.std.specs.Prelude.{ℕ, List, ◌++◌}
use Rattle.table_schema.specs.Words.{Words}
use Rattle.table_model.specs.Rows.{rows, range}
use Rattle.quorum_model.specs.declared.range.RangeAnswer.{RangeAnswer}
use Rattle.quorum_model.specs.Window.{Window, window}

module _ {R : Type 0} (join : R → R → R) (s : Words R) (position prefix after : List ℕ) (limit : ℕ) where
  -- what a node with these contents answers: its first rows of the object table, and whether it has more
  abbrev pub answer : List R → RangeAnswer R
  answer contents =
      let found = range s 1 (position ++ prefix) (position ++ after) limit (rows join s contents) in
      record { rows = found.0; more = found.1 }

  -- the window of two nodes' answers
  abbrev pub window_between : List R → List R → Window R
  window_between a b = window join s (answer a, answer b)
