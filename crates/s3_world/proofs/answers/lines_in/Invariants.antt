use Rattle.std.proofs.Common.{◌≡◌, ◌++◌, drop}
use Rattle.store_model.specs.Answers.{lines_of, entries}
use Rattle.s3_world.proofs.answers.lines_in.Given as goal

abbrev pub invariant-loop-row : goal.invariant-loop-row
invariant-loop-row l = l.shown ++ lines_of (entries (drop l.row-index l.rows)) ≡ lines_of (entries l.fn.rows)
