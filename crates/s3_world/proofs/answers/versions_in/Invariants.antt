use Rattle.std.proofs.Common.{◌≡◌, ◌++◌, drop}
use Rattle.store_model.specs.Answers.{versions_of, entries}
use Rattle.s3_world.proofs.answers.versions_in.Given as goal

abbrev pub invariant-loop-row : goal.invariant-loop-row
invariant-loop-row l = l.shown ++ versions_of (entries (drop l.row-index l.rows)) ≡ versions_of (entries l.fn.rows)
