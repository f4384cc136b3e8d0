use Rattle.std.proofs.Common.{◌≡◌, ◌++◌, drop}
use Rattle.quorum_model.specs.Window.{keyed, rows_within}
use Rattle.read_call.proofs.window.push_rest.Given as goal

abbrev pub invariant-loop-row : goal.invariant-loop-row
invariant-loop-row g l = l.rows.items ++ rows_within l.end (keyed g.S.Schema.words (drop l.row-index l.rest)) ≡ l.initial.rows.items ++ rows_within l.end (keyed g.S.Schema.words l.rest)
