use Rattle.std.proofs.Common.{◌≡◌, ◌≤◌, ◌++◌, drop, length, reverse}
use Rattle.crdt_core.specs.Entries.{merged}
use Rattle.quorum_model.specs.Window.{key_cmp, keyed, rows_within}
use Rattle.read_call.proofs.window.both_rows.Given as goal

abbrev pub invariant-loop-row : goal.invariant-loop-row
invariant-loop-row g l = record {
  within : l.taken ≤ length l.first;
  rest : l.rows.items ++ rows_within l.end (merged key_cmp g.S.Row.Crdt.join (keyed g.S.Schema.words (drop l.taken l.first)) (keyed g.S.Schema.words (reverse l.waiting.items)))
      ≡ rows_within l.end (merged key_cmp g.S.Row.Crdt.join (keyed g.S.Schema.words l.first) (keyed g.S.Schema.words l.fn.second.items));
}

abbrev pub decreases-loop-row : goal.decreases-loop-row
decreases-loop-row g l = length l.waiting.items
