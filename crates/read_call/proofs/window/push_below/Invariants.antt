use Rattle.std.proofs.Common.{◌≡◌, ◌-◌, ◌≤◌, ℕ, List, ◌∷◌, ◌++◌, drop, length}
use Rattle.crdt_core.specs.Entries.{merged}
use Rattle.quorum_model.specs.Window.{key_cmp, keyed, rows_within}
use Rattle.read_call.proofs.window.push_below.Given as goal

abbrev pub invariant-loop-count : goal.invariant-loop-count
invariant-loop-count g l = record {
  within : l.count ≤ length l.first;
  below : (y : g.row.S-Row.Denot) (ys : List (List ℕ × g.row.S-Row.Denot)) →
      l.rows.items ++ rows_within l.end (merged key_cmp g.S.Row.Crdt.join (keyed g.S.Schema.words (drop l.count l.first)) ((l.key, y) ∷ ys))
      ≡ l.initial.rows.items ++ rows_within l.end (merged key_cmp g.S.Row.Crdt.join (keyed g.S.Schema.words (drop l.start l.first)) ((l.key, y) ∷ ys));
}

abbrev pub decreases-loop-count : goal.decreases-loop-count
decreases-loop-count g l = length l.first - l.count
