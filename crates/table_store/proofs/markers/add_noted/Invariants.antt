use Rattle.std.proofs.Common.{◌≡◌, ℕ, List}
use Rattle.std.specs.Prelude.{◌||◌, ◌&&◌}
use Rattle.table_store.specs.Index.{has_key}
use Rattle.table_store.specs.Markers.{is_marked_at}
use Rattle.table_store.proofs.markers.add_noted.Given as goal

abbrev pub invariant-loop-key : goal.invariant-loop-key
invariant-loop-key g l =
    (other : List ℕ) → (has_key other l.keys.keys || (has_key other l.key-iterator && is_marked_at g.S.Schema.words l.limit l.shelf.rows.entries other))
    ≡ (has_key other l.fn.keys.keys || (has_key other l.initial.key-iterator && is_marked_at g.S.Schema.words l.limit l.shelf.rows.entries other))
