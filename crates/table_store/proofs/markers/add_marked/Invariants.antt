use Rattle.std.proofs.Common.{◌≡◌, ℕ, List}
use Rattle.std.specs.Prelude.{◌||◌, ◌&&◌}
use Rattle.table_store.specs.Index.{has_key}
use Rattle.table_store.specs.Markers.{is_marked_at}
use Rattle.table_store.proofs.Marked.{noted_in}
use Rattle.table_store.proofs.markers.add_marked.Given as goal

abbrev pub invariant-loop-noted : goal.invariant-loop-noted
invariant-loop-noted g l =
    (other : List ℕ) → (has_key other l.keys.keys || (noted_in other l.noted-iterator && is_marked_at g.S.Schema.words l.limit l.shelf.rows.entries other))
    ≡ (has_key other l.fn.keys.keys || (noted_in other l.initial.noted-iterator && is_marked_at g.S.Schema.words l.limit l.shelf.rows.entries other))
