use Rattle.std.proofs.Common.{◌≡◌, List, [], Some, drop}
use Rattle.toml.specs.Data.{Members}
use Rattle.toml.specs.View.{items_view}
use Rattle.layout_text.specs.Values.{tables_of}
use Rattle.layout_text.specs.Changes.{changes_of, comings_of}
use Rattle.layout_text.proofs.changes.changes_in_tables.Given as goal

abbrev pub invariant-loop-value : goal.invariant-loop-value
invariant-loop-value l = record {
  reading : (tables : List Members) → tables_of (items_view l.values) ≡ Some tables →
      (rest : List Members) × (tables_of (items_view (drop l.value-index l.values)) ≡ Some rest) × (changes_of l.greatest 0 [] tables ≡ changes_of l.greatest l.before (comings_of l.changes) rest);
}
