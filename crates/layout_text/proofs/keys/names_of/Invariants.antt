use Rattle.std.proofs.Common.{◌≡◌, drop, []}
use Rattle.toml.specs.View.{items_view}
use Rattle.layout_text.specs.Keys.{listed_of}
use Rattle.layout_text.proofs.keys.names_of.Given as goal

abbrev pub invariant-loop-value : goal.invariant-loop-value
invariant-loop-value l = listed_of l.buckets l.names (items_view (drop l.value-index l.values)) ≡ listed_of l.buckets [] (items_view l.values)
