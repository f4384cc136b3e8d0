use Rattle.std.proofs.Common.{◌≡◌, drop, []}
use Rattle.toml.specs.View.{items_view}
use Rattle.layout_text.specs.Values.{buckets_of}
use Rattle.layout_text.proofs.read.names_of.Given as goal

abbrev pub invariant-loop-value : goal.invariant-loop-value
invariant-loop-value l = buckets_of l.names (items_view (drop l.value-index l.values)) ≡ buckets_of [] (items_view l.values)
