use Rattle.std.proofs.Common.{◌≡◌, drop, []}
use Rattle.toml.specs.View.{items_view}
use Rattle.layout_text.specs.Keys.{keys_of}
use Rattle.layout_text.proofs.keys.keys_of.Given as goal

abbrev pub invariant-loop-value : goal.invariant-loop-value
invariant-loop-value l = keys_of l.buckets l.keys (items_view (drop l.value-index l.values)) ≡ keys_of l.buckets [] (items_view l.values)
