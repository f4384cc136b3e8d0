use Rattle.std.proofs.Common.{◌≡◌, drop, map}
use Rattle.object_schema.specs.Names.{name_cmp}
use Rattle.object_schema.specs.Sets.{keys_of}
use Rattle.object_schema.specs.Triggers.{with_values, in_order}
use Rattle.object_schema.proofs.version_triggers.hashes_of.Given as goal

abbrev pub invariant-loop-entry : goal.invariant-loop-entry
invariant-loop-entry l = with_values name_cmp (keys_of l.set) (map (λ e. record { 0 = e.1.0.hash }) (drop l.entry-index l.blocks)) ≡ in_order name_cmp (map (λ e. record { 0 = e.1.0.hash }) l.blocks)
