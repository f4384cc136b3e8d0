use Rattle.std.proofs.Common.{◌≡◌, map, take}
use Rattle.cluster_machine.specs.Layouts.{set_of, layouts}
use Rattle.node_parts.proofs.sets.stored_sets.Given as goal

-- the sets of the layouts so far
abbrev pub invariant-loop-layout : goal.invariant-loop-layout
invariant-loop-layout l = l.sets.items ≡ map (λ x. set_of layouts x l.p) (take l.layout-index l.layout-items)
