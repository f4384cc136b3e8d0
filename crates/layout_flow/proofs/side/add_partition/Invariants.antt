use Rattle.std.proofs.Common.{◌≡◌, ◌++◌, take, map}
use Rattle.layout_roles.specs.declared.vertex.Vertex.TheVariants.{Zone}
use Rattle.layout_flow.proofs.side.add_partition.Given as goal

abbrev pub invariant-loop-zone : goal.invariant-loop-zone
invariant-loop-zone l = l.side ≡ l.initial.side ++ map (Zone l.p) (take l.zone-index l.zones)
