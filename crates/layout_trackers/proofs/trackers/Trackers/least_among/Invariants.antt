use Rattle.std.proofs.Common.{◌≡◌, map, Some, take}
use Rattle.std.specs.List.{fold}
use Rattle.layout_trackers.specs.Trackers.{counts}
use Rattle.layout_trackers.specs.Least.{lesser}
use Rattle.layout_trackers.proofs.trackers.Trackers.least_among.Given as goal

-- the least so far
abbrev pub invariant-loop-node : goal.invariant-loop-node
invariant-loop-node l = Some l.least ≡ fold lesser (Some l.initial.least) (map (counts l.missing l.which l.self) (take l.node-index l.others))
