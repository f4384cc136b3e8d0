use Rattle.std.proofs.Common.{◌≡◌, None, map, take}
use Rattle.std.specs.List.{fold, flat_map}
use Rattle.layout_trackers.specs.Trackers.{counts}
use Rattle.layout_trackers.specs.Least.{lesser}
use Rattle.view_model.specs.Layouts.{reading}
use Rattle.layout_history.proofs.view.View.least_of.Given as goal

-- the least among the members of the layouts so far
abbrev pub invariant-loop-layout : goal.invariant-loop-layout
invariant-loop-layout l = l.least ≡ fold lesser None (map (counts l.missing l.which l.self.trackers) (flat_map reading.members (take l.layout-index l.layouts)))
