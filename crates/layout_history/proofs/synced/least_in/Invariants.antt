use Rattle.std.proofs.Common.{◌≡◌, map, take}
use Rattle.std.specs.List.{fold}
use Rattle.layout_trackers.specs.Trackers.{counts}
use Rattle.layout_trackers.specs.Least.{lesser}
use Rattle.layout_history.proofs.synced.least_in.Given as goal

-- the least so far
abbrev pub invariant-loop-role : goal.invariant-loop-role
invariant-loop-role l = l.least ≡ fold lesser l.initial.least (map (counts l.missing l.which l.trackers) (map (λ role. role.node) (take l.role-index l.roles)))
