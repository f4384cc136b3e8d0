use Rattle.std.proofs.Common.{◌≡◌, ◌++◌, map, length}
use Rattle.std.specs.List.{AllByRecursion}
use Rattle.layout_text.specs.Changes.{Coming, comings_of}
use Rattle.serve_cluster.specs.Changes.{AreWithin, IsComputed}
use Rattle.serve_run.specs.Plan.{coming_in}
use Rattle.serve_run.proofs.plan.planned.Given as goal

abbrev pub invariant-comings : goal.invariant-comings
invariant-comings l = record {
  same : map coming_in l.changes ++ comings_of l.comings ≡ comings_of l.fn.comings;
  computed : AllByRecursion IsComputed l.changes;
  within : AllByRecursion (λ (c : Coming). AreWithin c.roles) (comings_of l.comings);
}

abbrev pub decreases-comings : goal.decreases-comings
decreases-comings l = length l.comings
