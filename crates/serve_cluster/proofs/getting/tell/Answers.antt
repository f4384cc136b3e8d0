use Rattle.std.proofs.Common.{ap, sym, ◌∙◌, Some, None}
use Rattle.serve_cluster.proofs.Giving.{found_as, tells_end, tells_found, tells_nothing}
use Rattle.serve_cluster.proofs.getting.tell.Goals as goal

pub returns-then-has_object-clause-hands : goal.returns-then-has_object-clause-hands
returns-then-has_object-clause-hands c = tells_end c.args.world.now c.args.getting.now c.requires c.has_object.result c.has_object.ensures c.if-has_object.true

pub returns-in_ok-meta-in-Some-clause-hands : goal.returns-in_ok-meta-in-Some-clause-hands
returns-in_ok-meta-in-Some-clause-hands c =
    tells_found c.args.world.now c.args.getting.now c.requires c.in-Some.version c.in_ok-meta-in-Some.meta (λ t stands.
    found_as _ c.found.result _ _ (c.found.ensures t stands) c.in-Some.is ∙ ap (λ meta. Some (c.in-Some.version, meta)) (sym c.in_ok-meta-in-Some.ensures.same))

pub returns-in-None-clause-hands : goal.returns-in-None-clause-hands
returns-in-None-clause-hands c =
    tells_nothing c.args.world.now c.args.getting.now c.requires (λ t stands. found_as _ c.found.result None _ (c.found.ensures t stands) c.in-None.is)
