use Rattle.std.proofs.Common.{sym, ap, subst, ◌∙◌}
use Rattle.std.specs.Map.{lookup}
use Rattle.blake2_hash.specs.Hash.{is_hash}
use Rattle.block_store.proofs.Within.{Finds, start, next, listed_so_far, listed_whole}
use Rattle.block_store.proofs.moments.find_within.Goals as goal

pub loop-moment-init : goal.loop-moment-init
loop-moment-init c x are =
    let gives = c.into_iter-moment-iterator.ensures.into_iter_gives in
    subst (λ ms. Finds c.args.limit x ms c.new-found.result) (sym gives.0)
    (start c.args.limit x c.args.moments.now c.new-found.result (λ q. ap (lookup (is_hash q)) c.new-found.ensures.empty) c.new-found.ensures.ordered gives.4 gives.5 are)

pub loop-moment-preserved : goal.loop-moment-preserved
loop-moment-preserved c x are =
    next c.args.limit x c.in-Some.moment.now _ c.loop-moment.found c.insert.new.self (sym c.is_within.ensures ∙ c.if-not-is_within.false) c.in_ok-insert.ensures.updates.0 c.insert.ensures.ordered
    (subst (λ ms. Finds c.args.limit x ms c.loop-moment.found) c.in-Some.ensures.steps (c.loop-moment.invariant x are))

pub returns-then-not-is_within-clause-finds : goal.returns-then-not-is_within-clause-finds
returns-then-not-is_within-clause-finds c x are order =
    listed_so_far c.args.limit x c.in-Some.moment.now _ c.loop-moment.found (sym c.is_within.ensures ∙ c.if-not-is_within.true) order
    (subst (λ ms. Finds c.args.limit x ms c.loop-moment.found) c.in-Some.ensures.steps (c.loop-moment.invariant x are))

pub returns-clause-finds : goal.returns-clause-finds
returns-clause-finds c x are order =
    listed_whole c.args.limit x c.loop-moment.found order (subst (λ ms. Finds c.args.limit x ms c.loop-moment.found) c.in-None.ensures.steps.0 (c.loop-moment.invariant x are))
