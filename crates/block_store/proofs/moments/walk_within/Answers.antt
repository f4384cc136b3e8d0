use Rattle.std.proofs.Common.{◌++◌, sym, ap, ◌∙◌, append-nil}
use Rattle.std.specs.List.{filter}
use Rattle.block_store.specs.Moments.{is_within}
use Rattle.block_store.proofs.Showing.{idle_of, idle_shown}
use Rattle.block_store.proofs.moments.walk_within.Goals as goal

pub returns-clause-idle : goal.returns-clause-idle
returns-clause-idle c =
    let kept = filter (λ n. is_within c.args.limit n.1) in
    sym (append-nil c.loop-hash.idle.items)
    ∙ ap (λ r. c.loop-hash.idle.items ++ kept (idle_of r)) (sym c.in-None.ensures.steps.0)
    ∙ c.loop-hash.invariant
    ∙ ap (λ es. kept (idle_of es)) c.into_iter-hash-iterator.ensures.into_iter_gives.0
    ∙ ap kept (idle_shown c.args.shelf.now.entries c.into_iter-hash-iterator.ensures.into_iter_gives.5)
