use Rattle.std.proofs.Common.{◌++◌, map, sym, ap, ◌∙◌, append-nil}
use Rattle.sync_round.specs.Round.{open_parts}
use Rattle.sync_round.proofs.Counting.{open_of, open_shown}
use Rattle.sync_round.proofs.round.Round.open_parts.Goals as goal

pub returns-clause-nodes : goal.returns-clause-nodes
returns-clause-nodes c target parts own told r =
    let waited = map (λ part. (part.0, part.1.items)) c.loop-p.open.items in
    sym (append-nil waited)
    ∙ ap (λ es. waited ++ open_of es) (sym c.in-None.ensures.steps.0)
    ∙ c.loop-p.invariant
    ∙ ap open_of c.into_iter-p-iterator.ensures.into_iter_gives.0
    ∙ open_shown own told c.args.self.now.parts.entries r.marks
    ∙ ap (λ ps. open_parts ps own told) r.parts_of
