use Rattle.std.proofs.Common.{List, ◌++◌, ℕ, ap, sym, ◌∙◌, append-nil}
use Rattle.std.specs.Prelude.{reverse}
use Rattle.std.specs.declared.cmp.Reverse.{Reverse}
use Rattle.node_parts.proofs.OpenCalls.{numbers_of, requests_are}
use Rattle.node_parts.proofs.calls.Calls.lose_all.Goals as goal

pub returns-clause-lost : goal.returns-clause-lost
returns-clause-lost g c calls are =
    let lost = c.loop-number.lost.items in
    c.reverse.ensures.items
    ∙ ap reverse
    (sym (append-nil lost)
    ∙ ap (λ (keys : List (Reverse ℕ)). lost ++ numbers_of keys) (sym c.in-None.ensures.steps.0)
    ∙ c.loop-number.invariant
    ∙ ap numbers_of (c.into_iter-number-iterator.ensures.into_iter_gives ∙ c.keys-number-items.ensures.rest)
    ∙ requests_are c.args.self.now.by_number.entries calls are)
