use Rattle.std.proofs.Common.{ℕ, ap, sym, ◌∙◌}
use Rattle.node_parts.proofs.OpenCalls.{least_of, least_taken, least_is}
use Rattle.node_parts.proofs.calls.Calls.least_start.Goals as goal

pub loop-call-preserved : goal.loop-call-preserved
loop-call-preserved g c =
    ap (λ (n : ℕ). least_of n c.next.new.self) c.min-least.ensures
    ∙ least_taken c.loop-call.least c.in-Some.call.now.start c.next.new.self
    ∙ ap (least_of c.loop-call.least) (sym c.in-Some.ensures.steps)
    ∙ c.loop-call.invariant

pub returns : goal.returns
returns g c calls are =
    ap (least_of c.loop-call.least) (sym c.in-None.ensures.steps.0)
    ∙ c.loop-call.invariant
    ∙ ap (least_of c.args.version) (c.into_iter-call-iterator.ensures.into_iter_gives ∙ c.values-call-items.ensures.rest)
    ∙ least_is c.args.version c.args.self.now.by_number.entries calls are
