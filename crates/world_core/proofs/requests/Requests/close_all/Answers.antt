use Rattle.std.proofs.Common.{[], ◌∷◌, get_or, ap, ◌∙◌, arith}
use Rattle.cluster_machine.specs.Step.{shut}
use Rattle.world_core.proofs.Asked.{shut_more}
use Rattle.world_core.proofs.requests.Requests.close_all.Goals as goal

pub loop-number-preserved : goal.loop-number-preserved
loop-number-preserved c =
    let number = get_or c.args.numbers.now c.loop-number.number-index 0 in
    c.close.ensures ∙ ap (λ rs. shut rs (number ∷ [])) c.loop-number.invariant ∙ shut_more c.args.self.now c.args.numbers.now c.loop-number.number-index 0 (omega arith)
