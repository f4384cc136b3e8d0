use Rattle.std.proofs.Common.{◌∙◌}
use Rattle.std.proofs.lemmas.Result.{IfOk-weaker}
use Rattle.block_store.proofs.moments.take_within.Goals as goal

pub returns-clause-idle : goal.returns-clause-idle
returns-clause-idle c =
    IfOk-weaker c.listed.result _ _ (λ v is x are order. is ∙ c.in_ok-found.ensures.finds x are order) c.listed.ensures.listed
