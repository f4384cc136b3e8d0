use Rattle.layout_flow.proofs.Whole.{duality}
use Rattle.layout_flow.proofs.laws.light_cuts.Goals as goal

pub returns : goal.returns
returns c = λ roles r size side ascend low high cut light. duality roles r size low high ascend side cut light
