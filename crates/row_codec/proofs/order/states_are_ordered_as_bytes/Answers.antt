use Rattle.row_codec.proofs.StateOrder.{states_ordered}
use Rattle.row_codec.proofs.order.states_are_ordered_as_bytes.Goals as goal

pub returns : goal.returns
returns c = λ a b f p g q. states_ordered a b f p g q
