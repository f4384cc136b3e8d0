use Rattle.layout_command.proofs.Stated.{answer_status}
use Rattle.layout_command.proofs.laws.one_status.Goals as goal

pub returns : goal.returns
returns c = answer_status c.smaller_sizes.ensures
