use Rattle.layout_command.proofs.StatedMoves.{moves_status}
use Rattle.layout_command.proofs.laws.one_moves_status.Goals as goal

pub returns : goal.returns
returns c = moves_status c.smaller_sizes.ensures
