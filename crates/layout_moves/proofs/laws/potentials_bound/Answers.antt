use Rattle.layout_moves.proofs.Weak.{at_most}
use Rattle.layout_moves.proofs.laws.potentials_bound.Goals as goal

pub returns : goal.returns
returns c = at_most
