use Rattle.flow_laws.proofs.Cut.{all}
use Rattle.flow_laws.proofs.pieces_are_the_body.Goals as goal

pub returns : goal.returns
returns c = all
