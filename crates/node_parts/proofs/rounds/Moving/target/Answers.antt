use Rattle.std.proofs.Common.{map}
use Rattle.node_parts.specs.Rounds.{pair_of}
use Rattle.node_parts.proofs.rounds.Moving.target.Goals as goal

pub returns : goal.returns
returns c node r is = c.target.ensures r.target (map pair_of r.parts) node is.told is.round
