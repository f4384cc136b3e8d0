use Rattle.std.proofs.Common.{[], map, refl, subst}
use Rattle.node_parts.specs.Walks.{AreWalks, walk_of}
use Rattle.node_parts.proofs.PlacedWalks.{none_renewed}
use Rattle.node_parts.proofs.rounds.Mending.new.Goals as goal

pub returns-clause-is : goal.returns-clause-is
returns-clause-is c = record {
  number = refl;
  walks = subst (AreWalks c.begin.new.self) (none_renewed (map walk_of c.args.begun.items)) (c.in_ok-begin.ensures.begins [] c.new-walks.ensures);
}
