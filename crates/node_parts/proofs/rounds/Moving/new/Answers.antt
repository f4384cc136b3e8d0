use Rattle.std.proofs.Common.{[], map, refl, sym, subst, append-nil}
use Rattle.node_parts.specs.Walks.{AreWalks, walk_of}
use Rattle.node_parts.proofs.Confirmations.{same_pairs}
use Rattle.node_parts.proofs.PlacedWalks.{none_renewed}
use Rattle.node_parts.proofs.rounds.Moving.new.Goals as goal

pub returns-clause-begins : goal.returns-clause-begins
returns-clause-begins c ascends =
    record {
      told = [];
      number = refl;
      round = rw (same_pairs c.args.parts.items) (c.in_ok-round.ensures.ascending ascends);
      confirmed = sym (append-nil _);
      walks = subst (AreWalks c.begin.new.self) (none_renewed (map walk_of c.args.begun.items)) (c.in_ok-begin.ensures.begins [] c.new-walks.ensures);
    }
