use Rattle.std.proofs.Common.{◌≡◌, [], ◌∷◌, map, drop}
use Rattle.sync_round.specs.Round.{ordered_after, by_partition}
use Rattle.sync_round.proofs.Ordering.{shown, AllRight}
use Rattle.sync_round.proofs.round.Round.new.Given as goal

abbrev pub invariant-loop-p : goal.invariant-loop-p
invariant-loop-p l =
    record {
      parts : ordered_after (map shown l.marked.entries) (drop l.p-index l.p-items) ≡ by_partition l.p-items;
      marks : AllRight (l.own ∷ []) l.marked.entries;
    }
