use Rattle.std.proofs.Common.{◌≡◌, [], map, take}
use Rattle.std.specs.List.{AllByRecursion}
use Rattle.quorum_tally.specs.Marks.{nodes_of, IsRight}
use Rattle.quorum_tally.proofs.tally.Tally.new.Given as goal

abbrev pub invariant-loop-set : goal.invariant-loop-set
invariant-loop-set l =
    record {
      sets_of : map nodes_of l.slots.items ≡ take l.set-index l.sets;
      marks : AllByRecursion (IsRight []) l.slots.items;
    }
