use Rattle.std.proofs.Common.{◌≡◌, map}
use Rattle.std.specs.List.{range_with_len}
use Rattle.layout_command.specs.Moves.{partition_words}
use Rattle.layout_command.proofs.potentials.all_words.Given as goal

abbrev pub invariant-loop-partition : goal.invariant-loop-partition
invariant-loop-partition l = l.all ≡ map (partition_words l.entries) (range_with_len 0 l.partition)
