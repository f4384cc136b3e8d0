use Rattle.std.proofs.Common.{◌≡◌, map}
use Rattle.std.specs.List.{range_with_len}
use Rattle.layout_roles.specs.Text.{side_words}
use Rattle.layout_text.proofs.cut.all_words.Given as goal

abbrev pub invariant-loop-partition : goal.invariant-loop-partition
invariant-loop-partition l = l.all ≡ map (side_words l.names l.side) (range_with_len 0 l.partition)
