use Rattle.std.proofs.Common.{◌≡◌, take}
use Rattle.layout_command.specs.Moves.{partition_words}
use Rattle.layout_command.proofs.potentials.partition_words.Given as goal

abbrev pub invariant-loop-entry : goal.invariant-loop-entry
invariant-loop-entry l = l.words ≡ partition_words (take l.entry-index l.entries) l.partition
