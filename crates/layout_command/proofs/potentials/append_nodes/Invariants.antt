use Rattle.std.proofs.Common.{◌≡◌, ◌++◌, take, flat_map}
use Rattle.layout_command.specs.Moves.{node_word}
use Rattle.layout_command.proofs.potentials.append_nodes.Given as goal

abbrev pub invariant-loop-entry : goal.invariant-loop-entry
invariant-loop-entry l = l.out ≡ l.fn.out ++ flat_map node_word (take l.entry-index l.entries)
