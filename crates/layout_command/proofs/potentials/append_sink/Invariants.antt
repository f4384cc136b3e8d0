use Rattle.std.proofs.Common.{◌≡◌, ◌++◌, take, flat_map}
use Rattle.layout_command.specs.Moves.{sink_word}
use Rattle.layout_command.proofs.potentials.append_sink.Given as goal

abbrev pub invariant-loop-entry : goal.invariant-loop-entry
invariant-loop-entry l = l.out ≡ l.fn.out ++ flat_map sink_word (take l.entry-index l.entries)
