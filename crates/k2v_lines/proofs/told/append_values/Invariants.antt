use Rattle.std.proofs.Common.{◌≡◌, ◌++◌, take, flat_map}
use Rattle.k2v_text.specs.Transcript.{value_line}
use Rattle.k2v_lines.proofs.told.append_values.Given as goal

abbrev pub invariant-loop-value : goal.invariant-loop-value
invariant-loop-value l = l.out ≡ l.fn.out ++ flat_map value_line (take l.value-index l.values)
