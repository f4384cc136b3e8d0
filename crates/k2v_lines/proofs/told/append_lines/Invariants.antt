use Rattle.std.proofs.Common.{◌≡◌, ◌++◌, take, flat_map}
use Rattle.k2v_text.specs.Transcript.{line_text}
use Rattle.k2v_lines.proofs.told.append_lines.Given as goal

abbrev pub invariant-loop-line : goal.invariant-loop-line
invariant-loop-line l = l.out ≡ l.fn.out ++ flat_map line_text (take l.line-index l.lines)
