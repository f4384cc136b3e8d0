use Rattle.std.proofs.Common.{◌≡◌, ◌++◌, take, flat_map}
use Rattle.s3_model.specs.Lines.{type_line}
use Rattle.s3_answer.proofs.lines.append_types.Given as goal

abbrev pub invariant-loop-header : goal.invariant-loop-header
invariant-loop-header l = l.out ≡ l.fn.out ++ flat_map type_line (take l.header-index l.headers)
