use Rattle.std.proofs.Common.{◌≡◌, ◌++◌, take, flat_map}
use Rattle.s3_model.specs.Bodies.{common_of}
use Rattle.s3_answer.proofs.list.append_commons.Given as goal

abbrev pub invariant-loop-entry : goal.invariant-loop-entry
invariant-loop-entry l = l.out ≡ l.fn.out ++ flat_map (common_of l.url) (take l.entry-index l.entries)
