use Rattle.std.proofs.Common.{◌≡◌, ◌++◌, take, flat_map}
use Rattle.s3_model.specs.Bodies.{contents_of}
use Rattle.s3_answer.proofs.list.append_objects.Given as goal

abbrev pub invariant-loop-entry : goal.invariant-loop-entry
invariant-loop-entry l = l.out ≡ l.fn.out ++ flat_map (contents_of l.url) (take l.entry-index l.entries)
