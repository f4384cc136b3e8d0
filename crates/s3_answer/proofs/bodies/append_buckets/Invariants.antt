use Rattle.std.proofs.Common.{◌≡◌, ◌++◌, take, flat_map}
use Rattle.s3_model.specs.Bodies.{bucket_element}
use Rattle.s3_answer.proofs.bodies.append_buckets.Given as goal

abbrev pub invariant-loop-name : goal.invariant-loop-name
invariant-loop-name l = l.out ≡ l.fn.out ++ flat_map bucket_element (take l.name-index l.names)
