use Rattle.std.proofs.Common.{◌++◌, List, ℕ, ap, ◌∙◌}
use Rattle.s3_model.specs.Bodies.{bucket_element}
use Rattle.s3_answer.proofs.Appends.{each_more}
use Rattle.s3_answer.proofs.bodies.append_buckets.Goals as goal

pub loop-name-preserved : goal.loop-name-preserved
loop-name-preserved c =
    each_more bucket_element c.args.names.now c.loop-name.name-index c.name-item.result c.args.out.now c.loop-name.out c.append_bucket.new.out c.loop-name-test.true c.name-item.is c.loop-name.invariant
    (c.in_ok-append_bucket.ensures.ok ∙ ap (λ (s : List ℕ). c.loop-name.out ++ bucket_element s) c.as_slice.ensures)
