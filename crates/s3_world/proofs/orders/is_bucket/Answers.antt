use Rattle.std.proofs.Common.{sym, ◌∙◌}
use Rattle.s3_world.proofs.Objects.{any_bucket}
use Rattle.s3_world.proofs.orders.is_bucket.Goals as goal

pub returns : goal.returns
returns c = (rw c.as_slice.ensures at c.has.ensures) ∙ sym (any_bucket c.args.buckets.now c.args.name.now)
