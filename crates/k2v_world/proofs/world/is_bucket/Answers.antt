use Rattle.std.proofs.Common.{sym, ◌∙◌}
use Rattle.k2v_world.proofs.Values.{any_bucket}
use Rattle.k2v_world.proofs.world.is_bucket.Goals as goal

pub returns : goal.returns
returns c = (rw c.as_slice.ensures at c.contains.ensures.value) ∙ sym (any_bucket c.args.buckets.now c.args.name.now)
