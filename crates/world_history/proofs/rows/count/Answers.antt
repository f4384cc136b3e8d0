use Rattle.std.proofs.Common.{arith}
use Rattle.world_history.proofs.Table.{counted}
use Rattle.world_history.proofs.rows.count.Goals as goal

pub overflow_sub-result : goal.overflow_sub-result
overflow_sub-result c = omega (arith, counted c.args.rows.now c.args.bucket.now c.args.key.now c.args.place, c.before-low.ensures.count, c.before-high.ensures.count)

pub returns : goal.returns
returns c = omega (arith, counted c.args.rows.now c.args.bucket.now c.args.key.now c.args.place, c.before-low.ensures.count, c.before-high.ensures.count)
