use Rattle.std.proofs.Common.{rules, of_calls, sym, []}
use Rattle.std.proofs.lemmas.Fn.{always_returns_same}
use Rattle.world_history.specs.Table.{is_before}
use Rattle.world_history.proofs.Table.{before_parts, as_many_pass}
use Rattle.world_history.proofs.rows.before.Goals as goal

pub returns-clause-point : goal.returns-clause-point
returns-clause-point c =
    let p = is_before c.args.bucket.now c.args.key.now c.args.place in
    c.partition_point.ensures.partitioned p (always_returns_same _ _ _ (λ a r f k. search (rules, of_calls))) (before_parts c.args.rows.now c.requires c.args.bucket.now c.args.key.now c.args.place)

pub returns-clause-count : goal.returns-clause-count
returns-clause-count c =
    let p = is_before c.args.bucket.now c.args.key.now c.args.place in
    sym (as_many_pass p c.args.rows.now c.partition_point.result c.partition_point.ensures.bound (record { bucket = []; key = []; place = 0 }) (returns-clause-point c))
