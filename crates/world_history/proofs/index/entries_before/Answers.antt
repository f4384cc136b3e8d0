use Rattle.std.proofs.Common.{rules, of_calls}
use Rattle.std.proofs.lemmas.Fn.{always_returns_same}
use Rattle.world_history.specs.Index.{is_earlier}
use Rattle.world_history.proofs.Order.{earlier_parts}
use Rattle.world_history.proofs.index.entries_before.Goals as goal

pub returns-clause-point : goal.returns-clause-point
returns-clause-point c =
    let p = is_earlier c.args.request c.args.place in
    c.partition_point.ensures.partitioned p (always_returns_same _ _ _ (λ a r f k. search (rules, of_calls))) (earlier_parts c.args.order.now c.requires c.args.request c.args.place)
