use Rattle.crdt_core.specs.OrderLaws.{option_laws}
use Rattle.crdt_core.proofs.JoinOrder.{order_laws, least_upper_bound, none_least}
use Rattle.crdt_core.proofs.laws.rows_are_ordered.Goals as goal

pub returns : goal.returns
returns g c = let laws = g.met.R.Crdt.join_laws in record {
  order = order_laws laws;
  least_upper_bound = least_upper_bound laws;
  none_joins = option_laws laws;
  none_least = none_least g.R.Crdt.join;
}
