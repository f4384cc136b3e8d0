use Rattle.crdt_core.proofs.JoinOrder.{join_of-members, join_of-append, members_below, join_least}
use Rattle.crdt_core.proofs.laws.lists_join.Goals as goal

pub returns : goal.returns
returns g c = let laws = g.met.R.Crdt.join_laws in record {
  members = join_of-members laws;
  appended = join_of-append laws;
  above = members_below laws;
  least = join_least laws;
}
