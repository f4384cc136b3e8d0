use Rattle.view_model.proofs.Joins.{oldest_merged, newest_merged, gapless_merged, merged_comm, merged_assoc, merged_idem}
use Rattle.view_model.proofs.laws.views_join.Goals as goal

pub returns-clause-oldest_is_greater : goal.returns-clause-oldest_is_greater
returns-clause-oldest_is_greater g c r a b = oldest_merged r a b

pub returns-clause-newest_is_greater : goal.returns-clause-newest_is_greater
returns-clause-newest_is_greater g c r a b = newest_merged r a b

pub returns-clause-no_gap : goal.returns-clause-no_gap
returns-clause-no_gap g c r a b = gapless_merged r a b

pub returns-clause-commutative : goal.returns-clause-commutative
returns-clause-commutative g c r a b = merged_comm r a b

pub returns-clause-associative : goal.returns-clause-associative
returns-clause-associative g c r x y z = merged_assoc r x y z

pub returns-clause-idempotent : goal.returns-clause-idempotent
returns-clause-idempotent g c r a = merged_idem r a
