use Rattle.std.proofs.Common.{sym, ◌∙◌, arith}
use Rattle.crdt_core.proofs.Ascending.{few_ascending}
use Rattle.crdt_core.proofs.map.are_ascending.Goals as goal

pub returns : goal.returns
returns g c = sym (few_ascending g.K.Ord.cmp c.loop-rest.rest.now (omega (arith, c.in_default.len_below))) ∙ c.loop-rest.invariant
