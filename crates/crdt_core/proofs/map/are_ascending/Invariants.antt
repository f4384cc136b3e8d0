use Rattle.std.proofs.Common.{◌≡◌, length}
use Rattle.crdt_core.specs.Entries.{is_ascending}
use Rattle.crdt_core.proofs.map.are_ascending.Given as goal

abbrev pub invariant-loop-rest : goal.invariant-loop-rest
invariant-loop-rest g l = is_ascending g.K.Ord.cmp l.rest ≡ is_ascending g.K.Ord.cmp l.entries

abbrev pub decreases-loop-rest : goal.decreases-loop-rest
decreases-loop-rest g l = length l.rest
