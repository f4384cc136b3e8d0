use Rattle.std.proofs.Common.{◌-◌}
use Rattle.http_wire.specs.Pieces.{IsSearched}
use Rattle.http_wire.proofs.end.Search.head_end.Given as goal

abbrev pub invariant-bytes : goal.invariant-bytes
invariant-bytes l = IsSearched l.bytes l.self

abbrev pub decreases-bytes : goal.decreases-bytes
decreases-bytes l = l.count - l.self.place
