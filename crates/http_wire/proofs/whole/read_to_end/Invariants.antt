use Rattle.std.proofs.Common.{◌-◌, IsSome, vec_len}
use Rattle.lab_outside.specs.Connection.{OnPresent}
use Rattle.lab_outside.specs.Links.{Stays}
use Rattle.http_wire.specs.Reading.{Takes}
use Rattle.http_wire.specs.Pieces.{IsSearched}
use Rattle.http_wire.proofs.whole.read_to_end.Given as goal

abbrev pub invariant-pieces : goal.invariant-pieces
invariant-pieces g l =
    record {
      present : IsSome (g.L.Link.present l.link);
      searched : IsSearched l.kept.bytes.items l.search;
      takes : OnPresent (Takes l.fn.kept.bytes.items l.kept.bytes.items) (g.L.Link.present l.fn.link) (g.L.Link.present l.link);
      stays : Stays g.L.Link l.fn.link l.link;
    }

abbrev pub decreases-pieces : goal.decreases-pieces
decreases-pieces g l = 16384 - vec_len l.kept.bytes
