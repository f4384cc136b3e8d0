use Rattle.std.proofs.Common.{IsSome, length}
use Rattle.lab_outside.specs.Connection.{OnPresent}
use Rattle.lab_outside.specs.Links.{Stays}
use Rattle.lab_outside.proofs.Present.{IsPart}
use Rattle.lab_outside.proofs.send.send_whole.Given as goal

abbrev pub invariant-writes : goal.invariant-writes
invariant-writes g l =
    record {
      present : IsSome (g.L.Link.present l.link);
      part : OnPresent (IsPart l.bytes l.rest) (g.L.Link.present l.fn.link) (g.L.Link.present l.link);
      stays : Stays g.L.Link l.fn.link l.link;
    }

abbrev pub decreases-writes : goal.decreases-writes
decreases-writes g l = length l.rest
