use Rattle.std.proofs.Common.{◌≡◌, ◌≤◌, ◌-◌, IsSome, length, take}
use Rattle.lab_outside.specs.Connection.{OnPresent}
use Rattle.lab_outside.specs.Links.{Stays}
use Rattle.http_wire.specs.Reading.{Takes}
use Rattle.http_wire.proofs.body.fill.Given as goal

abbrev pub invariant-pieces : goal.invariant-pieces
invariant-pieces g l =
    record {
      present : IsSome (g.L.Link.present l.link);
      size : length l.place ≡ length l.fn.place;
      within : l.count ≤ length l.place;
      takes : OnPresent (Takes (take l.fn.count l.fn.place) (take l.count l.place)) (g.L.Link.present l.fn.link) (g.L.Link.present l.link);
      stays : Stays g.L.Link l.fn.link l.link;
    }

abbrev pub decreases-pieces : goal.decreases-pieces
decreases-pieces g l = length l.place - l.count
