use Rattle.std.proofs.Common.{IsSome}
use Rattle.lab_outside.specs.Links.{Stays}
use Rattle.serve_loop.proofs.Parts.{SoFar}
use Rattle.serve_loop.proofs.taking.take_parts.Given as goal

-- the upload has come so far
abbrev pub invariant-parts : goal.invariant-parts
invariant-parts g l =
    record {
      present : IsSome (g.L.Link.present l.link);
      taken : SoFar (g.S.Storage.takes l.fn.store) (g.S.Storage.takes l.store) l.length l.fn.first l.need l.left l.fn.sums l.sums l.fn.kept.bytes.items l.kept.bytes.items (g.L.Link.present l.fn.link) (g.L.Link.present l.link);
      stays : Stays g.L.Link l.fn.link l.link;
    }

abbrev pub decreases-parts : goal.decreases-parts
decreases-parts g l = l.left
