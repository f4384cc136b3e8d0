use Rattle.std.proofs.Common.{Option, IsSome}
use Rattle.lab_outside.specs.Connection.{OnPresent}
use Rattle.lab_outside.specs.Links.{Stays}
use Rattle.flow_model.specs.declared.order.Order.TheVariants.{Get}
use Rattle.serve_model.specs.Stores.{Given}
use Rattle.serve_loop.specs.Giving.{IsAt}
use Rattle.serve_loop.proofs.giving.get.Given as goal

-- the get is on its way, and so far is its answer written
abbrev pub invariant-pieces : goal.invariant-pieces
invariant-pieces g l =
    record {
      present : IsSome (g.L.Link.present l.link);
      gives : (so_far : Option Given) × ((s : g.S.Storage.State) → g.S.Storage.stands l.fn.store s → g.S.Storage.gives l.store s l.request.time (Get l.fn.bucket l.fn.key) so_far)
          × OnPresent (IsAt l.request l.range l.progress so_far) (g.L.Link.present l.fn.link) (g.L.Link.present l.link);
      stays : Stays g.L.Link l.fn.link l.link;
    }

abbrev pub decreases-pieces : goal.decreases-pieces
decreases-pieces g l = g.S.Storage.left l.store
