use Rattle.std.proofs.Common.{◌≡◌, ◌≤◌, ◌+◌, ◌-◌, length, Some, None, IfSome}
use Rattle.serve_model.specs.Stores.{fits_asking}
use Rattle.serve_model.specs.Talk.{Grammar, Serving}
use Rattle.serve_model.specs.Serving.{HasState, Reached, Stands}
use Rattle.serve_model.specs.Connections.{ServesAll}
use Rattle.serve_loop.proofs.Connections.{StillTells}
use Rattle.serve_loop.proofs.service.serve.Given as goal

abbrev pub invariant-connections : goal.invariant-connections
invariant-connections g l =
    record {
      absent : g.L.Link.present l.link ≡ None;
      all : (g' : Grammar) (p : Serving g.S.Storage.State) → Stands (g.S.Storage.stands l.fn.store) (g.C.Clock.times l.fn.clock) l.fn.served p →
          IfSome (g.L.Link.coming l.fn.link) (λ coming. ServesAll g.S.Storage.model l.buckets g' (fits_asking g.S.Storage.fits) p l.number (Reached g.S.Storage.model g.S.Storage.fits g.S.Storage.lacks (g.S.Storage.stands l.store) p.store) (g.C.Clock.times l.clock) l.served coming (g.L.Link.coming l.link) (g.L.Link.past l.fn.link) (g.L.Link.past l.link));
      goes : (s : g.S.Storage.State) → g.S.Storage.stands l.fn.store s → HasState (Reached g.S.Storage.model g.S.Storage.fits g.S.Storage.lacks (g.S.Storage.stands l.store) s);
      state : HasState (g.S.Storage.stands l.store);
      steady : g.L.Link.faults l.link ≡ g.L.Link.faults l.fn.link;
      opened : g.L.Link.open_at l.link ≡ Some l.port;
      gone : length (g.L.Link.past l.link) ≡ length (g.L.Link.past l.fn.link) + l.number;
      within : l.number ≤ l.count;
      told : StillTells (g.L.Link.coming l.fn.link) (g.L.Link.coming l.link);
    }

abbrev pub decreases-connections : goal.decreases-connections
decreases-connections g l = l.count - l.number
