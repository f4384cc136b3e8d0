use Rattle.std.proofs.Common.{IsSome}
use Rattle.lab_outside.specs.Connection.{OnPresent}
use Rattle.lab_outside.specs.Links.{Stays}
use Rattle.serve_model.specs.Stores.{fits_asking}
use Rattle.serve_model.specs.Talk.{Grammar, Serving, request_limit, talk}
use Rattle.serve_model.specs.Serving.{HasState, Reached, Stands, OnLeft}
use Rattle.serve_loop.proofs.Talking.{InTalk}
use Rattle.serve_loop.proofs.connection.serve_connection.Given as goal

abbrev pub invariant-requests : goal.invariant-requests
invariant-requests g l =
    record {
      present : IsSome (g.L.Link.present l.link);
      talk : (g' : Grammar) (p : Serving g.S.Storage.State) → Stands (g.S.Storage.stands l.fn.store) (g.C.Clock.times l.fn.clock) l.fn.served p →
          OnPresent (λ c d. OnLeft (λ left. InTalk g.S.Storage.model (fits_asking g.S.Storage.fits) l.buckets g' (talk g.S.Storage.model l.buckets g' request_limit p left) (Reached g.S.Storage.model g.S.Storage.fits g.S.Storage.lacks (g.S.Storage.stands l.store) p.store) (g.C.Clock.times l.clock) l.served l.more l.kept.bytes.items c d) c.left) (g.L.Link.present l.fn.link) (g.L.Link.present l.link);
      goes : (s : g.S.Storage.State) → g.S.Storage.stands l.fn.store s → HasState (Reached g.S.Storage.model g.S.Storage.fits g.S.Storage.lacks (g.S.Storage.stands l.store) s);
      state : HasState (g.S.Storage.stands l.store);
      stays : Stays g.L.Link l.fn.link l.link;
    }

abbrev pub decreases-requests : goal.decreases-requests
decreases-requests g l = l.more
