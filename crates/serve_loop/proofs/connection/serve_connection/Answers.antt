use Rattle.std.proofs.Common.{ℕ, ◌-◌, ◌==◌, ◌++◌, Bool, true, false, Ok, Err, refl, subst, arith}
use Rattle.lab_outside.proofs.Present.{on_present, on_present_same, stays_none, stays_more}
use Rattle.serve_model.specs.Stores.{fits_asking, known_from}
use Rattle.serve_model.specs.Talk.{Serving, turn, talk, request_limit}
use Rattle.serve_model.specs.Serving.{Reached, Stands, ServesOn, OnLeft}
use Rattle.serve_model.specs.Connections.{Talks}
use Rattle.serve_loop.proofs.Serving.{on_left, at_left, stands_here, here_reached}
use Rattle.serve_loop.proofs.Talking.{InTalk, talk_begins, talk_goes_on, talk_ends, talk_stops, talk_is_over, turn_then, goes_more, reached_more}
use Rattle.serve_loop.proofs.connection.serve_connection.Goals as goal

pub requests-init : goal.requests-init
requests-init g c =
    let model = g.S.Storage.model in
    let stands = g.S.Storage.stands c.args.store.now in
    let times = g.C.Clock.times c.args.clock.now in
    let kept = c.new-kept.result.bytes.items in
    let buckets = c.args.buckets.now in
    record {
      present = c.requires.present;
      talk = λ g' p st.
          let holds = Reached model g.S.Storage.fits g.S.Storage.lacks stands p.store in
          on_present_same (λ a b. OnLeft (λ left. InTalk model (fits_asking g.S.Storage.fits) buckets g' (talk model buckets g' request_limit p left) holds times c.args.served.now 1000 kept a b) a.left) (g.L.Link.present c.args.link.now)
          (λ a.
          on_left (λ left. InTalk model (fits_asking g.S.Storage.fits) buckets g' (talk model buckets g' request_limit p left) holds times c.args.served.now 1000 kept a a) a.left
          (λ left e. talk_begins model (fits_asking g.S.Storage.fits) buckets g' request_limit 1000 p left holds times c.args.served.now kept a e c.new-kept.ensures refl (stands_here model g.S.Storage.fits g.S.Storage.lacks stands times c.args.served.now p st)));
      goes = λ s st. (s, here_reached model g.S.Storage.fits g.S.Storage.lacks stands s st);
      state = c.requires.state;
      stays = stays_none g.L.Link c.args.link.now;
    }

pub requests-preserved : goal.requests-preserved
requests-preserved g c =
    let model = g.S.Storage.model in
    let fits = g.S.Storage.fits in
    let lacks = g.S.Storage.lacks in
    let buckets = c.args.buckets.now in
    let stands = g.S.Storage.stands c.requests.store in
    let stands' = g.S.Storage.stands c.serve_request.new.store in
    let times = g.C.Clock.times c.requests.clock in
    let times' = g.C.Clock.times c.serve_request.new.clock in
    let served = c.requests.served in
    let served' = c.serve_request.new.served in
    let kept = c.requests.kept.bytes.items in
    let kept' = c.serve_request.new.kept.bytes.items in
    let n = c.requests.more in
    let more : ℕ = n - 1 in
    let o = g.L.Link.present c.args.link.now in
    let m = g.L.Link.present c.requests.link in
    let k = g.L.Link.present c.serve_request.new.link in
    record {
      present = c.serve_request.ensures.present;
      talk = λ g' p st.
          let P : Bool → Type 0 = λ b. (q : Serving g.S.Storage.State) → Stands stands times served q → ServesOn (λ left. turn model buckets g' (more == 0) q (kept ++ left)) (Reached model fits lacks stands' q.store) (known_from model fits lacks q.store) times' served' (Ok b) kept' m k in
          turn_then model fits lacks buckets g' (λ left. talk model buckets g' request_limit p left) p.store more n kept kept' stands stands' times times' served served' (Ok true)
          (λ left a f. InTalk model (fits_asking g.S.Storage.fits) buckets g' (talk model buckets g' request_limit p left) (Reached model fits lacks stands' p.store) times' served' more kept' a f) o m k (omega arith)
          (c.requests.invariant.talk g' p st) c.serve_request.ensures.present (subst P c.if-not-goes.false (c.in-Ok.ensures.serves g'))
          (λ left a d f i s. talk_goes_on model fits lacks buckets g' (talk model buckets g' request_limit p left) p.store more kept kept' stands stands' times times' served served' a d f i s);
      goes = λ s st. let t = c.requests.invariant.goes s st in let u = c.in-Ok.ensures.goes t.0 t.1.0 in (u.0, reached_more model fits lacks stands' s t.0 u.0 t.1.1 u.1);
      state = let t = c.in-Ok.ensures.goes c.requests.invariant.state.0 c.requests.invariant.state.1 in (t.0, t.1.0);
      stays = stays_more g.L.Link c.args.link.now c.requests.link c.serve_request.new.link c.requests.invariant.stays c.serve_request.ensures.stays;
    }

pub returns-then-not-goes-clause-talks : goal.returns-then-not-goes-clause-talks
returns-then-not-goes-clause-talks g c = λ g' p st.
    let model = g.S.Storage.model in
    let fits = g.S.Storage.fits in
    let lacks = g.S.Storage.lacks in
    let buckets = c.args.buckets.now in
    let stands = g.S.Storage.stands c.requests.store in
    let stands' = g.S.Storage.stands c.serve_request.new.store in
    let times = g.C.Clock.times c.requests.clock in
    let times' = g.C.Clock.times c.serve_request.new.clock in
    let served = c.requests.served in
    let served' = c.serve_request.new.served in
    let kept = c.requests.kept.bytes.items in
    let kept' = c.serve_request.new.kept.bytes.items in
    let n = c.requests.more in
    let more : ℕ = n - 1 in
    let o = g.L.Link.present c.args.link.now in
    let m = g.L.Link.present c.requests.link in
    let k = g.L.Link.present c.serve_request.new.link in
    let P : Bool → Type 0 = λ b. (q : Serving g.S.Storage.State) → Stands stands times served q → ServesOn (λ left. turn model buckets g' (more == 0) q (kept ++ left)) (Reached model fits lacks stands' q.store) (known_from model fits lacks q.store) times' served' (Ok b) kept' m k in
    turn_then model fits lacks buckets g' (λ left. talk model buckets g' request_limit p left) p.store more n kept kept' stands stands' times times' served served' (Ok false)
    (λ left a f. Talks (talk model buckets g' request_limit p left) (Reached model fits lacks stands' p.store) (known_from model fits lacks p.store) times' served' (Ok tt) a f) o m k (omega arith)
    (c.requests.invariant.talk g' p st) c.serve_request.ensures.present (subst P c.if-not-goes.true (c.in-Ok.ensures.serves g'))
    (λ left a d f i s. talk_ends model fits lacks buckets g' (talk model buckets g' request_limit p left) p.store more kept kept' stands stands' times times' served served' a d f i s)

pub returns-then-not-goes-clause-goes : goal.returns-then-not-goes-clause-goes
returns-then-not-goes-clause-goes g c = λ s st.
    let t = c.requests.invariant.goes s st in
    let u = c.in-Ok.ensures.goes t.0 t.1.0 in
    (u.0, reached_more g.S.Storage.model g.S.Storage.fits g.S.Storage.lacks (g.S.Storage.stands c.serve_request.new.store) s t.0 u.0 t.1.1 u.1)

pub returns-in-Err-clause-talks : goal.returns-in-Err-clause-talks
returns-in-Err-clause-talks g c = λ g' p st.
    let model = g.S.Storage.model in
    let fits = g.S.Storage.fits in
    let lacks = g.S.Storage.lacks in
    let buckets = c.args.buckets.now in
    let stands = g.S.Storage.stands c.requests.store in
    let stands' = g.S.Storage.stands c.serve_request.new.store in
    let times = g.C.Clock.times c.requests.clock in
    let times' = g.C.Clock.times c.serve_request.new.clock in
    let served = c.requests.served in
    let served' = c.serve_request.new.served in
    let kept = c.requests.kept.bytes.items in
    let kept' = c.serve_request.new.kept.bytes.items in
    let n = c.requests.more in
    let more : ℕ = n - 1 in
    let e = c.in-Err.fault in
    turn_then model fits lacks buckets g' (λ left. talk model buckets g' request_limit p left) p.store more n kept kept' stands stands' times times' served served' (Err e)
    (λ left a f. Talks (talk model buckets g' request_limit p left) (Reached model fits lacks stands' p.store) (known_from model fits lacks p.store) times' served' (Err e) a f)
    (g.L.Link.present c.args.link.now) (g.L.Link.present c.requests.link) (g.L.Link.present c.serve_request.new.link) (omega arith)
    (c.requests.invariant.talk g' p st) c.serve_request.ensures.present (c.in-Err.ensures.serves g')
    (λ left a d f i s. talk_stops model fits lacks buckets g' (talk model buckets g' request_limit p left) p.store more kept kept' stands stands' times times' served served' a d f i e s)

pub returns-in-Err-clause-goes : goal.returns-in-Err-clause-goes
returns-in-Err-clause-goes g c =
    goes_more g.S.Storage.model g.S.Storage.fits g.S.Storage.lacks Unit (g.S.Storage.stands c.args.store.now) (g.S.Storage.stands c.requests.store) (g.S.Storage.stands c.serve_request.new.store) (Err c.in-Err.fault) c.requests.invariant.goes c.in-Err.ensures.goes

pub returns-clause-talks : goal.returns-clause-talks
returns-clause-talks g c = λ g' p st.
    let model = g.S.Storage.model in
    let buckets = c.args.buckets.now in
    let holds = Reached model g.S.Storage.fits g.S.Storage.lacks (g.S.Storage.stands c.requests.store) p.store in
    let known = known_from model g.S.Storage.fits g.S.Storage.lacks p.store in
    let times = g.C.Clock.times c.requests.clock in
    let served = c.requests.served in
    let kept = c.requests.kept.bytes.items in
    on_present (λ a b. OnLeft (λ left. InTalk model (fits_asking g.S.Storage.fits) buckets g' (talk model buckets g' request_limit p left) holds times served c.requests.more kept a b) a.left) (λ a b. OnLeft (λ left. Talks (talk model buckets g' request_limit p left) holds known times served (Ok tt) a b) a.left)
    (g.L.Link.present c.args.link.now) (g.L.Link.present c.requests.link)
    (λ a b h.
    on_left (λ left. Talks (talk model buckets g' request_limit p left) holds known times served (Ok tt) a b) a.left
    (λ left e. talk_is_over model buckets g' (talk model buckets g' request_limit p left) c.requests.more kept holds known times served a b (omega arith) (at_left (λ l. InTalk model (fits_asking g.S.Storage.fits) buckets g' (talk model buckets g' request_limit p l) holds times served c.requests.more kept a b) a.left left e h)))
    (c.requests.invariant.talk g' p st)
