use Rattle.std.proofs.Common.{◌≡◌, ℕ, ◌∙◌, ◌++◌, length, List, true, Option, Some, None, IsSome, option_to_list, Ok, Err, refl, sym, ap, subst, append-nil, arith}
use Rattle.lab_outside.specs.Connection.{Connection, TakesNext}
use Rattle.serve_model.specs.Stores.{fits_asking}
use Rattle.serve_model.specs.Serving.{Reached}
use Rattle.serve_model.specs.Connections.{ServesAll}
use Rattle.serve_loop.proofs.Serving.{stands_here, here_reached}
use Rattle.serve_loop.proofs.Talking.{goes_more, reached_more}
use Rattle.serve_loop.proofs.Connections.{all_begin, all_more, all_but_last, all_same, absent_of, goes_with, some_then, tells_first, tells_next, none_is_left, gone_more, gone_same, succeeded}
use Rattle.serve_loop.proofs.service.serve.Goals as goal

pub returns-then-is_err-clause-served : goal.returns-then-is_err-clause-served
returns-then-is_err-clause-served g c = λ g' p st.
    let model = g.S.Storage.model in
    let stands = g.S.Storage.stands c.args.store.now in
    let holds = Reached model g.S.Storage.fits g.S.Storage.lacks stands p.store in
    let times = g.C.Clock.times c.args.clock.now in
    let served = c.args.served.now in
    let new = g.L.Link.coming c.open.new.self in
    let past = g.L.Link.past c.args.link.now in
    let past' = g.L.Link.past c.open.new.self in
    some_then (λ coming. ServesAll model c.args.buckets.now g' (fits_asking g.S.Storage.fits) p 0 holds times served coming new past past') (λ coming. (n : ℕ) × ServesAll model c.args.buckets.now g' (fits_asking g.S.Storage.fits) p n holds times served coming new past past') (g.L.Link.coming c.args.link.now) (λ coming a. (0, a))
    (all_begin model c.args.buckets.now g' (fits_asking g.S.Storage.fits) p holds times served (g.L.Link.coming c.args.link.now) new past past' c.open.ensures.still_coming c.open.ensures.still_past (stands_here model g.S.Storage.fits g.S.Storage.lacks stands times served p st))

pub connections-init : goal.connections-init
connections-init g c =
    let model = g.S.Storage.model in
    let stands = g.S.Storage.stands c.args.store.now in
    let times = g.C.Clock.times c.args.clock.now in
    let served = c.args.served.now in
    record {
      absent = c.open.ensures.still_present ∙ c.requires.absent;
      all = λ g' p st.
          all_begin model c.args.buckets.now g' (fits_asking g.S.Storage.fits) p (Reached model g.S.Storage.fits g.S.Storage.lacks stands p.store) times served (g.L.Link.coming c.args.link.now) (g.L.Link.coming c.open.new.self) (g.L.Link.past c.args.link.now) (g.L.Link.past c.open.new.self)
          c.open.ensures.still_coming c.open.ensures.still_past (stands_here model g.S.Storage.fits g.S.Storage.lacks stands times served p st);
      goes = λ s st. (s, here_reached model g.S.Storage.fits g.S.Storage.lacks stands s st);
      state = c.requires.state;
      steady = succeeded c.open.result (g.L.Link.faults c.open.new.self ≡ g.L.Link.faults c.args.link.now) (sym c.is_err.ensures.value ∙ c.if-is_err.false) c.open.ensures.steady;
      opened = succeeded c.open.result (g.L.Link.open_at c.open.new.self ≡ Some c.args.port) (sym c.is_err.ensures.value ∙ c.if-is_err.false) c.open.ensures.opens;
      gone = ap length c.open.ensures.still_past ∙ omega arith;
      within = omega arith;
      told = tells_first (g.L.Link.coming c.args.link.now) (g.L.Link.coming c.open.new.self) c.open.ensures.still_coming;
    }

pub returns-in-Err-clause-served : goal.returns-in-Err-clause-served
returns-in-Err-clause-served g c = λ g' p st.
    let model = g.S.Storage.model in
    let l = c.connections.link in
    let number = c.connections.number in
    let holds = Reached model g.S.Storage.fits g.S.Storage.lacks (g.S.Storage.stands c.connections.store) p.store in
    let times = g.C.Clock.times c.connections.clock in
    let served = c.connections.served in
    let new = g.L.Link.coming c.next.new.self in
    let past = g.L.Link.past c.args.link.now in
    let past' = g.L.Link.past c.next.new.self in
    some_then (λ coming. ServesAll model c.args.buckets.now g' (fits_asking g.S.Storage.fits) p number holds times served coming new past past') (λ coming. (n : ℕ) × ServesAll model c.args.buckets.now g' (fits_asking g.S.Storage.fits) p n holds times served coming new past past') (g.L.Link.coming c.args.link.now) (λ coming a. (number, a))
    (all_same model c.args.buckets.now g' (fits_asking g.S.Storage.fits) p holds times served number past (g.L.Link.past l) past' (g.L.Link.coming c.args.link.now) (g.L.Link.coming l) new
    c.in-Err.ensures.kept (goes_with (g.L.Link.past l) past' past' (g.L.Link.present l) c.connections.invariant.absent c.in-Err.ensures.goes refl)
    (c.connections.invariant.all g' p st))

pub returns-then-not-came-clause-short : goal.returns-then-not-came-clause-short
returns-then-not-came-clause-short g c = λ few.
    let l = c.connections.link in
    let came = c.if-not-came.true in
    let none : g.L.Link.present c.next.new.self ≡ None = absent_of (g.L.Link.present c.next.new.self) (λ some. let yes' = c.in-Ok.ensures.comes.0 some in cc) in
    let P : Option Connection → Type 0 = TakesNext (g.L.Link.coming l) (g.L.Link.coming c.next.new.self) in
    none_is_left (g.L.Link.coming c.args.link.now) (g.L.Link.coming l) (g.L.Link.coming c.next.new.self) c.connections.invariant.told (subst P none c.in-Ok.ensures.takes)

pub connections-preserved : goal.connections-preserved
connections-preserved g c =
    let model = g.S.Storage.model in
    let fits = g.S.Storage.fits in
    let lacks = g.S.Storage.lacks in
    let l = c.connections.link in
    let stands = g.S.Storage.stands c.connections.store in
    let stands' = g.S.Storage.stands c.serve_connection-end.new.store in
    let m = g.L.Link.present c.next.new.self in
    let n = g.L.Link.present c.serve_connection-end.new.link in
    let past1 = g.L.Link.past l in
    let past2 = g.L.Link.past c.next.new.self in
    let came : c.in-Ok.came ≡ true = c.if-not-came.false in
    let here : IsSome m = c.in-Ok.ensures.comes.1 (ap Ok came) in
    let before : past2 ≡ past1 = c.in-Ok.ensures.goes ∙ ap (λ x. past1 ++ option_to_list x) c.connections.invariant.absent ∙ append-nil past1 in
    let goes : g.L.Link.past c.end.new.self ≡ past1 ++ option_to_list n = c.end.ensures.goes ∙ ap (λ x. x ++ option_to_list n) (c.serve_connection-end.ensures.stays.past ∙ before) in
    let new : g.L.Link.coming c.end.new.self ≡ g.L.Link.coming c.next.new.self = c.end.ensures.still_coming ∙ c.serve_connection-end.ensures.stays.coming in
    let P : Option (List (List ℕ)) → Type 0 = λ x. TakesNext (g.L.Link.coming l) x m in
    let takes : TakesNext (g.L.Link.coming l) (g.L.Link.coming c.end.new.self) m = subst P (sym new) c.in-Ok.ensures.takes in
    record {
      absent = c.end.ensures.absent;
      all = λ g' p st.
          all_more model fits lacks c.args.buckets.now g' p c.connections.number stands stands' (g.C.Clock.times c.connections.clock) (g.C.Clock.times c.serve_connection-end.new.clock) c.connections.served c.serve_connection-end.new.served (g.L.Link.past c.args.link.now) past1 (g.L.Link.past c.end.new.self)
          (g.L.Link.coming c.args.link.now) (g.L.Link.coming l) (g.L.Link.coming c.end.new.self) m n
          (c.connections.invariant.all g' p st) takes here c.serve_connection-end.ensures.present c.in-Ok.ensures.fresh goes (c.in-Ok-end.ensures.talks g');
      goes = λ s st. let t = c.connections.invariant.goes s st in let u = c.in-Ok-end.ensures.goes t.0 t.1.0 in (u.0, reached_more model fits lacks stands' s t.0 u.0 t.1.1 u.1);
      state = let t = c.in-Ok-end.ensures.goes c.connections.invariant.state.0 c.connections.invariant.state.1 in (t.0, t.1.0);
      steady = c.end.ensures.uncounted ∙ c.serve_connection-end.ensures.stays.faults ∙ c.in-Ok.ensures.steady ∙ c.connections.invariant.steady;
      opened = c.end.ensures.still_open ∙ c.serve_connection-end.ensures.stays.open_at ∙ c.in-Ok.ensures.still_open ∙ c.connections.invariant.opened;
      gone = gone_more (g.L.Link.past c.args.link.now) past1 (g.L.Link.past c.end.new.self) n c.connections.number c.connections.invariant.gone c.serve_connection-end.ensures.present goes;
      within = omega arith;
      told = tells_next (g.L.Link.coming c.args.link.now) (g.L.Link.coming l) (g.L.Link.coming c.end.new.self) m c.connections.invariant.told takes;
    }

pub returns-in-Err-end-clause-served : goal.returns-in-Err-end-clause-served
returns-in-Err-end-clause-served g c = λ g' p st.
    let model = g.S.Storage.model in
    let fits = g.S.Storage.fits in
    let lacks = g.S.Storage.lacks in
    let l = c.connections.link in
    let stands = g.S.Storage.stands c.connections.store in
    let stands' = g.S.Storage.stands c.serve_connection-end.new.store in
    let m = g.L.Link.present c.next.new.self in
    let n = g.L.Link.present c.serve_connection-end.new.link in
    let past1 = g.L.Link.past l in
    let past2 = g.L.Link.past c.next.new.self in
    let came : c.in-Ok.came ≡ true = c.if-not-came.false in
    let here : IsSome m = c.in-Ok.ensures.comes.1 (ap Ok came) in
    let before : past2 ≡ past1 = c.in-Ok.ensures.goes ∙ ap (λ x. past1 ++ option_to_list x) c.connections.invariant.absent ∙ append-nil past1 in
    let goes : g.L.Link.past c.end.new.self ≡ past1 ++ option_to_list n = c.end.ensures.goes ∙ ap (λ x. x ++ option_to_list n) (c.serve_connection-end.ensures.stays.past ∙ before) in
    let new : g.L.Link.coming c.end.new.self ≡ g.L.Link.coming c.next.new.self = c.end.ensures.still_coming ∙ c.serve_connection-end.ensures.stays.coming in
    let P : Option (List (List ℕ)) → Type 0 = λ x. TakesNext (g.L.Link.coming l) x m in
    let takes : TakesNext (g.L.Link.coming l) (g.L.Link.coming c.end.new.self) m = subst P (sym new) c.in-Ok.ensures.takes in
    all_but_last model fits lacks c.args.buckets.now g' p c.connections.number stands stands' (g.C.Clock.times c.connections.clock) (g.C.Clock.times c.serve_connection-end.new.clock) c.connections.served c.serve_connection-end.new.served (g.L.Link.past c.args.link.now) past1 (g.L.Link.past c.end.new.self) c.in-Err-end.fault
    (g.L.Link.coming c.args.link.now) (g.L.Link.coming l) (g.L.Link.coming c.end.new.self) m n
    (c.connections.invariant.all g' p st) takes here c.serve_connection-end.ensures.present c.in-Ok.ensures.fresh goes (c.in-Err-end.ensures.talks g')

pub returns-in-Err-end-clause-goes : goal.returns-in-Err-end-clause-goes
returns-in-Err-end-clause-goes g c =
    goes_more g.S.Storage.model g.S.Storage.fits g.S.Storage.lacks Unit (g.S.Storage.stands c.args.store.now) (g.S.Storage.stands c.connections.store) (g.S.Storage.stands c.serve_connection-end.new.store) (Err c.in-Err-end.fault) c.connections.invariant.goes c.in-Err-end.ensures.goes

pub returns-then-not-came-clause-gone : goal.returns-then-not-came-clause-gone
returns-then-not-came-clause-gone g c =
    gone_same (g.L.Link.past c.args.link.now) (g.L.Link.past c.connections.link) (g.L.Link.past c.next.new.self) (g.L.Link.present c.connections.link) c.connections.number c.connections.invariant.gone c.connections.invariant.absent c.in-Ok.ensures.goes
