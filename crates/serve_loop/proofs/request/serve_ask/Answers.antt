use Rattle.std.proofs.Common.{◌++◌, subst, sym}
use Rattle.serve_model.specs.declared.request.Request.{Request}
use Rattle.serve_model.specs.declared.served.ServeFault.TheVariants.{Memory}
use Rattle.serve_model.specs.Stores.{known_from}
use Rattle.serve_model.specs.Talk.{request_of, request_turn}
use Rattle.serve_model.specs.Serving.{Reached, ServesOn}
use Rattle.serve_model.specs.Judging.{IsKeyed}
use Rattle.serve_loop.proofs.Serving.{gives_up}
use Rattle.serve_loop.proofs.Begins.{request_begins}
use Rattle.serve_loop.proofs.request.serve_ask.Goals as goal

pub serve_understood-requires-clause-keyed : goal.serve_understood-requires-clause-keyed
serve_understood-requires-clause-keyed g c = let P : Request → Type 0 = λ r. IsKeyed r.ask in subst P (sym c.in-Ok.ensures.same) c.requires.keyed

pub returns-in-Ok-clause-serves : goal.returns-in-Ok-clause-serves
returns-in-Ok-clause-serves g c = λ p times st.
    let kept = c.args.kept.now.bytes.items in
    let model = g.S.Storage.model in
    let holds = Reached model g.S.Storage.fits g.S.Storage.lacks (g.S.Storage.stands c.serve_understood.new.store) p.store in
    let known = known_from model g.S.Storage.fits g.S.Storage.lacks p.store in
    let P : Request → Type 0 = λ r. ServesOn (λ left. request_turn model c.args.buckets.now r p (kept ++ left)) holds known times c.serve_understood.new.served c.serve_understood.result c.serve_understood.new.kept.bytes.items (g.L.Link.present c.args.link.now) (g.L.Link.present c.serve_understood.new.link) in
    subst P c.in-Ok.ensures.same (c.serve_understood.ensures.serves p times st)

pub returns-in-Err-clause-serves : goal.returns-in-Err-clause-serves
returns-in-Err-clause-serves g c = λ p times st.
    let model = g.S.Storage.model in
    let kept = c.args.kept.now.bytes.items in
    gives_up (Reached model g.S.Storage.fits g.S.Storage.lacks (g.S.Storage.stands c.args.store.now) p.store) (known_from model g.S.Storage.fits g.S.Storage.lacks p.store) times c.args.served.now (λ left. request_turn model c.args.buckets.now (request_of c.args.last c.args.now c.args.head.now c.args.asked) p (kept ++ left)) Memory kept (g.L.Link.present c.args.link.now) (λ left. request_begins model c.args.buckets.now (request_of c.args.last c.args.now c.args.head.now c.args.asked) p (kept ++ left)) (λ left. tt)
