use Rattle.std.proofs.Common.{◌++◌, ◌∙◌, sym, ap}
use Rattle.serve_model.specs.declared.answer.Answer.TheVariants.{Refusal}
use Rattle.serve_model.specs.declared.served.ServeFault.TheVariants.{Memory}
use Rattle.serve_model.specs.Stores.{known_from}
use Rattle.serve_model.specs.Talk.{text_of, closes_of, answer_turn, plan_turn, judged_turn, whole_turn}
use Rattle.serve_model.specs.Judging.{order_of, refusal_of}
use Rattle.serve_model.specs.Serving.{Reached}
use Rattle.serve_loop.proofs.Serving.{serves_same, says_serves, stands_here, goes_here, gives_up}
use Rattle.serve_loop.proofs.Begins.{whole_begins}
use Rattle.serve_loop.proofs.request.serve_whole.Goals as goal

pub returns-in-Ok-Some-clause-serves : goal.returns-in-Ok-Some-clause-serves
returns-in-Ok-Some-clause-serves g c = λ p times kept st.
    let r = c.args.request.now in
    let model = g.S.Storage.model in
    let buckets = c.args.buckets.now in
    let holds = Reached model g.S.Storage.fits g.S.Storage.lacks (g.S.Storage.stands c.args.store.now) p.store in
    let known = known_from model g.S.Storage.fits g.S.Storage.lacks p.store in
    let a = Refusal c.in-Ok-Some.code in
    let served = c.args.served.now in
    let res = c.answer_request.result in
    let o = g.L.Link.present c.args.link.now in
    let n = g.L.Link.present c.answer_request.new.link in
    serves_same holds known times served (λ left. answer_turn r a p (kept ++ left)) (λ left. whole_turn model buckets r c.args.body p (kept ++ left)) res kept o n
    (λ left. ap (λ x. judged_turn model buckets r c.args.body x p (kept ++ left)) (ap (refusal_of buckets r) (sym c.as_slice.ensures) ∙ sym c.in-Ok-Some.ensures.same ∙ c.in-Ok-Some.field-0-is))
    (says_serves holds known times served res kept o n (text_of r a) (closes_of r a) p (stands_here model g.S.Storage.fits g.S.Storage.lacks (g.S.Storage.stands c.args.store.now) times served p st) c.answer_request.ensures.says)

pub returns-in-Ok-Some-clause-goes : goal.returns-in-Ok-Some-clause-goes
returns-in-Ok-Some-clause-goes g c = goes_here g.S.Storage.model g.S.Storage.fits g.S.Storage.lacks (g.S.Storage.stands c.args.store.now) c.answer_request.result c.answer_request.ensures.cause

pub returns-in-Ok-None-clause-serves : goal.returns-in-Ok-None-clause-serves
returns-in-Ok-None-clause-serves g c = λ p times kept st.
    let r = c.args.request.now in
    let model = g.S.Storage.model in
    let buckets = c.args.buckets.now in
    let holds = Reached model g.S.Storage.fits g.S.Storage.lacks (g.S.Storage.stands c.serve_judged.new.store) p.store in
    let known = known_from model g.S.Storage.fits g.S.Storage.lacks p.store in
    let o = g.L.Link.present c.args.link.now in
    let n = g.L.Link.present c.serve_judged.new.link in
    serves_same holds known times c.serve_judged.new.served (λ left. plan_turn model buckets r (order_of r.ask c.args.body) p (kept ++ left)) (λ left. whole_turn model buckets r c.args.body p (kept ++ left)) c.serve_judged.result kept o n
    (λ left. ap (λ x. judged_turn model buckets r c.args.body x p (kept ++ left)) (ap (refusal_of buckets r) (sym c.as_slice.ensures) ∙ sym c.in-Ok-None.ensures.same ∙ c.in-Ok-None.field-0-is))
    (c.serve_judged.ensures.serves p times kept st)

pub returns-in-Err-clause-serves : goal.returns-in-Err-clause-serves
returns-in-Err-clause-serves g c = λ p times kept st.
    let model = g.S.Storage.model in
    gives_up (Reached model g.S.Storage.fits g.S.Storage.lacks (g.S.Storage.stands c.args.store.now) p.store) (known_from model g.S.Storage.fits g.S.Storage.lacks p.store) times c.args.served.now (λ left. whole_turn model c.args.buckets.now c.args.request.now c.args.body p (kept ++ left)) Memory kept (g.L.Link.present c.args.link.now) (λ left. whole_begins model c.args.buckets.now c.args.request.now c.args.body p (kept ++ left)) (λ left. tt)
