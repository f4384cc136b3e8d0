use Rattle.std.proofs.Common.{Option, Some, ◌++◌, ◌∙◌, sym, ap, subst}
use Rattle.flow_model.specs.declared.order.Order.TheVariants.{Get}
use Rattle.s3_model.specs.declared.ask.Range.{Range}
use Rattle.serve_model.specs.declared.answer.Answer.TheVariants.{Reply}
use Rattle.serve_model.specs.declared.served.ServeFault.TheVariants.{Memory}
use Rattle.serve_model.specs.Stores.{known_from}
use Rattle.serve_model.specs.Talk.{text_of, closes_of, answer_turn, order_turn, plan_turn}
use Rattle.serve_model.specs.Judging.{order_of, reply_without}
use Rattle.serve_model.specs.Serving.{Reached}
use Rattle.serve_loop.specs.Giving.{IsGetOf}
use Rattle.serve_loop.proofs.Serving.{serves_same, says_serves, stands_here, goes_here, gives_up}
use Rattle.serve_loop.proofs.Keys.{order_keyed, order_whole, get_asked, no_get_asked}
use Rattle.serve_loop.proofs.Begins.{plan_begins}
use Rattle.serve_loop.proofs.request.serve_judged.Goals as goal

pub carry-requires-clause-keyed : goal.carry-requires-clause-keyed
carry-requires-clause-keyed g c = order_keyed c.args.request.now.ask c.args.body c.in-Ok-Some.order c.requires.keyed (sym c.in-Ok-Some.field-0-is ∙ c.in-Ok-Some.ensures.same)

pub carry-requires-clause-whole : goal.carry-requires-clause-whole
carry-requires-clause-whole g c = order_whole c.args.request.now.ask c.args.body c.in-Ok-Some.order (sym c.in-Ok-Some.field-0-is ∙ c.in-Ok-Some.ensures.same)

pub carry-requires-clause-no_get : goal.carry-requires-clause-no_get
carry-requires-clause-no_get g c = no_get_asked c.args.request.now.ask c.args.body c.in-Ok-Some.order c.in_default.not-Get (sym c.in-Ok-Some.field-0-is ∙ c.in-Ok-Some.ensures.same)

pub get-requires-clause-asked : goal.get-requires-clause-asked
get-requires-clause-asked g c =
    let ask = c.args.request.now.ask in
    let P : Option Range → Type 0 = λ range. IsGetOf range ask in
    subst P (sym c.range-range.ensures) (get_asked ask c.args.body c.in-Get.bucket c.in-Get.key (sym (ap Some c.in-Get.is) ∙ sym c.in-Ok-Some.field-0-is ∙ c.in-Ok-Some.ensures.same))

pub returns-in-Get-clause-serves : goal.returns-in-Get-clause-serves
returns-in-Get-clause-serves g c = λ p times kept st.
    let r = c.args.request.now in
    let model = g.S.Storage.model in
    let buckets = c.args.buckets.now in
    let holds = Reached model g.S.Storage.fits g.S.Storage.lacks (g.S.Storage.stands c.get.new.store) p.store in
    let known = known_from model g.S.Storage.fits g.S.Storage.lacks p.store in
    let served = c.args.served.now in
    let o = g.L.Link.present c.args.link.now in
    let n = g.L.Link.present c.get.new.link in
    serves_same holds known times served (λ left. order_turn model r (Get c.in-Get.bucket c.in-Get.key) p (kept ++ left)) (λ left. plan_turn model buckets r (order_of r.ask c.args.body) p (kept ++ left)) c.get.result kept o n
    (λ left. ap (λ x. plan_turn model buckets r x p (kept ++ left)) (sym c.in-Ok-Some.ensures.same ∙ c.in-Ok-Some.field-0-is ∙ ap Some c.in-Get.is))
    (c.get.ensures.serves p times served kept st c.requires.within)

pub returns-in_default-clause-serves : goal.returns-in_default-clause-serves
returns-in_default-clause-serves g c = λ p times kept st.
    let r = c.args.request.now in
    let model = g.S.Storage.model in
    let buckets = c.args.buckets.now in
    let holds = Reached model g.S.Storage.fits g.S.Storage.lacks (g.S.Storage.stands c.carry.new.store) p.store in
    let known = known_from model g.S.Storage.fits g.S.Storage.lacks p.store in
    let o = g.L.Link.present c.args.link.now in
    let n = g.L.Link.present c.carry.new.link in
    serves_same holds known times c.carry.new.served (λ left. order_turn model r c.in-Ok-Some.order p (kept ++ left)) (λ left. plan_turn model buckets r (order_of r.ask c.args.body) p (kept ++ left)) c.carry.result kept o n
    (λ left. ap (λ x. plan_turn model buckets r x p (kept ++ left)) (sym c.in-Ok-Some.ensures.same ∙ c.in-Ok-Some.field-0-is))
    (c.carry.ensures.serves p times kept st)

pub returns-in-Ok-None-clause-serves : goal.returns-in-Ok-None-clause-serves
returns-in-Ok-None-clause-serves g c = λ p times kept st.
    let r = c.args.request.now in
    let model = g.S.Storage.model in
    let buckets = c.args.buckets.now in
    let holds = Reached model g.S.Storage.fits g.S.Storage.lacks (g.S.Storage.stands c.args.store.now) p.store in
    let known = known_from model g.S.Storage.fits g.S.Storage.lacks p.store in
    let a = Reply (reply_without buckets r.who r.ask) in
    let served = c.args.served.now in
    let res = c.answer_without.result in
    let o = g.L.Link.present c.args.link.now in
    let n = g.L.Link.present c.answer_without.new.link in
    serves_same holds known times served (λ left. answer_turn r a p (kept ++ left)) (λ left. plan_turn model buckets r (order_of r.ask c.args.body) p (kept ++ left)) res kept o n
    (λ left. ap (λ x. plan_turn model buckets r x p (kept ++ left)) (sym c.in-Ok-None.ensures.same ∙ c.in-Ok-None.field-0-is))
    (says_serves holds known times served res kept o n (text_of r a) (closes_of r a) p (stands_here model g.S.Storage.fits g.S.Storage.lacks (g.S.Storage.stands c.args.store.now) times served p st) c.answer_without.ensures.says)

pub returns-in-Ok-None-clause-goes : goal.returns-in-Ok-None-clause-goes
returns-in-Ok-None-clause-goes g c = goes_here g.S.Storage.model g.S.Storage.fits g.S.Storage.lacks (g.S.Storage.stands c.args.store.now) c.answer_without.result c.answer_without.ensures.cause

pub returns-in-Err-clause-serves : goal.returns-in-Err-clause-serves
returns-in-Err-clause-serves g c = λ p times kept st.
    let r = c.args.request.now in
    let model = g.S.Storage.model in
    gives_up (Reached model g.S.Storage.fits g.S.Storage.lacks (g.S.Storage.stands c.args.store.now) p.store) (known_from model g.S.Storage.fits g.S.Storage.lacks p.store) times c.args.served.now (λ left. plan_turn model c.args.buckets.now r (order_of r.ask c.args.body) p (kept ++ left)) Memory kept (g.L.Link.present c.args.link.now) (λ left. plan_begins model c.args.buckets.now r (order_of r.ask c.args.body) p (kept ++ left)) (λ left. tt)
