use Rattle.std.proofs.Common.{ℕ, ◌++◌, Err, subst}
use Rattle.serve_model.specs.declared.served.ServeFault.TheVariants.{Kept}
use Rattle.serve_model.specs.Stores.{known_from}
use Rattle.serve_model.specs.Talk.{counted, counting, waiting_turn}
use Rattle.serve_model.specs.Serving.{Reached, ServesOn}
use Rattle.serve_loop.proofs.Serving.{counting_serves, counting_limits, stands_counted, limits_here}
use Rattle.serve_loop.proofs.request.serve_understood.Goals as goal

pub returns-in-Ok-clause-serves : goal.returns-in-Ok-clause-serves
returns-in-Ok-clause-serves g c = λ p times st.
    let kept = c.args.kept.now.bytes.items in
    let new = c.serve_waiting.new.kept.bytes.items in
    let r = c.args.request.now in
    let model = g.S.Storage.model in
    let buckets = c.args.buckets.now in
    let holds = Reached model g.S.Storage.fits g.S.Storage.lacks (g.S.Storage.stands c.serve_waiting.new.store) p.store in
    let known = known_from model g.S.Storage.fits g.S.Storage.lacks p.store in
    let size = c.counts_before-size.result in
    let o = g.L.Link.present c.args.link.now in
    let n = g.L.Link.present c.serve_waiting.new.link in
    let res = c.serve_waiting.result in
    let served = c.serve_waiting.new.served in
    let P : ℕ → Type 0 = λ k. ServesOn (λ left. counting k p (λ q. waiting_turn model buckets r q (kept ++ left))) holds known times served res new o n in
    subst P c.counts_before-size.ensures
    (counting_serves holds known times size p (λ left q. waiting_turn model buckets r q (kept ++ left)) new served c.args.served.now res o n st.kept c.in-Ok.ensures.within
    (c.serve_waiting.ensures.serves (counted size p) times (stands_counted (g.S.Storage.stands c.args.store.now) times c.args.served.now c.count.new.served size p c.in-Ok.ensures.kept c.in-Ok.ensures.time st)))

pub returns-in-Err-clause-serves : goal.returns-in-Err-clause-serves
returns-in-Err-clause-serves g c = λ p times st.
    let kept = c.args.kept.now.bytes.items in
    let r = c.args.request.now in
    let model = g.S.Storage.model in
    let buckets = c.args.buckets.now in
    let holds = Reached model g.S.Storage.fits g.S.Storage.lacks (g.S.Storage.stands c.args.store.now) p.store in
    let known = known_from model g.S.Storage.fits g.S.Storage.lacks p.store in
    let size = c.counts_before-size.result in
    let o = g.L.Link.present c.args.link.now in
    let served = c.count.new.served in
    let P : ℕ → Type 0 = λ k. ServesOn (λ left. counting k p (λ q. waiting_turn model buckets r q (kept ++ left))) holds known times served (Err Kept) kept o o in
    subst P c.counts_before-size.ensures
    (counting_limits holds known times size p (λ left q. waiting_turn model buckets r q (kept ++ left)) kept served c.args.served.now o st.kept c.in-Err.ensures.beyond)

pub returns-in-Err-clause-goes : goal.returns-in-Err-clause-goes
returns-in-Err-clause-goes g c = limits_here g.S.Storage.model g.S.Storage.fits g.S.Storage.lacks (g.S.Storage.stands c.args.store.now)
