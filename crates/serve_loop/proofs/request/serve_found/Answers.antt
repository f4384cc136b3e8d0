use Rattle.std.proofs.Common.{ℕ, ◌++◌, ◌∙◌, Some, subst}
use Rattle.serve_model.specs.Stores.{known_from}
use Rattle.serve_model.specs.Talk.{clocked, head_turn}
use Rattle.serve_model.specs.Serving.{Reached, ServesOn}
use Rattle.serve_loop.proofs.Heads.{stands_clocked}
use Rattle.serve_loop.proofs.request.serve_found.Goals as goal

pub returns-clause-serves : goal.returns-clause-serves
returns-clause-serves g c = λ p st.
    let kept = c.args.kept.now.bytes.items in
    let model = g.S.Storage.model in
    let holds = Reached model g.S.Storage.fits g.S.Storage.lacks (g.S.Storage.stands c.serve_head.new.store) p.store in
    let known = known_from model g.S.Storage.fits g.S.Storage.lacks p.store in
    let times = g.C.Clock.times c.ask_time-now.new.clock in
    let now = c.ask_time-now.result in
    let st' = stands_clocked (g.S.Storage.stands c.args.store.now) (g.C.Clock.times c.args.clock.now) times c.args.served.now c.ask_time-now.new.served p c.ask_time-now.ensures.kept c.ask_time-now.ensures.asked st in
    let P : ℕ → Type 0 = λ k. ServesOn (λ left. head_turn model c.args.buckets.now c.args.last k (Some c.args.head.now) (clocked p) (kept ++ left)) holds known times c.serve_head.new.served c.serve_head.result c.serve_head.new.kept.bytes.items (g.L.Link.present c.args.link.now) (g.L.Link.present c.serve_head.new.link) in
    subst P (c.ask_time-now.ensures.time ∙ st'.time) (c.serve_head.ensures.serves (clocked p) times st')
