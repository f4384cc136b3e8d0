use Rattle.std.proofs.Common.{ℕ, List, ◌++◌, Some, None, Ok, Err, Bool, false, subst, sym}
use Rattle.serve_model.specs.declared.served.ServeFault.{ServeFault}
use Rattle.serve_model.specs.declared.served.ServeFault.TheVariants.{Kept}
use Rattle.serve_model.specs.Stores.{carry, known_from}
use Rattle.serve_model.specs.Talk.{order_turn}
use Rattle.serve_model.specs.Serving.{Reached, Goes, ServesOn}
use Rattle.serve_loop.proofs.Serving.{gives_up, carried_goes, carried_limits as limit_goes}
use Rattle.serve_loop.proofs.Carrying.{gives_asked, gives_goes, ended_silent, ended_limits, ended_said, order_so}
use Rattle.serve_loop.proofs.Begins.{order_begins}
use Rattle.serve_loop.proofs.request.carry.Goals as goal

pub returns-in-Ok-None-clause-serves : goal.returns-in-Ok-None-clause-serves
returns-in-Ok-None-clause-serves g c = λ p times kept st.
    order_so g.S.Storage.model g.S.Storage.fits g.S.Storage.lacks (g.S.Storage.stands c.args.store.now) (g.S.Storage.stands c.carry.new.self) c.args.request.now c.args.order times kept p c.args.served.now st c.args.served.now (Ok false) (g.L.Link.present c.args.link.now) (g.L.Link.present c.args.link.now)
    (ended_silent g.S.Storage.model g.S.Storage.fits g.S.Storage.lacks (g.S.Storage.stands c.args.store.now) (g.S.Storage.stands c.carry.new.self) c.args.request.now (carry c.args.order) times kept p c.args.served.now st c.requires.no_get (g.L.Link.present c.args.link.now) (rw c.in-Ok-None.field-0-is at c.in-Ok-None.ensures.carries))

pub returns-in-Ok-None-clause-goes : goal.returns-in-Ok-None-clause-goes
returns-in-Ok-None-clause-goes g c =
    carried_goes g.S.Storage.model g.S.Storage.fits g.S.Storage.lacks (g.S.Storage.stands c.args.store.now) (g.S.Storage.stands c.carry.new.self) c.args.request.now.time (carry c.args.order) None (Ok false) tt (rw c.in-Ok-None.field-0-is at c.in-Ok-None.ensures.carries)

pub returns-in-Err-clause-serves : goal.returns-in-Err-clause-serves
returns-in-Err-clause-serves g c = λ p times kept st.
    let holds = Reached g.S.Storage.model g.S.Storage.fits g.S.Storage.lacks (g.S.Storage.stands c.carry.new.self) p.store in
    let known = known_from g.S.Storage.model g.S.Storage.fits g.S.Storage.lacks p.store in
    let o = g.L.Link.present c.args.link.now in
    let t : List ℕ → _ = λ left. order_turn g.S.Storage.model c.args.request.now c.args.order p (kept ++ left) in
    let P : ServeFault → Type 0 = λ e. ServesOn t holds known times c.args.served.now (Err e) kept o o in
    subst P (sym c.from.ensures) (gives_up holds known times c.args.served.now t _ kept o (λ left. order_begins g.S.Storage.model c.args.request.now c.args.order p (kept ++ left))
    (λ left. gives_asked g.S.Storage.model g.S.Storage.fits g.S.Storage.lacks (g.S.Storage.stands c.args.store.now) (g.S.Storage.stands c.carry.new.self) c.args.request.now (carry c.args.order) times kept p c.args.served.now st c.in-Err.memory _ c.in-Err.ensures.causes))

pub returns-in-Err-clause-goes : goal.returns-in-Err-clause-goes
returns-in-Err-clause-goes g c =
    let P : ServeFault → Type 0 = λ e. Goes g.S.Storage.model g.S.Storage.fits g.S.Storage.lacks {A = Bool} (g.S.Storage.stands c.args.store.now) (g.S.Storage.stands c.carry.new.self) (Err e) in
    subst P (sym c.from.ensures) (gives_goes g.S.Storage.model g.S.Storage.fits g.S.Storage.lacks (g.S.Storage.stands c.args.store.now) (g.S.Storage.stands c.carry.new.self) c.args.request.now (carry c.args.order) Bool c.in-Err.memory c.in-Err.ensures.causes)

pub returns-in-Ok-clause-serves : goal.returns-in-Ok-clause-serves
returns-in-Ok-clause-serves g c = λ p times kept st.
    order_so g.S.Storage.model g.S.Storage.fits g.S.Storage.lacks (g.S.Storage.stands c.args.store.now) (g.S.Storage.stands c.carry.new.self) c.args.request.now c.args.order times kept p c.args.served.now st c.count.new.served c.answer_end.result (g.L.Link.present c.args.link.now) (g.L.Link.present c.answer_end.new.link)
    (ended_said g.S.Storage.model g.S.Storage.fits g.S.Storage.lacks (g.S.Storage.stands c.args.store.now) (g.S.Storage.stands c.carry.new.self) c.args.request.now (carry c.args.order) times kept p c.args.served.now st c.requires.no_get c.count.new.served c.answer_end.result
    (g.L.Link.present c.args.link.now) (g.L.Link.present c.answer_end.new.link) c.in-Ok-Some.end c.counts_after-size.result (rw c.in-Ok-Some.field-0-is at c.in-Ok-Some.ensures.carries) c.counts_after-size.ensures c.in-Ok.ensures.kept c.in-Ok.ensures.time c.in-Ok.ensures.within c.answer_end.ensures.says)

pub returns-in-Ok-clause-goes : goal.returns-in-Ok-clause-goes
returns-in-Ok-clause-goes g c =
    carried_goes g.S.Storage.model g.S.Storage.fits g.S.Storage.lacks (g.S.Storage.stands c.args.store.now) (g.S.Storage.stands c.carry.new.self) c.args.request.now.time (carry c.args.order) (Some c.in-Ok-Some.end) c.answer_end.result c.answer_end.ensures.cause (rw c.in-Ok-Some.field-0-is at c.in-Ok-Some.ensures.carries)

pub returns-in-Err-count-clause-serves : goal.returns-in-Err-count-clause-serves
returns-in-Err-count-clause-serves g c = λ p times kept st.
    order_so g.S.Storage.model g.S.Storage.fits g.S.Storage.lacks (g.S.Storage.stands c.args.store.now) (g.S.Storage.stands c.carry.new.self) c.args.request.now c.args.order times kept p c.args.served.now st c.count.new.served (Err Kept) (g.L.Link.present c.args.link.now) (g.L.Link.present c.args.link.now)
    (ended_limits g.S.Storage.model g.S.Storage.fits g.S.Storage.lacks (g.S.Storage.stands c.args.store.now) (g.S.Storage.stands c.carry.new.self) c.args.request.now (carry c.args.order) times kept p c.args.served.now st c.count.new.served
    (g.L.Link.present c.args.link.now) c.in-Ok-Some.end c.counts_after-size.result (rw c.in-Ok-Some.field-0-is at c.in-Ok-Some.ensures.carries) c.counts_after-size.ensures c.in-Err-count.ensures.beyond)

pub returns-in-Err-count-clause-goes : goal.returns-in-Err-count-clause-goes
returns-in-Err-count-clause-goes g c =
    limit_goes g.S.Storage.model g.S.Storage.fits g.S.Storage.lacks (g.S.Storage.stands c.args.store.now) (g.S.Storage.stands c.carry.new.self) c.args.request.now.time (carry c.args.order) (Some c.in-Ok-Some.end) (rw c.in-Ok-Some.field-0-is at c.in-Ok-Some.ensures.carries)
