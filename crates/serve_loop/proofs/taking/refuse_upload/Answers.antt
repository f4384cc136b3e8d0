use Rattle.std.proofs.Common.{[], Some, None, Ok, Err, Bool, true, false, refl, sym, subst}
use Rattle.lab_outside.proofs.Present.{on_present_same}
use Rattle.serve_model.specs.declared.answer.Answer.TheVariants.{Nothing, Refusal}
use Rattle.serve_model.specs.declared.served.ServeFault.{ServeFault}
use Rattle.serve_model.specs.Stores.{leave, known_from}
use Rattle.serve_model.specs.Serving.{Reached, Goes, Says, ServesOn}
use Rattle.serve_loop.proofs.Serving.{carried_goes, silence_says}
use Rattle.serve_loop.proofs.Uploading.{refused_turn, left_answered, left_wants, left_so_far, cause_of, cause_weaker, cause_goes}
use Rattle.serve_loop.proofs.taking.refuse_upload.Goals as goal

pub returns-in-Ok-Some-clause-serves : goal.returns-in-Ok-Some-clause-serves
returns-in-Ok-Some-clause-serves g c = λ u came need all p times served kept lefts st.
    let r = c.args.request.now in
    let takes = g.S.Storage.takes c.args.store.now in
    let given_up = rw c.in-Ok-Some.field-0-is at c.in-Ok-Some.ensures.given_up in
    left_answered g.S.Storage.model g.S.Storage.fits g.S.Storage.lacks (λ s. takes s r.time u came need) (g.S.Storage.stands c.leave.new.self) r u c.args.code all times kept p served st (Some c.in-Ok-Some.field-0-0) (Refusal c.args.code) c.answer_request.result
    (g.L.Link.present c.args.link.now) (g.L.Link.present c.answer_request.new.link) (λ q rest. refl) (λ left s h. given_up s r.time u came need (leave u (all left)) h (lefts left)) c.answer_request.ensures.says

pub returns-in-Ok-Some-clause-goes : goal.returns-in-Ok-Some-clause-goes
returns-in-Ok-Some-clause-goes g c = λ u came need.
    let time = c.args.request.now.time in
    let takes = g.S.Storage.takes c.args.store.now in
    let given_up = rw c.in-Ok-Some.field-0-is at c.in-Ok-Some.ensures.given_up in
    carried_goes g.S.Storage.model g.S.Storage.fits g.S.Storage.lacks (λ s. takes s time u came need) (g.S.Storage.stands c.leave.new.self) time (leave u came) (Some c.in-Ok-Some.field-0-0) c.answer_request.result c.answer_request.ensures.cause
    (λ s h. given_up s time u came need (leave u came) h (left_so_far u came need))

pub returns-in-Ok-None-clause-serves : goal.returns-in-Ok-None-clause-serves
returns-in-Ok-None-clause-serves g c = λ u came need all p times served kept lefts st.
    let r = c.args.request.now in
    let o = g.L.Link.present c.args.link.now in
    let takes = g.S.Storage.takes c.args.store.now in
    let given_up = rw c.in-Ok-None.field-0-is at c.in-Ok-None.ensures.given_up in
    left_answered g.S.Storage.model g.S.Storage.fits g.S.Storage.lacks (λ s. takes s r.time u came need) (g.S.Storage.stands c.leave.new.self) r u c.args.code all times kept p served st None Nothing (Ok false) o o (λ q rest. refl)
    (λ left s h. given_up s r.time u came need (leave u (all left)) h (lefts left)) (on_present_same (Says [] true (Ok false)) o silence_says)

pub returns-in-Ok-None-clause-goes : goal.returns-in-Ok-None-clause-goes
returns-in-Ok-None-clause-goes g c = λ u came need.
    let time = c.args.request.now.time in
    let takes = g.S.Storage.takes c.args.store.now in
    let given_up = rw c.in-Ok-None.field-0-is at c.in-Ok-None.ensures.given_up in
    carried_goes g.S.Storage.model g.S.Storage.fits g.S.Storage.lacks (λ s. takes s time u came need) (g.S.Storage.stands c.leave.new.self) time (leave u came) None (Ok false) tt (λ s h. given_up s time u came need (leave u came) h (left_so_far u came need))

pub returns-clause-serves : goal.returns-clause-serves
returns-clause-serves g c = λ u came need all p times served kept lefts st.
    let r = c.args.request.now in
    let o = g.L.Link.present c.args.link.now in
    let model = g.S.Storage.model in
    let fits = g.S.Storage.fits in
    let lacks = g.S.Storage.lacks in
    let takes = g.S.Storage.takes c.args.store.now in
    let new = g.S.Storage.stands c.leave.new.self in
    let t = refused_turn model fits lacks (λ s. takes s r.time u came need) new r u c.args.code all times kept p served in
    let P : ServeFault → Type 0 = λ e. ServesOn t (Reached model fits lacks new p.store) (known_from model fits lacks p.store) times served (Err e) kept o o in
    subst P (sym c.from.ensures)
    (left_wants model fits lacks (λ s. takes s r.time u came need) new r u c.args.code all times kept p served came need _ o lefts
    (cause_weaker _ (lacks p.store r.time (leave u came)) _ (λ lack. lack need p.store r.time u came st.store) (cause_of c.in-Err.memory _ c.in-Err.ensures.causes)))

pub returns-clause-goes : goal.returns-clause-goes
returns-clause-goes g c = λ u came need.
    let time = c.args.request.now.time in
    let lacks = g.S.Storage.lacks in
    let takes = g.S.Storage.takes c.args.store.now in
    let new = g.S.Storage.stands c.leave.new.self in
    let P : ServeFault → Type 0 = λ e. Goes g.S.Storage.model g.S.Storage.fits lacks {A = Bool} (λ s. takes s time u came need) new (Err e) in
    subst P (sym c.from.ensures)
    (cause_goes g.S.Storage.model g.S.Storage.fits lacks (λ s. takes s time u came need) new time (leave u came) Bool _
    (cause_weaker _ ((s : g.S.Storage.State) → takes s time u came need → lacks s time (leave u came)) _ (λ lack s h. lack need s time u came h) (cause_of c.in-Err.memory _ c.in-Err.ensures.causes)))
