use Rattle.std.proofs.Common.{ℕ, List, ◌++◌, Some, None, Ok, Err, Bool, false, inl, refl, sym, subst, arith}
use Rattle.serve_model.specs.declared.served.ServeFault.{ServeFault}
use Rattle.serve_model.specs.Stores.{keep, known_from}
use Rattle.serve_model.specs.Talk.{passing, keeping_turn}
use Rattle.serve_model.specs.Serving.{Reached, Goes, ServesOn}
use Rattle.serve_loop.proofs.Serving.{carried_goes, passing_serves, gives_up}
use Rattle.serve_loop.proofs.Carrying.{gives_asked, gives_goes, ended_silent, ended_said}
use Rattle.serve_loop.proofs.Getting.{because}
use Rattle.serve_loop.proofs.Streams.{put_is_no_get, put_counts_none}
use Rattle.serve_loop.proofs.taking.keep_upload.Goals as goal

pub returns-in-Ok-Some-clause-serves : goal.returns-in-Ok-Some-clause-serves
returns-in-Ok-Some-clause-serves g c = λ u came p times served kept st within.
    let r = c.args.request.now in
    let model = g.S.Storage.model in
    let fits = g.S.Storage.fits in
    let lacks = g.S.Storage.lacks in
    let takes = g.S.Storage.takes c.args.store.now in
    let new = g.S.Storage.stands c.keep.new.self in
    let o = g.L.Link.present c.args.link.now in
    let n = g.L.Link.present c.answer_end.new.link in
    let is_kept = rw c.in-Ok-Some.field-0-is at c.in-Ok-Some.ensures.kept in
    passing_serves (Reached model fits lacks new p.store) (known_from model fits lacks p.store) times served c.answer_end.result kept o n p (λ left. keeping_turn model r u came p (kept ++ left))
    (ended_said model fits lacks (λ s. takes s r.time u came (Some 0)) new r (keep u came) times kept p served st (put_is_no_get r.ask c.requires.put) served c.answer_end.result o n c.in-Ok-Some.end 0 (λ s h. is_kept s r.time u came h)
    (put_counts_none r.ask c.in-Ok-Some.end c.requires.put) (omega arith) refl (omega (arith, within)) c.answer_end.ensures.says)

pub returns-in-Ok-Some-clause-goes : goal.returns-in-Ok-Some-clause-goes
returns-in-Ok-Some-clause-goes g c = λ u came.
    let time = c.args.request.now.time in
    let takes = g.S.Storage.takes c.args.store.now in
    let is_kept = rw c.in-Ok-Some.field-0-is at c.in-Ok-Some.ensures.kept in
    carried_goes g.S.Storage.model g.S.Storage.fits g.S.Storage.lacks (λ s. takes s time u came (Some 0)) (g.S.Storage.stands c.keep.new.self) time (keep u came) (Some c.in-Ok-Some.end) c.answer_end.result c.answer_end.ensures.cause (λ s h. is_kept s time u came h)

pub returns-in-Ok-None-clause-serves : goal.returns-in-Ok-None-clause-serves
returns-in-Ok-None-clause-serves g c = λ u came p times served kept st within.
    let r = c.args.request.now in
    let model = g.S.Storage.model in
    let fits = g.S.Storage.fits in
    let lacks = g.S.Storage.lacks in
    let takes = g.S.Storage.takes c.args.store.now in
    let new = g.S.Storage.stands c.keep.new.self in
    let o = g.L.Link.present c.args.link.now in
    let is_kept = rw c.in-Ok-None.field-0-is at c.in-Ok-None.ensures.kept in
    passing_serves (Reached model fits lacks new p.store) (known_from model fits lacks p.store) times served (Ok false) kept o o p (λ left. keeping_turn model r u came p (kept ++ left))
    (ended_silent model fits lacks (λ s. takes s r.time u came (Some 0)) new r (keep u came) times kept p served st (put_is_no_get r.ask c.requires.put) o (λ s h. is_kept s r.time u came h))

pub returns-in-Ok-None-clause-goes : goal.returns-in-Ok-None-clause-goes
returns-in-Ok-None-clause-goes g c = λ u came.
    let time = c.args.request.now.time in
    let takes = g.S.Storage.takes c.args.store.now in
    let is_kept = rw c.in-Ok-None.field-0-is at c.in-Ok-None.ensures.kept in
    carried_goes g.S.Storage.model g.S.Storage.fits g.S.Storage.lacks (λ s. takes s time u came (Some 0)) (g.S.Storage.stands c.keep.new.self) time (keep u came) None (Ok false) tt (λ s h. is_kept s time u came h)

pub returns-in-Err-clause-serves : goal.returns-in-Err-clause-serves
returns-in-Err-clause-serves g c = λ u came p times served kept st within.
    let r = c.args.request.now in
    let model = g.S.Storage.model in
    let fits = g.S.Storage.fits in
    let lacks = g.S.Storage.lacks in
    let takes = g.S.Storage.takes c.args.store.now in
    let new = g.S.Storage.stands c.keep.new.self in
    let holds = Reached model fits lacks new p.store in
    let known = known_from model fits lacks p.store in
    let o = g.L.Link.present c.args.link.now in
    let t : List ℕ → _ = λ left. passing p (keeping_turn model r u came p (kept ++ left)) in
    let P : ServeFault → Type 0 = λ e. ServesOn t holds known times served (Err e) kept o o in
    let why = because c.in-Err.memory _ _ (λ lack s h. lack s r.time u came h) c.in-Err.ensures.causes in
    subst P (sym c.from.ensures) (gives_up holds known times served t _ kept o (λ left. inl refl) (λ left. gives_asked model fits lacks (λ s. takes s r.time u came (Some 0)) new r (keep u came) times kept p served st c.in-Err.memory _ why))

pub returns-in-Err-clause-goes : goal.returns-in-Err-clause-goes
returns-in-Err-clause-goes g c = λ u came.
    let r = c.args.request.now in
    let takes = g.S.Storage.takes c.args.store.now in
    let new = g.S.Storage.stands c.keep.new.self in
    let P : ServeFault → Type 0 = λ e. Goes g.S.Storage.model g.S.Storage.fits g.S.Storage.lacks {A = Bool} (λ s. takes s r.time u came (Some 0)) new (Err e) in
    let why = because c.in-Err.memory _ _ (λ lack s h. lack s r.time u came h) c.in-Err.ensures.causes in
    subst P (sym c.from.ensures) (gives_goes g.S.Storage.model g.S.Storage.fits g.S.Storage.lacks (λ s. takes s r.time u came (Some 0)) new r (keep u came) Bool c.in-Err.memory why)
