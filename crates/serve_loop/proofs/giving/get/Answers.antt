use Rattle.std.proofs.Common.{ℕ, Option, Some, None, List, ◌++◌, Bool, Err, refl, sym, subst}
use Rattle.lab_outside.specs.Connection.{Connection, OnPresent}
use Rattle.lab_outside.proofs.Present.{on_present_same, stays_none, stays_more}
use Rattle.flow_model.specs.declared.order.Order.TheVariants.{Get}
use Rattle.serve_model.specs.declared.served.ServeFault.{ServeFault}
use Rattle.serve_model.specs.Stores.{carry, Given, known_from}
use Rattle.serve_model.specs.Talk.{order_turn}
use Rattle.serve_model.specs.Serving.{CarriedOut, Reached, Goes, ServesOn}
use Rattle.serve_loop.specs.declared.storage.Got.{Got}
use Rattle.serve_loop.specs.declared.giving.Progress.TheVariants.{Waiting}
use Rattle.serve_loop.specs.Gets.{found_now, with_piece, with_given, Gives}
use Rattle.serve_loop.specs.Giving.{IsAt}
use Rattle.serve_loop.proofs.Serving.{gives_up, carried_goes}
use Rattle.serve_loop.proofs.Carrying.{gives_asked, gives_goes}
use Rattle.serve_loop.proofs.Begins.{order_begins}
use Rattle.serve_loop.proofs.Getting.{got_end, got_given_up, because, found_on, piece_goes}
use Rattle.serve_loop.proofs.giving.get.Goals as goal

pub returns-in-Err-clause-serves : goal.returns-in-Err-clause-serves
returns-in-Err-clause-serves g c = λ p times served kept st within.
    let model = g.S.Storage.model in
    let fits = g.S.Storage.fits in
    let lacks = g.S.Storage.lacks in
    let r = c.args.request.now in
    let order = Get c.args.bucket c.args.key in
    let holds = Reached model fits lacks (g.S.Storage.stands c.begin.new.self) p.store in
    let known = known_from model fits lacks p.store in
    let o = g.L.Link.present c.args.link.now in
    let t : List ℕ → _ = λ left. order_turn model r order p (kept ++ left) in
    let P : ServeFault → Type 0 = λ e. ServesOn t holds known times served (Err e) kept o o in
    subst P (sym c.from.ensures) (gives_up holds known times served t _ kept o (λ left. order_begins model r order p (kept ++ left))
    (λ left. gives_asked model fits lacks (g.S.Storage.stands c.args.store.now) (g.S.Storage.stands c.begin.new.self) r (carry order) times kept p served st c.in-Err.memory _ c.in-Err.ensures.causes))

pub returns-in-Err-clause-goes : goal.returns-in-Err-clause-goes
returns-in-Err-clause-goes g c =
    let old = g.S.Storage.stands c.args.store.now in
    let new = g.S.Storage.stands c.begin.new.self in
    let P : ServeFault → Type 0 = λ e. Goes g.S.Storage.model g.S.Storage.fits g.S.Storage.lacks {A = Bool} old new (Err e) in
    subst P (sym c.from.ensures) (gives_goes g.S.Storage.model g.S.Storage.fits g.S.Storage.lacks old new c.args.request.now (carry (Get c.args.bucket c.args.key)) Bool c.in-Err.memory c.in-Err.ensures.causes)

pub pieces-init : goal.pieces-init
pieces-init g c =
    let o = g.L.Link.present c.args.link.now in
    record {
      present = c.requires.present;
      gives = (None, (λ s st. c.in-Ok.ensures.begins s st), on_present_same (IsAt c.args.request.now c.args.range Waiting None) o (λ a. refl));
      stays = stays_none g.L.Link c.args.link.now;
    }

pub next-requires : goal.next-requires
next-requires g c =
    let i = c.pieces.invariant.gives in
    let s = c.requires.state in
    record { on_its_way = (s.0, c.args.request.now.time, Get c.args.bucket c.args.key, i.0, i.1 s.0 s.1) }

pub returns-in-Err-next-clause-serves : goal.returns-in-Err-next-clause-serves
returns-in-Err-next-clause-serves g c = λ p times served kept st within.
    let model = g.S.Storage.model in
    let fits = g.S.Storage.fits in
    let lacks = g.S.Storage.lacks in
    let r = c.args.request.now in
    let order = Get c.args.bucket c.args.key in
    let i = c.pieces.invariant.gives in
    let old = g.S.Storage.stands c.args.store.now in
    let new = g.S.Storage.stands c.next.new.self in
    let o = g.L.Link.present c.args.link.now in
    let n = g.L.Link.present c.pieces.link in
    let m = c.in-Err-next.memory in
    let P : ServeFault → Type 0 = λ e. ServesOn (λ left. order_turn model r order p (kept ++ left)) (Reached model fits lacks new p.store) (known_from model fits lacks p.store) times served (Err e) kept o n in
    let why = because m _ _ (λ lack s s_st. lack s r.time order i.0 (i.1 s s_st)) c.in-Err-next.ensures.causes in
    subst P (sym c.from-in-Err-next.ensures)
    (got_given_up model fits lacks old new r c.args.bucket c.args.key c.args.range c.requires.asked times kept p served st _ c.pieces.progress i.0 o n
    (λ later. gives_asked model fits lacks old new r (carry order) times kept p served st m later why) (c.next.ensures.so_far p.store r.time order i.0 (i.1 p.store st.store)) i.2)

pub returns-in-Err-next-clause-goes : goal.returns-in-Err-next-clause-goes
returns-in-Err-next-clause-goes g c =
    let r = c.args.request.now in
    let order = Get c.args.bucket c.args.key in
    let i = c.pieces.invariant.gives in
    let old = g.S.Storage.stands c.args.store.now in
    let new = g.S.Storage.stands c.next.new.self in
    let m = c.in-Err-next.memory in
    let P : ServeFault → Type 0 = λ e. Goes g.S.Storage.model g.S.Storage.fits g.S.Storage.lacks {A = Bool} old new (Err e) in
    let why = because m _ _ (λ lack s s_st. lack s r.time order i.0 (i.1 s s_st)) c.in-Err-next.ensures.causes in
    subst P (sym c.from-in-Err-next.ensures) (gives_goes g.S.Storage.model g.S.Storage.fits g.S.Storage.lacks old new r (carry order) Bool m why)

pub returns-in-Err-begin_answer-clause-serves : goal.returns-in-Err-begin_answer-clause-serves
returns-in-Err-begin_answer-clause-serves g c = λ p times served kept st within.
    let model = g.S.Storage.model in
    let fits = g.S.Storage.fits in
    let lacks = g.S.Storage.lacks in
    let r = c.args.request.now in
    let order = Get c.args.bucket c.args.key in
    let i = c.pieces.invariant.gives in
    let old = g.S.Storage.stands c.args.store.now in
    let new = g.S.Storage.stands c.next.new.self in
    let o = g.L.Link.present c.args.link.now in
    let P : ServeFault → Type 0 = λ e. ServesOn (λ left. order_turn model r order p (kept ++ left)) (Reached model fits lacks new p.store) (known_from model fits lacks p.store) times served (Err e) kept o (g.L.Link.present c.begin_answer.new.link) in
    let Q : Option Connection → Type 0 = λ x. OnPresent (IsAt r c.args.range c.pieces.progress i.0) o x in
    subst P (sym c.in-Err-begin_answer.ensures.cause)
    (got_given_up model fits lacks old new r c.args.bucket c.args.key c.args.range c.requires.asked times kept p served st _ c.pieces.progress i.0 o (g.L.Link.present c.begin_answer.new.link)
    (λ later. tt) (c.next.ensures.so_far p.store r.time order i.0 (i.1 p.store st.store)) (subst Q (sym c.in-Err-begin_answer.ensures.unwritten) i.2))

pub returns-in-End-clause-serves : goal.returns-in-End-clause-serves
returns-in-End-clause-serves g c = λ p times served kept st within.
    let model = g.S.Storage.model in
    let fits = g.S.Storage.fits in
    let lacks = g.S.Storage.lacks in
    let r = c.args.request.now in
    let order = Get c.args.bucket c.args.key in
    let i = c.pieces.invariant.gives in
    let old = g.S.Storage.stands c.args.store.now in
    let new = g.S.Storage.stands c.next.new.self in
    let P : g.S.Storage.State → Got → Type 0 = λ s got. Gives (g.S.Storage.gives c.next.new.self s r.time order) (CarriedOut model fits lacks new s r.time (carry order)) (model.carries s r.time (carry order)) i.0 got in
    got_end model fits lacks old new r c.args.bucket c.args.key c.args.range c.requires.asked times kept p served st within c.end_answer.result
    (g.L.Link.present c.args.link.now) (g.L.Link.present c.pieces.link) (g.L.Link.present c.end_answer.new.link) c.pieces.progress i.0 c.in-End.end
    (λ s s_st. subst (P s) c.in-End.is (c.in-Ok-next.ensures.goes s r.time order i.0 (i.1 s s_st))) (c.next.ensures.first p.store r.time order i.0 (i.1 p.store st.store)) i.2 c.end_answer.ensures.ends

pub returns-in-End-clause-goes : goal.returns-in-End-clause-goes
returns-in-End-clause-goes g c =
    let model = g.S.Storage.model in
    let r = c.args.request.now in
    let order = Get c.args.bucket c.args.key in
    let i = c.pieces.invariant.gives in
    let old = g.S.Storage.stands c.args.store.now in
    let new = g.S.Storage.stands c.next.new.self in
    let P : g.S.Storage.State → Got → Type 0 = λ s got. Gives (g.S.Storage.gives c.next.new.self s r.time order) (CarriedOut model g.S.Storage.fits g.S.Storage.lacks new s r.time (carry order)) (model.carries s r.time (carry order)) i.0 got in
    carried_goes model g.S.Storage.fits g.S.Storage.lacks old new r.time (carry order) (with_given i.0 c.in-End.end) c.end_answer.result c.end_answer.ensures.cause
    (λ s s_st. (subst (P s) c.in-End.is (c.in-Ok-next.ensures.goes s r.time order i.0 (i.1 s s_st))).0)

pub pieces-preserved-in-Ok-begin_answer : goal.pieces-preserved-in-Ok-begin_answer
pieces-preserved-in-Ok-begin_answer g c =
    let model = g.S.Storage.model in
    let r = c.args.request.now in
    let order = Get c.args.bucket c.args.key in
    let i = c.pieces.invariant.gives in
    let now = found_now c.in-Found.version c.in-Found.meta in
    let new = g.S.Storage.stands c.next.new.self in
    let some = c.requires.state in
    let P : g.S.Storage.State → Got → Type 0 = λ s got. Gives (g.S.Storage.gives c.next.new.self s r.time order) (CarriedOut model g.S.Storage.fits g.S.Storage.lacks new s r.time (carry order)) (model.carries s r.time (carry order)) i.0 got in
    let o = g.L.Link.present c.args.link.now in
    let m = g.L.Link.present c.pieces.link in
    let n = g.L.Link.present c.begin_answer.new.link in
    record {
      present = c.begin_answer.ensures.present;
      gives = (
        Some now,
        (λ s s_st. (subst (P s) c.in-Found.is (c.in-Ok-next.ensures.goes s r.time order i.0 (i.1 s s_st))).1),
        found_on r c.args.range c.pieces.progress c.in-Ok-begin_answer.progress i.0 now o m n (subst (P some.0) c.in-Found.is (c.in-Ok-next.ensures.goes some.0 r.time order i.0 (i.1 some.0 some.1))).0 i.2 c.in-Ok-begin_answer.ensures.written,
      );
      stays = stays_more g.L.Link c.args.link.now c.pieces.link c.begin_answer.new.link c.pieces.invariant.stays c.begin_answer.ensures.stays;
    }

pub pieces-preserved : goal.pieces-preserved
pieces-preserved g c =
    let model = g.S.Storage.model in
    let r = c.args.request.now in
    let order = Get c.args.bucket c.args.key in
    let i = c.pieces.invariant.gives in
    let new = g.S.Storage.stands c.next.new.self in
    let some = c.requires.state in
    let P : g.S.Storage.State → Got → Type 0 = λ s got. Gives (g.S.Storage.gives c.next.new.self s r.time order) (CarriedOut model g.S.Storage.fits g.S.Storage.lacks new s r.time (carry order)) (model.carries s r.time (carry order)) i.0 got in
    let had = subst (P some.0) c.in-Piece.is (c.in-Ok-next.ensures.goes some.0 r.time order i.0 (i.1 some.0 some.1)) in
    let o = g.L.Link.present c.args.link.now in
    let m = g.L.Link.present c.pieces.link in
    let n = g.L.Link.present c.write_piece-progress.new.link in
    let Q : Option Given → Type 0 = λ x. OnPresent (IsAt r c.args.range c.pieces.progress x) o m in
    let R : List ℕ → Type 0 = λ piece. OnPresent (IsAt r c.args.range c.write_piece-progress.result (Some (with_piece had.0 piece))) o n in
    record {
      present = c.write_piece-progress.ensures.present;
      gives = (
        Some (with_piece had.0 c.in-Piece.piece),
        (λ s s_st. piece_goes (λ s. g.S.Storage.gives c.next.new.self s r.time order) i.0 had.0 c.in-Piece.piece had.1 s (subst (P s) c.in-Piece.is (c.in-Ok-next.ensures.goes s r.time order i.0 (i.1 s s_st)))),
        subst R c.as_slice.ensures (c.write_piece-progress.ensures.written r c.args.range had.0 o (subst Q had.1 i.2)),
      );
      stays = stays_more g.L.Link c.args.link.now c.pieces.link c.write_piece-progress.new.link c.pieces.invariant.stays c.write_piece-progress.ensures.stays;
    }
