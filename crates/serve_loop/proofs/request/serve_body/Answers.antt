use Rattle.std.proofs.Common.{ℕ, ◌++◌, Ok, Err, List}
use Rattle.lab_outside.specs.Connection.{Connection}
use Rattle.lab_outside.proofs.Present.{on_present}
use Rattle.http_wire.specs.declared.head.HeadEnd.TheVariants.{Closed, Failed, Memory as Wanting}
use Rattle.http_wire.specs.Reading.{ReadsBody, IsBodyOf, OnAll}
use Rattle.s3_model.specs.declared.fault.Code.TheVariants.{IncompleteBody}
use Rattle.serve_model.specs.declared.answer.Answer.TheVariants.{Refusal}
use Rattle.serve_model.specs.Stores.{known_from}
use Rattle.serve_model.specs.Talk.{text_of, closes_of, passing, answer_turn, whole_turn, body_turn}
use Rattle.serve_model.specs.Serving.{Reached}
use Rattle.serve_loop.specs.Taking.{IsQuiet, IsFailed}
use Rattle.serve_loop.proofs.Serving.{on_present_both, read_then, read_fails, read_wants, passing_serves, says_serves, stands_here, goes_here}
use Rattle.serve_loop.proofs.Bodies.{whole_body, short_body, takes_quiet, fails_failed}
use Rattle.serve_loop.proofs.Begins.{begins_so, body_begins}
use Rattle.serve_loop.proofs.request.serve_body.Goals as goal

pub returns-in-Ok-clause-serves : goal.returns-in-Ok-clause-serves
returns-in-Ok-clause-serves g c = λ p times st.
    let kept = c.args.kept.now.bytes.items in
    let mid = c.read_body.new.kept.bytes.items in
    let body = c.in-Ok.body in
    let r = c.args.request.now in
    let model = g.S.Storage.model in
    let buckets = c.args.buckets.now in
    let holds = Reached model g.S.Storage.fits g.S.Storage.lacks (g.S.Storage.stands c.serve_whole.new.store) p.store in
    let known = known_from model g.S.Storage.fits g.S.Storage.lacks p.store in
    let served = c.serve_whole.new.served in
    let A : Connection → Connection → Type 0 = ReadsBody kept r.length (Ok body) mid in
    let P : List ℕ → List ℕ → Type 0 = λ all rest. IsBodyOf all r.length (Ok body) rest in
    let B : Connection → Connection → Type 0 = OnAll P kept mid in
    let o = g.L.Link.present c.args.link.now in
    let m = g.L.Link.present c.read_body.new.link in
    let n = g.L.Link.present c.serve_whole.new.link in
    read_then holds known times served c.serve_whole.result kept mid mid o m n P (body_turn model buckets r p) (λ rest. passing p (whole_turn model buckets r body p rest))
    (on_present_both A B (λ a b. IsQuiet a b × OnAll P kept mid a b) o m (λ a b x y. (takes_quiet kept x.seen a b x.takes, y)) c.in-Ok.ensures.reads c.in-Ok.ensures.told)
    (λ all rest is. whole_body model buckets r p all body rest is)
    (passing_serves holds known times served c.serve_whole.result mid m n p (λ left. whole_turn model buckets r body p (mid ++ left)) (c.serve_whole.ensures.serves p times mid st))

pub returns-in-Err-Closed-clause-serves : goal.returns-in-Err-Closed-clause-serves
returns-in-Err-Closed-clause-serves g c = λ p times st.
    let kept = c.args.kept.now.bytes.items in
    let mid = c.read_body.new.kept.bytes.items in
    let r = c.args.request.now in
    let model = g.S.Storage.model in
    let buckets = c.args.buckets.now in
    let holds = Reached model g.S.Storage.fits g.S.Storage.lacks (g.S.Storage.stands c.args.store.now) p.store in
    let known = known_from model g.S.Storage.fits g.S.Storage.lacks p.store in
    let served = c.args.served.now in
    let res = c.answer_request.result in
    let a = Refusal IncompleteBody in
    let A : Connection → Connection → Type 0 = ReadsBody kept r.length (Err Closed) mid in
    let P : List ℕ → List ℕ → Type 0 = λ all rest. IsBodyOf all r.length (Err Closed) rest in
    let B : Connection → Connection → Type 0 = OnAll P kept mid in
    let o = g.L.Link.present c.args.link.now in
    let m = g.L.Link.present c.read_body.new.link in
    let n = g.L.Link.present c.answer_request.new.link in
    read_then holds known times served res kept mid mid o m n P (body_turn model buckets r p) (λ rest. passing p (answer_turn r a p rest))
    (on_present_both A B (λ x y. IsQuiet x y × OnAll P kept mid x y) o m (λ x y h k. (takes_quiet kept mid x y h.0, k)) (rw c.in-Err-Closed.field-0-is at c.in-Err-Closed.ensures.reads) (rw c.in-Err-Closed.field-0-is at c.in-Err-Closed.ensures.told))
    (λ all rest is. short_body model buckets r p all rest is)
    (passing_serves holds known times served res mid m n p (λ left. answer_turn r a p (mid ++ left))
    (says_serves holds known times served res mid m n (text_of r a) (closes_of r a) p (stands_here model g.S.Storage.fits g.S.Storage.lacks (g.S.Storage.stands c.args.store.now) times served p st) c.answer_request.ensures.says))

pub returns-in-Err-Closed-clause-goes : goal.returns-in-Err-Closed-clause-goes
returns-in-Err-Closed-clause-goes g c = goes_here g.S.Storage.model g.S.Storage.fits g.S.Storage.lacks (g.S.Storage.stands c.args.store.now) c.answer_request.result c.answer_request.ensures.cause

pub returns-in-Err-Memory-clause-serves : goal.returns-in-Err-Memory-clause-serves
returns-in-Err-Memory-clause-serves g c = λ p times st.
    let kept = c.args.kept.now.bytes.items in
    let mid = c.read_body.new.kept.bytes.items in
    let r = c.args.request.now in
    let model = g.S.Storage.model in
    let o = g.L.Link.present c.args.link.now in
    let m = g.L.Link.present c.read_body.new.link in
    read_wants (Reached model g.S.Storage.fits g.S.Storage.lacks (g.S.Storage.stands c.args.store.now) p.store) (known_from model g.S.Storage.fits g.S.Storage.lacks p.store) times c.args.served.now mid o m (λ left. body_turn model c.args.buckets.now r p (kept ++ left))
    (λ left. begins_so p (body_turn model c.args.buckets.now r p (kept ++ left)) (body_begins model c.args.buckets.now r p (kept ++ left)))
    (on_present (ReadsBody kept r.length (Err Wanting) mid) IsQuiet o m (λ x y h. takes_quiet kept mid x y h.0) (rw c.in-Err-Memory.field-0-is at c.in-Err-Memory.ensures.reads))

pub returns-in-Err-Failed-clause-serves : goal.returns-in-Err-Failed-clause-serves
returns-in-Err-Failed-clause-serves g c = λ p times st.
    let kept = c.args.kept.now.bytes.items in
    let mid = c.read_body.new.kept.bytes.items in
    let r = c.args.request.now in
    let model = g.S.Storage.model in
    let buckets = c.args.buckets.now in
    let o = g.L.Link.present c.args.link.now in
    let m = g.L.Link.present c.read_body.new.link in
    read_fails (Reached model g.S.Storage.fits g.S.Storage.lacks (g.S.Storage.stands c.args.store.now) p.store) (known_from model g.S.Storage.fits g.S.Storage.lacks p.store) times c.args.served.now mid o m (λ left. body_turn model buckets r p (kept ++ left)) p
    (stands_here model g.S.Storage.fits g.S.Storage.lacks (g.S.Storage.stands c.args.store.now) times c.args.served.now p st) (λ left. body_begins model buckets r p (kept ++ left))
    (on_present (ReadsBody kept r.length (Err Failed) mid) IsFailed o m (λ x y h. fails_failed kept mid x y h) (rw c.in-Err-Failed.field-0-is at c.in-Err-Failed.ensures.reads))
