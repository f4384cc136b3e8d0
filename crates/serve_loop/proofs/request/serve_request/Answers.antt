use Rattle.std.proofs.Common.{ℕ, ◌++◌, Ok, Err, Some, [], List, true, false, subst}
use Rattle.lab_outside.specs.Connection.{Connection}
use Rattle.lab_outside.proofs.Present.{on_present, on_present_same}
use Rattle.http_wire.specs.declared.head.HeadEnd.TheVariants.{Closed, TooLong, Bad, Failed, Memory as Wanting}
use Rattle.http_wire.specs.Reading.{ReadsHead, IsHeadOf, OnAll}
use Rattle.serve_model.specs.Stores.{known_from}
use Rattle.serve_model.specs.Talk.{clocked, passing, said, bad_head, head_turn, turn}
use Rattle.serve_model.specs.Serving.{Reached, Says, SaysOn}
use Rattle.serve_loop.specs.Taking.{IsQuiet, IsFailed}
use Rattle.serve_loop.proofs.Serving.{on_present_both, read_then, read_fails, read_wants, passing_serves, says_serves, silence_says, stands_here, goes_here}
use Rattle.serve_loop.proofs.Bodies.{takes_quiet, fails_failed}
use Rattle.serve_loop.proofs.Heads.{stands_clocked, turn_of_head, turn_of_bad, turn_of_long, turn_of_end}
use Rattle.serve_loop.proofs.Begins.{begins_so, turn_begins}
use Rattle.serve_loop.proofs.request.serve_request.Goals as goal

pub returns-in-Ok-clause-serves : goal.returns-in-Ok-clause-serves
returns-in-Ok-clause-serves g c = λ g' p st.
    let kept = c.args.kept.now.bytes.items in
    let mid = c.read_head.new.kept.bytes.items in
    let new = c.serve_found.new.kept.bytes.items in
    let head = c.in-Ok.head in
    let last = c.args.last in
    let r = c.serve_found.result in
    let model = g.S.Storage.model in
    let buckets = c.args.buckets.now in
    let holds = Reached model g.S.Storage.fits g.S.Storage.lacks (g.S.Storage.stands c.serve_found.new.store) p.store in
    let known = known_from model g.S.Storage.fits g.S.Storage.lacks p.store in
    let times = g.C.Clock.times c.serve_found.new.clock in
    let served = c.serve_found.new.served in
    let A : Connection → Connection → Type 0 = ReadsHead kept (Ok head) mid in
    let P : List ℕ → List ℕ → Type 0 = λ all rest. IsHeadOf all (Ok head) rest in
    let B : Connection → Connection → Type 0 = OnAll P kept mid in
    let o = g.L.Link.present c.args.link.now in
    let m = g.L.Link.present c.read_head.new.link in
    let n = g.L.Link.present c.serve_found.new.link in
    read_then holds known times served r kept mid new o m n P (turn model buckets g' last p) (λ rest. passing p (head_turn model buckets last (clocked p).time (Some head) (clocked p) rest))
    (on_present_both A B (λ a b. IsQuiet a b × OnAll P kept mid a b) o m (λ a b x y. (takes_quiet kept x.seen a b x.takes, y)) c.in-Ok.ensures.reads c.in-Ok.ensures.told)
    (λ all rest is. turn_of_head model buckets g' last p head all rest is)
    (passing_serves holds known times served r new m n p (λ left. head_turn model buckets last (clocked p).time (Some head) (clocked p) (mid ++ left)) (c.serve_found.ensures.serves p st))

pub returns-in-Err-TooLong-clause-serves : goal.returns-in-Err-TooLong-clause-serves
returns-in-Err-TooLong-clause-serves g c = λ g' p st.
    let kept = c.args.kept.now.bytes.items in
    let mid = c.read_head.new.kept.bytes.items in
    let call = c.refuse_bad in
    let r = call.result in
    let last = c.args.last in
    let model = g.S.Storage.model in
    let buckets = c.args.buckets.now in
    let stands = g.S.Storage.stands c.args.store.now in
    let holds = Reached model g.S.Storage.fits g.S.Storage.lacks stands p.store in
    let known = known_from model g.S.Storage.fits g.S.Storage.lacks p.store in
    let times = g.C.Clock.times call.new.clock in
    let served = call.new.served in
    let A : Connection → Connection → Type 0 = ReadsHead kept (Err TooLong) mid in
    let P : List ℕ → List ℕ → Type 0 = λ all rest. IsHeadOf all (Err TooLong) rest in
    let B : Connection → Connection → Type 0 = OnAll P kept mid in
    let o = g.L.Link.present c.args.link.now in
    let m = g.L.Link.present c.read_head.new.link in
    let n = g.L.Link.present call.new.link in
    let st' = stands_clocked stands (g.C.Clock.times c.args.clock.now) times c.args.served.now served p call.ensures.kept call.ensures.asked st in
    let Q : ℕ → Type 0 = λ k. SaysOn (bad_head k) true r m n in
    read_then holds known times served r kept mid mid o m n P (turn model buckets g' last p) (λ rest. passing p (said (bad_head (clocked p).time) true (clocked p) rest))
    (on_present_both A B (λ a b. IsQuiet a b × OnAll P kept mid a b) o m (λ a b x y. (takes_quiet kept mid a b x.0, y)) (rw c.in-Err-TooLong.field-0-is at c.in-Err-TooLong.ensures.reads) (rw c.in-Err-TooLong.field-0-is at c.in-Err-TooLong.ensures.told))
    (λ all rest is. turn_of_long model buckets g' last p all rest is)
    (passing_serves holds known times served r mid m n p (λ left. said (bad_head (clocked p).time) true (clocked p) (mid ++ left))
    (says_serves holds known times served r mid m n (bad_head (clocked p).time) true (clocked p) (stands_here model g.S.Storage.fits g.S.Storage.lacks stands times served (clocked p) st') (subst Q st'.time call.ensures.says)))

pub returns-in-Err-TooLong-clause-goes : goal.returns-in-Err-TooLong-clause-goes
returns-in-Err-TooLong-clause-goes g c = goes_here g.S.Storage.model g.S.Storage.fits g.S.Storage.lacks (g.S.Storage.stands c.args.store.now) c.refuse_bad.result c.refuse_bad.ensures.cause

pub returns-in-Err-Bad-clause-serves : goal.returns-in-Err-Bad-clause-serves
returns-in-Err-Bad-clause-serves g c = λ g' p st.
    let kept = c.args.kept.now.bytes.items in
    let mid = c.read_head.new.kept.bytes.items in
    let call = c.refuse_bad-in-Err-Bad in
    let r = call.result in
    let last = c.args.last in
    let model = g.S.Storage.model in
    let buckets = c.args.buckets.now in
    let stands = g.S.Storage.stands c.args.store.now in
    let holds = Reached model g.S.Storage.fits g.S.Storage.lacks stands p.store in
    let known = known_from model g.S.Storage.fits g.S.Storage.lacks p.store in
    let times = g.C.Clock.times call.new.clock in
    let served = call.new.served in
    let A : Connection → Connection → Type 0 = ReadsHead kept (Err Bad) mid in
    let P : List ℕ → List ℕ → Type 0 = λ all rest. IsHeadOf all (Err Bad) rest in
    let B : Connection → Connection → Type 0 = OnAll P kept mid in
    let o = g.L.Link.present c.args.link.now in
    let m = g.L.Link.present c.read_head.new.link in
    let n = g.L.Link.present call.new.link in
    let st' = stands_clocked stands (g.C.Clock.times c.args.clock.now) times c.args.served.now served p call.ensures.kept call.ensures.asked st in
    let Q : ℕ → Type 0 = λ k. SaysOn (bad_head k) true r m n in
    read_then holds known times served r kept mid mid o m n P (turn model buckets g' last p) (λ rest. passing p (said (bad_head (clocked p).time) true (clocked p) rest))
    (on_present_both A B (λ a b. IsQuiet a b × OnAll P kept mid a b) o m (λ a b x y. (takes_quiet kept x.seen a b x.takes, y)) (rw c.in-Err-Bad.field-0-is at c.in-Err-Bad.ensures.reads) (rw c.in-Err-Bad.field-0-is at c.in-Err-Bad.ensures.told))
    (λ all rest is. turn_of_bad model buckets g' last p all rest is)
    (passing_serves holds known times served r mid m n p (λ left. said (bad_head (clocked p).time) true (clocked p) (mid ++ left))
    (says_serves holds known times served r mid m n (bad_head (clocked p).time) true (clocked p) (stands_here model g.S.Storage.fits g.S.Storage.lacks stands times served (clocked p) st') (subst Q st'.time call.ensures.says)))

pub returns-in-Err-Bad-clause-goes : goal.returns-in-Err-Bad-clause-goes
returns-in-Err-Bad-clause-goes g c = goes_here g.S.Storage.model g.S.Storage.fits g.S.Storage.lacks (g.S.Storage.stands c.args.store.now) c.refuse_bad-in-Err-Bad.result c.refuse_bad-in-Err-Bad.ensures.cause

pub returns-in-Err-Closed-clause-serves : goal.returns-in-Err-Closed-clause-serves
returns-in-Err-Closed-clause-serves g c = λ g' p st.
    let kept = c.args.kept.now.bytes.items in
    let mid = c.read_head.new.kept.bytes.items in
    let last = c.args.last in
    let model = g.S.Storage.model in
    let buckets = c.args.buckets.now in
    let stands = g.S.Storage.stands c.args.store.now in
    let holds = Reached model g.S.Storage.fits g.S.Storage.lacks stands p.store in
    let known = known_from model g.S.Storage.fits g.S.Storage.lacks p.store in
    let times = g.C.Clock.times c.args.clock.now in
    let served = c.args.served.now in
    let A : Connection → Connection → Type 0 = ReadsHead kept (Err Closed) mid in
    let P : List ℕ → List ℕ → Type 0 = λ all rest. IsHeadOf all (Err Closed) rest in
    let B : Connection → Connection → Type 0 = OnAll P kept mid in
    let o = g.L.Link.present c.args.link.now in
    let m = g.L.Link.present c.read_head.new.link in
    read_then holds known times served (Ok false) kept mid mid o m m P (turn model buckets g' last p) (λ rest. passing p (said [] true p rest))
    (on_present_both A B (λ a b. IsQuiet a b × OnAll P kept mid a b) o m (λ a b x y. (takes_quiet kept mid a b x.0, y)) (rw c.in-Err-Closed.field-0-is at c.in-Err-Closed.ensures.reads) (rw c.in-Err-Closed.field-0-is at c.in-Err-Closed.ensures.told))
    (λ all rest is. turn_of_end model buckets g' last p all rest is)
    (passing_serves holds known times served (Ok false) mid m m p (λ left. said [] true p (mid ++ left))
    (says_serves holds known times served (Ok false) mid m m [] true p (stands_here model g.S.Storage.fits g.S.Storage.lacks stands times served p st) (on_present_same (Says [] true (Ok false)) m silence_says)))

pub returns-in-Err-Failed-clause-serves : goal.returns-in-Err-Failed-clause-serves
returns-in-Err-Failed-clause-serves g c = λ g' p st.
    let kept = c.args.kept.now.bytes.items in
    let mid = c.read_head.new.kept.bytes.items in
    let model = g.S.Storage.model in
    let buckets = c.args.buckets.now in
    let stands = g.S.Storage.stands c.args.store.now in
    let o = g.L.Link.present c.args.link.now in
    let m = g.L.Link.present c.read_head.new.link in
    read_fails (Reached model g.S.Storage.fits g.S.Storage.lacks stands p.store) (known_from model g.S.Storage.fits g.S.Storage.lacks p.store) (g.C.Clock.times c.args.clock.now) c.args.served.now mid o m (λ left. turn model buckets g' c.args.last p (kept ++ left)) p
    (stands_here model g.S.Storage.fits g.S.Storage.lacks stands (g.C.Clock.times c.args.clock.now) c.args.served.now p st) (λ left. turn_begins model buckets g' c.args.last p (kept ++ left))
    (on_present (ReadsHead kept (Err Failed) mid) IsFailed o m (λ x y h. fails_failed kept mid x y h) (rw c.in-Err-Failed.field-0-is at c.in-Err-Failed.ensures.reads))

pub returns-in-Err-Memory-clause-serves : goal.returns-in-Err-Memory-clause-serves
returns-in-Err-Memory-clause-serves g c = λ g' p st.
    let kept = c.args.kept.now.bytes.items in
    let mid = c.read_head.new.kept.bytes.items in
    let model = g.S.Storage.model in
    let o = g.L.Link.present c.args.link.now in
    let m = g.L.Link.present c.read_head.new.link in
    read_wants (Reached model g.S.Storage.fits g.S.Storage.lacks (g.S.Storage.stands c.args.store.now) p.store) (known_from model g.S.Storage.fits g.S.Storage.lacks p.store) (g.C.Clock.times c.args.clock.now) c.args.served.now mid o m (λ left. turn model c.args.buckets.now g' c.args.last p (kept ++ left))
    (λ left. begins_so p (turn model c.args.buckets.now g' c.args.last p (kept ++ left)) (turn_begins model c.args.buckets.now g' c.args.last p (kept ++ left)))
    (on_present (ReadsHead kept (Err Wanting) mid) IsQuiet o m (λ x y h. takes_quiet kept mid x y h) (rw c.in-Err-Memory.field-0-is at c.in-Err-Memory.ensures.reads))
