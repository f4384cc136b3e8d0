use Rattle.std.proofs.Common.{◌≡◌, ℕ, ◌++◌, Err, Some, true, codes, subst, ap}
use Rattle.http_model.specs.declared.head.Head.{Head}
use Rattle.s3_model.specs.declared.fault.AskFault.{AskFault}
use Rattle.s3_model.specs.declared.fault.AskFault.TheVariants.{Refused}
use Rattle.s3_model.specs.declared.fault.S3Fault.{S3Fault}
use Rattle.layout_text.specs.declared.keys.Access.{Access}
use Rattle.s3_model.specs.Asks.{is_method}
use Rattle.serve_model.specs.declared.served.ServeFault.TheVariants.{Memory}
use Rattle.serve_model.specs.Admitting.{admitted, Admits}
use Rattle.serve_model.specs.Stores.{known_from}
use Rattle.serve_model.specs.Talk.{request_of, head_refusal, path_shown, said, request_turn, asked_turn, head_turn}
use Rattle.serve_model.specs.Serving.{Reached}
use Rattle.serve_loop.proofs.Serving.{serves_same, says_serves, stands_here, goes_here, gives_up}
use Rattle.serve_loop.proofs.Keys.{admitted_keyed}
use Rattle.serve_loop.proofs.Begins.{head_begins}
use Rattle.serve_loop.proofs.request.serve_head.Goals as goal

refused_so : (access : Access) (now : ℕ) (head : Head) (f : AskFault) (fault : S3Fault) → f ≡ Refused fault → Admits access now head (Err f) → admitted access now head ≡ Err fault
refused_so access now head f fault e h = let P : AskFault → Type 0 = λ x. Admits access now head (Err x) in subst P e h

pub serve_ask-requires-clause-keyed : goal.serve_ask-requires-clause-keyed
serve_ask-requires-clause-keyed g c = admitted_keyed c.args.buckets.now.access c.args.now c.args.head.now c.in-Ok.asked c.in-Ok.ensures

pub returns-in-Ok-clause-serves : goal.returns-in-Ok-clause-serves
returns-in-Ok-clause-serves g c = λ p times st.
    let kept = c.args.kept.now.bytes.items in
    let head = c.args.head.now in
    let last = c.args.last in
    let now = c.args.now in
    let model = g.S.Storage.model in
    let buckets = c.args.buckets.now in
    let holds = Reached model g.S.Storage.fits g.S.Storage.lacks (g.S.Storage.stands c.serve_ask.new.store) p.store in
    let known = known_from model g.S.Storage.fits g.S.Storage.lacks p.store in
    serves_same holds known times c.serve_ask.new.served (λ left. request_turn model buckets (request_of last now head c.in-Ok.asked) p (kept ++ left)) (λ left. head_turn model buckets last now (Some head) p (kept ++ left)) c.serve_ask.result c.serve_ask.new.kept.bytes.items (g.L.Link.present c.args.link.now) (g.L.Link.present c.serve_ask.new.link)
    (λ left. ap (λ x. asked_turn model buckets last now head x p (kept ++ left)) c.in-Ok.ensures)
    (c.serve_ask.ensures.serves p times st)

pub returns-in-Err-Refused-clause-serves : goal.returns-in-Err-Refused-clause-serves
returns-in-Err-Refused-clause-serves g c = λ p times st.
    let kept = c.args.kept.now.bytes.items in
    let head = c.args.head.now in
    let last = c.args.last in
    let now = c.args.now in
    let fault = c.in-Err-Refused.fault in
    let model = g.S.Storage.model in
    let buckets = c.args.buckets.now in
    let served = c.args.served.now in
    let res = c.refuse_read.result in
    let holds = Reached model g.S.Storage.fits g.S.Storage.lacks (g.S.Storage.stands c.args.store.now) p.store in
    let known = known_from model g.S.Storage.fits g.S.Storage.lacks p.store in
    let o = g.L.Link.present c.args.link.now in
    let n = g.L.Link.present c.refuse_read.new.link in
    let text = head_refusal fault (path_shown head) (is_method head (codes "HEAD")) now in
    serves_same holds known times served (λ left. said text true p (kept ++ left)) (λ left. head_turn model buckets last now (Some head) p (kept ++ left)) res kept o n
    (λ left. ap (λ x. asked_turn model buckets last now head x p (kept ++ left)) (refused_so buckets.access now head c.in-Err-Refused.field-0 fault c.in-Err-Refused.field-0-is c.in-Err-Refused.ensures))
    (says_serves holds known times served res kept o n text true p (stands_here model g.S.Storage.fits g.S.Storage.lacks (g.S.Storage.stands c.args.store.now) times served p st) c.refuse_read.ensures.says)

pub returns-in-Err-Refused-clause-goes : goal.returns-in-Err-Refused-clause-goes
returns-in-Err-Refused-clause-goes g c = goes_here g.S.Storage.model g.S.Storage.fits g.S.Storage.lacks (g.S.Storage.stands c.args.store.now) c.refuse_read.result c.refuse_read.ensures.cause

pub returns-in-Err-Memory-clause-serves : goal.returns-in-Err-Memory-clause-serves
returns-in-Err-Memory-clause-serves g c = λ p times st.
    let model = g.S.Storage.model in
    let kept = c.args.kept.now.bytes.items in
    gives_up (Reached model g.S.Storage.fits g.S.Storage.lacks (g.S.Storage.stands c.args.store.now) p.store) (known_from model g.S.Storage.fits g.S.Storage.lacks p.store) times c.args.served.now (λ left. head_turn model c.args.buckets.now c.args.last c.args.now (Some c.args.head.now) p (kept ++ left)) Memory kept (g.L.Link.present c.args.link.now) (λ left. head_begins model c.args.buckets.now c.args.last c.args.now (Some c.args.head.now) p (kept ++ left)) (λ left. tt)
