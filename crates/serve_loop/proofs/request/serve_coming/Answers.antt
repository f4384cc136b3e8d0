use Rattle.std.proofs.Common.{ℕ, List, ◌++◌, Option, Some, None, sym, ◌∙◌, ap}
use Rattle.serve_model.specs.declared.served.ServeFault.TheVariants.{Memory}
use Rattle.serve_model.specs.declared.upload.Upload.{Upload}
use Rattle.serve_model.specs.Stores.{known_from}
use Rattle.serve_model.specs.Judging.{upload_of}
use Rattle.serve_model.specs.Talk.{coming_turn}
use Rattle.serve_model.specs.Serving.{Reached}
use Rattle.serve_loop.proofs.Serving.{serves_same, gives_up}
use Rattle.serve_loop.proofs.Begins.{begins_so, coming_begins}
use Rattle.serve_loop.proofs.Streams.{taken_as}
use Rattle.serve_loop.proofs.request.serve_coming.Goals as goal

pub receive-requires-clause-keyed : goal.receive-requires-clause-keyed
receive-requires-clause-keyed g c = let r = c.args.request.now in (taken_as c.args.buckets.now.names r.length r.ask c.in-Ok-Some.upload (sym c.in-Ok-Some.ensures.same ∙ c.in-Ok-Some.field-0-is)).keyed c.requires.keyed

pub receive-requires-clause-put : goal.receive-requires-clause-put
receive-requires-clause-put g c = let r = c.args.request.now in (taken_as c.args.buckets.now.names r.length r.ask c.in-Ok-Some.upload (sym c.in-Ok-Some.ensures.same ∙ c.in-Ok-Some.field-0-is)).put

pub returns-in-Ok-Some-clause-serves : goal.returns-in-Ok-Some-clause-serves
returns-in-Ok-Some-clause-serves g c = λ p times st.
    let kept = c.args.kept.now.bytes.items in
    let r = c.args.request.now in
    let buckets = c.args.buckets.now in
    let model = g.S.Storage.model in
    let holds = Reached model g.S.Storage.fits g.S.Storage.lacks (g.S.Storage.stands c.receive.new.store) p.store in
    let known = known_from model g.S.Storage.fits g.S.Storage.lacks p.store in
    let served = c.args.served.now in
    let is = sym c.in-Ok-Some.ensures.same ∙ c.in-Ok-Some.field-0-is in
    let t : Option Upload → List ℕ → _ = λ u left. coming_turn model buckets r u p (kept ++ left) in
    serves_same holds known times served (t (Some c.in-Ok-Some.upload)) (t (upload_of buckets r)) c.receive.result c.receive.new.kept.bytes.items (g.L.Link.present c.args.link.now) (g.L.Link.present c.receive.new.link) (λ left. ap (λ u. t u left) is)
    (c.receive.ensures.serves buckets p times served is st c.requires.within)

pub returns-in-Ok-None-clause-serves : goal.returns-in-Ok-None-clause-serves
returns-in-Ok-None-clause-serves g c = λ p times st.
    let kept = c.args.kept.now.bytes.items in
    let r = c.args.request.now in
    let buckets = c.args.buckets.now in
    let model = g.S.Storage.model in
    let holds = Reached model g.S.Storage.fits g.S.Storage.lacks (g.S.Storage.stands c.serve_body.new.store) p.store in
    let known = known_from model g.S.Storage.fits g.S.Storage.lacks p.store in
    let is = sym c.in-Ok-None.ensures.same ∙ c.in-Ok-None.field-0-is in
    let t : Option Upload → List ℕ → _ = λ u left. coming_turn model buckets r u p (kept ++ left) in
    serves_same holds known times c.serve_body.new.served (t None) (t (upload_of buckets r)) c.serve_body.result c.serve_body.new.kept.bytes.items (g.L.Link.present c.args.link.now) (g.L.Link.present c.serve_body.new.link) (λ left. ap (λ u. t u left) is)
    (c.serve_body.ensures.serves p times st)

pub returns-in-Err-clause-serves : goal.returns-in-Err-clause-serves
returns-in-Err-clause-serves g c = λ p times st.
    let kept = c.args.kept.now.bytes.items in
    let r = c.args.request.now in
    let buckets = c.args.buckets.now in
    let model = g.S.Storage.model in
    let t : List ℕ → _ = λ left. coming_turn model buckets r (upload_of buckets r) p (kept ++ left) in
    gives_up (Reached model g.S.Storage.fits g.S.Storage.lacks (g.S.Storage.stands c.args.store.now) p.store) (known_from model g.S.Storage.fits g.S.Storage.lacks p.store) times c.args.served.now t Memory kept (g.L.Link.present c.args.link.now)
    (λ left. begins_so p (t left) (coming_begins model buckets r (upload_of buckets r) p (kept ++ left))) (λ left. tt)
