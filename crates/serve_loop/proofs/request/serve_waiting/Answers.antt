use Rattle.std.proofs.Common.{ℕ, ◌++◌, Ok, Err, List, subst}
use Rattle.lab_outside.specs.declared.ports.Failed.{Failed}
use Rattle.lab_outside.specs.Connection.{OnPresent, WritesWhole}
use Rattle.serve_model.specs.Stores.{known_from}
use Rattle.serve_model.specs.Judging.{upload_of}
use Rattle.serve_model.specs.Talk.{interim as interim_of, coming_turn}
use Rattle.serve_model.specs.Serving.{Reached}
use Rattle.serve_loop.proofs.Serving.{after_serves, part_serves, stands_here}
use Rattle.serve_loop.proofs.Begins.{coming_begins}
use Rattle.serve_loop.proofs.request.serve_waiting.Goals as goal

pub returns-in-Ok-clause-serves : goal.returns-in-Ok-clause-serves
returns-in-Ok-clause-serves g c = λ p times st.
    let kept = c.args.kept.now.bytes.items in
    let r = c.args.request.now in
    let model = g.S.Storage.model in
    let holds = Reached model g.S.Storage.fits g.S.Storage.lacks (g.S.Storage.stands c.serve_coming.new.store) p.store in
    let known = known_from model g.S.Storage.fits g.S.Storage.lacks p.store in
    let o = g.L.Link.present c.args.link.now in
    let m = g.L.Link.present c.send_whole.new.link in
    let n = g.L.Link.present c.serve_coming.new.link in
    let P : List ℕ → Type 0 = λ t. OnPresent (WritesWhole {E = Failed} (Ok tt) t) o m in
    after_serves holds known times c.serve_coming.new.served Failed (interim_of r) (λ left. coming_turn model c.args.buckets.now r (upload_of c.args.buckets.now r) p (kept ++ left)) c.serve_coming.result c.serve_coming.new.kept.bytes.items o m n
    (subst P c.interim.ensures c.in-Ok.ensures.writes) (c.serve_coming.ensures.serves p times st)

pub returns-in-Err-clause-serves : goal.returns-in-Err-clause-serves
returns-in-Err-clause-serves g c = λ p times st.
    let kept = c.args.kept.now.bytes.items in
    let r = c.args.request.now in
    let model = g.S.Storage.model in
    let buckets = c.args.buckets.now in
    let holds = Reached model g.S.Storage.fits g.S.Storage.lacks (g.S.Storage.stands c.args.store.now) p.store in
    let known = known_from model g.S.Storage.fits g.S.Storage.lacks p.store in
    let o = g.L.Link.present c.args.link.now in
    let m = g.L.Link.present c.send_whole.new.link in
    let P : List ℕ → Type 0 = λ t. OnPresent (WritesWhole (Err c.in-Err.field-0) t) o m in
    part_serves holds known times c.args.served.now {E = Failed} c.in-Err.field-0 (interim_of r) (λ left. coming_turn model buckets r (upload_of buckets r) p (kept ++ left)) p kept o m
    (stands_here model g.S.Storage.fits g.S.Storage.lacks (g.S.Storage.stands c.args.store.now) times c.args.served.now p st) (λ left. coming_begins model buckets r (upload_of buckets r) p (kept ++ left))
    (subst P c.interim.ensures c.in-Err.ensures.writes)
