use Rattle.std.proofs.Common.{◌≤◌, [], length, Err, Bool, refl, sym, subst, arith}
use Rattle.serve_model.specs.declared.served.ServeFault.{ServeFault}
use Rattle.serve_model.specs.Stores.{leave}
use Rattle.serve_model.specs.Serving.{Reached, Goes, Stands}
use Rattle.serve_loop.specs.Taking.{CameFirst}
use Rattle.serve_loop.proofs.Serving.{none_read}
use Rattle.serve_loop.proofs.Streams.{taken_as}
use Rattle.serve_loop.proofs.Uploading.{StreamServed, cause_of, cause_weaker, cause_goes, goes_from, wants_serves}
use Rattle.serve_loop.proofs.taking.receive.Goals as goal

pub take_parts-requires-clause-begun : goal.take_parts-requires-clause-begun
take_parts-requires-clause-begun g c = let s = c.requires.state in (s.0, c.args.request.now.time, c.args.upload, refl, c.in-Ok.ensures.takes s.0 s.1)

pub end_upload-requires-clause-on_its_way : goal.end_upload-requires-clause-on_its_way
end_upload-requires-clause-on_its_way g c =
    let s = c.requires.state in
    let t = c.in-Ok-take_parts.ensures.taken in
    (t.need, t.needs, (s.0, c.args.request.now.time, c.args.upload, t.came, (t.takes s.0 c.args.request.now.time c.args.upload refl (c.in-Ok.ensures.takes s.0 s.1)).0))

pub returns-in-Ok-take_parts-clause-serves : goal.returns-in-Ok-take_parts-clause-serves
returns-in-Ok-take_parts-clause-serves g c = λ buckets p times served streamed st within.
    let r = c.args.request.now in
    let t = c.in-Ok-take_parts.ensures.taken in
    let now = t.takes p.store r.time c.args.upload refl (c.in-Ok.ensures.takes p.store st.store) in
    let st' : Stands (λ s. g.S.Storage.takes c.take_parts.new.store s r.time c.args.upload t.came t.need) times served p = record { store = now.0; clock = st.clock; time = st.time; kept = st.kept } in
    c.end_upload.ensures.serves buckets c.args.upload t.came t.need p times served c.args.kept.now.bytes.items c.take_parts.new.kept.bytes.items (g.L.Link.present c.args.link.now) streamed t.needs now.1 (t.sums r c.new-sums.ensures) t.read st' within

pub returns-in-Ok-take_parts-clause-goes : goal.returns-in-Ok-take_parts-clause-goes
returns-in-Ok-take_parts-clause-goes g c =
    let r = c.args.request.now in
    let t = c.in-Ok-take_parts.ensures.taken in
    goes_from g.S.Storage.model g.S.Storage.fits g.S.Storage.lacks Bool (g.S.Storage.stands c.args.store.now) (λ s. g.S.Storage.takes c.take_parts.new.store s r.time c.args.upload t.came t.need) (g.S.Storage.stands c.end_upload.new.store) c.end_upload.result
    (λ s h. (t.takes s r.time c.args.upload refl (c.in-Ok.ensures.takes s h)).0) (c.end_upload.ensures.goes c.args.upload t.came t.need t.needs)

pub returns-in-Err-clause-serves : goal.returns-in-Err-clause-serves
returns-in-Err-clause-serves g c = λ buckets p times served streamed st within.
    let r = c.args.request.now in
    let u = c.args.upload in
    let model = g.S.Storage.model in
    let fits = g.S.Storage.fits in
    let lacks = g.S.Storage.lacks in
    let kept = c.args.kept.now.bytes.items in
    let holds = Reached model fits lacks (g.S.Storage.stands c.receive.new.self) p.store in
    let o = g.L.Link.present c.args.link.now in
    let P : ServeFault → Type 0 = λ e. StreamServed model buckets fits lacks r u p holds times served kept kept e o o in
    subst P (sym c.from.ensures)
    (wants_serves model buckets fits lacks r u p holds times served kept kept [] _ o o
    (cause_weaker _ ((0 ≤ r.length) × lacks p.store r.time (leave u [])) _ (λ lack. (omega arith, lack p.store st.store)) (cause_of c.in-Err.memory _ c.in-Err.ensures.causes)) (none_read (CameFirst []) kept o (λ all. refl)))

pub returns-in-Err-clause-goes : goal.returns-in-Err-clause-goes
returns-in-Err-clause-goes g c =
    let old = g.S.Storage.stands c.args.store.now in
    let new = g.S.Storage.stands c.receive.new.self in
    let P : ServeFault → Type 0 = λ e. Goes g.S.Storage.model g.S.Storage.fits g.S.Storage.lacks {A = Bool} old new (Err e) in
    subst P (sym c.from.ensures) (cause_goes g.S.Storage.model g.S.Storage.fits g.S.Storage.lacks old new c.args.request.now.time (leave c.args.upload []) Bool _ (cause_of c.in-Err.memory _ c.in-Err.ensures.causes))

pub returns-in-Err-take_parts-clause-serves : goal.returns-in-Err-take_parts-clause-serves
returns-in-Err-take_parts-clause-serves g c = λ buckets p times served streamed st within.
    let r = c.args.request.now in
    let u = c.args.upload in
    let lacks = g.S.Storage.lacks in
    let gave_up = c.in-Err-take_parts.ensures.causes in
    let same = (taken_as buckets.names r.length r.ask u streamed).size_is in
    wants_serves g.S.Storage.model buckets g.S.Storage.fits lacks r u p (Reached g.S.Storage.model g.S.Storage.fits lacks (g.S.Storage.stands c.take_parts.new.store) p.store) times served c.args.kept.now.bytes.items c.take_parts.new.kept.bytes.items gave_up.came c.in-Err-take_parts.fault
    (g.L.Link.present c.args.link.now) (g.L.Link.present c.take_parts.new.link)
    (cause_weaker _ ((length gave_up.came ≤ r.length) × lacks p.store r.time (leave u gave_up.came)) c.in-Err-take_parts.fault (λ full. let le = full.0 in (omega (arith, le, same), full.1 p.store r.time u refl (c.in-Ok.ensures.takes p.store st.store))) gave_up.because) gave_up.read

pub returns-in-Err-take_parts-clause-goes : goal.returns-in-Err-take_parts-clause-goes
returns-in-Err-take_parts-clause-goes g c =
    let time = c.args.request.now.time in
    let u = c.args.upload in
    let lacks = g.S.Storage.lacks in
    let old = g.S.Storage.stands c.args.store.now in
    let gave_up = c.in-Err-take_parts.ensures.causes in
    cause_goes g.S.Storage.model g.S.Storage.fits lacks old (g.S.Storage.stands c.take_parts.new.store) time (leave u gave_up.came) Bool c.in-Err-take_parts.fault
    (cause_weaker _ ((s : g.S.Storage.State) → old s → lacks s time (leave u gave_up.came)) c.in-Err-take_parts.fault (λ full s h. full.1 s time u refl (c.in-Ok.ensures.takes s h)) gave_up.because)
