use Rattle.std.proofs.Common.{ℕ, List, ◌++◌, Option, Some, None, inl, refl, sym, ◌∙◌, ap}
use Rattle.s3_model.specs.declared.fault.Code.{Code}
use Rattle.serve_model.specs.declared.served.ServeFault.TheVariants.{Memory}
use Rattle.serve_model.specs.Stores.{known_from}
use Rattle.serve_model.specs.Talk.{passing, came_turn}
use Rattle.serve_model.specs.Serving.{Reached}
use Rattle.serve_loop.specs.Sums.{refusal_of_sums}
use Rattle.serve_loop.proofs.Serving.{serves_same, gives_up}
use Rattle.serve_loop.proofs.Uploading.{left_so_far}
use Rattle.serve_loop.proofs.taking.end_whole.Goals as goal

pub refuse_upload-requires-clause-on_its_way : goal.refuse_upload-requires-clause-on_its_way
refuse_upload-requires-clause-on_its_way g c = (Some 0, c.requires.whole)

pub returns-in-Ok-Some-clause-serves : goal.returns-in-Ok-Some-clause-serves
returns-in-Ok-Some-clause-serves g c = λ u came p times served kept sums st within.
    let r = c.args.request.now in
    let model = g.S.Storage.model in
    let holds = Reached model g.S.Storage.fits g.S.Storage.lacks (g.S.Storage.stands c.refuse_upload.new.store) p.store in
    let known = known_from model g.S.Storage.fits g.S.Storage.lacks p.store in
    let o = g.L.Link.present c.args.link.now in
    let n = g.L.Link.present c.refuse_upload.new.link in
    let t : Option Code → List ℕ → _ = λ code left. passing p (came_turn model r u code came p (kept ++ left)) in
    serves_same holds known times served (t (Some c.in-Ok-Some.code)) (t (refusal_of_sums r came)) c.refuse_upload.result kept o n (λ left. ap (λ code. t code left) (sym (c.in-Ok-Some.ensures.same came sums) ∙ c.in-Ok-Some.field-0-is))
    (c.refuse_upload.ensures.serves u came (Some 0) (λ left. came) p times served kept (λ left. left_so_far u came (Some 0)) st)

pub returns-in-Ok-Some-clause-goes : goal.returns-in-Ok-Some-clause-goes
returns-in-Ok-Some-clause-goes g c = λ u came. c.refuse_upload.ensures.goes u came (Some 0)

pub returns-in-Ok-None-clause-serves : goal.returns-in-Ok-None-clause-serves
returns-in-Ok-None-clause-serves g c = λ u came p times served kept sums st within.
    let r = c.args.request.now in
    let model = g.S.Storage.model in
    let holds = Reached model g.S.Storage.fits g.S.Storage.lacks (g.S.Storage.stands c.keep_upload.new.store) p.store in
    let known = known_from model g.S.Storage.fits g.S.Storage.lacks p.store in
    let o = g.L.Link.present c.args.link.now in
    let n = g.L.Link.present c.keep_upload.new.link in
    let t : Option Code → List ℕ → _ = λ code left. passing p (came_turn model r u code came p (kept ++ left)) in
    serves_same holds known times served (t None) (t (refusal_of_sums r came)) c.keep_upload.result kept o n (λ left. ap (λ code. t code left) (sym (c.in-Ok-None.ensures.same came sums) ∙ c.in-Ok-None.field-0-is))
    (c.keep_upload.ensures.serves u came p times served kept st within)

pub returns-in-Err-clause-serves : goal.returns-in-Err-clause-serves
returns-in-Err-clause-serves g c = λ u came p times served kept sums st within.
    let r = c.args.request.now in
    let model = g.S.Storage.model in
    let holds = Reached model g.S.Storage.fits g.S.Storage.lacks (g.S.Storage.stands c.args.store.now) p.store in
    let known = known_from model g.S.Storage.fits g.S.Storage.lacks p.store in
    gives_up holds known times served (λ left. passing p (came_turn model r u (refusal_of_sums r came) came p (kept ++ left))) Memory kept (g.L.Link.present c.args.link.now) (λ left. inl refl) (λ left. tt)
