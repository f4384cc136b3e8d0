use Rattle.std.proofs.Common.{Some, ◌++◌, subst}
use Rattle.serve_loop.specs.declared.taking.Came.TheVariants.{Whole, Short, Cut, Unneeded}
use Rattle.lab_outside.specs.Connection.{OnPresent}
use Rattle.serve_model.specs.Serving.{Stands}
use Rattle.serve_loop.specs.Uploads.{IsTaken}
use Rattle.serve_loop.specs.Taking.{NeedsSo, CameSo}
use Rattle.serve_loop.proofs.Uploading.{part_of, left_in_part, LeavesSo, whole_ends, short_ends, cut_ends, unneeded_ends, left_goes}
use Rattle.serve_loop.proofs.taking.end_upload.Goals as goal

pub end_whole-requires-clause-whole : goal.end_whole-requires-clause-whole
end_whole-requires-clause-whole g c =
    let on = c.requires.on_its_way in
    let none : NeedsSo Whole on.0 = subst (λ how. NeedsSo how on.0) c.in-Whole.is on.1 in
    subst (IsTaken (g.S.Storage.takes c.args.store.now)) none on.2

pub refuse_upload-requires-clause-on_its_way : goal.refuse_upload-requires-clause-on_its_way
refuse_upload-requires-clause-on_its_way g c = let on = c.requires.on_its_way in (on.0, on.2)

pub leave_upload-requires : goal.leave_upload-requires
leave_upload-requires g c = let on = c.requires.on_its_way in record { on_its_way = (on.0, on.2) }

pub leave_upload-requires-in-Unneeded : goal.leave_upload-requires-in-Unneeded
leave_upload-requires-in-Unneeded g c = let on = c.requires.on_its_way in record { on_its_way = (on.0, on.2) }

pub returns-in-Whole-clause-serves : goal.returns-in-Whole-clause-serves
returns-in-Whole-clause-serves g c = λ buckets u bytes need p times served before kept start streamed so needs sums reads st within.
    let r = c.args.request.now in
    let takes = g.S.Storage.takes c.args.store.now in
    let o = g.L.Link.present c.args.link.now in
    let none : NeedsSo Whole need = subst (λ how. NeedsSo how need) c.in-Whole.is so in
    let read : OnPresent (CameSo Whole bytes need before kept) start o = subst (λ how. OnPresent (CameSo how bytes need before kept) start o) c.in-Whole.is reads in
    let st' : Stands (λ s. takes s r.time u bytes (Some 0)) times served p = subst (λ x. Stands (λ s. takes s r.time u bytes x) times served p) none st in
    whole_ends g.S.Storage.model buckets g.S.Storage.fits g.S.Storage.lacks takes (g.S.Storage.stands c.end_whole.new.store) r u times before kept p served bytes need st streamed needs c.end_whole.result start o (g.L.Link.present c.end_whole.new.link) none read
    (c.end_whole.ensures.serves u bytes p times served kept sums st' within)

pub returns-in-Whole-clause-goes : goal.returns-in-Whole-clause-goes
returns-in-Whole-clause-goes g c = λ u bytes need so.
    let none : NeedsSo Whole need = subst (λ how. NeedsSo how need) c.in-Whole.is so in
    rw none (c.end_whole.ensures.goes u bytes)

pub returns-in-Short-clause-serves : goal.returns-in-Short-clause-serves
returns-in-Short-clause-serves g c = λ buckets u bytes need p times served before kept start streamed so needs sums reads st within.
    let r = c.args.request.now in
    let takes = g.S.Storage.takes c.args.store.now in
    let o = g.L.Link.present c.args.link.now in
    let some : NeedsSo Short need = subst (λ how. NeedsSo how need) c.in-Short.is so in
    let read : OnPresent (CameSo Short bytes need before kept) start o = subst (λ how. OnPresent (CameSo how bytes need before kept) start o) c.in-Short.is reads in
    let st' : Stands (λ s. takes s r.time u bytes (Some some.0)) times served p = subst (λ x. Stands (λ s. takes s r.time u bytes x) times served p) some.1 st in
    short_ends g.S.Storage.model buckets g.S.Storage.fits g.S.Storage.lacks takes (g.S.Storage.stands c.refuse_upload.new.store) r u times before kept p served bytes need st streamed needs c.refuse_upload.result start o (g.L.Link.present c.refuse_upload.new.link) some read
    (c.refuse_upload.ensures.serves u bytes (Some some.0) (λ left. bytes ++ part_of some.0 (kept ++ left)) p times served kept (λ left. left_in_part u bytes some.0 (kept ++ left)) st')

pub returns-in-Short-clause-goes : goal.returns-in-Short-clause-goes
returns-in-Short-clause-goes g c = λ u bytes need so. c.refuse_upload.ensures.goes u bytes need

pub returns-in-Cut-clause-serves : goal.returns-in-Cut-clause-serves
returns-in-Cut-clause-serves g c = λ buckets u bytes need p times served before kept start streamed so needs sums reads st within.
    let r = c.args.request.now in
    let o = g.L.Link.present c.args.link.now in
    let takes = g.S.Storage.takes c.args.store.now in
    let new = g.S.Storage.stands c.leave_upload.new.store in
    let some : NeedsSo Cut need = subst (λ how. NeedsSo how need) c.in-Cut.is so in
    let read : OnPresent (CameSo Cut bytes need before kept) start o = subst (λ how. OnPresent (CameSo how bytes need before kept) start o) c.in-Cut.is reads in
    let left : LeavesSo g.S.Storage.model g.S.Storage.fits g.S.Storage.lacks takes new c.leave_upload.result = record { closes = c.leave_upload.ensures.closes; given_up = c.leave_upload.ensures.given_up; causes = c.leave_upload.ensures.causes } in
    cut_ends g.S.Storage.model buckets g.S.Storage.fits g.S.Storage.lacks takes new r u times before kept p served bytes need st streamed needs c.leave_upload.result start o some left read

pub returns-in-Cut-clause-goes : goal.returns-in-Cut-clause-goes
returns-in-Cut-clause-goes g c = λ u bytes need so.
    let takes = g.S.Storage.takes c.args.store.now in
    let new = g.S.Storage.stands c.leave_upload.new.store in
    let left : LeavesSo g.S.Storage.model g.S.Storage.fits g.S.Storage.lacks takes new c.leave_upload.result = record { closes = c.leave_upload.ensures.closes; given_up = c.leave_upload.ensures.given_up; causes = c.leave_upload.ensures.causes } in
    left_goes g.S.Storage.model g.S.Storage.fits g.S.Storage.lacks takes new c.leave_upload.result left c.args.request.now.time u bytes need

pub returns-in-Unneeded-clause-serves : goal.returns-in-Unneeded-clause-serves
returns-in-Unneeded-clause-serves g c = λ buckets u bytes need p times served before kept start streamed so needs sums reads st within.
    let r = c.args.request.now in
    let o = g.L.Link.present c.args.link.now in
    let takes = g.S.Storage.takes c.args.store.now in
    let new = g.S.Storage.stands c.leave_upload-in-Unneeded.new.store in
    let none : NeedsSo Unneeded need = subst (λ how. NeedsSo how need) c.in-Unneeded.is so in
    let read : OnPresent (CameSo Unneeded bytes need before kept) start o = subst (λ how. OnPresent (CameSo how bytes need before kept) start o) c.in-Unneeded.is reads in
    let left : LeavesSo g.S.Storage.model g.S.Storage.fits g.S.Storage.lacks takes new c.leave_upload-in-Unneeded.result = record { closes = c.leave_upload-in-Unneeded.ensures.closes; given_up = c.leave_upload-in-Unneeded.ensures.given_up; causes = c.leave_upload-in-Unneeded.ensures.causes } in
    unneeded_ends g.S.Storage.model buckets g.S.Storage.fits g.S.Storage.lacks takes new r u times before kept p served bytes need st streamed needs c.leave_upload-in-Unneeded.result start o none left read

pub returns-in-Unneeded-clause-goes : goal.returns-in-Unneeded-clause-goes
returns-in-Unneeded-clause-goes g c = λ u bytes need so.
    let takes = g.S.Storage.takes c.args.store.now in
    let new = g.S.Storage.stands c.leave_upload-in-Unneeded.new.store in
    let left : LeavesSo g.S.Storage.model g.S.Storage.fits g.S.Storage.lacks takes new c.leave_upload-in-Unneeded.result = record { closes = c.leave_upload-in-Unneeded.ensures.closes; given_up = c.leave_upload-in-Unneeded.ensures.given_up; causes = c.leave_upload-in-Unneeded.ensures.causes } in
    left_goes g.S.Storage.model g.S.Storage.fits g.S.Storage.lacks takes new c.leave_upload-in-Unneeded.result left c.args.request.now.time u bytes need
