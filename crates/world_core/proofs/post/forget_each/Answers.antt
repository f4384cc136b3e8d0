use Rattle.std.proofs.Common.{◌≡◌, ◌+◌, ◌<◌, Some, length, refl, sym, ◌∙◌, subst, arith}
use Rattle.std.proofs.lemmas.List.{length-set}
use Rattle.std.proofs.lemmas.Option.{slice_get_read}
use Rattle.std.specs.Prelude.{slice_get, slice_set}
use Rattle.world_core.proofs.PostsForgotten.{Forgets, forgets_none, forgets_more, forgets_all}
use Rattle.world_core.proofs.post.forget_each.Goals as goal

pub loop-place-init : goal.loop-place-init
loop-place-init g c = record { forgets = forgets_none c.args.slots.now.items; long = refl }

pub loop-place-preserved : goal.loop-place-preserved
loop-place-preserved g c =
    let old = c.args.slots.now.items in
    let slots = c.loop-place.slots.items in
    let place = c.loop-place.place in
    let i = c.loop-place.invariant in
    let within : place < length slots = omega arith in
    let there : slice_get slots place ≡ Some c.index_mut.result.now = slice_get_read slots (length slots) place c.index_mut.result.now refl within c.index_mut.ensures.value in
    record {
      forgets = subst (λ x. Forgets old (slice_set slots place x) (place + 1)) (sym c.forget.ensures) (forgets_more old slots place c.index_mut.result.now there i.forgets);
      long = length-set slots place c.forget.new.self ∙ i.long;
    }

pub returns : goal.returns
returns g c = let i = c.loop-place.invariant in forgets_all c.args.slots.now.items c.loop-place.slots.items c.loop-place.place i.forgets (omega arith)
