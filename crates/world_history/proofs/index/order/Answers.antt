use Rattle.std.proofs.Common.{◌≡◌, ◌+◌, ◌∷◌, [], ◌++◌, length, refl, sym, subst, arith}
use Rattle.std.proofs.lemmas.Option.{slice_get_read}
use Rattle.world_history.proofs.Order.{Told, told_none, told_more, told_sorted}
use Rattle.world_history.proofs.index.order.Goals as goal

pub loop-i-init : goal.loop-i-init
loop-i-init c = subst (Told c.args.records.now 0) (sym c.new-order.ensures.items) (told_none c.args.records.now)

-- one record more
pub loop-i-preserved : goal.loop-i-preserved
loop-i-preserved c =
    let h = c.args.records.now in
    let at = slice_get_read h (length h) c.loop-i.i c.index-records-i.result refl c.loop-i-test.true c.index-records-i.is in
    subst (Told h (c.loop-i.i + 1)) (sym c.in-Ok.ensures.items)
    (subst (λ q. Told h (c.loop-i.i + 1) (c.loop-i.order.items ++ (q, c.loop-i.i) ∷ [])) (sym c.request.ensures)
    (told_more h c.loop-i.i c.index-records-i.result c.loop-i.order.items at c.loop-i.invariant))

pub returns-clause-told : goal.returns-clause-told
returns-clause-told c =
    let h = c.args.records.now in
    let all : c.loop-i.i ≡ length h = omega arith in
    told_sorted h c.loop-i.order.items c.sort_unstable.new.self.items (subst (λ n. Told h n c.loop-i.order.items) all c.loop-i.invariant) c.sort_unstable.ensures.permutation c.sort_unstable.ensures.sorted
