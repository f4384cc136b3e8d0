use Rattle.std.proofs.Common.{◌≡◌, ◌++◌, [], ◌∷◌, map, sym, ap, ◌∙◌, arith}
use Rattle.std.specs.List.{range_with_len}
use Rattle.std.proofs.lemmas.List.FromFn.{map-range_with_len_more}
use Rattle.layout_flow.specs.Closed.{column, columns}
use Rattle.layout_flow.proofs.rows.sets_of.Goals as goal

pub loop-p-preserved : goal.loop-p-preserved
loop-p-preserved c =
    let p = c.loop-p.p in
    let copies = c.args.copies.now in
    let more = map-range_with_len_more (column c.args.count copies) 0 p p (omega arith) in
    c.in_ok-push.ensures.ok ∙ (λ i. c.loop-p.invariant i ++ c.in_order.ensures.nodes i ∷ []) ∙ sym more

pub returns-clause-sets : goal.returns-clause-sets
unfolding columns
returns-clause-sets c =
    let end : c.loop-p.p ≡ c.args.count = omega arith in
    c.loop-p.invariant ∙ ap (λ p. map (column c.args.count c.args.copies.now) (range_with_len 0 p)) end
