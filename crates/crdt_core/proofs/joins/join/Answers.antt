use Rattle.std.proofs.Common.{◌≡◌, ◌+◌, [], ◌∷◌, ◌++◌, Some, All, take, ap, sym, subst, ◌∙◌}
use Rattle.std.proofs.lemmas.List.{take_more, take_all}
use Rattle.crdt_core.specs.Order.{AtMost, option_join, join_of}
use Rattle.crdt_core.proofs.JoinOrder.{join_of-append, members_below}
use Rattle.crdt_core.proofs.joins.join.Goals as goal

-- one row more joins with those before it
pub loop-row-preserved : goal.loop-row-preserved
loop-row-preserved g c =
    let rows = c.args.rows.now in
    let i = c.loop-row.row-index in
    let x = c.row-item.result in
    let more : take (i + 1) rows ≡ take i rows ++ x ∷ [] = take_more rows i x c.loop-row-test.true ∙ ap (λ y. take i rows ++ y ∷ []) (sym c.row-item.is) in
    rw (c.in_ok-all.ensures.joined, c.loop-row.invariant, more) (sym (join_of-append g.met.R.Crdt.join_laws (take i rows) (x ∷ [])))

-- the join of all rows is above each
pub returns-clause-above : goal.returns-clause-above
returns-clause-above g c =
    let j = g.R.Crdt.join in
    let rows = c.args.rows.now in
    let whole : c.loop-row.all ≡ join_of j rows = c.loop-row.invariant ∙ ap (join_of j) (take_all c.loop-row.row-index rows c.loop-row-test.false) in
    subst (λ all. All (λ row. AtMost (option_join j) (Some row) all) rows) (sym whole) (members_below g.met.R.Crdt.join_laws rows)
