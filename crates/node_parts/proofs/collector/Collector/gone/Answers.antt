use Rattle.std.specs.Prelude.{◌≡◌, ◌+◌, ◌++◌, ◌∷◌, []}
use Rattle.std.proofs.Common.{ap, sym, ◌∙◌, arith, append-nil, append_assoc, drop}
use Rattle.std.proofs.lemmas.List.{drop_all, drop_more}
use Rattle.node_parts.specs.Collects.{gone_from}
use Rattle.node_parts.proofs.LookedAt.{gone_more}
use Rattle.node_parts.proofs.collector.Collector.gone.Goals as goal

pub loop-collection-preserved : goal.loop-collection-preserved
loop-collection-preserved g c =
    let join = g.S.Row.Crdt.join in
    let words = g.S.Schema.words in
    let contents = c.args.contents.now in
    let all = c.all-all.result.now in
    let i = c.loop-collection.collection-index in
    let o = c.collection-item.result in
    let gone = c.loop-collection.gone.items in
    let rest = gone_from join words contents (drop (i + 1) all) in
    let next : drop i all ≡ o ∷ drop (i + 1) all = drop_more all i o c.loop-collection-test.true ∙ ap (λ y. y ∷ drop (i + 1) all) (sym c.collection-item.is) in
    ap (λ ns. ns ++ rest) c.in_ok-add_gone.ensures.adds
    ∙ (append_assoc gone (gone_from join words contents (o ∷ [])) rest
    ∙ (ap (λ ns. gone ++ ns) (gone_more join words contents o (drop (i + 1) all) ∙ ap (gone_from join words contents) (sym next))
    ∙ c.loop-collection.invariant))

pub returns-clause-are : goal.returns-clause-are
returns-clause-are g c =
    let join = g.S.Row.Crdt.join in
    let words = g.S.Schema.words in
    let contents = c.args.contents.now in
    let all = c.all-all.result.now in
    let i = c.loop-collection.collection-index in
    let gone = c.loop-collection.gone.items in
    sym (ap (λ xs. gone ++ gone_from join words contents xs) (drop_all i all (omega (arith, c.loop-collection-test.false))) ∙ append-nil gone)
    ∙ (c.loop-collection.invariant
    ∙ ap (gone_from join words contents) c.all-all.ensures.all)
