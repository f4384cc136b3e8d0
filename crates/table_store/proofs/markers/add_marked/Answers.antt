use Rattle.std.specs.Prelude.{◌||◌, ◌&&◌}
use Rattle.std.proofs.Common.{ap, sym, ◌∙◌}
use Rattle.table_store.specs.Index.{has_key}
use Rattle.table_store.specs.Markers.{is_marked_at}
use Rattle.table_store.proofs.Marked.{noted_in, walk_on, walked_all, all_noted}
use Rattle.table_store.proofs.markers.add_marked.Goals as goal

pub loop-noted-preserved : goal.loop-noted-preserved
loop-noted-preserved g c other =
    let test = is_marked_at g.S.Schema.words c.args.limit c.args.shelf.now.rows.entries other in
    let had = has_key other c.loop-noted.keys.keys in
    let rest = noted_in other c.next.new.self in
    ap (λ b. b || (rest && test)) (c.in_ok-add_noted.ensures.adds other)
    ∙ (walk_on had (has_key other c.in-Some.noted.now.keys) rest test
    ∙ (ap (λ es. had || (noted_in other es && test)) (sym c.in-Some.ensures.steps)
    ∙ c.loop-noted.invariant other))

pub returns-clause-adds : goal.returns-clause-adds
returns-clause-adds g c other =
    let test = is_marked_at g.S.Schema.words c.args.limit c.args.shelf.now.rows.entries other in
    let had = has_key other c.loop-noted.keys.keys in
    sym (walked_all had test)
    ∙ (ap (λ es. had || (noted_in other es && test)) (sym c.in-None.ensures.steps.0)
    ∙ (c.loop-noted.invariant other
    ∙ (ap (λ es. has_key other c.args.keys.now.keys || (noted_in other es && test)) (c.into_iter-noted-iterator.ensures.into_iter_gives ∙ c.range-noted-items.ensures.between tt)
    ∙ ap (λ b. has_key other c.args.keys.now.keys || b) (all_noted g.S.Schema.words c.args.limit c.args.shelf.now.markers c.args.shelf.now.rows.entries c.requires.marked other))))
