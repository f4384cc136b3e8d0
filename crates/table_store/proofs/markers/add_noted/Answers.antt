use Rattle.std.specs.Prelude.{◌||◌, ◌&&◌}
use Rattle.std.proofs.Common.{ap, sym, ◌∙◌}
use Rattle.std.specs.Ordering.{nat_cmp, is_eq}
use Rattle.std.specs.Cmp.Lexicographic.{slice_cmp}
use Rattle.table_store.specs.Index.{has_key}
use Rattle.table_store.specs.Markers.{is_marked_at}
use Rattle.table_store.proofs.Marked.{walk_on, walked_all}
use Rattle.table_store.proofs.markers.add_noted.Goals as goal

pub loop-key-preserved : goal.loop-key-preserved
loop-key-preserved g c other =
    let test = is_marked_at g.S.Schema.words c.args.limit c.args.shelf.now.rows.entries other in
    let had = has_key other c.loop-key.keys.keys in
    let rest = has_key other c.next.new.self in
    let here = is_eq (slice_cmp nat_cmp other c.in-Some.key.now.items) in
    ap (λ b. b || (rest && test)) (c.in_ok-add_one.ensures.adds other ∙ ap (λ k. had || (is_eq (slice_cmp nat_cmp other k) && test)) c.as_slice.ensures.value)
    ∙ (walk_on had here rest test
    ∙ (ap (λ ks. had || (has_key other ks && test)) (sym c.in-Some.ensures.steps)
    ∙ c.loop-key.invariant other))

pub returns-clause-adds : goal.returns-clause-adds
returns-clause-adds g c other =
    let test = is_marked_at g.S.Schema.words c.args.limit c.args.shelf.now.rows.entries other in
    let had = has_key other c.loop-key.keys.keys in
    sym (walked_all had test)
    ∙ (ap (λ ks. had || (has_key other ks && test)) (sym c.in-None.ensures.steps.0)
    ∙ (c.loop-key.invariant other
    ∙ ap (λ ks. has_key other c.args.keys.now.keys || (has_key other ks && test)) c.into_iter-key-iterator.ensures.into_iter_gives.0))
