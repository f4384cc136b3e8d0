use Rattle.std.proofs.Common.{◌++◌, reverse, ap, ◌∙◌, arith}
use Rattle.std.proofs.lemmas.List.{take_rest}
use Rattle.quorum_model.specs.Window.{keyed, rows_within}
use Rattle.read_call.proofs.Walking.{walk_step, walk_end, none_left}
use Rattle.read_call.proofs.window.both_rows.Goals as goal

pub loop-row-preserved : goal.loop-row-preserved
loop-row-preserved g c =
    let s = g.S.Schema.words in
    let end = c.args.end.now in
    let key = c.in_ok-key.key in
    let row = c.in-Some.row in
    let later = keyed s (reverse c.pop.new.self.items) in
    let passed = c.in_ok-passed.passed in
    record {
      within = c.in_ok-taken.ensures.taken;
      rest =
          walk_step s g.S.Row.Crdt.join end c.args.first.now c.loop-row.taken c.in_ok-taken.taken passed.is_met passed.count c.loop-row.waiting.items c.pop.new.self.items row key
          c.loop-row.rows.items c.push_below.new.rows.items c.push_next.new.rows.items _
          c.in-Some.ensures.items c.in_ok-key.ensures.is (c.in_ok-passed.ensures.below row later) (c.in_ok-taken.ensures.next s end key later c.is_within-is_kept.ensures) c.loop-row.invariant.rest;
    }

pub returns-clause-are : goal.returns-clause-are
returns-clause-are g c =
    let s = g.S.Schema.words in
    let end = c.args.end.now in
    let rows = c.loop-row.rows.items in
    walk_end s g.S.Row.Crdt.join end c.args.first.now c.loop-row.taken c.loop-row.waiting.items rows c.push_rest.new.rows.items _
    (none_left c.loop-row.waiting.items (omega (arith, c.in_default.ensures.cases.0, c.loop-row.waiting.ok.0)))
    (c.in_ok-push_rest.ensures.rest ∙ ap (λ l. rows ++ rows_within end (keyed s l)) (take_rest c.args.first.now c.loop-row.taken))
    c.loop-row.invariant.rest
