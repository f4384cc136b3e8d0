use Rattle.std.proofs.Common.{◌+◌, arith}
use Rattle.workload.proofs.Growing.{IsMade, made_first, turn_follows, made_has_events, is_schedule, shorter, if_same}
use Rattle.workload.proofs.Allowed.{if_allowed}
use Rattle.workload.proofs.generator.schedule.Goals as goal

pub loop-numbers-init : goal.loop-numbers-init
loop-numbers-init c =
    let h = made_first c.args.seed c.in_ok-events.events c.new-numbers.result.state c.in_ok-events.ensures.events c.new-numbers.ensures in
    record { events = h.0; state = h.1; paced = rw h.0 (made_has_events c.args.seed 0) }

pub loop-numbers-preserved : goal.loop-numbers-preserved
loop-numbers-preserved c =
    let before : IsMade c.args.seed c.loop-numbers.turn c.loop-numbers.events c.loop-numbers.numbers.state = (c.loop-numbers.invariant.events, c.loop-numbers.invariant.state) in
    let h = turn_follows c.args.seed c.loop-numbers.turn c.loop-numbers.events c.add_turn.new.events c.loop-numbers.numbers.state c.add_turn.new.numbers.state before c.in_ok-add_turn.ensures.events c.in_ok-add_turn.ensures.state in
    record { events = h.0; state = h.1; paced = rw h.0 (made_has_events c.args.seed (c.loop-numbers.turn + 1)) }

pub loop-numbers-smaller : goal.loop-numbers-smaller
loop-numbers-smaller c =
    shorter (c.loop-numbers.turn + 1) c.loop-numbers.numbers.state c.args.n c.loop-numbers.events c.add_turn.new.events c.in_ok-add_turn.ensures.events (omega (arith, c.len.ensures, c.loop-numbers-test.true))

pub returns-clause-events : goal.returns-clause-events
returns-clause-events c =
    if_same c.on_lines.result _ _ c.on_lines.ensures.lines (is_schedule c.args.n c.args.seed c.loop-numbers.turn c.loop-numbers.events c.truncate.new.self c.loop-numbers.invariant.events (omega (arith, c.len.ensures, c.loop-numbers-test.false)) c.truncate.ensures)

pub returns-clause-meant : goal.returns-clause-meant
returns-clause-meant c few =
    if_allowed c.on_lines.result c.args.n c.args.seed few (returns-clause-events c)
