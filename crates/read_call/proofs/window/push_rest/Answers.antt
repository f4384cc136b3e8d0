use Rattle.read_call.proofs.Walking.{rest_step, rest_end}
use Rattle.read_call.proofs.window.push_rest.Goals as goal

pub loop-row-preserved : goal.loop-row-preserved
loop-row-preserved g c =
    rest_step g.S.Schema.words c.args.end.now c.args.rest.now c.loop-row.row-index c.row-item.result c.in_ok-key.key c.loop-row.rows.items c.push_copy.new.rows.items _ c.loop-row-test.true c.row-item.is c.in_ok-key.ensures.is c.in_ok-push_copy.ensures.copied c.loop-row.invariant

pub returns-clause-rest : goal.returns-clause-rest
returns-clause-rest g c =
    rest_end g.S.Schema.words c.args.end.now c.args.rest.now c.loop-row.row-index c.loop-row.rows.items _ c.loop-row-test.false c.loop-row.invariant
