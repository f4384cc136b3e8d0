use Rattle.std.proofs.Common.{◌∙◌, length, sym, ap}
use Rattle.std.specs.List.{list_all}
use Rattle.cluster_machine.specs.Phases.{is_spelled}
use Rattle.node_parts.proofs.Faults.{ok_to, passed_on}
use Rattle.node_parts.proofs.WalkSends.{some_rows, pushed_some, lacks_noted}
use Rattle.node_parts.proofs.sender.Sender.push.Goals as goal

pub returns-in_err-bytes_of_each-clause-causes : goal.returns-in_err-bytes_of_each-clause-causes
returns-in_err-bytes_of_each-clause-causes g c =
    let words = g.S.Schema.words in
    let are = c.as_slice.ensures.value ∙ c.in_ok-rows.ensures.are in
    passed_on c.from_residual-in_err-bytes_of_each.result c.in_err-bytes_of_each.field-0.0 c.from_residual-in_err-bytes_of_each.ensures.1 c.in_err-bytes_of_each.ensures.causes
    (λ lacks. lacks_noted g.S.Row.Crdt.join words c.args.contents.now c.args.p c.args.noted.now (ap (list_all (is_spelled words)) (sym are) ∙ lacks))

pub returns-clause-pushes : goal.returns-clause-pushes
returns-clause-pushes g c = ok_to c.send.result c.send.ensures.sent (λ sent.
    let join = g.S.Row.Crdt.join in
    let words = g.S.Schema.words in
    let rows = c.in_ok-rows.rows in
    let given = c.as_slice.result.now in
    pushed_some join words c.args.self c.args.contents.now c.args.out.now.items c.send.new.out.items c.args.to c.args.p c.args.noted.now given c.in_ok-bytes_of_each.field-0
    (c.as_slice.ensures.value ∙ c.in_ok-rows.ensures.are)
    (some_rows join words given rows.len c.is_empty.result (ap (λ rs. length rs) c.as_slice.ensures.value ∙ sym rows.ok.0) c.is_empty.ensures c.if-is_empty.false)
    c.in_ok-bytes_of_each.ensures.are sent)
