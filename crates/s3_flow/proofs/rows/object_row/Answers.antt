use Rattle.std.proofs.Common.{true, ◌≡◌, ◌∙◌}
use Rattle.std.proofs.lemmas.Result.{IfOk-weaker}
use Rattle.crdt_rows.specs.State.{is_sized}
use Rattle.flow_model.specs.Rows.{object_row}
use Rattle.s3_flow.proofs.ObjectRows.{the_object_row}
use Rattle.s3_flow.proofs.rows.object_row.Goals as goal

pub returns-clause-is : goal.returns-clause-is
returns-clause-is c =
    IfOk-weaker c.object.result _ (λ row. (sized : is_sized c.args.state ≡ true) → row ≡ object_row c.args.name c.args.version c.args.state sized)
    (λ row same sized. same ∙ the_object_row c.in_ok-row.row c.args.name c.args.version c.args.state _ sized c.in_ok-row.ensures.key c.in_ok-row.ensures.versions c.hash.ensures)
    c.object.ensures.same
