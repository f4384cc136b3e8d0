use Rattle.std.specs.Prelude.{Some, None}
use Rattle.std.proofs.Common.{ap, sym, ◌∙◌}
use Rattle.table_model.specs.Rows.{find_row}
use Rattle.cluster_machine.specs.Rows.{same_bytes}
use Rattle.node_parts.proofs.TombSteps.{has_is}
use Rattle.node_parts.proofs.contents.Contents.has_bytes.Goals as goal

pub returns-in-Some-clause-is : goal.returns-in-Some-clause-is
returns-in-Some-clause-is g c =
    let join = g.S.Row.Crdt.join in
    let s = g.S.Schema.words in
    c.is_same.ensures
    ∙ (ap (λ row. same_bytes row c.args.bytes.now) c.as_slice.ensures
    ∙ sym (has_is join s c.args.bytes.now (find_row s 1 c.args.key.now c.args.self.now.table) (Some c.in-Some.row) (sym c.in-Some.is ∙ c.in_ok-row.ensures.are)))

pub returns-in-None-clause-is : goal.returns-in-None-clause-is
returns-in-None-clause-is g c =
    sym (has_is g.S.Row.Crdt.join g.S.Schema.words c.args.bytes.now (find_row g.S.Schema.words 1 c.args.key.now c.args.self.now.table) None (sym c.in-None.is ∙ c.in_ok-row.ensures.are))
