use Rattle.std.proofs.Common.{◌≡◌, refl, sym, ap, ◌∙◌}
use Rattle.flow_model.specs.declared.flow.Content.{Content}
use Rattle.flow_model.specs.Rows as model
use Rattle.crdt_rows.specs.declared.body.Meta.{Meta}
use Rattle.s3_flow.proofs.Choices.{complete_long, complete_short}
use Rattle.s3_flow.proofs.ObjectRows.{first_piece}
use Rattle.s3_flow.proofs.rows.complete_pieces.Goals as goal

pub returns-then-are_long-clause-row : goal.returns-then-are_long-clause-row
returns-then-are_long-clause-row c =
    let content : Content = record { body = c.args.received; headers = c.args.headers } in
    complete_long c.args.name c.args.version c.args.block content c.in_ok-row.row (sym c.are_long.ensures ∙ c.if-are_long.true) (c.in_ok-row.ensures.is c.args.block content (rw (c.len.ensures, c.md5.ensures) refl) (first_piece c.args.block c.args.received c.in_ok-first.first c.in_ok-first.ensures.is))

pub returns-clause-row : goal.returns-clause-row
returns-clause-row c =
    let content : Content = record { body = c.args.received; headers = c.args.headers } in
    complete_short c.args.name c.args.version c.args.block content c.in_ok-row-2.row (sym c.are_long.ensures ∙ c.if-are_long.false) (c.in_ok-row-2.ensures.is content (rw (c.len.ensures, c.md5.ensures) refl) c.in_ok-into_bytes.ensures.same)
