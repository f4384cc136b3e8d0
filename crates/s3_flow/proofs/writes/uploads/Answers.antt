use Rattle.std.proofs.Common.{ap, sym, ◌∙◌, add-one}
use Rattle.flow_model.specs.Blocks.{has_piece}
use Rattle.s3_flow.proofs.Choices.{next_block}
use Rattle.s3_flow.proofs.writes.uploads.Goals as goal

pub returns-clause-is : goal.returns-clause-is
returns-clause-is c =
    let body = c.as_slice.ensures in
    (rw c.block_rows.ensures.same at c.more.ensures)
    ∙ next_block c.args.request.id c.args.request.block c.args.name c.args.version c.args.content c.args.stored _ c.in_ok-rows.rows (add-one c.args.stored)
    (ap (λ b. has_piece c.args.request.block b c.args.stored) (sym body) ∙ c.in-Some.ensures.0)
    (c.in_ok-rows.ensures.are c.args.stored c.in-Some.ensures.1)
