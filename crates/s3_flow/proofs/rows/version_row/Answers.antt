use Rattle.std.proofs.Common.{ap, ◌≡◌, ◌∙◌}
use Rattle.std.proofs.lemmas.Result.{IfOk-weaker}
use Rattle.crdt_core.specs.declared.deletable.Deletable.TheVariants.{Present}
use Rattle.crdt_core.specs.Map.{map_single}
use Rattle.crdt_rows.specs.declared.any_row.AnyRow.TheVariants as any
use Rattle.s3_flow.proofs.ObjectRows.{joined_empty}
use Rattle.s3_flow.proofs.rows.version_row.Goals as goal

pub returns-clause-is : goal.returns-clause-is
returns-clause-is c =
    IfOk-weaker c.version.result _ (λ row. row ≡ any.Version (record { id = c.args.id; blocks = Present (map_single c.args.part (record { 0 = c.args.block })) }))
    (λ row same. same ∙ ap (λ m. any.Version (record { id = c.args.id; blocks = Present m })) (c.in_ok-join_at.ensures.joined ∙ joined_empty _ c.new-blocks.result c.args.part (record { 0 = c.args.block }) c.new-blocks.ensures))
    c.version.ensures.same
