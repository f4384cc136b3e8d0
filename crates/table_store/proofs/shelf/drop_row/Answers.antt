use Rattle.std.proofs.Common.{ap, sym, ◌∙◌}
use Rattle.table_store.specs.Shelf.{without_key}
use Rattle.table_store.proofs.Partitions.{gone_where, left_where}
use Rattle.table_store.proofs.shelf.drop_row.Goals as goal

pub returns-then-has_row-clause-rows : goal.returns-then-has_row-clause-rows
returns-then-has_row-clause-rows g c =
    c.take_row.ensures.rows
    ∙ (ap (λ key. without_key key c.args.rows.now.entries) c.as_slice.ensures.value
    ∙ gone_where c.args.p c.args.key.now c.args.rows.now.entries c.are_in_order.ensures (sym c.has_row.ensures ∙ c.if-has_row.true))

pub returns-else-has_row-clause-rows : goal.returns-else-has_row-clause-rows
returns-else-has_row-clause-rows g c = sym (left_where c.args.p c.args.key.now c.args.rows.now.entries c.are_in_order.ensures (sym c.has_row.ensures ∙ c.if-has_row.false))
