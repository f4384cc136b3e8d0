use Rattle.std.proofs.Common.{ap, sym, ◌∙◌}
use Rattle.table_store.proofs.Forgetting.{is_without}
use Rattle.table_store.proofs.Marking.{marked_gone}
use Rattle.table_store.proofs.Shelves.{row_there, none_there}
use Rattle.table_store.proofs.shelf.take_row.Goals as goal

pub returns-clause-row : goal.returns-clause-row
returns-clause-row g c = sym (row_there c.args.key.now c.in_ok-placed.placed c.args.rows.now.entries (sym c.in_ok-placed.ensures.value))

pub returns-in_err-placed-clause-row : goal.returns-in_err-placed-clause-row
returns-in_err-placed-clause-row g c = c.from_residual.ensures ∙ sym (none_there c.args.key.now c.args.rows.now.entries (sym c.in_err-placed.ensures.value))

pub returns-clause-marked : goal.returns-clause-marked
returns-clause-marked g c all =
    marked_gone g.S.Schema.words c.args.key.now c.args.markers.now c.unmark_row.new.markers c.args.rows.now.entries c.remove.new.self.entries c.unmark_row.ensures all
    (is_without c.args.key.now c.args.rows.now.entries c.remove.new.self.entries c.are_in_order.ensures c.remove.ensures.entries)
