use Rattle.std.specs.Prelude.{◌++◌, filter}
use Rattle.std.proofs.Common.{ap, sym, ◌∙◌, append_assoc}
use Rattle.table_model.specs.Rows.{rows_in}
use Rattle.table_store.specs.Shelf.{shelf_rows, in_partition}
use Rattle.table_store.proofs.Tables.{rows_three}
use Rattle.table_store.proofs.table.Table.rows_of.Goals as goal

pub returns-clause-are : goal.returns-clause-are
returns-clause-are g c =
    let words = g.S.Schema.words in
    let inside = c.self.inside in
    let p = c.args.p in
    let a = shelf_rows (filter (in_partition p) inside.first.rows.entries) in
    let b = shelf_rows (filter (in_partition p) inside.second.rows.entries) in
    let d = shelf_rows (filter (in_partition p) inside.third.rows.entries) in
    c.in_ok-push_partition-3.ensures.rows
    ∙ (ap (λ l. l ++ d) (c.in_ok-push_partition-2.ensures.rows ∙ ap (λ l. l ++ b) (c.in_ok-push_partition.ensures.rows ∙ ap (λ l. l ++ a) c.new-rows.ensures.items))
    ∙ (append_assoc a b d
    ∙ (sym (rows_three words inside.first.rows.entries inside.second.rows.entries inside.third.rows.entries c.self.invariant.sound.in_first c.self.invariant.sound.in_second c.self.invariant.sound.in_third p)
    ∙ ap (rows_in words p) c.self.view_is)))
