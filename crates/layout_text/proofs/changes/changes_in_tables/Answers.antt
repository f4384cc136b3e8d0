use Rattle.std.proofs.Common.{◌≡◌, Some, sym, ap, ◌∙◌, option_map}
use Rattle.std.proofs.lemmas.Result.{err_from_is_err_and}
use Rattle.toml.specs.Data.{as_table}
use Rattle.toml.specs.View.{view, table_view}
use Rattle.layout_text.specs.Changes.{comings_of, coming_of}
use Rattle.layout_text.proofs.ChangeTables.{one_more, fault_here, change_here}
use Rattle.layout_text.proofs.changes.changes_in_tables.Goals as goal

pub returns-in_err-change-clause-fault : goal.returns-in_err-change-clause-fault
returns-in_err-change-clause-fault c =
    let p = err_from_is_err_and c.from_residual-in_err-change.result c.from_residual-in_err-change.ensures.1 in
    let table : as_table (view c.value-item.result) ≡ Some (table_view c.in_ok-table.table.now) = sym c.as_table.ensures ∙ ap (option_map (λ m. table_view m.now)) c.in_ok-table.ensures.ok_part in
    rw (p.1, p.2) (λ tables h.
    let inv = c.loop-value.invariant.reading tables h in
    fault_here c.args.values.now c.loop-value.value-index c.value-item.result (table_view c.in_ok-table.table.now) c.loop-value-test.true c.value-item.is table
    c.args.greatest c.loop-value.before (comings_of c.loop-value.changes) tables inv.0 inv.1 inv.2 c.in_err-change.field-0.0 c.in_err-change.ensures.fault)

pub loop-value-preserved : goal.loop-value-preserved
loop-value-preserved c =
    let table : as_table (view c.value-item.result) ≡ Some (table_view c.in_ok-table.table.now) = sym c.as_table.ensures ∙ ap (option_map (λ m. table_view m.now)) c.in_ok-table.ensures.ok_part in
    record {
      reading = λ tables h.
          let inv = c.loop-value.invariant.reading tables h in
          rw (c.in_ok-push.ensures.ok, one_more c.loop-value.changes c.in_ok-change.change) (change_here c.args.values.now c.loop-value.value-index c.value-item.result (table_view c.in_ok-table.table.now) c.loop-value-test.true c.value-item.is table
          c.args.greatest c.loop-value.before (comings_of c.loop-value.changes) tables inv.0 inv.1 inv.2 (coming_of c.in_ok-change.change) c.in_ok-change.ensures.change);
    }
