use Rattle.std.proofs.Common.{◌≡◌, Some, sym, ap, ◌∙◌, option_map}
use Rattle.std.proofs.lemmas.Result.{err_from_is_err_and}
use Rattle.toml.specs.Data.{as_table}
use Rattle.toml.specs.View.{view, table_view}
use Rattle.layout_text.specs.Settings.{role_in}
use Rattle.layout_text.proofs.Roles.{role_is_new, faulted_ok, ascend_put, numbered_put, fault_here, role_here}
use Rattle.layout_text.proofs.read.roles_of.Goals as goal

pub returns-in_err-role-clause-fault : goal.returns-in_err-role-clause-fault
returns-in_err-role-clause-fault c =
    let p = err_from_is_err_and c.from_residual-in_err-role.result c.from_residual-in_err-role.ensures.1 in
    let table : as_table (view c.value-item.result) ≡ Some (table_view c.in_ok-node.node.now) = sym c.as_table.ensures ∙ ap (option_map (λ m. table_view m.now)) c.in_ok-node.ensures.ok_part in
    rw (p.1, p.2) (λ tables h.
    let inv = c.loop-value.invariant.reading tables h in
    fault_here c.args.nodes.now c.loop-value.value-index c.value-item.result (table_view c.in_ok-node.node.now) c.loop-value-test.true c.value-item.is table
    c.args.greatest c.loop-value.list tables inv.0 inv.1 inv.2 c.in_err-role.field-0.0 (rw c.as_slice.ensures at c.in_err-role.ensures))

pub loop-value-preserved : goal.loop-value-preserved
loop-value-preserved c =
    let table : as_table (view c.value-item.result) ≡ Some (table_view c.in_ok-node.node.now) = sym c.as_table.ensures ∙ ap (option_map (λ m. table_view m.now)) c.in_ok-node.ensures.ok_part in
    let read = rw c.as_slice.ensures at c.in_ok-role.ensures in
    let new = role_is_new c.args.greatest c.loop-value.list (table_view c.in_ok-node.node.now) c.in_ok-role.role (faulted_ok (role_in c.args.greatest c.loop-value.list (table_view c.in_ok-node.node.now)) c.in_ok-role.role read) in
    record {
      ascending = rw c.in_ok-put.ensures.ok (ascend_put 0 c.loop-value.list c.in_ok-role.role c.loop-value.invariant.ascending new.low new.free);
      numbered = rw c.in_ok-put.ensures.ok (numbered_put c.loop-value.list c.in_ok-role.role c.loop-value.invariant.numbered new.high);
      reading = λ tables h.
          let inv = c.loop-value.invariant.reading tables h in
          rw c.in_ok-put.ensures.ok (role_here c.args.nodes.now c.loop-value.value-index c.value-item.result (table_view c.in_ok-node.node.now) c.loop-value-test.true c.value-item.is table
          c.args.greatest c.loop-value.list tables inv.0 inv.1 inv.2 c.in_ok-role.role read);
    }
