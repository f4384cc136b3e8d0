use Rattle.std.proofs.Common.{ap, sym, ◌∙◌}
use Rattle.crdt_rows.specs.AnyRow.{any_join}
use Rattle.crdt_rows.specs.RowLaws.{any_laws}
use Rattle.crdt_rows.proofs.Equal.{rows_told}
use Rattle.crdt_rows.proofs.any_row.AnyRowCrdt.merge.Goals as goal

-- a row merged with itself is that row
pub returns-then-eq-clause-joined : goal.returns-then-eq-clause-joined
returns-then-eq-clause-joined c =
    let ours = c.args.self.now in
    let theirs = c.args.other.now in
    sym (any_laws.idempotent ours) ∙ ap (any_join ours) (rows_told ours theirs (sym c.eq.ensures ∙ c.if-eq.true))
