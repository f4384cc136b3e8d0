use Rattle.std.proofs.Common.{sym}
use Rattle.table_store.proofs.Settled.{any_found}
use Rattle.table_store.proofs.Wholes.{passed_on}
use Rattle.table_store.proofs.settling.take_at.Goals as goal

pub returns-in_err-take_row-in-Some-clause-causes : goal.returns-in_err-take_row-in-Some-clause-causes
returns-in_err-take_row-in-Some-clause-causes g c =
    passed_on c.from_residual.result c.in_err-take_row-in-Some.field-0.0 c.from_residual.ensures.1 c.in_err-take_row-in-Some.ensures.causes (λ none. any_found g.S.Schema.words c.args.p c.args.key.now.items c.args.rows.now.entries c.in-Some.row.now none (sym c.in-Some.ensures))
