use Rattle.std.proofs.Common.{sym, ◌∙◌}
use Rattle.table_store.proofs.Wholes.{part_three, passed_on}
use Rattle.table_store.proofs.table.Table.value.Goals as goal

pub returns-in_err-settle_all-clause-causes : goal.returns-in_err-settle_all-clause-causes
returns-in_err-settle_all-clause-causes g c =
    let inside = c.self.inside in
    let same = part_three g.S.Schema.words inside.first inside.second inside.third c.args.self.now c.args.p c.self.invariant.sound c.self.view_is in
    passed_on c.from_residual.result c.in_err-settle_all.field-0.0 c.from_residual.ensures.1 c.in_err-settle_all.ensures.causes (λ any. sym same ∙ any)

pub returns-clause-written : goal.returns-clause-written
returns-clause-written g c =
    let inside = c.self.inside in
    sym (part_three g.S.Schema.words inside.first inside.second inside.third c.args.self.now c.args.p c.self.invariant.sound c.self.view_is) ∙ c.in_ok-settle_all.ensures.written
