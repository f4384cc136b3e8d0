use Rattle.std.specs.Prelude.{All, IsTrue}
use Rattle.std.proofs.Common.{sym, ◌∙◌, subst}
use Rattle.table_store.proofs.Wholes.{part_three, passed_on, proper_three}
use Rattle.table_store.proofs.table.Table.settle_partition.Goals as goal

pub returns-in_err-settle_all-clause-causes : goal.returns-in_err-settle_all-clause-causes
returns-in_err-settle_all-clause-causes g c =
    let inside = c.self.inside in
    let same = part_three g.S.Schema.words inside.first inside.second inside.third c.args.self.now c.args.p c.self.invariant.sound c.self.view_is in
    passed_on c.from_residual.result c.in_err-settle_all.field-0.0 c.from_residual.ensures.1 c.in_err-settle_all.ensures.causes (λ any. sym same ∙ any)

pub returns-clause-written : goal.returns-clause-written
returns-clause-written g c =
    let inside = c.self.inside in
    sym (part_three g.S.Schema.words inside.first inside.second inside.third c.args.self.now c.args.p c.self.invariant.sound c.self.view_is) ∙ c.in_ok-settle_all.ensures.written

pub returns-in_err-settle_all-clause-proper : goal.returns-in_err-settle_all-clause-proper
returns-in_err-settle_all-clause-proper g c =
    let words = g.S.Schema.words in
    let inside = c.self.inside in
    subst (All (λ r. IsTrue (words.is_proper r))) c.self.view_is (proper_three words inside.first.rows.entries inside.second.rows.entries inside.third.rows.entries c.self.invariant.sound)

pub returns-clause-proper : goal.returns-clause-proper
returns-clause-proper g c =
    let words = g.S.Schema.words in
    let inside = c.self.inside in
    subst (All (λ r. IsTrue (words.is_proper r))) c.self.view_is (proper_three words inside.first.rows.entries inside.second.rows.entries inside.third.rows.entries c.self.invariant.sound)
