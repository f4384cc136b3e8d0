use Rattle.std.proofs.Common.{ap, sym, ◌∙◌, arith}
use Rattle.std.proofs.lemmas.Bool.{ne_eqb}
use Rattle.table_model.specs.Rows.{rows_in}
use Rattle.walk_model.specs.Noting.{has_table}
use Rattle.table_store.proofs.Wholes.{has_first, has_second, has_third, has_none}
use Rattle.table_store.proofs.table.Table.has_rows.Goals as goal

pub returns-in-1 : goal.returns-in-1
returns-in-1 g c =
    let words = g.S.Schema.words in
    let inside = c.self.inside in
    c.has_rows.ensures
    ∙ (has_first words inside.first.rows.entries inside.second.rows.entries inside.third.rows.entries c.self.invariant.sound c.args.p
    ∙ (λ i. has_table words (sym c.in-1.is i) (rows_in words c.args.p (c.self.view_is i))))

pub returns-in-2 : goal.returns-in-2
returns-in-2 g c =
    let words = g.S.Schema.words in
    let inside = c.self.inside in
    c.has_rows-in-2.ensures
    ∙ (has_second words inside.first.rows.entries inside.second.rows.entries inside.third.rows.entries c.self.invariant.sound c.args.p
    ∙ (λ i. has_table words (sym c.in-2.is i) (rows_in words c.args.p (c.self.view_is i))))

pub returns-in-3 : goal.returns-in-3
returns-in-3 g c =
    let words = g.S.Schema.words in
    let inside = c.self.inside in
    c.has_rows-in-3.ensures
    ∙ (has_third words inside.first.rows.entries inside.second.rows.entries inside.third.rows.entries c.self.invariant.sound c.args.p
    ∙ (λ i. has_table words (sym c.in-3.is i) (rows_in words c.args.p (c.self.view_is i))))

pub returns-in_default : goal.returns-in_default
returns-in_default g c =
    let words = g.S.Schema.words in
    let inside = c.self.inside in
    has_none words inside.first.rows.entries inside.second.rows.entries inside.third.rows.entries c.self.invariant.sound c.args.p c.args.table
    (ne_eqb 1 c.args.table (λ h. omega arith)) (ne_eqb 2 c.args.table (λ h. omega arith)) (ne_eqb 3 c.args.table (λ h. omega arith))
    ∙ ap (λ rows. has_table words c.args.table (rows_in words c.args.p rows)) c.self.view_is
