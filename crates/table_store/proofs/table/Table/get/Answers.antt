use Rattle.std.proofs.Common.{ap, sym, ◌∙◌, arith}
use Rattle.table_model.specs.Rows.{find_row}
use Rattle.table_store.proofs.Keys.{ne_cmp}
use Rattle.table_store.proofs.Tables.{find_first, find_second, find_third, find_none}
use Rattle.table_store.proofs.table.Table.get.Goals as goal

pub returns-in-1 : goal.returns-in-1
returns-in-1 g c =
    let words = g.S.Schema.words in
    c.find.ensures
    ∙ (sym (find_first words c.self.inside.first.rows.entries c.self.inside.second.rows.entries c.self.inside.third.rows.entries c.self.invariant.sound.in_first c.self.invariant.sound.in_second c.self.invariant.sound.in_third c.args.key.now)
    ∙ (λ i. find_row words (sym c.in-1.is i) c.args.key.now (c.self.view_is i)))

pub returns-in-2 : goal.returns-in-2
returns-in-2 g c =
    let words = g.S.Schema.words in
    c.find-in-2.ensures
    ∙ (sym (find_second words c.self.inside.first.rows.entries c.self.inside.second.rows.entries c.self.inside.third.rows.entries c.self.invariant.sound.in_first c.self.invariant.sound.in_second c.self.invariant.sound.in_third c.args.key.now)
    ∙ (λ i. find_row words (sym c.in-2.is i) c.args.key.now (c.self.view_is i)))

pub returns-in-3 : goal.returns-in-3
returns-in-3 g c =
    let words = g.S.Schema.words in
    c.find-in-3.ensures
    ∙ (sym (find_third words c.self.inside.first.rows.entries c.self.inside.second.rows.entries c.self.inside.third.rows.entries c.self.invariant.sound.in_first c.self.invariant.sound.in_second c.self.invariant.sound.in_third c.args.key.now)
    ∙ (λ i. find_row words (sym c.in-3.is i) c.args.key.now (c.self.view_is i)))

pub returns-in_default : goal.returns-in_default
returns-in_default g c =
    let words = g.S.Schema.words in
    sym (find_none words c.self.inside.first.rows.entries c.self.inside.second.rows.entries c.self.inside.third.rows.entries c.self.invariant.sound.in_first c.self.invariant.sound.in_second c.self.invariant.sound.in_third c.args.table c.args.key.now
    (ne_cmp c.args.table 1 (λ h. omega arith)) (ne_cmp c.args.table 2 (λ h. omega arith)) (ne_cmp c.args.table 3 (λ h. omega arith)))
    ∙ ap (find_row words c.args.table c.args.key.now) c.self.view_is
