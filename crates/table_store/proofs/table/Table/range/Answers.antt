use Rattle.std.specs.Prelude.{◌≡◌, Bool, false, List, filter, IfOk}
use Rattle.std.proofs.Common.{ap, sym, ◌∙◌, subst, arith}
use Rattle.table_model.specs.Rows.{is_past, range}
use Rattle.table_store.specs.Shelf.{shelf_rows, is_after, window}
use Rattle.table_store.proofs.Tables.{past_first, past_second, past_third, range_none}
use Rattle.table_store.proofs.table.Table.range.Goals as goal

pub returns-in-1-clause-is : goal.returns-in-1-clause-is
returns-in-1-clause-is g c =
    let words = g.S.Schema.words in
    let inside = c.self.inside in
    let prefix = c.args.prefix.now in
    let after = c.args.after.now in
    let same : shelf_rows (filter (is_after prefix after) inside.first.rows.entries) ≡ filter (is_past words c.args.table prefix after) c.args.self.now =
    past_first words inside.first.rows.entries inside.second.rows.entries inside.third.rows.entries c.self.invariant.sound.in_first c.self.invariant.sound.in_second c.self.invariant.sound.in_third prefix after
    ∙ (λ i. filter (is_past words (sym c.in-1.is i) prefix after) (c.self.view_is i)) in
    subst (λ rows. IfOk c.rows_past.result (λ found. ◌≡◌ {A = List g.row.S-Row.Denot × Bool} (found.0.items, found.1) (window c.args.limit rows))) same c.rows_past.ensures.is

pub returns-in-2-clause-is : goal.returns-in-2-clause-is
returns-in-2-clause-is g c =
    let words = g.S.Schema.words in
    let inside = c.self.inside in
    let prefix = c.args.prefix.now in
    let after = c.args.after.now in
    let same : shelf_rows (filter (is_after prefix after) inside.second.rows.entries) ≡ filter (is_past words c.args.table prefix after) c.args.self.now =
    past_second words inside.first.rows.entries inside.second.rows.entries inside.third.rows.entries c.self.invariant.sound.in_first c.self.invariant.sound.in_second c.self.invariant.sound.in_third prefix after
    ∙ (λ i. filter (is_past words (sym c.in-2.is i) prefix after) (c.self.view_is i)) in
    subst (λ rows. IfOk c.rows_past-in-2.result (λ found. ◌≡◌ {A = List g.row.S-Row.Denot × Bool} (found.0.items, found.1) (window c.args.limit rows))) same c.rows_past-in-2.ensures.is

pub returns-in-3-clause-is : goal.returns-in-3-clause-is
returns-in-3-clause-is g c =
    let words = g.S.Schema.words in
    let inside = c.self.inside in
    let prefix = c.args.prefix.now in
    let after = c.args.after.now in
    let same : shelf_rows (filter (is_after prefix after) inside.third.rows.entries) ≡ filter (is_past words c.args.table prefix after) c.args.self.now =
    past_third words inside.first.rows.entries inside.second.rows.entries inside.third.rows.entries c.self.invariant.sound.in_first c.self.invariant.sound.in_second c.self.invariant.sound.in_third prefix after
    ∙ (λ i. filter (is_past words (sym c.in-3.is i) prefix after) (c.self.view_is i)) in
    subst (λ rows. IfOk c.rows_past-in-3.result (λ found. ◌≡◌ {A = List g.row.S-Row.Denot × Bool} (found.0.items, found.1) (window c.args.limit rows))) same c.rows_past-in-3.ensures.is

pub returns-in_default-clause-is : goal.returns-in_default-clause-is
returns-in_default-clause-is g c =
    let words = g.S.Schema.words in
    let inside = c.self.inside in
    let none = range_none words inside.first.rows.entries inside.second.rows.entries inside.third.rows.entries c.self.invariant.sound.in_first c.self.invariant.sound.in_second c.self.invariant.sound.in_third c.args.table c.args.prefix.now c.args.after.now c.args.limit (λ h. omega arith) (λ h. omega arith) (λ h. omega arith) in
    ap (λ items. (items, false)) c.new.ensures.items ∙ (sym none ∙ ap (range words c.args.table c.args.prefix.now c.args.after.now c.args.limit) c.self.view_is)
