use Rattle.std.specs.Prelude.{◌≡◌, ◌++◌, not, filter, refl}
use Rattle.std.proofs.Common.{ap, sym, ◌∙◌, subst, arith}
use Rattle.table_model.specs.Rows.{find_row, is_at}
use Rattle.table_store.specs.Shelf.{IsSound, shelf_rows}
use Rattle.table_store.proofs.Keys.{ne_cmp}
use Rattle.table_store.proofs.Tables.{find_first, find_none, find_second, find_third, rows_first, rows_none, rows_second, rows_third, sound_first_left, sound_second_left, sound_third_left}
use Rattle.table_store.proofs.table.Table.remove.Goals as goal

pub returns-in_default-clause-row : goal.returns-in_default-clause-row
returns-in_default-clause-row g c =
    let words = g.S.Schema.words in
    sym (find_none words c.self.inside.first.rows.entries c.self.inside.second.rows.entries c.self.inside.third.rows.entries c.self.invariant.sound.in_first c.self.invariant.sound.in_second c.self.invariant.sound.in_third c.args.table c.args.key.now
    (ne_cmp c.args.table 1 (λ h. omega arith)) (ne_cmp c.args.table 2 (λ h. omega arith)) (ne_cmp c.args.table 3 (λ h. omega arith)))
    ∙ ap (find_row words c.args.table c.args.key.now) c.self.view_is

pub returns-in_default-clause-rows : goal.returns-in_default-clause-rows
returns-in_default-clause-rows g c =
    let words = g.S.Schema.words in
    rw (← c.self.view_is)
    (rows_none words c.args.key.now c.self.inside.first.rows.entries c.self.inside.second.rows.entries c.self.inside.third.rows.entries c.self.invariant.sound c.args.table
    (ne_cmp c.args.table 1 (λ h. omega arith)) (ne_cmp c.args.table 2 (λ h. omega arith)) (ne_cmp c.args.table 3 (λ h. omega arith)))

pub invariant_of-self-in-1 : goal.invariant_of-self-in-1
invariant_of-self-in-1 g c =
    let words = g.S.Schema.words in
    let inside = c.self.inside in
    record {
      sound = subst (λ es. IsSound words es inside.second.rows.entries inside.third.rows.entries) (sym c.in_ok-row-in-1.ensures.rows) (sound_first_left words c.args.key.now inside.first.rows.entries inside.second.rows.entries inside.third.rows.entries c.self.invariant.sound);
      first_fits = c.take_out.ensures.fits c.self.invariant.first_fits;
      second_fits = c.self.invariant.second_fits;
      third_fits = c.self.invariant.third_fits;
      marked = c.take_out.ensures.marked c.self.invariant.marked;
      nothing_kept = c.self.invariant.nothing_kept;
      nothing_queued = c.self.invariant.nothing_queued;
    }

pub invariant_of-self : goal.invariant_of-self
invariant_of-self g c =
    let words = g.S.Schema.words in
    let inside = c.self.inside in
    record {
      sound = subst (λ es. IsSound words es inside.second.rows.entries inside.third.rows.entries) (sym c.in_err-row-in-1.ensures.unchanged) c.self.invariant.sound;
      first_fits = c.take_out.ensures.fits c.self.invariant.first_fits;
      second_fits = c.self.invariant.second_fits;
      third_fits = c.self.invariant.third_fits;
      marked = c.take_out.ensures.marked c.self.invariant.marked;
      nothing_kept = c.self.invariant.nothing_kept;
      nothing_queued = c.self.invariant.nothing_queued;
    }

pub returns-in_ok-row-in-1-clause-row : goal.returns-in_ok-row-in-1-clause-row
returns-in_ok-row-in-1-clause-row g c =
    let words = g.S.Schema.words in
    let inside = c.self.inside in
    c.in_ok-row-in-1.ensures.row
    ∙ (sym (find_first words inside.first.rows.entries inside.second.rows.entries inside.third.rows.entries c.self.invariant.sound.in_first c.self.invariant.sound.in_second c.self.invariant.sound.in_third c.args.key.now)
    ∙ (λ i. find_row words (sym c.in-1.is i) c.args.key.now (c.self.view_is i)))

pub returns-in_ok-row-in-1-clause-rows : goal.returns-in_ok-row-in-1-clause-rows
returns-in_ok-row-in-1-clause-rows g c =
    let words = g.S.Schema.words in
    let inside = c.self.inside in
    ap (λ es. shelf_rows es ++ (shelf_rows inside.second.rows.entries ++ shelf_rows inside.third.rows.entries)) c.in_ok-row-in-1.ensures.rows
    ∙ (rows_first words c.args.key.now inside.first.rows.entries inside.second.rows.entries inside.third.rows.entries c.self.invariant.sound
    ∙ (λ i. filter (λ r. not (is_at words (sym c.in-1.is i) c.args.key.now r)) (c.self.view_is i)))

pub invariant_of-self-in-2 : goal.invariant_of-self-in-2
invariant_of-self-in-2 g c =
    let words = g.S.Schema.words in
    let inside = c.self.inside in
    record {
      sound = subst (λ es. IsSound words inside.first.rows.entries es inside.third.rows.entries) (sym c.in_ok-row-in-2.ensures.rows) (sound_second_left words c.args.key.now inside.first.rows.entries inside.second.rows.entries inside.third.rows.entries c.self.invariant.sound);
      first_fits = c.self.invariant.first_fits;
      second_fits = c.take_out-in-2.ensures.fits c.self.invariant.second_fits;
      third_fits = c.self.invariant.third_fits;
      marked = c.self.invariant.marked;
      nothing_kept = c.self.invariant.nothing_kept;
      nothing_queued = c.self.invariant.nothing_queued;
    }

pub invariant_of-self-in_err-row-in-2 : goal.invariant_of-self-in_err-row-in-2
invariant_of-self-in_err-row-in-2 g c =
    let words = g.S.Schema.words in
    let inside = c.self.inside in
    record {
      sound = subst (λ es. IsSound words inside.first.rows.entries es inside.third.rows.entries) (sym c.in_err-row-in-2.ensures.unchanged) c.self.invariant.sound;
      first_fits = c.self.invariant.first_fits;
      second_fits = c.take_out-in-2.ensures.fits c.self.invariant.second_fits;
      third_fits = c.self.invariant.third_fits;
      marked = c.self.invariant.marked;
      nothing_kept = c.self.invariant.nothing_kept;
      nothing_queued = c.self.invariant.nothing_queued;
    }

pub returns-in_ok-row-in-2-clause-row : goal.returns-in_ok-row-in-2-clause-row
returns-in_ok-row-in-2-clause-row g c =
    let words = g.S.Schema.words in
    let inside = c.self.inside in
    c.in_ok-row-in-2.ensures.row
    ∙ (sym (find_second words inside.first.rows.entries inside.second.rows.entries inside.third.rows.entries c.self.invariant.sound.in_first c.self.invariant.sound.in_second c.self.invariant.sound.in_third c.args.key.now)
    ∙ (λ i. find_row words (sym c.in-2.is i) c.args.key.now (c.self.view_is i)))

pub returns-in_ok-row-in-2-clause-rows : goal.returns-in_ok-row-in-2-clause-rows
returns-in_ok-row-in-2-clause-rows g c =
    let words = g.S.Schema.words in
    let inside = c.self.inside in
    ap (λ es. shelf_rows inside.first.rows.entries ++ (shelf_rows es ++ shelf_rows inside.third.rows.entries)) c.in_ok-row-in-2.ensures.rows
    ∙ (rows_second words c.args.key.now inside.first.rows.entries inside.second.rows.entries inside.third.rows.entries c.self.invariant.sound
    ∙ (λ i. filter (λ r. not (is_at words (sym c.in-2.is i) c.args.key.now r)) (c.self.view_is i)))

pub invariant_of-self-in-3 : goal.invariant_of-self-in-3
invariant_of-self-in-3 g c =
    let words = g.S.Schema.words in
    let inside = c.self.inside in
    record {
      sound = subst (λ es. IsSound words inside.first.rows.entries inside.second.rows.entries es) (sym c.in_ok-row-in-3.ensures.rows) (sound_third_left words c.args.key.now inside.first.rows.entries inside.second.rows.entries inside.third.rows.entries c.self.invariant.sound);
      first_fits = c.self.invariant.first_fits;
      second_fits = c.self.invariant.second_fits;
      third_fits = c.take_out-in-3.ensures.fits c.self.invariant.third_fits;
      marked = c.self.invariant.marked;
      nothing_kept = c.self.invariant.nothing_kept;
      nothing_queued = c.self.invariant.nothing_queued;
    }

pub invariant_of-self-in_err-row-in-3 : goal.invariant_of-self-in_err-row-in-3
invariant_of-self-in_err-row-in-3 g c =
    let words = g.S.Schema.words in
    let inside = c.self.inside in
    record {
      sound = subst (λ es. IsSound words inside.first.rows.entries inside.second.rows.entries es) (sym c.in_err-row-in-3.ensures.unchanged) c.self.invariant.sound;
      first_fits = c.self.invariant.first_fits;
      second_fits = c.self.invariant.second_fits;
      third_fits = c.take_out-in-3.ensures.fits c.self.invariant.third_fits;
      marked = c.self.invariant.marked;
      nothing_kept = c.self.invariant.nothing_kept;
      nothing_queued = c.self.invariant.nothing_queued;
    }

pub returns-in_ok-row-in-3-clause-row : goal.returns-in_ok-row-in-3-clause-row
returns-in_ok-row-in-3-clause-row g c =
    let words = g.S.Schema.words in
    let inside = c.self.inside in
    c.in_ok-row-in-3.ensures.row
    ∙ (sym (find_third words inside.first.rows.entries inside.second.rows.entries inside.third.rows.entries c.self.invariant.sound.in_first c.self.invariant.sound.in_second c.self.invariant.sound.in_third c.args.key.now)
    ∙ (λ i. find_row words (sym c.in-3.is i) c.args.key.now (c.self.view_is i)))

pub returns-in_ok-row-in-3-clause-rows : goal.returns-in_ok-row-in-3-clause-rows
returns-in_ok-row-in-3-clause-rows g c =
    let words = g.S.Schema.words in
    let inside = c.self.inside in
    ap (λ es. shelf_rows inside.first.rows.entries ++ (shelf_rows inside.second.rows.entries ++ shelf_rows es)) c.in_ok-row-in-3.ensures.rows
    ∙ (rows_third words c.args.key.now inside.first.rows.entries inside.second.rows.entries inside.third.rows.entries c.self.invariant.sound
    ∙ (λ i. filter (λ r. not (is_at words (sym c.in-3.is i) c.args.key.now r)) (c.self.view_is i)))
