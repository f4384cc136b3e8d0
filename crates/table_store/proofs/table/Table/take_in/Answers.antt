use Rattle.std.specs.Prelude.{◌≡◌, ◌+◌, ◌^◌, ◌<◌, ◌++◌, length}
use Rattle.std.specs.Option.{option_and_then}
use Rattle.std.proofs.Common.{ap, sym, ◌∙◌, arith, refl}
use Rattle.table_store.proofs.Wholes.{sound_same}
use Rattle.table_model.specs.Rows.{merged_in, change_of, find_row}
use Rattle.table_store.specs.Shelf.{shelf_rows}
use Rattle.table_store.proofs.Tables.{find_first, find_second, find_third, merge_first, merge_second, merge_third, sound_first, sound_second, sound_third}
use Rattle.table_store.proofs.table.Table.take_in.Goals as goal

pub invariant_of-self-in-1 : goal.invariant_of-self-in-1
invariant_of-self-in-1 g c =
    let words = g.S.Schema.words in
    let row = c.args.row in
    let inside = c.self.inside in
    let is-table : words.table row ≡ 1 = sym c.table.ensures.is ∙ c.in-1.is in
    let room : length (shelf_rows inside.first.rows.entries ++ (shelf_rows inside.second.rows.entries ++ shelf_rows inside.third.rows.entries)) + 1 < 2 ^ 64 = let same = ap length c.self.view_is in omega arith in
    record {
      sound =
          sound_first g.S.Row.Crdt.join words inside.first.rows.entries inside.second.rows.entries inside.third.rows.entries c.self.invariant.sound row c.take_into.new.shelf.rows.entries room is-table
          (c.in_ok-taken-in-1.ensures.placed 1 is-table c.self.invariant.sound.in_first)
          (c.in_ok-taken-in-1.ensures.rows 1 is-table c.self.invariant.sound.in_first);
      first_fits = c.take_into.ensures.fits c.self.invariant.first_fits;
      second_fits = c.self.invariant.second_fits;
      third_fits = c.self.invariant.third_fits;
      marked = c.take_into.ensures.marked c.self.invariant.marked;
      nothing_kept = c.self.invariant.nothing_kept;
      nothing_queued = c.self.invariant.nothing_queued;
    }

pub returns-in_ok-taken-in-1-clause-rows : goal.returns-in_ok-taken-in-1-clause-rows
returns-in_ok-taken-in-1-clause-rows g c =
    let words = g.S.Schema.words in
    let join = g.S.Row.Crdt.join in
    let row = c.args.row in
    let inside = c.self.inside in
    let is-table : words.table row ≡ 1 = sym c.table.ensures.is ∙ c.in-1.is in
    merge_first join words inside.first.rows.entries inside.second.rows.entries inside.third.rows.entries c.self.invariant.sound.in_first c.self.invariant.sound.in_second c.self.invariant.sound.in_third row
    (shelf_rows c.take_into.new.shelf.rows.entries) is-table (c.in_ok-taken-in-1.ensures.rows 1 is-table c.self.invariant.sound.in_first)
    ∙ ap (merged_in join words row) c.self.view_is

pub returns-in_ok-taken-in-1-clause-before : goal.returns-in_ok-taken-in-1-clause-before
returns-in_ok-taken-in-1-clause-before g c =
    let words = g.S.Schema.words in
    let row = c.args.row in
    let inside = c.self.inside in
    let is-table : words.table row ≡ 1 = sym c.table.ensures.is ∙ c.in-1.is in
    c.in_ok-taken-in-1.ensures.before
    ∙ ap (λ old. option_and_then words.live_block old)
    (sym (find_first words inside.first.rows.entries inside.second.rows.entries inside.third.rows.entries c.self.invariant.sound.in_first c.self.invariant.sound.in_second c.self.invariant.sound.in_third (words.key row))
    ∙ (λ i. find_row words (sym is-table i) (words.key row) (c.self.view_is i)))

pub returns-in_ok-taken-in-1-clause-change : goal.returns-in_ok-taken-in-1-clause-change
returns-in_ok-taken-in-1-clause-change g c =
    let words = g.S.Schema.words in
    let join = g.S.Row.Crdt.join in
    let row = c.args.row in
    let inside = c.self.inside in
    let is-table : words.table row ≡ 1 = sym c.table.ensures.is ∙ c.in-1.is in
    c.in_ok-taken-in-1.ensures.change
    ∙ ap (λ old. change_of join words old row)
    (sym (find_first words inside.first.rows.entries inside.second.rows.entries inside.third.rows.entries c.self.invariant.sound.in_first c.self.invariant.sound.in_second c.self.invariant.sound.in_third (words.key row))
    ∙ (λ i. find_row words (sym is-table i) (words.key row) (c.self.view_is i)))

pub invariant_of-self-in-2 : goal.invariant_of-self-in-2
invariant_of-self-in-2 g c =
    let words = g.S.Schema.words in
    let row = c.args.row in
    let inside = c.self.inside in
    let is-table : words.table row ≡ 2 = sym c.table.ensures.is ∙ c.in-2.is in
    let room : length (shelf_rows inside.first.rows.entries ++ (shelf_rows inside.second.rows.entries ++ shelf_rows inside.third.rows.entries)) + 1 < 2 ^ 64 = let same = ap length c.self.view_is in omega arith in
    record {
      sound =
          sound_second g.S.Row.Crdt.join words inside.first.rows.entries inside.second.rows.entries inside.third.rows.entries c.self.invariant.sound row c.take_into-in-2.new.shelf.rows.entries room is-table
          (c.in_ok-taken-in-2.ensures.placed 2 is-table c.self.invariant.sound.in_second)
          (c.in_ok-taken-in-2.ensures.rows 2 is-table c.self.invariant.sound.in_second);
      second_fits = c.take_into-in-2.ensures.fits c.self.invariant.second_fits;
      first_fits = c.self.invariant.first_fits;
      third_fits = c.self.invariant.third_fits;
      marked = c.self.invariant.marked;
      nothing_kept = c.self.invariant.nothing_kept;
      nothing_queued = c.self.invariant.nothing_queued;
    }

pub returns-in_ok-taken-in-2-clause-rows : goal.returns-in_ok-taken-in-2-clause-rows
returns-in_ok-taken-in-2-clause-rows g c =
    let words = g.S.Schema.words in
    let join = g.S.Row.Crdt.join in
    let row = c.args.row in
    let inside = c.self.inside in
    let is-table : words.table row ≡ 2 = sym c.table.ensures.is ∙ c.in-2.is in
    merge_second join words inside.first.rows.entries inside.second.rows.entries inside.third.rows.entries c.self.invariant.sound.in_first c.self.invariant.sound.in_second c.self.invariant.sound.in_third row
    (shelf_rows c.take_into-in-2.new.shelf.rows.entries) is-table (c.in_ok-taken-in-2.ensures.rows 2 is-table c.self.invariant.sound.in_second)
    ∙ ap (merged_in join words row) c.self.view_is

pub returns-in_ok-taken-in-2-clause-before : goal.returns-in_ok-taken-in-2-clause-before
returns-in_ok-taken-in-2-clause-before g c =
    let words = g.S.Schema.words in
    let row = c.args.row in
    let inside = c.self.inside in
    let is-table : words.table row ≡ 2 = sym c.table.ensures.is ∙ c.in-2.is in
    c.in_ok-taken-in-2.ensures.before
    ∙ ap (λ old. option_and_then words.live_block old)
    (sym (find_second words inside.first.rows.entries inside.second.rows.entries inside.third.rows.entries c.self.invariant.sound.in_first c.self.invariant.sound.in_second c.self.invariant.sound.in_third (words.key row))
    ∙ (λ i. find_row words (sym is-table i) (words.key row) (c.self.view_is i)))

pub returns-in_ok-taken-in-2-clause-change : goal.returns-in_ok-taken-in-2-clause-change
returns-in_ok-taken-in-2-clause-change g c =
    let words = g.S.Schema.words in
    let join = g.S.Row.Crdt.join in
    let row = c.args.row in
    let inside = c.self.inside in
    let is-table : words.table row ≡ 2 = sym c.table.ensures.is ∙ c.in-2.is in
    c.in_ok-taken-in-2.ensures.change
    ∙ ap (λ old. change_of join words old row)
    (sym (find_second words inside.first.rows.entries inside.second.rows.entries inside.third.rows.entries c.self.invariant.sound.in_first c.self.invariant.sound.in_second c.self.invariant.sound.in_third (words.key row))
    ∙ (λ i. find_row words (sym is-table i) (words.key row) (c.self.view_is i)))

pub invariant_of-self-in_default : goal.invariant_of-self-in_default
invariant_of-self-in_default g c =
    let words = g.S.Schema.words in
    let row = c.args.row in
    let inside = c.self.inside in
    let is-table : words.table row ≡ 3 = let range = g.met.S.Schema.laws.table_is_first_to_third row c.table.ensures.proper in omega (arith, c.table.ensures.is) in
    let room : length (shelf_rows inside.first.rows.entries ++ (shelf_rows inside.second.rows.entries ++ shelf_rows inside.third.rows.entries)) + 1 < 2 ^ 64 = let same = ap length c.self.view_is in omega arith in
    record {
      sound =
          sound_third g.S.Row.Crdt.join words inside.first.rows.entries inside.second.rows.entries inside.third.rows.entries c.self.invariant.sound row c.take_into-in_default.new.shelf.rows.entries room is-table
          (c.in_ok-taken-in_default.ensures.placed 3 is-table c.self.invariant.sound.in_third)
          (c.in_ok-taken-in_default.ensures.rows 3 is-table c.self.invariant.sound.in_third);
      third_fits = c.take_into-in_default.ensures.fits c.self.invariant.third_fits;
      first_fits = c.self.invariant.first_fits;
      second_fits = c.self.invariant.second_fits;
      marked = c.self.invariant.marked;
      nothing_kept = c.self.invariant.nothing_kept;
      nothing_queued = c.self.invariant.nothing_queued;
    }

pub returns-in_ok-taken-in_default-clause-rows : goal.returns-in_ok-taken-in_default-clause-rows
returns-in_ok-taken-in_default-clause-rows g c =
    let words = g.S.Schema.words in
    let join = g.S.Row.Crdt.join in
    let row = c.args.row in
    let inside = c.self.inside in
    let is-table : words.table row ≡ 3 = let range = g.met.S.Schema.laws.table_is_first_to_third row c.table.ensures.proper in omega (arith, c.table.ensures.is) in
    merge_third join words inside.first.rows.entries inside.second.rows.entries inside.third.rows.entries c.self.invariant.sound.in_first c.self.invariant.sound.in_second c.self.invariant.sound.in_third row
    (shelf_rows c.take_into-in_default.new.shelf.rows.entries) is-table (c.in_ok-taken-in_default.ensures.rows 3 is-table c.self.invariant.sound.in_third)
    ∙ ap (merged_in join words row) c.self.view_is

pub returns-in_ok-taken-in_default-clause-before : goal.returns-in_ok-taken-in_default-clause-before
returns-in_ok-taken-in_default-clause-before g c =
    let words = g.S.Schema.words in
    let row = c.args.row in
    let inside = c.self.inside in
    let is-table : words.table row ≡ 3 = let range = g.met.S.Schema.laws.table_is_first_to_third row c.table.ensures.proper in omega (arith, c.table.ensures.is) in
    c.in_ok-taken-in_default.ensures.before
    ∙ ap (λ old. option_and_then words.live_block old)
    (sym (find_third words inside.first.rows.entries inside.second.rows.entries inside.third.rows.entries c.self.invariant.sound.in_first c.self.invariant.sound.in_second c.self.invariant.sound.in_third (words.key row))
    ∙ (λ i. find_row words (sym is-table i) (words.key row) (c.self.view_is i)))

pub returns-in_ok-taken-in_default-clause-change : goal.returns-in_ok-taken-in_default-clause-change
returns-in_ok-taken-in_default-clause-change g c =
    let words = g.S.Schema.words in
    let join = g.S.Row.Crdt.join in
    let row = c.args.row in
    let inside = c.self.inside in
    let is-table : words.table row ≡ 3 = let range = g.met.S.Schema.laws.table_is_first_to_third row c.table.ensures.proper in omega (arith, c.table.ensures.is) in
    c.in_ok-taken-in_default.ensures.change
    ∙ ap (λ old. change_of join words old row)
    (sym (find_third words inside.first.rows.entries inside.second.rows.entries inside.third.rows.entries c.self.invariant.sound.in_first c.self.invariant.sound.in_second c.self.invariant.sound.in_third (words.key row))
    ∙ (λ i. find_row words (sym is-table i) (words.key row) (c.self.view_is i)))

pub invariant_of-self : goal.invariant_of-self
invariant_of-self g c =
    let words = g.S.Schema.words in
    let inside = c.self.inside in
    record {
      sound =
          sound_same words inside.first.rows.entries inside.second.rows.entries inside.third.rows.entries c.take_into.new.shelf.rows.entries inside.second.rows.entries inside.third.rows.entries c.in_err-taken-in-1.ensures.unchanged refl refl c.self.invariant.sound;
      first_fits = c.take_into.ensures.fits c.self.invariant.first_fits;
      second_fits = c.self.invariant.second_fits;
      third_fits = c.self.invariant.third_fits;
      marked = c.take_into.ensures.marked c.self.invariant.marked;
      nothing_kept = c.self.invariant.nothing_kept;
      nothing_queued = c.self.invariant.nothing_queued;
    }

pub invariant_of-self-in_err-taken-in-2 : goal.invariant_of-self-in_err-taken-in-2
invariant_of-self-in_err-taken-in-2 g c =
    let words = g.S.Schema.words in
    let inside = c.self.inside in
    record {
      sound =
          sound_same words inside.first.rows.entries inside.second.rows.entries inside.third.rows.entries inside.first.rows.entries c.take_into-in-2.new.shelf.rows.entries inside.third.rows.entries refl c.in_err-taken-in-2.ensures.unchanged refl c.self.invariant.sound;
      first_fits = c.self.invariant.first_fits;
      second_fits = c.take_into-in-2.ensures.fits c.self.invariant.second_fits;
      third_fits = c.self.invariant.third_fits;
      marked = c.self.invariant.marked;
      nothing_kept = c.self.invariant.nothing_kept;
      nothing_queued = c.self.invariant.nothing_queued;
    }

pub invariant_of-self-in_err-taken-in_default : goal.invariant_of-self-in_err-taken-in_default
invariant_of-self-in_err-taken-in_default g c =
    let words = g.S.Schema.words in
    let inside = c.self.inside in
    record {
      sound =
          sound_same words inside.first.rows.entries inside.second.rows.entries inside.third.rows.entries inside.first.rows.entries inside.second.rows.entries c.take_into-in_default.new.shelf.rows.entries refl refl c.in_err-taken-in_default.ensures.unchanged c.self.invariant.sound;
      first_fits = c.self.invariant.first_fits;
      second_fits = c.self.invariant.second_fits;
      third_fits = c.take_into-in_default.ensures.fits c.self.invariant.third_fits;
      marked = c.self.invariant.marked;
      nothing_kept = c.self.invariant.nothing_kept;
      nothing_queued = c.self.invariant.nothing_queued;
    }
