use Rattle.std.specs.Prelude.{◌++◌, filter, map}
use Rattle.std.proofs.Common.{ap, ◌∙◌}
use Rattle.table_model.specs.Rows.{rows_in, without, live_blocks}
use Rattle.table_store.specs.Shelf.{shelf_rows, in_partition}
use Rattle.table_store.proofs.Tables.{sound_without, without_three, blocks_three}
use Rattle.table_store.proofs.table.Table.drop_partition.Goals as goal

pub invariant_of-self : goal.invariant_of-self
invariant_of-self g c =
    let words = g.S.Schema.words in
    let inside = c.self.inside in
    record {
      sound =
          rw (c.drop_rows.ensures.rows, c.drop_rows-2.ensures.rows, c.drop_rows-3.ensures.rows)
          (sound_without words inside.first.rows.entries inside.second.rows.entries inside.third.rows.entries c.self.invariant.sound c.args.p);
      first_fits = c.drop_rows.ensures.fits words c.self.invariant.first_fits;
      second_fits = c.drop_rows-2.ensures.fits words c.self.invariant.second_fits;
      third_fits = c.drop_rows-3.ensures.fits words c.self.invariant.third_fits;
      marked = c.drop_rows.ensures.marked c.self.invariant.marked;
      nothing_kept = c.self.invariant.nothing_kept;
      nothing_queued = c.self.invariant.nothing_queued;
    }

pub returns-clause-rows : goal.returns-clause-rows
returns-clause-rows g c =
    let words = g.S.Schema.words in
    let inside = c.self.inside in
    (λ i. shelf_rows (c.drop_rows.ensures.rows i) ++ (shelf_rows (c.drop_rows-2.ensures.rows i) ++ shelf_rows (c.drop_rows-3.ensures.rows i)))
    ∙ (without_three words inside.first.rows.entries inside.second.rows.entries inside.third.rows.entries c.self.invariant.sound.in_first c.self.invariant.sound.in_second c.self.invariant.sound.in_third c.args.p
    ∙ ap (without words c.args.p) c.self.view_is)

pub returns-clause-blocks : goal.returns-clause-blocks
returns-clause-blocks g c =
    let words = g.S.Schema.words in
    let inside = c.self.inside in
    let p = c.args.p in
    let a = live_blocks words (shelf_rows (filter (in_partition p) inside.first.rows.entries)) in
    let b = live_blocks words (shelf_rows (filter (in_partition p) inside.second.rows.entries)) in
    let d = live_blocks words (shelf_rows (filter (in_partition p) inside.third.rows.entries)) in
    c.in_ok-push_blocks-3.ensures.hashes
    ∙ (ap (λ l. l ++ d) (c.in_ok-push_blocks-2.ensures.hashes ∙ ap (λ l. l ++ b) (c.in_ok-push_blocks.ensures.hashes ∙ ap (λ l. map (λ hash. hash.0) l ++ a) c.new-hashes.ensures.items))
    ∙ (blocks_three words inside.first.rows.entries inside.second.rows.entries inside.third.rows.entries c.self.invariant.sound p
    ∙ ap (λ rows. live_blocks words (rows_in words p rows)) c.self.view_is))
