use Rattle.std.specs.Prelude.{[]}
use Rattle.table_store.proofs.Wholes.{sound_same, sound_none}
use Rattle.table_store.proofs.table.Table.new.Goals as goal

pub invariant_of-result : goal.invariant_of-result
invariant_of-result g c =
    let words = g.S.Schema.words in
    record {
      sound = sound_same words [] [] [] _ _ _ c.new.ensures.rows c.new-2.ensures.rows c.new-3.ensures.rows (sound_none words);
      first_fits = c.new.ensures.fits words;
      second_fits = c.new-2.ensures.fits words;
      third_fits = c.new-3.ensures.fits words;
      marked = c.new.ensures.marked words;
      nothing_kept = c.new-4.ensures.empty;
      nothing_queued = c.new-4.ensures.settled;
    }
