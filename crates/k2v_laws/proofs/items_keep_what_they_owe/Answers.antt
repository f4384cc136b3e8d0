use Rattle.std.specs.Prelude.{List, refl}
use Rattle.k2v_model.specs.Run.{start}
use Rattle.k2v_model.specs.Acts.{Act, AreLawfulActs, ActsFit, after_acts}
use Rattle.k2v_laws.proofs.Acts.{acts_sound}
use Rattle.k2v_laws.proofs.Every.{EveryWorld}
use Rattle.k2v_laws.proofs.Owing.{are_whole, reads_cover, reads_show_writes, reads_leave_replaced}
use Rattle.k2v_laws.specs.Hashed.{ActsHash}
use Rattle.k2v_laws.proofs.Sound.{IsSound}
use Rattle.k2v_laws.proofs.Writing.{writes_have_place}
use Rattle.k2v_laws.proofs.items_keep_what_they_owe.Goals as goal

pub returns : goal.returns
returns c =
    let every : EveryWorld = record {
      kept_reads = c.every_world_has_kept_reads.ensures;
      stored_rows = c.every_world_reads_stored_rows.ensures;
      is_sound = c.every_world_is_sound.ensures;
      nothing_collected = c.nothing_is_collected_without_markers.ensures (λ row. refl);
    } in
    let sound : (acts : List Act) → AreLawfulActs start acts → ActsFit start acts → IsSound (ActsHash start acts) (after_acts start acts) = acts_sound every in
    record {
      whole = λ acts lawful fits clear. are_whole every (after_acts start acts) (sound acts lawful fits) clear;
      cover = λ acts lawful fits clear. reads_cover (after_acts start acts) (sound acts lawful fits) clear;
      written = λ acts lawful fits. reads_show_writes (after_acts start acts) (sound acts lawful fits);
      replaced = λ acts lawful fits clear. reads_leave_replaced (after_acts start acts) (sound acts lawful fits) clear;
      place = λ acts lawful fits. writes_have_place every (after_acts start acts) (sound acts lawful fits);
    }
