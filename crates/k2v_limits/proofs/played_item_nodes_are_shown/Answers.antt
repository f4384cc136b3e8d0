use Rattle.k2v_rows.specs.Row.{row_join}
use Rattle.k2v_schema.specs.Schema.{words}
use Rattle.k2v_limits.proofs.Turns.{has_spellings}
use Rattle.k2v_limits.proofs.played_item_nodes_are_shown.Goals as goal

pub returns : goal.returns
returns c = λ turns played allowed few n. has_spellings (c.sound_worlds_stay_sound.ensures.stepped row_join words) c.empty_world_is_sound.ensures turns played.lawful played.go_on allowed few n
