use Rattle.k2v_rows.specs.Row.{row_join}
use Rattle.k2v_schema.specs.Schema.{words}
use Rattle.k2v_limits.proofs.Turns.{has_room}
use Rattle.k2v_limits.proofs.played_item_turns_have_room.Goals as goal

pub returns : goal.returns
returns c =
    λ before next played allowed few fine ok done last later is gone.
    has_room (c.sound_worlds_stay_sound.ensures.stepped row_join words) c.empty_world_is_sound.ensures before played.lawful played.go_on allowed next few fine ok done last later is gone
