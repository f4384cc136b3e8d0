use Rattle.k2v_replay.proofs.Cutting.{played_or_cut_off, never_played_and_cut_off, played_are_stated, cut_off_is_stated}
use Rattle.k2v_replay.proofs.laws.item_turns_end_once.Goals as goal

pub returns-clause-one : goal.returns-clause-one
returns-clause-one c = played_or_cut_off c.played_item_turns_have_room.ensures

pub returns-clause-never_both : goal.returns-clause-never_both
returns-clause-never_both c = never_played_and_cut_off

pub returns-clause-done : goal.returns-clause-done
returns-clause-done c = played_are_stated

pub returns-clause-limit : goal.returns-clause-limit
returns-clause-limit c = cut_off_is_stated
