use Rattle.k2v_replay.proofs.Limits.{never_lacks}
use Rattle.k2v_replay.proofs.laws.no_item_replay_lacks_room.Goals as goal

pub returns : goal.returns
returns c = never_lacks c.played_item_turns_have_room.ensures c.played_item_nodes_are_shown.ensures
