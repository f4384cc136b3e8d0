use Rattle.replay_run.proofs.Limits.{never_lacks}
use Rattle.replay_run.proofs.laws.no_replay_lacks_room.Goals as goal

pub returns : goal.returns
returns c = never_lacks c.played_turns_have_room.ensures c.played_nodes_are_shown.ensures
