use Rattle.k2v_replay.proofs.Ending.{replay_ends}
use Rattle.k2v_replay.proofs.laws.every_item_replay_ends.Goals as goal

pub returns : goal.returns
returns c = replay_ends c.item_turns_end_once.ensures.one c.item_turns_end_once.ensures.done c.item_turns_end_once.ensures.limit
