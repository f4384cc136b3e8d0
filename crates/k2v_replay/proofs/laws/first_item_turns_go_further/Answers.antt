use Rattle.k2v_replay.proofs.Further.{goes_further}
use Rattle.k2v_replay.proofs.laws.first_item_turns_go_further.Goals as goal

pub returns : goal.returns
returns c = goes_further c.item_turns_end_once.ensures.one c.item_turns_end_once.ensures.limit
