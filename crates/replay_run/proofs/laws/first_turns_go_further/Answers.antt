use Rattle.replay_run.proofs.Further.{goes_further}
use Rattle.replay_run.proofs.laws.first_turns_go_further.Goals as goal

pub returns : goal.returns
returns c = goes_further c.lawful_turns_end_once.ensures.one c.lawful_turns_end_once.ensures.limit
