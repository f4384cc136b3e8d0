use Rattle.quorum_model.proofs.Counting.{reached_more, reached_again, reached_stranger}
use Rattle.quorum_model.proofs.laws.confirmations_count_once.Goals as goal

pub returns-clause-kept : goal.returns-clause-kept
returns-clause-kept c = reached_more

pub returns-clause-again : goal.returns-clause-again
returns-clause-again c = reached_again

pub returns-clause-stranger : goal.returns-clause-stranger
returns-clause-stranger c = reached_stranger
