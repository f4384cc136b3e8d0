use Rattle.lab_main.proofs.Stating.{some_or_too_long}
use Rattle.replay_command.specs.Answer.{IsAnswer}
use Rattle.replay_command.proofs.Stating.{is_stated}
use Rattle.replay_command.proofs.laws.some_replay_is_stated.Goals as goal

pub returns : goal.returns
returns c = λ account. some_or_too_long (IsAnswer account) (is_stated c.every_text_reads.ensures.texts c.schedules_are_within_limits.ensures c.every_replay_ends.ensures account)
