use Rattle.lab_main.proofs.Stating.{some_or_too_long}
use Rattle.k2v_api.specs.Answer.{IsAnswer}
use Rattle.k2v_api.proofs.Stating.{is_stated}
use Rattle.k2v_api.proofs.laws.some_item_replay_is_stated.Goals as goal

pub returns : goal.returns
returns c = some_or_too_long IsAnswer (is_stated c.every_item_text_reads.ensures.texts c.item_schedules_are_within_limits.ensures c.every_item_replay_ends.ensures)
