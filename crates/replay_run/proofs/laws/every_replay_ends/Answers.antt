use Rattle.replay_run.proofs.Ending.{replay_ends}
use Rattle.replay_run.proofs.Meant.{schedules_are_meant}
use Rattle.replay_run.proofs.laws.every_replay_ends.Goals as goal

pub returns : goal.returns
returns c = λ account events within.
    replay_ends c.lawful_turns_end_once.ensures.one c.lawful_turns_end_once.ensures.done c.lawful_turns_end_once.ensures.limit account events within (schedules_are_meant events within)
