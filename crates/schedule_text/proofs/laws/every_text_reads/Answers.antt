use Rattle.text_model.proofs.Decided.{event_is_spelled, spelled_is_read}
use Rattle.text_model.proofs.Schedules.{every_input}
use Rattle.schedule_text.proofs.laws.every_text_reads.Goals as goal

pub returns : goal.returns
returns c = record { lines = λ line e. (event_is_spelled line e, spelled_is_read line e); texts = every_input }
