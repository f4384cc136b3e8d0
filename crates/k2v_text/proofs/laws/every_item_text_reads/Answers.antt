use Rattle.k2v_text.proofs.Schedules.{every_input, schedule_allowed}
use Rattle.k2v_text.proofs.laws.every_item_text_reads.Goals as goal

pub returns : goal.returns
returns c = record { texts = every_input; allowed = schedule_allowed }
