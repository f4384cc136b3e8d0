use Rattle.k2v_text.proofs.Decided.{event_is_spelled, spelled_is_read}
use Rattle.k2v_text.proofs.laws.every_item_line_reads.Goals as goal

pub returns : goal.returns
returns c = λ line event. (event_is_spelled line event, spelled_is_read line event)
