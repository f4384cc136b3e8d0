use Rattle.audit_play.proofs.Taking.{played_turns, played_sends}
use Rattle.audit_play.proofs.turns.played.Goals as goal

pub returns-in-Ok-clause-turns : goal.returns-in-Ok-clause-turns
returns-in-Ok-clause-turns c = played_turns c.args.store.now c.event_text.new.store c.args.next.now c.in-Ok.text c.in-Ok.ensures.turns

pub returns-in-Err-Sent-clause-turns : goal.returns-in-Err-Sent-clause-turns
returns-in-Err-Sent-clause-turns c = played_sends c.args.store.now c.event_text.new.store c.args.next.now (rw c.in-Err-Sent.field-0-is at c.in-Err-Sent.ensures.causes)
