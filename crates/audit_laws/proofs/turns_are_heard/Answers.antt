use Rattle.audit_laws.proofs.Answering.{event_answers}
use Rattle.audit_laws.proofs.Hearing.{turns_heard}
use Rattle.audit_laws.proofs.turns_are_heard.Goals as goal

pub returns : goal.returns
returns c = record { answers = event_answers; heard = turns_heard }
