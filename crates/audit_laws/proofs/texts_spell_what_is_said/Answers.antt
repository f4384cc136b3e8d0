use Rattle.audit_laws.proofs.Spelled.{event_says, node_says, end_says}
use Rattle.audit_laws.proofs.texts_spell_what_is_said.Goals as goal

pub returns : goal.returns
returns c = record { events = event_says; nodes = node_says; end = end_says }
