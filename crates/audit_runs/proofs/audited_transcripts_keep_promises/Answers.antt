use Rattle.audit_runs.proofs.Audited.{of_finding}
use Rattle.audit_runs.proofs.audited_transcripts_keep_promises.Goals as goal

pub returns : goal.returns
returns c = λ input text events pairs is found. of_finding c.printed_turns_keep_promises.ensures events (c.schedules_are_within_limits.ensures input events is) text found
