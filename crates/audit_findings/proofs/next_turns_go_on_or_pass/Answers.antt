use Rattle.audit_findings.proofs.Passing.{goes_or_passes}
use Rattle.audit_findings.proofs.next_turns_go_on_or_pass.Goals as goal

pub returns : goal.returns
returns c = goes_or_passes c.lawful_turns_end_once.ensures.one c.lawful_turns_end_once.ensures.never_both
