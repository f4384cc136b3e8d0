use Rattle.audit_run.proofs.Closing.{closed_lines}
use Rattle.audit_run.proofs.command.is_open.Goals as goal

pub returns-in-len1-up-clause-lines : goal.returns-in-len1-up-clause-lines
returns-in-len1-up-clause-lines c = closed_lines c.args.text.now c.in-len1-up.len_at_least
