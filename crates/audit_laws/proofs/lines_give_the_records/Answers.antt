use Rattle.audit_laws.proofs.Account.{act_adds}
use Rattle.audit_laws.proofs.Blunt.{fresh_blunt}
use Rattle.audit_laws.proofs.lines_give_the_records.Goals as goal

pub returns : goal.returns
returns c = record { adds = act_adds; fresh = fresh_blunt }
