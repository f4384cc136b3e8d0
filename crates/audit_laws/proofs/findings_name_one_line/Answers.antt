use Rattle.audit_model.proofs.One.{one_unlawful, one_difference}
use Rattle.audit_laws.proofs.Stale.{one_stale}
use Rattle.audit_laws.proofs.findings_name_one_line.Goals as goal

pub returns : goal.returns
returns c = record { stale = one_stale; unlawful = one_unlawful; differs = one_difference }
