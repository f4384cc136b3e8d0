use Rattle.audit_sheets.proofs.Computed.{best_is_orderly}
use Rattle.audit_sheets.proofs.computed_sheets_are_orderly.Goals as goal

pub returns : goal.returns
returns c = best_is_orderly
