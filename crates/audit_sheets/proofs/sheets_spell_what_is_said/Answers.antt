use Rattle.audit_sheets.proofs.Words.{text_says, said_in_ranges, none_heard}
use Rattle.audit_sheets.proofs.sheets_spell_what_is_said.Goals as goal

pub returns : goal.returns
returns c = record { text = text_says; range = said_in_ranges; heard = none_heard }
