use Rattle.audit_sheets.proofs.Back.{prints}
use Rattle.audit_sheets.proofs.sheets_print_their_layout.Goals as goal

pub returns : goal.returns
returns c shown rest h ranked = prints c.lines_say_one_thing.ensures.one shown h ranked rest
