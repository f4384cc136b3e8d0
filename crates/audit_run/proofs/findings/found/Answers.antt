use Rattle.std.proofs.Common.{subst}
use Rattle.text_model.specs.Grammar.{lines_of}
use Rattle.audit_model.specs.Audit.{unreadable, not_read}
use Rattle.audit_reading.specs.declared.lines.Text.{Text}
use Rattle.audit_reading.specs.Reads.{IsReadOf}
use Rattle.audit_run.proofs.Finding.{is_found}
use Rattle.audit_run.proofs.findings.found.Goals as goal

pub returns-in-Unreadable-clause-found : goal.returns-in-Unreadable-clause-found
returns-in-Unreadable-clause-found c =
    let read = subst (λ (t : Text). IsReadOf c.args.events.now (lines_of c.args.text.now) t) c.in-Unreadable.is c.in_ok-line.ensures.read in
    is_found c.args.events.now c.args.text.now (unreadable c.in-Unreadable.line) c.numbered.result (not_read c.in-Unreadable.line read) c.numbered.ensures.status c.numbered.ensures.text
