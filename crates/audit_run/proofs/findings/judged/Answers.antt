use Rattle.std.proofs.Common.{subst}
use Rattle.audit_model.specs.Printed.{all_prints}
use Rattle.audit_model.specs.Audit.{unlawful, not_lawful}
use Rattle.audit_prints.specs.declared.sheet.Judged.{Judged}
use Rattle.audit_prints.specs.Sheets.{AreJudged}
use Rattle.audit_run.proofs.Finding.{is_found}
use Rattle.audit_run.proofs.findings.judged.Goals as goal

pub returns-in-Unlawful-clause-found : goal.returns-in-Unlawful-clause-found
returns-in-Unlawful-clause-found c =
    let saids = c.args.reading.now.saids in
    let h = c.args.reading.now.history.0 in
    let judged = rw c.as_slice.ensures at c.in_ok-line.ensures.judged in
    let first = subst (λ (j : Judged). AreJudged (all_prints c.args.events.now saids) j) c.in-Unlawful.is judged in
    is_found c.args.events.now c.args.text.now (unlawful c.in-Unlawful.line) c.numbered.result (not_lawful saids h c.in-Unlawful.line c.requires.read.readable c.requires.fresh first) c.numbered.ensures.status c.numbered.ensures.text
