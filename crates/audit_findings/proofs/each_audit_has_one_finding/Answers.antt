use Rattle.audit_findings.proofs.each_audit_has_one_finding.Goals as goal

pub returns : goal.returns
returns c = λ input text events is short.
    let found = c.some_finding.ensures input text events is in
    (found.0, (found.1, λ g also. c.one_finding.ensures input text events found.0 g is short found.1 also))
