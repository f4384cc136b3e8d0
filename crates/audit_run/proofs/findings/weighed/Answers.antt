use Rattle.std.proofs.Common.{ℕ, Option, IfSome, subst}
use Rattle.stale_model.specs.Stale.{IsFirstStale}
use Rattle.audit_model.specs.Audit.{stale, not_fresh}
use Rattle.audit_run.proofs.Finding.{is_found}
use Rattle.audit_run.proofs.findings.weighed.Goals as goal

pub returns-in-Some-clause-found : goal.returns-in-Some-clause-found
returns-in-Some-clause-found c =
    let h = c.args.reading.now.history.0 in
    let first = subst (λ (o : Option ℕ). IfSome o (IsFirstStale h)) c.in-Some.is c.in_ok-request.ensures.first in
    is_found c.args.events.now c.args.text.now (stale c.in-Some.request) c.numbered.result (not_fresh c.args.reading.now.saids h c.in-Some.request c.requires.readable first) c.numbered.ensures.status c.numbered.ensures.text
