use Rattle.std.proofs.Common.{subst}
use Rattle.history_model.specs.Pairs.{pair_count}
use Rattle.audit_model.specs.Audit.{differs, too_much, ok, Finds}
use Rattle.audit_play.specs.declared.compared.Compared.{Compared}
use Rattle.audit_play.specs.Comparing.{finding_of}
use Rattle.audit_run.proofs.Finding.{is_found, is_ok_line}
use Rattle.audit_run.proofs.findings.compared.Goals as goal

pub returns-in-Differs-clause-found : goal.returns-in-Differs-clause-found
returns-in-Differs-clause-found c =
    let h = c.args.history.now.0 in
    let finds = subst (λ (x : Compared). Finds c.args.events.now c.args.text.now (finding_of x h)) c.in-Differs.is (c.in_ok-line.ensures.finds c.requires.saids h c.requires.compared c.requires.fresh) in
    is_found c.args.events.now c.args.text.now (differs c.in-Differs.line) c.numbered.result finds c.numbered.ensures.status c.numbered.ensures.text

pub returns-in-TooMuch-clause-found : goal.returns-in-TooMuch-clause-found
returns-in-TooMuch-clause-found c =
    let h = c.args.history.now.0 in
    let finds = subst (λ (x : Compared). Finds c.args.events.now c.args.text.now (finding_of x h)) c.in-TooMuch.is (c.in_ok-line.ensures.finds c.requires.saids h c.requires.compared c.requires.fresh) in
    is_found c.args.events.now c.args.text.now too_much c.plain.result finds c.plain.ensures.status c.plain.ensures.text

pub returns-in_ok-count-in-Same-clause-found : goal.returns-in_ok-count-in-Same-clause-found
returns-in_ok-count-in-Same-clause-found c =
    let h = c.args.history.now.0 in
    let finds = subst (λ (x : Compared). Finds c.args.events.now c.args.text.now (finding_of x h)) c.in-Same.is (c.in_ok-line.ensures.finds c.requires.saids h c.requires.compared c.requires.fresh) in
    is_found c.args.events.now c.args.text.now (ok (pair_count h)) c.numbered-in-Same.result finds c.numbered-in-Same.ensures.status (is_ok_line c.numbered-in-Same.result c.in_ok-count-in-Same.count (pair_count h) c.in_ok-count-in-Same.ensures.counted c.numbered-in-Same.ensures.text)
