use Rattle.text_model.specs.Grammar.{lines_of}
use Rattle.audit_findings.proofs.One.{finds_one}
use Rattle.audit_findings.proofs.one_finding.Goals as goal

pub returns : goal.returns
returns c = λ input text events f g is short a b.
    finds_one events text
    (record {
      account = c.texts_give_one_account.ensures.account events (lines_of text);
      not_both = c.texts_give_one_account.ensures.not_both events (lines_of text);
      line = c.texts_give_one_account.ensures.line events (lines_of text);
      one_stale = c.findings_name_one_line.ensures.stale;
      one_unlawful = c.findings_name_one_line.ensures.unlawful;
      one_difference = c.findings_name_one_line.ensures.differs;
    })
    input (record { fix = c.prints_fix_runs.ensures; answer = c.computed_answers_are_one.ensures; agrees = c.printed_roles_are_staged.ensures.agreed; schedule = is; short = short }) a b
