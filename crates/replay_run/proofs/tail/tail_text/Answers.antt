use Rattle.replay_run.proofs.Closing.{tail_told}
use Rattle.replay_run.proofs.tail.tail_text.Goals as goal

pub returns-clause-text : goal.returns-clause-text
returns-clause-text c =
    rw (c.in_ok-extend_from_slice-3.ensures.ok, c.as_slice-3.ensures, c.in_ok-extend_from_slice-2.ensures.ok, c.as_slice-2.ensures, c.in_ok-extend_from_slice.ensures.ok, c.as_slice.ensures) (
    tail_told c.args.account c.args.store.now c.args.events c.in_ok-text.text c.in_ok-lines.lines c.in_ok-check.check c.in_ok-end.end c.in_ok-text.ensures.text (λ s d. c.in_ok-lines.ensures.text s d) c.in_ok-check.ensures.line
    (λ s d. rw (c.requests.ensures s d, c.sent.ensures s d) at c.in_ok-end.ensures.text))
