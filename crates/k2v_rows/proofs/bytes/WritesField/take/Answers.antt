use Rattle.k2v_rows.proofs.Taken.{writes_taken}
use Rattle.k2v_rows.proofs.bytes.WritesField.take.Goals as goal

pub returns-in-Some : goal.returns-in-Some
returns-in-Some c = writes_taken c.args.bytes.now c.in_ok-discard.discard c.in_ok-discard.rest.now c.in_ok-values.values c.in_ok-values.rest.now c.in-Some.writes c.in_ok-discard.ensures.gives c.in_ok-values.ensures c.in-Some.ensures.discard c.in-Some.ensures.values
