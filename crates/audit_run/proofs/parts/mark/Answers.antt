use Rattle.std.proofs.Common.{sym, ◌∙◌}
use Rattle.std.specs.Cmp.Lexicographic.{same_text, other_text}
use Rattle.std.proofs.lemmas.List.{take_rest}
use Rattle.audit_run.specs.Parts.{mark}
use Rattle.audit_run.proofs.Marks.{past_last, at_mark, goes_on}
use Rattle.audit_run.proofs.parts.mark.Goals as goal

pub returns-else-eq : goal.returns-else-eq
returns-else-eq c =
    past_last c.args.text.now c.loop-at.at c.loop-at.invariant (sym c.in_default.is ∙ (rw take_rest at c.line_feed.ensures)) c.loop-at-test.true (other_text _ mark (rw take_rest at c.if-eq.ensures))

pub returns-then-eq-2 : goal.returns-then-eq-2
returns-then-eq-2 c = at_mark c.args.text.now c.loop-at.at c.loop-at.invariant c.in-Some.end (rw take_rest at c.in-Some.ensures) (same_text _ mark (rw take_rest at c.if-eq-2.ensures))

pub loop-at-preserved : goal.loop-at-preserved
loop-at-preserved c = goes_on c.args.text.now c.loop-at.at c.loop-at.invariant c.in-Some.end (rw take_rest at c.in-Some.ensures) (other_text _ mark (rw take_rest at c.if-eq-2.ensures))
