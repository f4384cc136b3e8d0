use Rattle.std.proofs.Common.{arith}
use Rattle.s3_request.proofs.Lists.{begins_here, begins_later, begins_nowhere}
use Rattle.s3_request.proofs.word.holds_word.Goals as goal

pub returns-then-begins_word : goal.returns-then-begins_word
returns-then-begins_word c =
    begins_here c.args.text.now c.args.word.now _ c.loop-start.start c.begins_word.result c.loop-start-test.true (omega arith) c.begins_word.ensures c.if-begins_word.true c.loop-start.invariant

pub loop-start-preserved : goal.loop-start-preserved
loop-start-preserved c =
    begins_later c.args.text.now c.args.word.now _ c.loop-start.start c.begins_word.result c.loop-start-test.true (omega arith) c.begins_word.ensures c.if-begins_word.false c.loop-start.invariant

pub returns : goal.returns
returns c = begins_nowhere c.args.text.now c.args.word.now c.loop-start.start c.begins_word-2.result c.loop-start-test.false c.begins_word-2.ensures c.loop-start.invariant
