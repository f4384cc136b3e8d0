use Rattle.s3_flow.proofs.Whole.{wrong_place, wrong_size}
use Rattle.s3_flow.proofs.says.are_whole.Goals as goal
use Rattle.s3_flow.proofs.says.are_whole.Goals.{then-entry-size-via-then-entry-size, then-entry-size-via-else-entry-size+then-bytes-left}

pub returns-then-entry-size : goal.returns-then-entry-size
returns-then-entry-size c =
    elim c.then-entry-size.branch [
      | then-entry-size-via-then-entry-size w ↦ wrong_place c.args.entries.now c.loop-entry.entry-index c.loop-entry.left c.args.size _ c.loop-entry-test.true c.loop-entry.invariant.rest w.if-entry-size.true
      | then-entry-size-via-else-entry-size+then-bytes-left w ↦
          wrong_size c.args.entries.now c.loop-entry.entry-index c.loop-entry.left c.args.size c.from-bytes.result _ c.loop-entry-test.true c.loop-entry.invariant.within c.loop-entry.invariant.rest c.from-bytes.ensures w.if-bytes-left.true
    ]
