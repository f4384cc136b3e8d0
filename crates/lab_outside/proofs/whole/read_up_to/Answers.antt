use Rattle.lab_outside.proofs.Bytes.{consumes_more}
use Rattle.lab_outside.proofs.whole.read_up_to.Goals as goal

pub returns-in_err-extend_from_slice-clause-consumed :
    goal.returns-in_err-extend_from_slice-clause-consumed
returns-in_err-extend_from_slice-clause-consumed g c =
    record {
      front = _;
      consumed = consumes_more (g.I.Source.left c.args.input.now) (g.I.Source.left c.loop-piece.input) (g.I.Source.left c.read.new.self) c.loop-piece.all.items _ c.loop-piece.invariant.consumed c.in_ok-count.ensures.bytes;
    }
