use Rattle.std.proofs.Common.{◌≡◌, length}
use Rattle.lab_outside.proofs.Bytes.{Written}
use Rattle.lab_outside.proofs.whole.write_whole.Given as goal

abbrev pub invariant-loop-rest : goal.invariant-loop-rest
invariant-loop-rest g l =
    record {
      written : Written (g.O.Sink.written l.fn.output) (g.O.Sink.written l.output) l.bytes l.rest;
      steady : g.O.Sink.faults l.output ≡ g.O.Sink.faults l.fn.output;
    }

abbrev pub decreases-loop-rest : goal.decreases-loop-rest
decreases-loop-rest g l = length l.rest
