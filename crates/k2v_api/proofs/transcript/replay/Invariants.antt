use Rattle.std.proofs.Common.{◌≡◌}
use Rattle.k2v_api.proofs.Running.{Running}
use Rattle.k2v_api.proofs.transcript.replay.Given as goal

abbrev pub invariant-loop-next : goal.invariant-loop-next
invariant-loop-next g l =
    record {
      running : Running l.items (g.O.Sink.written l.fn.output) (g.O.Sink.written l.output) l.events l.next-index;
      steady : g.O.Sink.faults l.output ≡ g.O.Sink.faults l.fn.output;
    }
