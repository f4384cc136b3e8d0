use Rattle.std.proofs.Common.{◌≡◌}
use Rattle.replay_run.proofs.Running.{Running}
use Rattle.replay_run.proofs.transcript.replay.Given as goal

abbrev pub invariant-loop-next : goal.invariant-loop-next
invariant-loop-next g l =
    record {
      running : Running l.fn.account l.store (g.O.Sink.written l.fn.output) (g.O.Sink.written l.output) l.events l.next-index;
      steady : g.O.Sink.faults l.output ≡ g.O.Sink.faults l.fn.output;
    }
