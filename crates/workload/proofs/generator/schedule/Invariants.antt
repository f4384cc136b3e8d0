use Rattle.std.proofs.Common.{◌≡◌, ◌≤◌, ◌+◌, ◌-◌, length}
use Rattle.workload.specs.Schedule.{made}
use Rattle.workload.proofs.generator.schedule.Given as goal

abbrev pub invariant-loop-numbers : goal.invariant-loop-numbers
invariant-loop-numbers l = record {
  events : l.events ≡ (made l.fn.seed l.turn).events;
  state : l.numbers.state ≡ (made l.fn.seed l.turn).state;
  paced : l.turn + 3 ≤ length l.events;
}

abbrev pub decreases-loop-numbers : goal.decreases-loop-numbers
decreases-loop-numbers l = l.fn.n - length l.events
