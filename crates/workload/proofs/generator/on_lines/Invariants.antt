use Rattle.std.proofs.Common.{◌≡◌, ◌+◌, ◌++◌, length}
use Rattle.workload.specs.Schedule.{on_lines}
use Rattle.workload.proofs.generator.on_lines.Given as goal

abbrev pub invariant-loop-event : goal.invariant-loop-event
invariant-loop-event l = record {
  made : l.numbered ++ on_lines (length l.numbered + 1) l.event-iterator.rest.items ≡ on_lines 1 l.fn.events;
  few : length l.numbered + length l.event-iterator.rest.items ≡ length l.fn.events;
}
