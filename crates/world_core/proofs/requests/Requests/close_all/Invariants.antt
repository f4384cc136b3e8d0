use Rattle.std.proofs.Common.{◌≡◌, take}
use Rattle.cluster_machine.specs.Step.{shut}
use Rattle.world_core.proofs.requests.Requests.close_all.Given as goal

abbrev pub invariant-loop-number : goal.invariant-loop-number
invariant-loop-number l = l.self ≡ shut l.fn.self (take l.number-index l.numbers)
