use Rattle.std.proofs.Common.{◌≡◌, map, take}
use Rattle.cluster_machine.specs.declared.line.Line.TheVariants.{Ended}
use Rattle.cluster_machine.specs.declared.line.EndWord.TheVariants.{Restarted}
use Rattle.world_core.proofs.world.restart_lines.Given as goal

abbrev pub invariant-loop-request : goal.invariant-loop-request
invariant-loop-request l = l.lines ≡ map (λ q. Ended q Restarted) (take l.request-index l.lost)
