use Rattle.std.proofs.Common.{◌≡◌, ◌++◌, map, take}
use Rattle.serve_changes.specs.Acts.{each_acts}
use Rattle.change_deeds.specs.Deeds.{act_of, step_of}
use Rattle.change_deeds.proofs.deeds.turns.Given as goal

abbrev pub invariant-loop-node : goal.invariant-loop-node
invariant-loop-node l = map act_of l.deeds ≡ map act_of l.fn.deeds ++ each_acts (step_of l.action) (take l.node-index l.part)
