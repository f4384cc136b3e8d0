use Rattle.std.proofs.Common.{◌≡◌, ◌++◌, map, take}
use Rattle.cluster_machine.specs.declared.step.Refusal.TheVariants.{VersionLimit}
use Rattle.cluster_machine.specs.Step.{none_given}
use Rattle.change_model.specs.Steps.{to_one, gossips}
use Rattle.serve_changes.specs.Acts.{steps}
use Rattle.change_deeds.specs.Deeds.{act_of}
use Rattle.change_deeds.proofs.deeds.show_to.Given as goal

abbrev pub invariant-loop-other : goal.invariant-loop-other
invariant-loop-other l = map act_of l.deeds ≡ map act_of l.fn.deeds ++ steps (gossips (none_given VersionLimit) (to_one l.node (take l.other-index l.part)))
