use Rattle.std.proofs.Common.{ap, ◌∙◌}
use Rattle.cluster_machine.specs.Trio.{stage_trio}
use Rattle.world_core.proofs.StagedTrio.{is_trio}
use Rattle.world_core.proofs.staging.trio_layout.Goals as goal

pub returns-clause-is : goal.returns-clause-is
returns-clause-is c = is_trio c.in_ok-with_trio.field-0 c.in_ok-trio_assignment.field-0 (c.in_ok-with_trio.ensures.staged ∙ ap stage_trio c.new.ensures) c.in_ok-trio_assignment.ensures.sets
