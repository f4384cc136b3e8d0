use Rattle.std.proofs.Common.{sym, ap, ◌∙◌}
use Rattle.cluster_machine.specs.World.{empty}
use Rattle.cluster_machine.specs.Layouts.{layouts}
use Rattle.cluster_machine.specs.Trio.{trio, stage_trio}
use Rattle.world_reads.proofs.Lawful.{same_run}
use Rattle.world_reads.proofs.nothing_is_collected_without_markers.Goals as goal

pub returns : goal.returns
returns g c unmarked moves =
    let join = g.S.Row.Crdt.join in
    let s = g.S.Schema.words in
    sym (ap (λ w. w.collected) (same_run join s empty moves)) ∙ c.nothing_without_markers.ensures join s layouts trio stage_trio moves unmarked
