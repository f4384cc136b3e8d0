use Rattle.std.specs.Prelude.{◌∷◌}
use Rattle.std.proofs.Common.{sym, ap, ◌∙◌}
use Rattle.crdt_core.proofs.Each.{all_append}
use Rattle.cluster_machine.specs.World.{empty}
use Rattle.cluster_machine.specs.Layouts.{layouts}
use Rattle.cluster_machine.specs.Trio.{trio, stage_trio}
use Rattle.machine_collects.specs.Without.{IsOther}
use Rattle.world_reads.proofs.Lawful.{same_run}
use Rattle.world_reads.proofs.Installed.{first_step, whole, whole_same}
use Rattle.world_reads.proofs.nothing_is_collected_without_collect.Goals as goal

pub returns-clause-from_empty : goal.returns-clause-from_empty
returns-clause-from_empty g c moves others =
    let join = g.S.Row.Crdt.join in
    let s = g.S.Schema.words in
    sym (ap (λ w. w.collected) (same_run join s empty moves)) ∙ (c.nothing_without_collect.ensures join s layouts trio stage_trio moves others).0

pub returns-clause-from_installed : goal.returns-clause-from_installed
returns-clause-from_installed g c before first after is early late =
    let join = g.S.Row.Crdt.join in
    let s = g.S.Schema.words in
    let sound = c.empty_world_is_sound.ensures in
    sym (ap (λ w. w.collected) (whole_same join s first before after sound is)) ∙
    (c.nothing_without_collect.ensures join s layouts first (λ roles. roles) (whole join s first before after sound is) (all_append (λ m. IsOther m.step) before (first_step ∷ after) early (tt, late))).0
