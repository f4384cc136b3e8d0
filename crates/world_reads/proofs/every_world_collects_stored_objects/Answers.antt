use Rattle.std.specs.List.{Contains}
use Rattle.std.proofs.Common.{sym, subst}
use Rattle.cluster_machine.specs.World.{empty}
use Rattle.cluster_machine.specs.Layouts.{layouts}
use Rattle.cluster_machine.specs.Trio.{trio, stage_trio}
use Rattle.machine_origins.specs.Origins.{ComesFrom}
use Rattle.world_reads.proofs.Lawful.{lawful_is_run, same_run}
use Rattle.world_reads.proofs.Installed.{whole, whole_same, whole_is_run, stored_without}
use Rattle.world_reads.proofs.every_world_collects_stored_objects.Goals as goal

pub returns-clause-from_empty : goal.returns-clause-from_empty
returns-clause-from_empty g c moves h r there =
    let join = g.S.Row.Crdt.join in
    let s = g.S.Schema.words in
    c.collected_rows_are_stored_objects.ensures join s layouts trio stage_trio 256 moves g.met.S.Schema.laws (lawful_is_run join s empty moves c.empty_world_is_sound.ensures h) r
    (subst (λ w. Contains w.collected r) (sym (same_run join s empty moves)) there)

pub returns-clause-from_installed : goal.returns-clause-from_installed
returns-clause-from_installed g c before first after is h r there =
    let join = g.S.Row.Crdt.join in
    let s = g.S.Schema.words in
    let sound = c.empty_world_is_sound.ensures in
    let is_so = c.collected_rows_are_stored_objects.ensures join s layouts first (λ roles. roles) 256 (whole join s first before after sound is) g.met.S.Schema.laws (whole_is_run join s first before after sound is h) r
    (subst (λ w. Contains w.collected r) (sym (whole_same join s first before after sound is)) there) in
    (is_so.0, subst (λ rows. ComesFrom join s rows r) (stored_without before after) is_so.1)
