use Rattle.crdt_rows.specs.AnyRow.{any_join}
use Rattle.object_schema.specs.Schema.{words}
use Rattle.object_schema.specs.Laws.{schema_laws}
use Rattle.cluster_machine.specs.Layouts.{layouts}
use Rattle.store_model.specs.Run.{start}
use Rattle.store_laws.proofs.Deeds.{ActsDo, deeds_apart}
use Rattle.store_laws.proofs.Hashing.{acts_in}
use Rattle.store_laws.proofs.Every.{every_world}
use Rattle.store_anchors.proofs.Cited.{Cited}
use Rattle.store_anchors.proofs.Laid.{digest}
use Rattle.held_laws.proofs.Running.{CitedRows}
use Rattle.held_laws.proofs.Held.{holds_so}
use Rattle.held_laws.proofs.a_cluster_that_looks_like_a_map_holds_it.Goals as goal

pub returns : goal.returns
returns c cluster P led =
    let acts = led.acts in
    let then = c.every_installed_world_reads_what_was_kept.ensures in
    let none = c.nothing_is_collected_without_collect.ensures in
    let objects = c.every_world_collects_stored_objects.ensures in
    let cited : Cited (ActsDo start acts) = record {
      every = every_world (ActsDo start acts) c.every_world_has_kept_reads.ensures c.every_world_reads_stored_rows.ensures c.every_world_is_sound.ensures c.every_world_gives_windows.ensures then.kept then.stored then.sound then.windows none.from_empty none.from_installed objects.from_empty objects.from_installed;
      clear = deeds_apart start acts led.walks;
      gives = λ digest trio roles moves m is_run brings. c.every_block_phase_gives_its_block.ensures digest any_join words layouts trio roles 256 moves m schema_laws is_run brings;
      shows = c.rows_show_what_was_stored.ensures;
      overwritten = c.gone_versions_were_overwritten.ensures;
      deleted = c.version_rows_join_as_facts.ensures.deleted;
      id = c.version_rows_join_as_facts.ensures.key;
    } in
    let cited_rows : CitedRows = record {
      come = λ first roles moves is_run n table key row e. c.every_node_has_stored_rows.ensures any_join words layouts first roles 256 moves schema_laws is_run n table key row e;
      stocked = λ first roles moves is_run brings. c.every_node_has_its_blocks.ensures.world digest any_join words layouts first roles 256 moves schema_laws is_run brings;
    } in
    let knows = c.states_know_their_requests.ensures in
    holds_so cited cited_rows acts led.lawful (acts_in (ActsDo start acts) start acts led.fit (λ d h. h)) (knows.keeps start acts led.lawful knows.begins) cluster P led.run_is led.looks led.in_time led.names
