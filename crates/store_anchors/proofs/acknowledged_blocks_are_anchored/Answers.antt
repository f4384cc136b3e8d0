use Rattle.crdt_rows.specs.AnyRow.{any_join}
use Rattle.object_schema.specs.Schema.{words}
use Rattle.object_schema.specs.Laws.{schema_laws}
use Rattle.cluster_machine.specs.Layouts.{layouts}
use Rattle.store_model.specs.Run.{start}
use Rattle.store_laws.proofs.Deeds.{ActsDo, deeds_apart}
use Rattle.store_laws.proofs.Hashing.{acts_in}
use Rattle.store_laws.proofs.Every.{every_world}
use Rattle.store_anchors.proofs.Cited.{Cited}
use Rattle.store_anchors.proofs.Anchored.{anchored}
use Rattle.store_anchors.proofs.acknowledged_blocks_are_anchored.Goals as goal

pub returns : goal.returns
returns c acts lawful fit clear differ =
    let then = c.every_installed_world_reads_what_was_kept.ensures in
    let none = c.nothing_is_collected_without_collect.ensures in
    let objects = c.every_world_collects_stored_objects.ensures in
    let cited : Cited (ActsDo start acts) = record {
      every = every_world (ActsDo start acts) c.every_world_has_kept_reads.ensures c.every_world_reads_stored_rows.ensures c.every_world_is_sound.ensures c.every_world_gives_windows.ensures then.kept then.stored then.sound then.windows none.from_empty none.from_installed objects.from_empty objects.from_installed;
      clear = deeds_apart start acts clear;
      gives = λ digest trio roles moves m is_run brings. c.every_block_phase_gives_its_block.ensures digest any_join words layouts trio roles 256 moves m schema_laws is_run brings;
      shows = c.rows_show_what_was_stored.ensures;
      overwritten = c.gone_versions_were_overwritten.ensures;
      deleted = c.version_rows_join_as_facts.ensures.deleted;
      id = c.version_rows_join_as_facts.ensures.key;
    } in
    anchored cited c.undeleted_references_are_anchored.ensures acts lawful (acts_in (ActsDo start acts) start acts fit (λ d h. h)) differ
