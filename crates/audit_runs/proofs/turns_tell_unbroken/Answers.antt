use Rattle.store_laws.proofs.Every.{every_world}
use Rattle.audit_runs.proofs.Unbroken.{Any, tell_unbroken}
use Rattle.audit_runs.proofs.turns_tell_unbroken.Goals as goal

pub returns : goal.returns
returns c =
    let then = c.every_installed_world_reads_what_was_kept.ensures in
    let none = c.nothing_is_collected_without_collect.ensures in
    let objects = c.every_world_collects_stored_objects.ensures in
    tell_unbroken c.events_stage_what_they_say.ensures
    (every_world Any c.every_world_has_kept_reads.ensures c.every_world_reads_stored_rows.ensures c.every_world_is_sound.ensures c.every_world_gives_windows.ensures then.kept then.stored then.sound then.windows none.from_empty none.from_installed objects.from_empty objects.from_installed)
