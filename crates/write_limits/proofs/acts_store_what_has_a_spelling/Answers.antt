use Rattle.store_laws.proofs.Every.{every_world}
use Rattle.write_limits.proofs.Acting.{Any, acts_fit}
use Rattle.write_limits.proofs.acts_store_what_has_a_spelling.Goals as goal

pub returns-clause-waits : goal.returns-clause-waits
returns-clause-waits c h acts low lawful fit f gave =
    let then = c.every_installed_world_reads_what_was_kept.ensures in
    let none = c.nothing_is_collected_without_collect.ensures in
    let objects = c.every_world_collects_stored_objects.ensures in
    (acts_fit h low (every_world Any c.every_world_has_kept_reads.ensures c.every_world_reads_stored_rows.ensures c.every_world_is_sound.ensures c.every_world_gives_windows.ensures then.kept then.stored then.sound then.windows none.from_empty none.from_installed objects.from_empty objects.from_installed) acts lawful fit f gave).waits

pub returns-clause-stored : goal.returns-clause-stored
returns-clause-stored c h acts low lawful fit f gave =
    let then = c.every_installed_world_reads_what_was_kept.ensures in
    let none = c.nothing_is_collected_without_collect.ensures in
    let objects = c.every_world_collects_stored_objects.ensures in
    (acts_fit h low (every_world Any c.every_world_has_kept_reads.ensures c.every_world_reads_stored_rows.ensures c.every_world_is_sound.ensures c.every_world_gives_windows.ensures then.kept then.stored then.sound then.windows none.from_empty none.from_installed objects.from_empty objects.from_installed) acts lawful fit f gave).stored
