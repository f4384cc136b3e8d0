use Rattle.store_model.specs.Run.{start}
use Rattle.store_model.specs.Acts.{after_acts}
use Rattle.store_laws.proofs.Every.{every_world}
use Rattle.store_laws.proofs.Starting.{start_sound}
use Rattle.store_laws.proofs.Reached.{reached_joined, reached_greatest}
use Rattle.store_laws.proofs.Acts.{acts_keep}
use Rattle.store_laws.proofs.Deeds.{ActsDo, deeds_apart}
use Rattle.store_laws.proofs.phases_read_what_was_kept.Goals as goal

pub returns-clause-kept : goal.returns-clause-kept
returns-clause-kept c acts lawful fit clear =
    let then = c.every_installed_world_reads_what_was_kept.ensures in
    let none = c.nothing_is_collected_without_collect.ensures in
    let objects = c.every_world_collects_stored_objects.ensures in
    let every = every_world (ActsDo start acts) c.every_world_has_kept_reads.ensures c.every_world_reads_stored_rows.ensures c.every_world_is_sound.ensures c.every_world_gives_windows.ensures then.kept then.stored then.sound then.windows none.from_empty none.from_installed objects.from_empty objects.from_installed in
    reached_joined every (after_acts start acts).world (acts_keep every start acts lawful fit (λ x h. h) start_sound).reached (deeds_apart start acts clear)

pub returns-clause-greatest : goal.returns-clause-greatest
returns-clause-greatest c acts lawful fit =
    let then = c.every_installed_world_reads_what_was_kept.ensures in
    let none = c.nothing_is_collected_without_collect.ensures in
    let objects = c.every_world_collects_stored_objects.ensures in
    let every = every_world (ActsDo start acts) c.every_world_has_kept_reads.ensures c.every_world_reads_stored_rows.ensures c.every_world_is_sound.ensures c.every_world_gives_windows.ensures then.kept then.stored then.sound then.windows none.from_empty none.from_installed objects.from_empty objects.from_installed in
    reached_greatest every (after_acts start acts).world (acts_keep every start acts lawful fit (λ x h. h) start_sound).reached
