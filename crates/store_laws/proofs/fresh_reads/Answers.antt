use Rattle.std.proofs.Common.{inl}
use Rattle.store_laws.proofs.Every.{every_world}
use Rattle.store_laws.proofs.Acts.{acts_keep}
use Rattle.store_laws.proofs.Deeds.{ActsDo, never_acts}
use Rattle.store_laws.proofs.Reached.{reached_none}
use Rattle.store_laws.proofs.Starting.{start_sound}
use Rattle.store_laws.proofs.Promptly.{deeds_clear}
use Rattle.store_model.specs.Run.{start}
use Rattle.store_model.specs.Acts.{after_acts}
use Rattle.store_laws.proofs.fresh_reads.Goals as goal

pub returns : goal.returns
returns c acts lawful fit clear never =
    let then = c.every_installed_world_reads_what_was_kept.ensures in
    let none = c.nothing_is_collected_without_collect.ensures in
    let objects = c.every_world_collects_stored_objects.ensures in
    let every = every_world (ActsDo start acts) c.every_world_has_kept_reads.ensures c.every_world_reads_stored_rows.ensures c.every_world_is_sound.ensures c.every_world_gives_windows.ensures then.kept then.stored then.sound then.windows none.from_empty none.from_installed objects.from_empty objects.from_installed in
    let s = after_acts start acts in
    let sound = acts_keep every start acts lawful fit (λ d h. h) start_sound in
    c.nothing_collected_reads_as_now.ensures s (reached_none every s.world sound.reached (never_acts start acts never)) (sound.fresh (deeds_clear acts clear (inl never)))
