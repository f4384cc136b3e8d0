use Rattle.std.proofs.Common.{inr}
use Rattle.store_laws.proofs.Every.{every_world}
use Rattle.store_laws.proofs.Acts.{acts_fresh}
use Rattle.store_laws.proofs.Deeds.{ActsDo}
use Rattle.store_laws.proofs.Promptly.{deeds_clear}
use Rattle.store_model.specs.Run.{start}
use Rattle.store_laws.proofs.prompt_reads_are_fresh.Goals as goal

pub returns : goal.returns
returns c acts lawful fit clear prompt =
    let then = c.every_installed_world_reads_what_was_kept.ensures in
    let none = c.nothing_is_collected_without_collect.ensures in
    let objects = c.every_world_collects_stored_objects.ensures in
    acts_fresh (every_world (ActsDo start acts) c.every_world_has_kept_reads.ensures c.every_world_reads_stored_rows.ensures c.every_world_is_sound.ensures c.every_world_gives_windows.ensures then.kept then.stored then.sound then.windows none.from_empty none.from_installed objects.from_empty objects.from_installed) acts lawful fit (λ d h. h) (deeds_clear acts clear (inr prompt))
