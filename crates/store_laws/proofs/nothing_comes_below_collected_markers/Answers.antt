use Rattle.store_laws.proofs.Every.{every_world}
use Rattle.store_laws.proofs.Acts.{acts_keep}
use Rattle.store_laws.proofs.Clean.{reached_past}
use Rattle.store_laws.proofs.Deeds.{ActsDo}
use Rattle.store_laws.proofs.Starting.{start_sound}
use Rattle.store_laws.proofs.Promptly.{deeds_prompt, collected_by_then}
use Rattle.store_model.specs.Run.{start}
use Rattle.store_model.specs.Acts.{after_acts}
use Rattle.store_laws.proofs.nothing_comes_below_collected_markers.Goals as goal

pub returns : goal.returns
returns c acts lawful fit prompt before later is r there =
    let then = c.every_installed_world_reads_what_was_kept.ensures in
    let none = c.nothing_is_collected_without_collect.ensures in
    let objects = c.every_world_collects_stored_objects.ensures in
    let every = every_world (ActsDo start acts) c.every_world_has_kept_reads.ensures c.every_world_reads_stored_rows.ensures c.every_world_is_sound.ensures c.every_world_gives_windows.ensures then.kept then.stored then.sound then.windows none.from_empty none.from_installed objects.from_empty objects.from_installed in
    let are_prompt = deeds_prompt acts prompt in
    reached_past every (after_acts start acts).world (acts_keep every start acts lawful fit (λ d h. h) start_sound).reached are_prompt.0 are_prompt.1 r (collected_by_then acts before later is r there)
