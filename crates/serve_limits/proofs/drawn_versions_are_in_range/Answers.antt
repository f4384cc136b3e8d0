use Rattle.store_laws.proofs.Every.{every_world}
use Rattle.serve_limits.proofs.Stamps.{Any, all_in_range}
use Rattle.serve_limits.proofs.drawn_versions_are_in_range.Goals as goal

pub returns : goal.returns
returns c ch jobs first led asked moment is lawful fit d there =
    let then = c.every_installed_world_reads_what_was_kept.ensures in
    let none = c.nothing_is_collected_without_collect.ensures in
    let objects = c.every_world_collects_stored_objects.ensures in
    all_in_range (every_world Any c.every_world_has_kept_reads.ensures c.every_world_reads_stored_rows.ensures c.every_world_is_sound.ensures c.every_world_gives_windows.ensures then.kept then.stored then.sound then.windows none.from_empty none.from_installed objects.from_empty objects.from_installed) ch jobs first led asked moment is lawful fit d there
