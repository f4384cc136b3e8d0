use Rattle.std.proofs.Common.{arith}
use Rattle.store_laws.proofs.Every.{every_world}
use Rattle.serve_limits.proofs.Stamps.{Any, all_drawn, next_drawn, act_drawn}
use Rattle.serve_limits.proofs.timestamps_have_room.Goals as goal

pub returns-clause-drawn : goal.returns-clause-drawn
returns-clause-drawn c ch jobs first led asked moment is lawful fit =
    let then = c.every_installed_world_reads_what_was_kept.ensures in
    let none = c.nothing_is_collected_without_collect.ensures in
    let objects = c.every_world_collects_stored_objects.ensures in
    all_drawn (every_world Any c.every_world_has_kept_reads.ensures c.every_world_reads_stored_rows.ensures c.every_world_is_sound.ensures c.every_world_gives_windows.ensures then.kept then.stored then.sound then.windows none.from_empty none.from_installed objects.from_empty objects.from_installed) ch jobs first led asked moment is lawful fit

pub returns-clause-next : goal.returns-clause-next
returns-clause-next c ch jobs first led asked moment is lawful fit m fits =
    let then = c.every_installed_world_reads_what_was_kept.ensures in
    let none = c.nothing_is_collected_without_collect.ensures in
    let objects = c.every_world_collects_stored_objects.ensures in
    next_drawn (every_world Any c.every_world_has_kept_reads.ensures c.every_world_reads_stored_rows.ensures c.every_world_is_sound.ensures c.every_world_gives_windows.ensures then.kept then.stored then.sound then.windows none.from_empty none.from_installed objects.from_empty objects.from_installed) ch jobs first led asked moment is lawful fit m fits

pub returns-clause-act : goal.returns-clause-act
returns-clause-act c ch jobs first led asked before act later is lawful fit fits =
    let then = c.every_installed_world_reads_what_was_kept.ensures in
    let none = c.nothing_is_collected_without_collect.ensures in
    let objects = c.every_world_collects_stored_objects.ensures in
    act_drawn (every_world Any c.every_world_has_kept_reads.ensures c.every_world_reads_stored_rows.ensures c.every_world_is_sound.ensures c.every_world_gives_windows.ensures then.kept then.stored then.sound then.windows none.from_empty none.from_installed objects.from_empty objects.from_installed) ch jobs first led asked before act later is lawful fit fits

pub returns-clause-fits : goal.returns-clause-fits
returns-clause-fits c = omega arith
