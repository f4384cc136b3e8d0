use Rattle.store_model.specs.Run.{start}
use Rattle.store_model.specs.Acts.{after_acts}
use Rattle.store_model.specs.Equal.{accepted_at}
use Rattle.store_laws.proofs.Every.{every_world}
use Rattle.store_laws.proofs.Starting.{start_sound}
use Rattle.store_laws.proofs.Reached.{reached_proper}
use Rattle.store_laws.proofs.Acts.{acts_keep}
use Rattle.store_laws.proofs.Deeds.{ActsDo}
use Rattle.store_laws.proofs.replicas_are_equal.Goals as goal

pub returns : goal.returns
returns c acts lawful fit =
    let then = c.every_installed_world_reads_what_was_kept.ensures in
    let none = c.nothing_is_collected_without_collect.ensures in
    let objects = c.every_world_collects_stored_objects.ensures in
    let every = every_world (ActsDo start acts) c.every_world_has_kept_reads.ensures c.every_world_reads_stored_rows.ensures c.every_world_is_sound.ensures c.every_world_gives_windows.ensures then.kept then.stored then.sound then.windows none.from_empty none.from_installed objects.from_empty objects.from_installed in
    let s = after_acts start acts in
    let w = s.world in
    let same = c.same_members_give_same_rows.ensures in
    let are_proper = c.every_world_has_proper_rows.ensures in
    let proper = reached_proper are_proper.from_empty are_proper.from_installed s.draws w (acts_keep every start acts lawful fit (λ x h. h) start_sound).reached in
    record {
      partitions = λ n m p members. record {
        same_rows = same.partition_rows (accepted_at w n) (accepted_at w m) p (proper n) (proper m) members;
        same_roots = λ table. same.partition_roots (accepted_at w n) (accepted_at w m) p table (proper n) (proper m) members;
      };
      whole = λ n m members. (same.rows (accepted_at w n) (accepted_at w m) (proper n) members, same.top (accepted_at w n) (accepted_at w m) (proper n) members);
    }
