use Rattle.std.specs.Prelude.{IsTrue}
use Rattle.machine_limits.proofs.Room.{small_runs}
use Rattle.machine_limits.proofs.small_runs_have_room.Goals as goal

pub returns : goal.returns
returns g c = λ join s fits weight moves bounded small few. small_runs {join = join} {s = s} {P = λ r. IsTrue (fits r)} {weight = weight} bounded (c.sound_worlds_stay_sound.ensures.stepped join s) c.empty_world_is_sound.ensures moves small few
