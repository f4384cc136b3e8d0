use Rattle.crdt_rows.specs.AnyRow.{any_join}
use Rattle.object_schema.specs.Schema.{words}
use Rattle.audit_accounts.proofs.Schedules.{heard_so}
use Rattle.audit_accounts.proofs.turns_can_be_heard.Goals as goal

pub returns : goal.returns
returns c = λ input events turns others of. (heard_so input events turns others of c.schedules_ascend.ensures c.empty_world_is_sound.ensures (c.sound_worlds_stay_sound.ensures.stepped any_join words)).0
