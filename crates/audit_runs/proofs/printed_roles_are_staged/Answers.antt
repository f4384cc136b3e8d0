use Rattle.audit_runs.specs.Whole.{TellUnbroken}
use Rattle.store_model.specs.Run.{start}
use Rattle.audit_runs.proofs.First.{staged_next, printed_next}
use Rattle.audit_runs.proofs.printed_roles_are_staged.Goals as goal

pub returns-clause-placed : goal.returns-clause-placed
returns-clause-placed c = λ input text events saids turns told.
    let unbroken : TellUnbroken start turns = c.first_turns_tell_unbroken.ensures events saids turns (c.schedules_are_within_limits.ensures input events told.schedule) told.lawful told.first in
    staged_next c.events_stage_what_they_say.ensures c.other_lines_are_whole.ensures events (c.schedules_ascend.ensures input events told.schedule) (c.schedules_are_numbered.ensures input events told.schedule told.short) input text saids turns unbroken told

pub returns-clause-agreed : goal.returns-clause-agreed
returns-clause-agreed c = λ input text events saids turns told.
    let unbroken : TellUnbroken start turns = c.first_turns_tell_unbroken.ensures events saids turns (c.schedules_are_within_limits.ensures input events told.schedule) told.lawful told.first in
    printed_next c.events_stage_what_they_say.ensures c.other_lines_are_whole.ensures events (c.schedules_ascend.ensures input events told.schedule) (c.schedules_are_numbered.ensures input events told.schedule told.short) input text saids turns unbroken told
