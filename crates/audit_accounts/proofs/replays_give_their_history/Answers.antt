use Rattle.std.specs.Prelude.{◌≡◌, ◌<◌, ◌^◌, ℕ, List, length}
use Rattle.store_model.specs.declared.event.Numbered.{Numbered}
use Rattle.store_model.specs.Run.{start}
use Rattle.store_model.specs.Events.{Turn, events_of}
use Rattle.text_model.specs.Reading.{IsSchedule}
use Rattle.text_model.specs.Played.{ArePlayed}
use Rattle.audit_accounts.specs.Runs.{AreOfSchedule}
use Rattle.audit_accounts.proofs.Orderly.{turns_orderly, same_cuts}
use Rattle.audit_accounts.proofs.Schedules.{allowed_so}
use Rattle.audit_accounts.proofs.replays_give_their_history.Goals as goal

-- a replay beside itself
of_itself : (input : List ℕ) (events : List Numbered) (turns : List Turn) → IsSchedule input events → length input < 2 ^ 64 → events_of turns ≡ events → ArePlayed turns → AreOfSchedule input events turns turns
of_itself input events turns is short same played = record { schedule = is; short = short; events_are = same; differ = same_cuts turns; played = played }

pub returns-clause-orderly : goal.returns-clause-orderly
returns-clause-orderly c = λ input events turns is same played.
    turns_orderly (λ roles wanted version l shown h best range. (c.computed_sheets_are_orderly.ensures roles wanted version l shown h best range).0) c.events_stage_what_they_say.ensures c.schedules_stage_in_range.ensures.next start turns played.lawful
    (allowed_so input events turns is same c.schedules_are_within_limits.ensures) c.schedules_stage_in_range.ensures.first

pub returns-clause-readable : goal.returns-clause-readable
returns-clause-readable c = λ input events turns is short same played.
    c.texts_give_their_history.ensures.readable input events turns turns (of_itself input events turns is short same played)
    (turns_orderly (λ roles wanted version l shown h best range. (c.computed_sheets_are_orderly.ensures roles wanted version l shown h best range).0) c.events_stage_what_they_say.ensures c.schedules_stage_in_range.ensures.next start turns played.lawful
    (allowed_so input events turns is same c.schedules_are_within_limits.ensures) c.schedules_stage_in_range.ensures.first)

pub returns-clause-fresh : goal.returns-clause-fresh
returns-clause-fresh c = λ input events turns is short same played clear in_time apart saids history readable.
    c.texts_give_their_history.ensures.fresh input events turns turns (of_itself input events turns is short same played)
    (turns_orderly (λ roles wanted version l shown h best range. (c.computed_sheets_are_orderly.ensures roles wanted version l shown h best range).0) c.events_stage_what_they_say.ensures c.schedules_stage_in_range.ensures.next start turns played.lawful
    (allowed_so input events turns is same c.schedules_are_within_limits.ensures) c.schedules_stage_in_range.ensures.first) clear in_time apart saids history readable
