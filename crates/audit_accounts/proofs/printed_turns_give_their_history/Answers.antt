use Rattle.store_model.specs.Run.{start}
use Rattle.audit_model.specs.Printed.{all_prints}
use Rattle.audit_runs.proofs.Lawful.{first_turns_allowed}
use Rattle.audit_accounts.proofs.Printed.{printed_turns_orderly}
use Rattle.audit_accounts.proofs.Schedules.{allowed_so}
use Rattle.audit_accounts.proofs.printed_turns_give_their_history.Goals as goal

pub returns-clause-orderly : goal.returns-clause-orderly
returns-clause-orderly c = λ events saids turns scheduled lawful first.
    printed_turns_orderly c.lawful_prints_are_greatest.ensures.computed
    (λ roles wanted version l shown h best range. (c.computed_sheets_are_orderly.ensures roles wanted version l shown h best range).0)
    c.events_stage_what_they_say.ensures c.schedules_stage_in_range.ensures.next (all_prints events saids) lawful start turns first.given
    (first_turns_allowed events turns first.later scheduled first.whole) c.schedules_stage_in_range.ensures.first

pub returns-clause-readable : goal.returns-clause-readable
returns-clause-readable c = λ input events saids turns is short lawful printed.
    let scheduled = c.schedules_are_within_limits.ensures input events is in
    let found = c.printed_turns_are_played.ensures events saids turns (record { scheduled = scheduled; lawful = lawful; printed = printed }) in
    c.texts_give_their_history.ensures.readable input events turns found.0
    (record { schedule = is; short = short; events_are = printed.events_are; differ = found.1.0; played = found.1.1 })
    (printed_turns_orderly c.lawful_prints_are_greatest.ensures.computed
    (λ roles wanted version l shown h best range. (c.computed_sheets_are_orderly.ensures roles wanted version l shown h best range).0)
    c.events_stage_what_they_say.ensures c.schedules_stage_in_range.ensures.next (all_prints events saids) lawful start turns printed.given
    (allowed_so input events turns is printed.events_are c.schedules_are_within_limits.ensures) c.schedules_stage_in_range.ensures.first)

pub returns-clause-fresh : goal.returns-clause-fresh
returns-clause-fresh c = λ input events saids turns others is short lawful printed differ played clear in_time apart said history readable.
    c.texts_give_their_history.ensures.fresh input events turns others
    (record { schedule = is; short = short; events_are = printed.events_are; differ = differ; played = played })
    (printed_turns_orderly c.lawful_prints_are_greatest.ensures.computed
    (λ roles wanted version l shown h best range. (c.computed_sheets_are_orderly.ensures roles wanted version l shown h best range).0)
    c.events_stage_what_they_say.ensures c.schedules_stage_in_range.ensures.next (all_prints events saids) lawful start turns printed.given
    (allowed_so input events turns is printed.events_are c.schedules_are_within_limits.ensures) c.schedules_stage_in_range.ensures.first) clear in_time apart said history readable
