use Rattle.std.proofs.Common.{sym, subst}
use Rattle.crdt_rows.specs.AnyRow.{any_join}
use Rattle.object_schema.specs.Schema.{words}
use Rattle.history_model.specs.Fresh.{Fresh}
use Rattle.text_model.specs.Grammar.{lines_of}
use Rattle.text_model.specs.Transcript.{transcript}
use Rattle.audit_accounts.specs.Saying.{transcript_says}
use Rattle.audit_accounts.specs.Runs.{history_told}
use Rattle.audit_accounts.proofs.Spelled.{transcript_spelled}
use Rattle.audit_accounts.proofs.Schedules.{heard_so, allowed_others, read_so}
use Rattle.audit_accounts.proofs.Freshly.{told_fresh}
use Rattle.audit_accounts.proofs.texts_give_their_history.Goals as goal

pub returns-clause-spelled : goal.returns-clause-spelled
returns-clause-spelled c = λ input events turns others of orderly.
    transcript_spelled c.sheets_spell_what_is_said.ensures.text turns (heard_so input events turns others of c.schedules_ascend.ensures c.empty_world_is_sound.ensures (c.sound_worlds_stay_sound.ensures.stepped any_join words)).1 orderly

pub returns-clause-readable : goal.returns-clause-readable
returns-clause-readable c = λ input events turns others of orderly.
    let heard = heard_so input events turns others of c.schedules_ascend.ensures c.empty_world_is_sound.ensures (c.sound_worlds_stay_sound.ensures.stepped any_join words) in
    read_so c.sheets_spell_what_is_said.ensures.heard c.sheets_spell_what_is_said.ensures.text events turns heard.0 heard.1 orderly (c.texts_speak_in_range.ensures input events turns others of orderly)

pub returns-clause-fresh : goal.returns-clause-fresh
returns-clause-fresh c = λ input events turns others of orderly clear in_time apart saids history readable.
    let heard = heard_so input events turns others of c.schedules_ascend.ensures c.empty_world_is_sound.ensures (c.sound_worlds_stay_sound.ensures.stepped any_join words) in
    let own = read_so c.sheets_spell_what_is_said.ensures.heard c.sheets_spell_what_is_said.ensures.text events turns heard.0 heard.1 orderly (c.texts_speak_in_range.ensures input events turns others of orderly) in
    let one = c.texts_give_one_account.ensures.account events (lines_of (transcript turns)) saids (transcript_says turns) history (history_told turns) readable own in
    subst Fresh (sym one.1) (told_fresh c.promises_are_kept.ensures c.timely_turns_collect_safely.ensures.prompt c.lines_give_the_records.ensures.fresh input events turns others of
    (allowed_others input events turns others of c.schedules_are_within_limits.ensures) clear in_time apart)
