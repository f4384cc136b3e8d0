use Rattle.crdt_rows.specs.AnyRow.{any_join}
use Rattle.object_schema.specs.Schema.{words}
use Rattle.object_origins.proofs.Shown.{Facts}
use Rattle.audit_accounts.proofs.Schedules.{allowed_turns, in_range_so}
use Rattle.audit_accounts.proofs.texts_speak_in_range.Goals as goal

pub returns : goal.returns
returns c =
    let facts : Facts = record {
      joined = c.object_rows_join_as_facts.ensures.joined;
      newest_is = c.object_rows_join_as_facts.ensures.newest_is;
      key = c.object_rows_join_as_facts.ensures.key;
      version_deleted = c.version_rows_join_as_facts.ensures.deleted;
      version_blocks = c.version_rows_join_as_facts.ensures.blocks;
      version_id = c.version_rows_join_as_facts.ensures.key;
      ref_deleted = c.reference_rows_join_as_facts.ensures.deleted;
      reference = c.reference_rows_join_as_facts.ensures.key;
    } in
    λ input events turns others of orderly.
    in_range_so input events turns others of c.schedules_are_within_limits.ensures c.schedules_are_numbered.ensures c.empty_world_is_sound.ensures (c.sound_worlds_stay_sound.ensures.stepped any_join words) facts c.sheets_spell_what_is_said.ensures.range
    (c.turns_tell_keys.ensures turns others (allowed_turns input events turns others of c.schedules_are_within_limits.ensures) of.differ of.played) orderly
