use Rattle.object_origins.proofs.Shown.{Facts}
use Rattle.stored_weights.proofs.Made.{made}
use Rattle.stored_weights.proofs.Spelled.{made_spelled_beside}
use Rattle.stored_weights.proofs.rows_with_few_entries_beside_them_have_a_spelling.Goals as goal

pub returns : goal.returns
returns c =
    let facts : Facts = record {
      joined = c.object_rows_join_as_facts.ensures.joined;
      newest_is = c.object_rows_join_as_facts.ensures.newest_is;
      key = c.object_rows_join_as_facts.ensures.key;
      version_deleted = c.version_rows_join_as_facts.ensures.deleted;
      version_blocks = c.version_rows_join_as_facts.ensures.blocks;
      version_id = c.version_rows_join_as_facts.ensures.key;
      ref_deleted = c.reference_rows_join_as_facts.ensures.deleted;
      reference = c.reference_rows_join_as_facts.ensures.key;
    } in
    λ stored row spelled few comes. made_spelled_beside stored spelled row (made facts stored row comes) few
