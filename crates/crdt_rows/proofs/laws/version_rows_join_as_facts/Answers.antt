use Rattle.crdt_rows.proofs.RowFacts.{deleted_joined, blocks_joined, id_joined, greater_version_stays}
use Rattle.crdt_rows.proofs.laws.version_rows_join_as_facts.Goals as goal

pub returns : goal.returns
returns c = record {
  deleted = deleted_joined;
  blocks = blocks_joined;
  key = id_joined;
  greater_key = greater_version_stays;
}
