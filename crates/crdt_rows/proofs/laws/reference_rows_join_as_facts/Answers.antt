use Rattle.crdt_rows.proofs.RowFacts.{flag_joined, ref_key_joined, greater_ref_stays}
use Rattle.crdt_rows.proofs.laws.reference_rows_join_as_facts.Goals as goal

pub returns : goal.returns
returns c = record {
  deleted = flag_joined;
  key = ref_key_joined;
  greater_key = greater_ref_stays;
}
