use Rattle.crdt_core.specs.Map.{map_get}
use Rattle.k2v_rows.proofs.Facts.{joined_discard_at, joined_value_of, value_past, joined_key, greater_stays}
use Rattle.k2v_rows.proofs.laws.rows_join_as_facts.Goals as goal

pub returns : goal.returns
returns c = record {
  discards = joined_discard_at;
  values = joined_value_of;
  kept = λ a node time le. value_past (map_get a.entries node) time le;
  key = joined_key;
  greater_key = greater_stays;
}
