use Rattle.table_model.proofs.RowLaws.{row_found, rows_ascend, strictly_sorted, rows_proper}
use Rattle.table_model.proofs.Members.{row_is_join}
use Rattle.table_model.proofs.laws.rows_are_joins.Goals as goal

pub returns : goal.returns
returns g c = let laws = g.met.S.Schema.laws in record {
  join = row_is_join g.met.S.Row.Crdt.join_laws g.S.Schema.words;
  found = row_found laws;
  ascending = λ contents all. strictly_sorted g.S.Schema.words _ (rows_ascend laws contents all);
  proper = rows_proper laws;
}
