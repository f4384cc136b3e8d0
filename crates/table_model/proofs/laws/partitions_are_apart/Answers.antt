use Rattle.table_model.proofs.RowLaws.{rows_of_partition, rows_without}
use Rattle.table_model.proofs.laws.partitions_are_apart.Goals as goal

pub returns : goal.returns
returns g c = record {
  kept = rows_of_partition g.met.S.Schema.laws;
  dropped = rows_without g.met.S.Schema.laws;
}
