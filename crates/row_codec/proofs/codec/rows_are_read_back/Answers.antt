use Rattle.row_codec.specs.Spelling.{spelled}
use Rattle.row_codec.specs.Rows.{read}
use Rattle.row_codec.specs.RowLaws.{read_spelled, reads_back}
use Rattle.row_codec.proofs.Whole.{none_reads}
use Rattle.row_codec.proofs.codec.rows_are_read_back.Goals as goal

pub returns-clause-back : goal.returns-clause-back
returns-clause-back c = reads_back

pub returns-clause-none : goal.returns-clause-none
returns-clause-none c = λ row bytes none fits short. none_reads read bytes (spelled row) row none (read_spelled row fits short)
