use Rattle.k2v_rows.specs.Spelling.{spelled}
use Rattle.k2v_rows.specs.Reading.{read}
use Rattle.k2v_rows.specs.ReadingLaws.{read_spelled, reads_back}
use Rattle.row_codec.proofs.Whole.{none_reads}
use Rattle.k2v_schema.proofs.codec.rows_are_read_back.Goals as goal

pub returns-clause-back : goal.returns-clause-back
returns-clause-back c = reads_back

pub returns-clause-none : goal.returns-clause-none
returns-clause-none c = λ row bytes none fits short. none_reads read bytes (spelled row) row none (read_spelled row fits short)
