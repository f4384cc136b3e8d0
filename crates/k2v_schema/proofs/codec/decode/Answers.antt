use Rattle.k2v_rows.specs.ReadingLaws.{read_takes}
use Rattle.k2v_schema.proofs.codec.decode.Goals as goal

pub returns-in-Ok-clause-spelled : goal.returns-in-Ok-clause-spelled
returns-in-Ok-clause-spelled c = (read_takes c.args.bytes.now c.in-Ok.row c.in-Ok.ensures).0

pub returns-in-Ok-clause-short : goal.returns-in-Ok-clause-short
returns-in-Ok-clause-short c = (read_takes c.args.bytes.now c.in-Ok.row c.in-Ok.ensures).2

pub returns-in-Ok-clause-in_range : goal.returns-in-Ok-clause-in_range
returns-in-Ok-clause-in_range c = (read_takes c.args.bytes.now c.in-Ok.row c.in-Ok.ensures).1
