use Rattle.row_codec.specs.Spelling.{eight}
use Rattle.s3_flow.proofs.phases.id_bytes.Goals as goal

pub returns : goal.returns
unfolding eight
returns c = c.to_be_bytes.ensures
