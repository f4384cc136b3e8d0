use Rattle.flow_laws.proofs.Merged.{are_named}
use Rattle.flow_laws.proofs.merged_rows_are_whole.Goals as goal

pub returns : goal.returns
returns c = are_named
