use Rattle.std.proofs.Common.{◌∙◌}
use Rattle.table_gc.proofs.keys.remove.Goals as goal

pub returns : goal.returns
returns c other = c.drop_empty.ensures other ∙ c.take_at.ensures other
