use Rattle.object_origins.proofs.Whole.{keeps_block}
use Rattle.object_origins.proofs.version_rows_keep_their_blocks.Goals as goal

pub returns : goal.returns
returns c = λ r v same above there p x has. keeps_block c.version_rows_join_as_facts.ensures.blocks r v same above there p x has
