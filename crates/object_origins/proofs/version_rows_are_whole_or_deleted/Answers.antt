use Rattle.object_origins.proofs.Whole.{whole}
use Rattle.object_origins.proofs.version_rows_are_whole_or_deleted.Goals as goal

pub returns : goal.returns
returns c = λ stored v shows above one there p x. whole c.version_rows_join_as_facts.ensures.blocks stored v shows above one there p x
