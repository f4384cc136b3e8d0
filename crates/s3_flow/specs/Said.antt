-- What the code found in rows, in the words of the model.
use Rattle.flow_model.specs.Says.{Said as ModelSaid, none, marked, inline, in_blocks, Named as ModelNamed, unnamed, whole, deleted}
use Rattle.s3_flow.specs.declared.says.Said.{Said}
use Rattle.s3_flow.specs.declared.says.Said.TheVariants.{Nothing, Marked, Inline, InBlocks}
use Rattle.s3_flow.specs.declared.says.Named.{Named}
use Rattle.s3_flow.specs.declared.says.Named.TheVariants.{Unnamed, Whole, Deleted}

-- what was found of an object, in the words of the model
abbrev pub said : Said → ModelSaid
said Nothing = none
said (Marked version) = marked version
said (Inline version meta body) = inline version meta.now body.now
said (InBlocks version meta first) = in_blocks version meta.now first.now.0

-- what was found of a version's blocks, in the words of the model
abbrev pub named : Named → ModelNamed
named Unnamed = unnamed
named (Whole blocks) = whole blocks
named Deleted = deleted
