use Rattle.std.proofs.Common.{rules}
use Rattle.crdt_core.specs.MapLaws.{same_map}
use Rattle.crdt_core.proofs.map.MapCrdt.copy.Goals as goal

-- the copy has the same entries
pub returns-clause-same : goal.returns-clause-same
returns-clause-same g c = same_map _ _ (search rules)
