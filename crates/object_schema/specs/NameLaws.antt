-- Laws that impls cite; no definition stands here.
-- The order of blocks' hashes tells any two apart.
use Rattle.crdt_core.specs.Orders.{Identifies}
use Rattle.blake2_hash.specs.HashLaws.{hash_identical}
use Rattle.object_schema.specs.Names.{name_cmp}

pub name_identical : Identifies name_cmp
name_identical a b e = λ i. record { 0 = hash_identical a.0 b.0 e i }
