-- The order of blocks' hashes as values in a set.
use Rattle.std.specs.declared.cmp.Ordering.{Ordering}
use Rattle.blake2_hash.specs.Hash.{hash_cmp}
use Rattle.object_schema.specs.declared.hashes.BlockName.{BlockName}

-- by the hash
abbrev pub name_cmp : BlockName → BlockName → Ordering
name_cmp a b = hash_cmp a.0 b.0
