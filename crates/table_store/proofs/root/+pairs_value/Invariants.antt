use Rattle.std.proofs.Common.{◌≡◌, ◌-◌}
use Rattle.blake2_hash.specs.Blake2b.{blake2b}
use Rattle.table_store.specs.Pairs.{shown}
use Rattle.table_store.proofs.PartitionRoots.{branches}
use Rattle.table_store.proofs.root.+pairs_value.Given as goal

abbrev pub decreases-pairs_value : goal.decreases-pairs_value
decreases-pairs_value l = l.left

abbrev pub invariant-loop-byte : goal.invariant-loop-byte
invariant-loop-byte l = l.branches.items ≡ branches (blake2b 32) (l.left - 1) (32 - l.left) (33 - l.left) (shown l.pairs) l.byte
