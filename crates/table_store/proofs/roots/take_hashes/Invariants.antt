use Rattle.std.proofs.Common.{◌==◌, ◌++◌, ℕ, List, map, filter, flat_map}
use Rattle.std.specs.List.{range_with_len}
use Rattle.blake2_hash.specs.Blake2b.{blake2b}
use Rattle.blake2_hash.specs.Hashing.{Holds}
use Rattle.table_model.specs.Root.{root}
use Rattle.table_store.specs.Pairs.{tagged}
use Rattle.table_store.proofs.roots.take_hashes.Given as goal

abbrev pub invariant-loop-p : goal.invariant-loop-p
invariant-loop-p l =
    (m : List ℕ) → Holds l.fn.hasher m → Holds l.hasher (m ++ flat_map (λ p. root (blake2b 32) (map (λ h. (tagged h).1) (filter (λ h. h.partition == p) l.hashes))) (range_with_len 0 l.p))
