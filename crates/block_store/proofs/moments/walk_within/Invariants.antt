use Rattle.std.proofs.Common.{◌≡◌, ◌++◌}
use Rattle.std.specs.List.{filter}
use Rattle.block_store.specs.Moments.{is_within}
use Rattle.block_store.proofs.Showing.{idle_of}
use Rattle.block_store.proofs.moments.walk_within.Given as goal

abbrev pub invariant-loop-hash : goal.invariant-loop-hash
invariant-loop-hash l =
    l.idle.items ++ filter (λ n. is_within l.fn.limit n.1) (idle_of l.hash-iterator) ≡ filter (λ n. is_within l.fn.limit n.1) (idle_of l.initial.hash-iterator)
