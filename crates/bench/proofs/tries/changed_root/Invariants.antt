use Rattle.std.specs.Prelude.{◌≡◌, []}
use Rattle.blake2_hash.specs.Blake2b.{blake2b}
use Rattle.merkle_trie.specs.Keeping.{Keeps, queued}
use Rattle.bench.specs.Numbered.{numbered}
use Rattle.bench.proofs.tries.changed_root.Given as goal

abbrev pub invariant-builds : goal.invariant-builds
invariant-builds l = Keeps (blake2b 32) l.trie (numbered 1 l.n [])

abbrev pub invariant-changes : goal.invariant-changes
invariant-changes l = Keeps (blake2b 32) l.trie (numbered 2 l.n (numbered 1 l.fn.pair_count [])) × queued l.trie ≡ 0
