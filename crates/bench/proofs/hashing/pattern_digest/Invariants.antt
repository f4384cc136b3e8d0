use Rattle.std.proofs.Common.{◌*◌}
use Rattle.blake2_hash.specs.Hashing.{Holds}
use Rattle.bench.specs.Pattern.{pattern}
use Rattle.bench.proofs.hashing.pattern_digest.Given as goal

abbrev pub invariant-loop : goal.invariant-loop
invariant-loop l = Holds l.hasher (pattern (32128 * l.counter))
