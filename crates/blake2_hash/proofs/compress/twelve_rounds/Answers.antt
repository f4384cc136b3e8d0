use Rattle.std.proofs.Common.{refl}
use Rattle.blake2_hash.specs.Blake2b.{rounds}
use Rattle.blake2_hash.proofs.compress.twelve_rounds.Goals as goal

pub returns : goal.returns
unfolding rounds
returns c =
    rw (c.round-12.ensures, c.round-11.ensures, c.round-10.ensures, c.round-9.ensures, c.round-8.ensures, c.round-7.ensures, c.round-6.ensures, c.round-5.ensures, c.round-4.ensures, c.round-3.ensures, c.round-2.ensures, c.round.ensures) refl
