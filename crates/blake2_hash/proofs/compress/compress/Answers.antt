use Rattle.std.proofs.Common.{refl}
use Rattle.blake2_hash.specs.Blake2b.{compress}
use Rattle.blake2_hash.proofs.compress.compress.Goals as goal

pub returns : goal.returns
unfolding compress
returns c = rw (c.twelve_rounds.ensures, c.block_words-m.ensures, c.working_words-v.ensures) refl
