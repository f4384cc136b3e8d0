use Rattle.std.proofs.Common.{refl}
use Rattle.blake2_hash.specs.Blake2b.{state_after}
use Rattle.blake2_hash.proofs.hasher.Blake2b.start.Goals as goal

pub returns : goal.returns
unfolding state_after
returns c = record { state_is = refl; count_is = refl; pending_is = refl }
