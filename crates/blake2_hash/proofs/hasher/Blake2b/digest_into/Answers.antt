use Rattle.std.proofs.Common.{length, refl}
use Rattle.blake2_hash.specs.Blake2b.{blake2b}
use Rattle.blake2_hash.proofs.Taking.{state_last}
use Rattle.blake2_hash.proofs.hasher.Blake2b.digest_into.Goals as goal

pub returns : goal.returns
unfolding blake2b
returns c = λ m held.
    let last = state_last (length c.args.out.now) c.args.self m held in
    rw (c.copy_from_slice.ensures.after, c.state_bytes-bytes.ensures, c.last_state.ensures, last) refl
