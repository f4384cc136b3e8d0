use Rattle.std.proofs.Common.{refl}
use Rattle.blake2_hash.specs.Blake2b.{mix}
use Rattle.blake2_hash.proofs.compress.mix.Goals as goal

pub returns : goal.returns
unfolding mix
returns c =
    rw (c.rotate_right-second_b.ensures, c.rotate_right-second_d.ensures, c.rotate_right-first_b.ensures, c.rotate_right-first_d.ensures) refl
