use Rattle.std.proofs.Common.{◌≡◌, ◌*◌, ℕ, [], length, arith, refl, length-drop}
use Rattle.std.proofs.lemmas.List.{take_rest}
use Rattle.blake2_hash.specs.Blake2b.{last_block}
use Rattle.blake2_hash.proofs.Taking.{pending_none}
use Rattle.blake2_hash.proofs.hasher.Blake2b.absorb_long.Goals as goal

pub keep-requires : goal.keep-requires
keep-requires c =
    let bytes = c.args.bytes.now in
    let q : ℕ = last_block (length bytes) in
    let none : c.compress_blocks.new.self.pending ≡ [] =
    rw (← c.compress_blocks.ensures) at (pending_none c.args.self.now bytes q c.requires.empty) in
    rw (none, take_rest bytes (128 * q)) (omega (arith, length-drop (128 * q) bytes))

pub returns : goal.returns
returns c =
    rw (c.keep.ensures, take_rest c.args.bytes.now (128 * last_block (length c.args.bytes.now)), c.compress_blocks.ensures) refl
