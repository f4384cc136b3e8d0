use Rattle.blake2_hash.proofs.blake2b_256.Goals as goal

pub returns : goal.returns
returns c = c.finish.ensures _ (c.update.ensures _ c.new-hasher.ensures)
