use Rattle.block_resync.specs.Outbox.{number_of}
use Rattle.numbered_list.proofs.Numbering.{renumbered}
use Rattle.block_resync.proofs.Numbering.{forgot_numbers}
use Rattle.block_resync.proofs.resync.Resync.forget_confirms.Goals as goal

pub invariant_of-self : goal.invariant_of-self
invariant_of-self c =
    rw c.forget_all.ensures (renumbered number_of c.self.inside.pushed c.self.inside.items _ (forgot_numbers c.self.inside.items) c.self.invariant)
