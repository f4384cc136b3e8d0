use Rattle.std.proofs.Common.{refl}
use Rattle.numbered_list.proofs.Numbering.{numbered_more}
use Rattle.block_resync.specs.Outbox.{number_of}
use Rattle.block_resync.proofs.resync.Resync.push.Goals as goal

pub invariant_of-self-2 : goal.invariant_of-self-2
invariant_of-self-2 c =
    rw c.in_ok-push.ensures.ok (numbered_more number_of c.self.inside.pushed _ c.self.inside.items refl c.self.invariant)
