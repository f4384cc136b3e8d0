use Rattle.std.proofs.Common.{length, refl, arith}
use Rattle.std.proofs.lemmas.Option.{slice_get_read}
use Rattle.world_core.proofs.Asked.{numbered_low, numbered_past}
use Rattle.world_core.proofs.Posts.{found, lost_there, lost_over}
use Rattle.world_core.proofs.post.Post.get.Goals as goal
use Rattle.world_core.proofs.post.Post.get.Goals.{then-number-lt1-via-then-number-lt1, then-number-lt1-via-else-number-lt1+then-number-self}

pub returns-then-number-lt1-clause-missing : goal.returns-then-number-lt1-clause-missing
returns-then-number-lt1-clause-missing g c s messages marks p =
    elim c.then-number-lt1.branch [
      | then-number-lt1-via-then-number-lt1 w ↦ numbered_low messages c.args.number (omega arith)
      | then-number-lt1-via-else-number-lt1+then-number-self w ↦ numbered_past messages c.args.number (let sent = p.sent in omega arith)
    ]

pub returns-in_default-clause-missing : goal.returns-in_default-clause-missing
returns-in_default-clause-missing g c s messages marks p = lost_over s c.args.self.now messages marks c.args.number p (omega arith) (omega arith) c.in_default.ensures.none

pub returns-in-Some-envelope-clause-found : goal.returns-in-Some-envelope-clause-found
returns-in-Some-envelope-clause-found g c s messages marks p =
    let slots = c.args.self.now.slots.items in
    let place = c.in-Some.place in
    found s c.args.self.now messages marks c.args.number place c.index.result.now c.in-Some-envelope.envelope p c.in-Some.ensures.found
    (slice_get_read slots (length slots) place c.index.result.now refl c.in-Some.ensures.found.within c.index.ensures) c.in-Some-envelope.is

pub returns-in-None-clause-missing : goal.returns-in-None-clause-missing
returns-in-None-clause-missing g c s messages marks p =
    let slots = c.args.self.now.slots.items in
    let place = c.in-Some.place in
    lost_there s c.args.self.now messages marks c.args.number place c.index.result.now p c.in-Some.ensures.found
    (slice_get_read slots (length slots) place c.index.result.now refl c.in-Some.ensures.found.within c.index.ensures) c.in-None.is
