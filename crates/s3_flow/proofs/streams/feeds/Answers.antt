use Rattle.std.proofs.Common.{refl}
use Rattle.s3_flow.proofs.streams.feeds.Goals as goal

pub returns-clause-is : goal.returns-clause-is
returns-clause-is c = rw (c.in-Needing.is, c.at.ensures, c.in_ok-rows-in-Needing.ensures.are, c.len-offset.ensures, c.in_ok-push-in-Needing.ensures.ok, c.in_ok-share-in-Needing.ensures.same) refl
