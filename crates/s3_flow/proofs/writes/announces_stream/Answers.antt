use Rattle.std.proofs.Common.{refl}
use Rattle.s3_flow.proofs.writes.announces_stream.Goals as goal

pub returns-clause-is : goal.returns-clause-is
returns-clause-is c = rw (c.more.ensures, c.in_ok-phase.ensures.is, c.in_ok-uploading.ensures.is, c.in_ok-announced.ensures.same, c.new.ensures) refl
