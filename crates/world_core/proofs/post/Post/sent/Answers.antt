use Rattle.std.proofs.Common.{sym}
use Rattle.world_core.proofs.post.Post.sent.Goals as goal

pub returns : goal.returns
returns g c s messages marks p = sym p.sent
