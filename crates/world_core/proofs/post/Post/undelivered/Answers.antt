use Rattle.std.proofs.Common.{arith}
use Rattle.world_core.proofs.Posts.{first_is, first_is_none}
use Rattle.world_core.proofs.post.Post.undelivered.Goals as goal

pub returns-then-self-len : goal.returns-then-self-len
returns-then-self-len g c s messages marks p = first_is s c.args.self.now messages marks _ _ c.checked_sub.ensures p (omega arith) (omega arith)

pub returns-else-self-len : goal.returns-else-self-len
returns-else-self-len g c s messages marks p = first_is_none s c.args.self.now messages marks p (omega arith)
