use Rattle.std.proofs.Common.{take}
use Rattle.cluster_machine.specs.Phases.{to_each}
use Rattle.node_parts.specs.Posts.{Posts}
use Rattle.node_parts.proofs.posts.share_with.Given as goal

-- the message went to the nodes so far
abbrev pub invariant-loop-to : goal.invariant-loop-to
invariant-loop-to g l = Posts l.from l.fn.out.items l.out.items (to_each (take l.to-index l.nodes) l.message)
