use Rattle.std.proofs.Common.{◌∙◌}
use Rattle.serve_cluster.proofs.Coming.{as_many}
use Rattle.serve_cluster.proofs.changing.Changing.left.Goals as goal

pub returns : goal.returns
returns c = λ m h. c.len.ensures ∙ as_many m.cluster.members c.args.self.now.to_come m.to_come h.to_come
