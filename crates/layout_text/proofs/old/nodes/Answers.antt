use Rattle.std.proofs.Common.{arith}
use Rattle.layout_text.proofs.OldRuns.{only_three}
use Rattle.layout_text.proofs.old.nodes.Goals as goal

pub returns-in_default-clause-nodes : goal.returns-in_default-clause-nodes
returns-in_default-clause-nodes c = only_three c.args.values.now (λ three. absurd (omega (arith, three, c.in_default.len_below)))

pub returns-in_default-2-clause-nodes : goal.returns-in_default-2-clause-nodes
returns-in_default-2-clause-nodes c = only_three c.args.values.now (λ three. absurd (omega (arith, three, c.in_default.len_at_least)))
