use Rattle.std.proofs.Common.{None, subst}
use Rattle.std.specs.Prelude.{option_copied}
use Rattle.cluster_machine.specs.Layouts.{layouts}
use Rattle.cluster_machine.specs.Rounds.{answer_came}
use Rattle.node_parts.proofs.Faults.{ok_to}
use Rattle.node_core.specs.Stands.{Done}
use Rattle.node_core.proofs.node.Node.take_answer.Goals as goal

pub returns-clause-walks : goal.returns-clause-walks
returns-clause-walks g c = ok_to c.answer_came.result c.answer_came.ensures.comes (λ comes id x is.
    rw c.in-Round.is
    (subst (λ q. Done g.S.Row.Crdt.join g.S.Schema.words c.answer_came.new.self id c.args.out.now.items c.answer_came.new.out.items None (answer_came g.S.Row.Crdt.join g.S.Schema.words layouts id x c.args.from c.in-Round.round c.in-Round.p c.args.table q (option_copied c.args.children) x.round))
    c.as_slice.ensures (comes id x is)))
