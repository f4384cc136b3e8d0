use Rattle.std.proofs.Common.{nat_eq, sym, subst}
use Rattle.std.specs.List.{IsDistinct}
use Rattle.world_core.specs.Nodes.{AreNodes, given_to}
use Rattle.world_core.proofs.nodes.Nodes.install.Goals as goal

pub returns-clause-installed : goal.returns-clause-installed
returns-clause-installed g c xs are =
    let join = g.S.Row.Crdt.join in
    let s = g.S.Schema.words in
    let e = c.in_ok-prepared.ensures in
    subst (λ ns. AreNodes join s c.show_all.new.self (given_to ns c.args.first.now xs)) e.nodes
    (c.show_all.ensures c.args.first.now c.requires.version e.prepared (subst (IsDistinct nat_eq) (sym e.nodes) c.requires.each_once) xs (e.same xs are))
