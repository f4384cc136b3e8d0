use Rattle.std.proofs.Common.{subst, ◌≡◌, ◌+◌}
use Rattle.cluster_machine.specs.Acts.{appends}
use Rattle.cluster_machine.specs.Layouts.{layouts}
use Rattle.world_core.proofs.NodesAt.{became, newest_there}
use Rattle.world_core.proofs.nodes.Nodes.append.Goals as goal

pub append-requires-clause-next : goal.append-requires-clause-next
append-requires-clause-next g c =
    subst (λ v. c.args.layout.version ≡ v + 1) (newest_there c.args.self.now c.ready.new.self c.args.node c.in-Some.found.now c.in_ok-ready.ensures.newest c.in-Some.ensures.value) c.requires.next

pub returns-clause-appends : goal.returns-clause-appends
returns-clause-appends g c xs are =
    let join = g.S.Row.Crdt.join in
    let s = g.S.Schema.words in
    let w = c.append.new.self in
    became join s c.ready.new.self (c.get_mut.follows.lender w) c.args.node c.in-Some.found.now w (λ id x. appends layouts x c.args.layout) c.in-Some.ensures.value (c.get_mut.follows.holds w) c.in_ok-append.ensures.appends xs (c.in_ok-ready.ensures.same xs are)
