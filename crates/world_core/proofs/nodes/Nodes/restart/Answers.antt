use Rattle.cluster_machine.specs.Acts.{restarts}
use Rattle.world_core.proofs.NodesAt.{became, stands_at}
use Rattle.world_core.proofs.nodes.Nodes.restart.Goals as goal

pub returns-clause-restarts : goal.returns-clause-restarts
returns-clause-restarts g c xs are =
    let join = g.S.Row.Crdt.join in
    let s = g.S.Schema.words in
    let w = c.restart.new.self in
    became join s c.ready.new.self (c.get_mut.follows.lender w) c.args.node c.in-Some.found.now w (λ id x. restarts x) c.in-Some.ensures.value (c.get_mut.follows.holds w) c.in_ok-lost.ensures.restarts xs (c.in_ok-ready.ensures.same xs are)

pub returns-clause-lost : goal.returns-clause-lost
returns-clause-lost g c xs are =
    let n = c.args.node in
    c.in_ok-lost.ensures.lost n (xs n) (stands_at g.S.Row.Crdt.join g.S.Schema.words c.ready.new.self n c.in-Some.found.now xs c.in-Some.ensures.value (c.in_ok-ready.ensures.same xs are))
