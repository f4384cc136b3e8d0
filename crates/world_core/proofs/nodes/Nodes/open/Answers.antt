use Rattle.view_model.specs.Layouts.{reading}
use Rattle.view_model.specs.View.{newest}
use Rattle.cluster_machine.specs.Phases.{opened}
use Rattle.world_core.proofs.NodesAt.{stands_at, written, became, same_nodes, with_map, not_want}
use Rattle.world_core.proofs.nodes.Nodes.open.Goals as goal

pub returns-in-Ok-clause-opens : goal.returns-in-Ok-clause-opens
returns-in-Ok-clause-opens g c xs are below =
    let join = g.S.Row.Crdt.join in
    let s = g.S.Schema.words in
    let w = c.open.new.self in
    let n = c.args.node in
    let there = c.in_ok-ready.ensures.same xs are in
    let stands = stands_at join s c.ready.new.self n c.in-Some.found.now xs c.in-Some.ensures.value there in (
      c.in-Ok.ensures.member n (xs n) stands,
      written join s c.ready.new.self (c.get_mut.follows.lender w) n c.in-Some.found.now w xs (opened c.args.request (newest reading (xs n).view) (xs n)) c.in-Some.ensures.value (c.get_mut.follows.holds w) (c.in-Ok.ensures.opens n (xs n) below stands) there,
    )

pub returns-in-Err-NotMember-clause-opens : goal.returns-in-Err-NotMember-clause-opens
returns-in-Err-NotMember-clause-opens g c xs are below =
    let join = g.S.Row.Crdt.join in
    let s = g.S.Schema.words in
    let w = c.open.new.self in
    let n = c.args.node in
    let there = c.in_ok-ready.ensures.same xs are in
    let new = with_map c.ready.new.self (c.get_mut.follows.lender w) in (
      not_want c.in-Err-NotMember.field-0 c.in-Err-NotMember.field-0-is c.in-Err-NotMember.ensures.causes n (xs n) (stands_at join s c.ready.new.self n c.in-Some.found.now xs c.in-Some.ensures.value there),
      same_nodes join s new n xs (became join s c.ready.new.self (c.get_mut.follows.lender w) n c.in-Some.found.now w (λ id x. x) c.in-Some.ensures.value (c.get_mut.follows.holds w) c.in-Err-NotMember.ensures.unchanged xs there),
    )
