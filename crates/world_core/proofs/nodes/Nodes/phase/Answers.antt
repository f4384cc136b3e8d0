use Rattle.std.proofs.Common.{inl, inr, None}
use Rattle.std.proofs.lemmas.Result.{err_from_is_err_and}
use Rattle.cluster_machine.specs.Phases.{call_at}
use Rattle.node_core.specs.Stands.{begins_at}
use Rattle.world_core.proofs.NodesAt.{does, overflows, sync_there, sync_written}
use Rattle.world_core.proofs.nodes.Nodes.phase.Goals as goal

pub returns-in_err-phase-clause-causes : goal.returns-in_err-phase-clause-causes
returns-in_err-phase-clause-causes g c =
    let p = err_from_is_err_and c.from_residual-in_err-phase.result c.from_residual-in_err-phase.ensures.1 in
    rw (p.1, p.2) (elim c.in_err-phase.ensures.causes [
      | inl want ↦ inl want
      | inr full ↦ inr (
        full.0,
        λ kept xs are.
            overflows g.S.Row.Crdt.join g.S.Schema.words c.ready.new.self c.args.node c.in-Some.found.now (λ id x. begins_at g.S.Schema.words kept x c.args.phase (call_at x.calls c.args.request))
            c.in-Some.ensures.value (full.1 kept) xs (c.in_ok-ready.ensures.same xs are),
      )
    ])

pub returns-clause-begins : goal.returns-clause-begins
returns-clause-begins g c kept xs are =
    let join = g.S.Row.Crdt.join in
    let s = g.S.Schema.words in
    let w = c.phase.new.self in
    does join s c.ready.new.self (c.get_mut.follows.lender w) c.args.node c.in-Some.found.now w c.args.out.now.items c.phase.new.out.items None (λ id x. begins_at s kept x c.args.phase (call_at x.calls c.args.request))
    c.in-Some.ensures.value (c.get_mut.follows.holds w) (c.in_ok-phase.ensures.begins kept) xs (c.in_ok-ready.ensures.same xs are)

pub returns-clause-before : goal.returns-clause-before
returns-clause-before g c xs are =
    sync_there g.S.Row.Crdt.join g.S.Schema.words c.ready.new.self c.args.node c.in-Some.found.now c.own_sync-before.result c.in-Some.ensures.value c.own_sync-before.ensures xs (c.in_ok-ready.ensures.same xs are)

pub returns-clause-after : goal.returns-clause-after
returns-clause-after g c =
    let w = c.phase.new.self in
    sync_written g.S.Row.Crdt.join g.S.Schema.words c.ready.new.self (c.get_mut.follows.lender w) c.args.node c.in-Some.found.now w c.own_sync-after.result c.in-Some.ensures.value (c.get_mut.follows.holds w) c.own_sync-after.ensures
