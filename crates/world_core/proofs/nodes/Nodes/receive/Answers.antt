use Rattle.std.proofs.Common.{inl, inr, ◌∙◌}
use Rattle.std.proofs.lemmas.Result.{err_from_is_err_and}
use Rattle.cluster_machine.specs.Receives.{receives}
use Rattle.cluster_machine.specs.Layouts.{layouts}
use Rattle.node_parts.specs.Posts.{told}
use Rattle.world_core.proofs.NodesAt.{does, overflows, stands_at, sync_there, sync_written}
use Rattle.world_core.proofs.nodes.Nodes.receive.Goals as goal

pub returns-in_err-ended-clause-causes : goal.returns-in_err-ended-clause-causes
returns-in_err-ended-clause-causes g c =
    let e = c.args.envelope.now in
    let p = err_from_is_err_and c.from_residual-in_err-ended.result c.from_residual-in_err-ended.ensures.1 in
    rw (p.1, p.2) (elim c.in_err-ended.ensures.causes [
      | inl want ↦ inl want
      | inr full ↦ inr (
        full.0,
        λ xs are.
            overflows g.S.Row.Crdt.join g.S.Schema.words c.ready.new.self e.to c.in-Some.found.now (λ id x. receives g.S.Row.Crdt.join g.S.Schema.words layouts id c.args.now x e.from (told e.packet))
            c.in-Some.ensures.value full.1 xs (c.in_ok-ready.ensures.same xs are),
      )
    ])

pub returns-clause-receives : goal.returns-clause-receives
returns-clause-receives g c xs are =
    let join = g.S.Row.Crdt.join in
    let s = g.S.Schema.words in
    let w = c.dropped-dropped.new.self in
    let e = c.args.envelope.now in
    does join s c.ready.new.self (c.get_mut.follows.lender w) e.to c.in-Some.found.now w c.args.out.now.items c.on_packet.new.out.items c.in_ok-ended.ended (λ id x. receives join s layouts id c.args.now x e.from (told e.packet))
    c.in-Some.ensures.value (c.get_mut.follows.holds w)
    (λ id x is. let d = c.in_ok-ended.ensures.receives id x is in record { stands = c.dropped-dropped.ensures.unchanged id (receives join s layouts id c.args.now x e.from (told e.packet)).node d.stands; posts = d.posts; ends = d.ends; spelled = d.spelled })
    xs (c.in_ok-ready.ensures.same xs are)

pub returns-clause-dropped : goal.returns-clause-dropped
returns-clause-dropped g c xs are =
    let e = c.args.envelope.now in
    c.dropped-dropped.ensures.given
    ∙ c.in_ok-ended.ensures.dropped e.to (xs e.to) (stands_at g.S.Row.Crdt.join g.S.Schema.words c.ready.new.self e.to c.in-Some.found.now xs c.in-Some.ensures.value (c.in_ok-ready.ensures.same xs are))

pub returns-clause-before : goal.returns-clause-before
returns-clause-before g c xs are =
    sync_there g.S.Row.Crdt.join g.S.Schema.words c.ready.new.self c.args.envelope.now.to c.in-Some.found.now c.own_sync-before.result c.in-Some.ensures.value c.own_sync-before.ensures xs (c.in_ok-ready.ensures.same xs are)

pub returns-clause-after : goal.returns-clause-after
returns-clause-after g c =
    let w = c.dropped-dropped.new.self in
    sync_written g.S.Row.Crdt.join g.S.Schema.words c.ready.new.self (c.get_mut.follows.lender w) c.args.envelope.now.to c.in-Some.found.now w c.own_sync-after.result c.in-Some.ensures.value (c.get_mut.follows.holds w) c.own_sync-after.ensures
