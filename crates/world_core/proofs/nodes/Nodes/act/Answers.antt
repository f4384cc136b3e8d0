use Rattle.std.proofs.Common.{inl, inr, subst, ◌≤◌}
use Rattle.std.proofs.lemmas.Result.{err_from_is_err_and}
use Rattle.cluster_machine.specs.Acts as model
use Rattle.cluster_machine.specs.Layouts.{layouts}
use Rattle.world_core.proofs.NodesAt.{acts, overflows, newest_there, sync_there, sync_written}
use Rattle.world_core.proofs.nodes.Nodes.act.Goals as goal

pub local-requires : goal.local-requires
local-requires g c =
    record { has_version = subst (λ v. 1 ≤ v) (newest_there c.args.self.now c.ready.new.self c.args.node c.in-Some.found.now c.in_ok-ready.ensures.newest c.in-Some.ensures.value) c.requires.has_version }

pub returns-in_err-how-clause-causes : goal.returns-in_err-how-clause-causes
returns-in_err-how-clause-causes g c =
    let p = err_from_is_err_and c.from_residual-in_err-how.result c.from_residual-in_err-how.ensures.1 in
    rw (p.1, p.2) (elim c.in_err-how.ensures.causes [
      | inl want ↦ inl want
      | inr full ↦ inr (
        full.0,
        λ xs are.
            overflows g.S.Row.Crdt.join g.S.Schema.words c.ready.new.self c.args.node c.in-Some.found.now (λ id x. (model.acts g.S.Row.Crdt.join g.S.Schema.words layouts id c.args.now x c.args.action).did)
            c.in-Some.ensures.value full.1 xs (c.in_ok-ready.ensures.same xs are),
      )
    ])

pub returns-clause-acts : goal.returns-clause-acts
returns-clause-acts g c xs are =
    let join = g.S.Row.Crdt.join in
    let s = g.S.Schema.words in
    let w = c.local.new.self in
    acts join s c.ready.new.self (c.get_mut.follows.lender w) c.args.node c.in-Some.found.now w c.args.out.now.items c.local.new.out.items c.in_ok-how.how (λ id x. model.acts join s layouts id c.args.now x c.args.action)
    c.in-Some.ensures.value (c.get_mut.follows.holds w) c.in_ok-how.ensures.acts xs (c.in_ok-ready.ensures.same xs are)

pub returns-clause-before : goal.returns-clause-before
returns-clause-before g c xs are =
    sync_there g.S.Row.Crdt.join g.S.Schema.words c.ready.new.self c.args.node c.in-Some.found.now c.own_sync-before.result c.in-Some.ensures.value c.own_sync-before.ensures xs (c.in_ok-ready.ensures.same xs are)

pub returns-clause-after : goal.returns-clause-after
returns-clause-after g c =
    let w = c.local.new.self in
    sync_written g.S.Row.Crdt.join g.S.Schema.words c.ready.new.self (c.get_mut.follows.lender w) c.args.node c.in-Some.found.now w c.own_sync-after.result c.in-Some.ensures.value (c.get_mut.follows.holds w) c.own_sync-after.ensures
