use Rattle.std.proofs.Common.{inl, inr}
use Rattle.std.proofs.lemmas.Result.{err_from_is_err_and}
use Rattle.world_core.proofs.WorldsDoing.{stocked_found, came_full, came_sent_full, came_does}
use Rattle.world_core.proofs.WorldsAsking.{plays_missing}
use Rattle.world_core.proofs.world.World.deliver.Goals as goal

pub returns-in-Err-clause-plays : goal.returns-in-Err-clause-plays
returns-in-Err-clause-plays g c w h =
    let s = g.S.Schema.words in
    plays_missing g.S.Row.Crdt.join s c.args.self.now w c.args.message c.in-Err.reason h (c.in-Err.ensures.missing s w.messages w.marks h.post) _ c.refused.result c.refused.ensures

pub receive-requires : goal.receive-requires
receive-requires g c =
    let join = g.S.Row.Crdt.join in
    let s = g.S.Schema.words in
    let w = c.requires.stands.0 in
    let h = c.requires.stands.1 in
    record { stocked = stocked_found join s c.args.self.now w c.args.message c.in-Ok.envelope.now h (c.in-Ok.ensures.found s w.messages w.marks h.post) }

pub returns-in_err-given-clause-causes : goal.returns-in_err-given-clause-causes
returns-in_err-given-clause-causes g c =
    let s = g.S.Schema.words in
    let p = err_from_is_err_and c.from_residual.result c.from_residual.ensures.1 in
    rw (p.1, p.2) (elim c.in_err-given.ensures.causes [
      | inl want ↦ inl want
      | inr full ↦ inr (
        full.0,
        λ w h.
            came_full g.S.Row.Crdt.join s c.args.self.now w c.args.message c.in-Ok.envelope.now h (c.in-Ok.ensures.found s w.messages w.marks h.post) c.now-now.result (c.now-now.ensures w.time w.skew_of h.clocks) full.1,
      )
    ])

pub returns-in_err-tell-clause-causes : goal.returns-in_err-tell-clause-causes
returns-in_err-tell-clause-causes g c =
    let s = g.S.Schema.words in
    let p = err_from_is_err_and c.from_residual-in_err-tell.result c.from_residual-in_err-tell.ensures.1 in
    rw (p.1, p.2) (elim c.in_err-tell.ensures.causes [
      | inl want ↦ inl want
      | inr full ↦ inr (
        full.0,
        λ w h.
            let found = c.in-Ok.ensures.found s w.messages w.marks h.post in
            came_sent_full g.S.Row.Crdt.join s c.args.self.now w c.args.message c.in-Ok.envelope.now h found c.now-now.result (c.now-now.ensures w.time w.skew_of h.clocks)
            c.receive.new.self c.deliver.new.self c.new-out.result.items c.receive.new.out.items c.in_ok-given.given.answer.ended c.new-out.ensures.items c.in_ok-given.ensures.receives
            (c.deliver.ensures s w.messages w.marks found.mark h.post found.is_marked found.not_lost) full.1,
      )
    ])

pub returns-clause-plays : goal.returns-clause-plays
returns-clause-plays g c w h =
    let s = g.S.Schema.words in
    let found = c.in-Ok.ensures.found s w.messages w.marks h.post in
    came_does g.S.Row.Crdt.join s c.args.self.now w c.args.message c.in-Ok.envelope.now h found c.now-now.result (c.now-now.ensures w.time w.skew_of h.clocks)
    c.receive.new.self c.deliver.new.self c.new-out.result.items c.receive.new.out.items c.in_ok-given.given.answer.ended c.new-out.ensures.items c.in_ok-given.ensures.receives
    (c.deliver.ensures s w.messages w.marks found.mark h.post found.is_marked found.not_lost)
    g.met.S.Schema.laws c.tell.new.self c.in_ok-given.given.before c.in_ok-given.given.after c.new-lines.result c.push.new.self c.push_dropped.new.lines c.tell.new.lines c.in_ok-given.given.answer.dropped c.in_ok-report.field-0 c.told-report.result (c.in_ok-given.ensures.before w.nodes h.nodes) c.in_ok-given.ensures.after c.new-lines.ensures c.in_ok-push.ensures.ok c.in_ok-push_dropped.ensures.pushed (c.in_ok-given.ensures.dropped w.nodes h.nodes) c.in_ok-tell.ensures.tells c.in_ok-report.ensures.ends c.told-report.ensures
