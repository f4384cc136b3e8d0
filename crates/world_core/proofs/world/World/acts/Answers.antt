use Rattle.std.proofs.Common.{inl, inr}
use Rattle.std.proofs.lemmas.Result.{err_from_is_err_and}
use Rattle.world_core.proofs.WorldsDoing.{action_full, action_sent_full, action_does}
use Rattle.world_core.proofs.world.World.acts.Goals as goal

pub returns-in_err-given-clause-causes : goal.returns-in_err-given-clause-causes
returns-in_err-given-clause-causes g c =
    let p = err_from_is_err_and c.from_residual.result c.from_residual.ensures.1 in
    rw (p.1, p.2) (elim c.in_err-given.ensures.causes [
      | inl want ↦ inl want
      | inr full ↦ inr (
        full.0,
        λ w h.
            action_full g.S.Row.Crdt.join g.S.Schema.words c.args.self.now w c.args.node c.now-now.result c.args.action h (c.now-now.ensures w.time w.skew_of h.clocks) full.1,
      )
    ])

pub returns-in_err-tell-clause-causes : goal.returns-in_err-tell-clause-causes
returns-in_err-tell-clause-causes g c =
    let p = err_from_is_err_and c.from_residual-in_err-tell.result c.from_residual-in_err-tell.ensures.1 in
    rw (p.1, p.2) (elim c.in_err-tell.ensures.causes [
      | inl want ↦ inl want
      | inr full ↦ inr (
        full.0,
        λ w h.
            action_sent_full g.S.Row.Crdt.join g.S.Schema.words c.args.self.now w c.args.node c.now-now.result c.args.action h (c.now-now.ensures w.time w.skew_of h.clocks)
            c.act.new.self c.new-out.result.items c.act.new.out.items c.in_ok-given.given.answer c.new-out.ensures.items c.in_ok-given.ensures.acts full.1,
      )
    ])

pub returns-clause-plays : goal.returns-clause-plays
returns-clause-plays g c w h =
    action_does g.S.Row.Crdt.join g.S.Schema.words c.args.self.now w c.args.node c.now-now.result c.args.action h (c.now-now.ensures w.time w.skew_of h.clocks)
    c.act.new.self c.new-out.result.items c.act.new.out.items c.in_ok-given.given.answer c.new-out.ensures.items c.in_ok-given.ensures.acts
    g.met.S.Schema.laws c.tell.new.self c.in_ok-given.given.before c.in_ok-given.given.after c.new-lines.result c.tell.new.lines c.words_of.result c.told.result (c.in_ok-given.ensures.before w.nodes h.nodes) c.in_ok-given.ensures.after c.new-lines.ensures c.in_ok-tell.ensures.tells c.words_of.ensures c.told.ensures
