use Rattle.std.proofs.Common.{inl, inr}
use Rattle.std.proofs.lemmas.Result.{err_from_is_err_and}
use Rattle.world_core.proofs.WorldsDoing.{gossip_full, gossip_does}
use Rattle.world_core.proofs.world.World.gossip.Goals as goal

pub returns-in_err-tell-clause-causes : goal.returns-in_err-tell-clause-causes
returns-in_err-tell-clause-causes g c =
    let p = err_from_is_err_and c.from_residual-in_err-tell.result c.from_residual-in_err-tell.ensures.1 in
    rw (p.1, p.2) (elim c.in_err-tell.ensures.causes [
      | inl want ↦ inl want
      | inr full ↦ inr (
        full.0,
        λ w h.
            gossip_full g.S.Row.Crdt.join g.S.Schema.words c.args.self.now w c.args.from c.args.to c.in_ok-packet.packet c.new-out.result.items c.push.new.self.items h (c.in_ok-packet.ensures.shown w.nodes h.nodes)
            c.new-out.ensures.items c.in_ok-push.ensures.items full.1,
      )
    ])

pub returns-clause-plays : goal.returns-clause-plays
returns-clause-plays g c w h =
    gossip_does g.S.Row.Crdt.join g.S.Schema.words c.args.self.now w c.args.from c.args.to c.in_ok-packet.packet c.new-out.result.items c.push.new.self.items h (c.in_ok-packet.ensures.shown w.nodes h.nodes)
    c.new-out.ensures.items c.in_ok-push.ensures.items
    g.met.S.Schema.laws c.tell.new.self c.synced-synced.result c.new-lines.result c.tell.new.lines c.told.result c.synced-synced.ensures c.new-lines.ensures c.in_ok-tell.ensures.tells c.told.ensures
