use Rattle.world_core.proofs.WorldsAsking.{opens_refused, opens_it}
use Rattle.world_core.proofs.world.World.open.Goals as goal

pub returns-then-not-is_member-clause-plays : goal.returns-then-not-is_member-clause-plays
returns-then-not-is_member-clause-plays g c w h =
    opens_refused g.S.Row.Crdt.join g.S.Schema.words c.args.self.now w c.args.node c.is_member.result h (c.is_member.ensures w.nodes h.nodes) c.if-not-is_member.true c.refused.result c.refused.ensures

pub returns-clause-plays : goal.returns-clause-plays
returns-clause-plays g c w h =
    opens_it g.S.Row.Crdt.join g.S.Schema.words c.args.self.now w c.args.node c.is_member.result h (c.is_member.ensures w.nodes h.nodes) g.met.S.Schema.laws c.open.new.self c.begin.new.self c.in_ok-request.request c.in_ok-open.field-0 c.new.result c.told.result c.if-not-is_member.false
    c.in_ok-open.ensures.opens c.in_ok-request.ensures.number c.in_ok-request.ensures.small c.in_ok-request.ensures.begun c.new.ensures c.told.ensures
