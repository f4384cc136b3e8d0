use Rattle.world_core.proofs.WorldsAsking.{local_refused, local_acts}
use Rattle.world_core.proofs.world.World.local.Goals as goal

pub returns-then-newest-eq0-clause-plays : goal.returns-then-newest-eq0-clause-plays
returns-then-newest-eq0-clause-plays g c w h =
    local_refused g.S.Row.Crdt.join g.S.Schema.words c.args.self.now w c.args.node c.newest.result h (c.newest.ensures.is w.nodes h.nodes) c.args.action c.if-newest-eq0.true c.refused.result c.refused.ensures

pub returns-clause-plays : goal.returns-clause-plays
returns-clause-plays g c w h =
    local_acts g.S.Row.Crdt.join g.S.Schema.words c.args.self.now w c.args.node c.newest.result h (c.newest.ensures.is w.nodes h.nodes) c.acts.new.self c.args.action c.if-newest-eq0.false c.in_ok-report.report (c.in_ok-report.ensures.plays w h)
