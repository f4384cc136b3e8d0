use Rattle.world_core.proofs.WorldsAsking.{restarts_it}
use Rattle.world_core.proofs.world.World.restart.Goals as goal

pub returns-clause-plays : goal.returns-clause-plays
returns-clause-plays g c w h =
    restarts_it g.S.Row.Crdt.join g.S.Schema.words g.met.S.Schema.laws c.args.self.now w c.args.node c.restart.new.self c.close_all.new.self c.in_ok-lost.lost.items c.deref.result.now c.deref-2.result.now c.from_vec.result c.in_ok-lines.lines c.told-report.result h
    c.in_ok-lost.ensures.restarts (c.in_ok-lost.ensures.lost w.nodes h.nodes) c.deref.ensures.value c.deref-2.ensures.value c.from_vec.ensures c.close_all.ensures c.in_ok-lines.ensures.lines c.told-report.ensures
