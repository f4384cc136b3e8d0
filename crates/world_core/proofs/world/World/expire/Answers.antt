use Rattle.world_core.proofs.WorldsAsking.{expires_none, expires_ended, expires_open}
use Rattle.world_core.proofs.world.World.expire.Goals as goal

pub returns-in_default-clause-plays : goal.returns-in_default-clause-plays
returns-in_default-clause-plays g c w h = expires_none g.S.Row.Crdt.join g.S.Schema.words c.args.self.now w c.args.request h c.in_default.ensures c.refused.result c.refused.ensures

pub returns-then-not-found-clause-plays : goal.returns-then-not-found-clause-plays
returns-then-not-found-clause-plays g c w h =
    expires_ended g.S.Row.Crdt.join g.S.Schema.words c.args.self.now w c.args.request h c.in-Some.found c.in-Some.ensures c.if-not-found.true c.refused-then-not-found.result c.refused-then-not-found.ensures

pub returns-clause-plays : goal.returns-clause-plays
returns-clause-plays g c w h =
    expires_open g.S.Row.Crdt.join g.S.Schema.words c.args.self.now w c.args.request h c.in-Some.found c.in-Some.ensures g.met.S.Schema.laws c.close.new.self c.close-2.new.self c.if-not-found.false c.close.ensures c.close-2.ensures
    c.new-lines.result c.push.new.self c.told.result c.new-lines.ensures c.in_ok-push.ensures.ok c.told.ensures
