use Rattle.world_core.proofs.WorldsAsking.{closes_none, closes_ended, closes_open}
use Rattle.world_core.proofs.world.World.close.Goals as goal

pub returns-in_default-clause-plays : goal.returns-in_default-clause-plays
returns-in_default-clause-plays g c w h = closes_none g.S.Row.Crdt.join g.S.Schema.words c.args.self.now w c.args.request h c.in_default.ensures c.silent.result c.silent.ensures

pub returns-then-not-found-clause-plays : goal.returns-then-not-found-clause-plays
returns-then-not-found-clause-plays g c w h =
    closes_ended g.S.Row.Crdt.join g.S.Schema.words c.args.self.now w c.args.request h c.in-Some.found c.in-Some.ensures c.if-not-found.true c.silent-then-not-found.result c.silent-then-not-found.ensures

pub returns-clause-plays : goal.returns-clause-plays
returns-clause-plays g c w h =
    closes_open g.S.Row.Crdt.join g.S.Schema.words c.args.self.now w c.args.request h c.in-Some.found c.in-Some.ensures g.met.S.Schema.laws c.close.new.self c.close-2.new.self c.if-not-found.false c.close.ensures c.close-2.ensures c.silent-2.result c.silent-2.ensures
