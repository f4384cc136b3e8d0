use Rattle.world_core.proofs.WorldsAsking.{plays_missing, loses}
use Rattle.world_core.proofs.world.World.lose.Goals as goal

pub returns-in-Ok-clause-plays : goal.returns-in-Ok-clause-plays
returns-in-Ok-clause-plays g c w h =
    let s = g.S.Schema.words in
    let found = c.in-Ok.ensures.found s w.messages w.marks h.post in
    loses g.S.Row.Crdt.join s g.met.S.Schema.laws c.args.self.now w c.args.message c.in-Ok.field-0.now c.lose.new.self h found (c.lose.ensures s w.messages w.marks found.mark h.post found.is_marked) c.silent.result c.silent.ensures

pub returns-in-Err-clause-plays : goal.returns-in-Err-clause-plays
returns-in-Err-clause-plays g c w h =
    let s = g.S.Schema.words in
    plays_missing g.S.Row.Crdt.join s c.args.self.now w c.args.message c.in-Err.reason h (c.in-Err.ensures.missing s w.messages w.marks h.post) _ c.refused.result c.refused.ensures
