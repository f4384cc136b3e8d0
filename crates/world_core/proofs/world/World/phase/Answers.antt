use Rattle.std.proofs.Common.{inl, inr}
use Rattle.std.proofs.lemmas.Result.{err_from_is_err_and}
use Rattle.world_core.proofs.WorldsDoing.{phase_full, phase_sent_full, phase_does}
use Rattle.world_core.proofs.WorldsAsking.{open_there, begins_nothing, begins_none}
use Rattle.world_core.proofs.world.World.phase.Goals as goal

pub returns-in_default-clause-plays : goal.returns-in_default-clause-plays
returns-in_default-clause-plays g c w h = begins_none g.S.Row.Crdt.join g.S.Schema.words c.args.self.now w c.args.request c.args.phase h c.in_default.ensures c.silent.result c.silent.ensures

pub returns-then-not-found-clause-plays : goal.returns-then-not-found-clause-plays
returns-then-not-found-clause-plays g c w h =
    begins_nothing g.S.Row.Crdt.join g.S.Schema.words c.args.self.now w c.args.request c.args.phase h c.in-Some.found c.in-Some.ensures c.if-not-found.true c.silent-then-not-found.result c.silent-then-not-found.ensures

pub returns-in_err-given-clause-causes : goal.returns-in_err-given-clause-causes
returns-in_err-given-clause-causes g c =
    let join = g.S.Row.Crdt.join in
    let s = g.S.Schema.words in
    let p = err_from_is_err_and c.from_residual.result c.from_residual.ensures.1 in
    rw (p.1, p.2) (elim c.in_err-given.ensures.causes [
      | inl want ↦ inl want
      | inr full ↦ inr (
        full.0,
        λ w h.
            phase_full join s c.args.self.now w c.args.request c.in-Some.found.coordinator c.args.phase h (open_there join s c.args.self.now w c.args.request h c.in-Some.found c.in-Some.ensures c.if-not-found.false) (full.1 w.kept),
      )
    ])

pub returns-in_err-tell-clause-causes : goal.returns-in_err-tell-clause-causes
returns-in_err-tell-clause-causes g c =
    let join = g.S.Row.Crdt.join in
    let s = g.S.Schema.words in
    let p = err_from_is_err_and c.from_residual-in_err-tell.result c.from_residual-in_err-tell.ensures.1 in
    rw (p.1, p.2) (elim c.in_err-tell.ensures.causes [
      | inl want ↦ inl want
      | inr full ↦ inr (
        full.0,
        λ w h.
            phase_sent_full join s c.args.self.now w c.args.request c.in-Some.found.coordinator c.args.phase h (open_there join s c.args.self.now w c.args.request h c.in-Some.found c.in-Some.ensures c.if-not-found.false)
            c.phase.new.self c.new-out.result.items c.phase.new.out.items c.new-out.ensures.items (c.in_ok-given.ensures.begins w.kept) full.1,
      )
    ])

pub returns-clause-plays : goal.returns-clause-plays
returns-clause-plays g c w h =
    let join = g.S.Row.Crdt.join in
    let s = g.S.Schema.words in
    phase_does join s c.args.self.now w c.args.request c.in-Some.found.coordinator c.args.phase h (open_there join s c.args.self.now w c.args.request h c.in-Some.found c.in-Some.ensures c.if-not-found.false)
    c.phase.new.self c.new-out.result.items c.phase.new.out.items c.new-out.ensures.items (c.in_ok-given.ensures.begins w.kept)
    g.met.S.Schema.laws c.requires.stocked c.tell.new.self c.in_ok-given.given.before c.in_ok-given.given.after c.new-lines.result c.tell.new.lines c.told.result (c.in_ok-given.ensures.before w.nodes h.nodes) c.in_ok-given.ensures.after c.new-lines.ensures c.in_ok-tell.ensures.tells c.told.ensures
