use Rattle.std.proofs.Common.{sym, ◌∙◌}
use Rattle.world_core.proofs.WorldsAsking.{no_member_yet, repairs_refused, repairs_it}
use Rattle.world_core.proofs.world.World.repair.Goals.{then-newest-eq0-via-then-newest-eq0, then-newest-eq0-via-else-newest-eq0+then-not-is_member}
use Rattle.world_core.proofs.world.World.repair.Goals as goal

pub returns-then-newest-eq0-clause-plays : goal.returns-then-newest-eq0-clause-plays
returns-then-newest-eq0-clause-plays g c w h =
    let join = g.S.Row.Crdt.join in
    let s = g.S.Schema.words in
    elim c.then-newest-eq0.branch [
      | then-newest-eq0-via-then-newest-eq0 b ↦
          repairs_refused join s c.args.self.now w c.args.node h (no_member_yet join s c.args.self.now w c.args.node c.newest.result h (c.newest.ensures.is w.nodes h.nodes) b.if-newest-eq0.true) c.refused.result c.refused.ensures
      | then-newest-eq0-via-else-newest-eq0+then-not-is_member b ↦
          repairs_refused join s c.args.self.now w c.args.node h (sym (b.is_member.ensures w.nodes h.nodes) ∙ b.if-not-is_member.true) c.refused.result c.refused.ensures
    ]

pub returns-clause-plays : goal.returns-clause-plays
returns-clause-plays g c w h =
    repairs_it g.S.Row.Crdt.join g.S.Schema.words c.acts.new.self w c.args.node (sym (c.is_member.ensures w.nodes h.nodes) ∙ c.if-not-is_member.false) c.in_ok-report.report (c.in_ok-report.ensures.plays w h)
