use Rattle.std.proofs.Common.{sym, subst, ◌∙◌}
use Rattle.world_core.specs.Given.{IsDecided}
use Rattle.world_core.proofs.WorldsApply.{refused_step, undecided_step, decided_steps}
use Rattle.world_core.proofs.world.World.apply.Goals as goal

pub returns-in-Err-clause-steps : goal.returns-in-Err-clause-steps
returns-in-Err-clause-steps g c w h = refused_step g.S.Row.Crdt.join g.S.Schema.words c.args.self.now w h c.args.node c.refused.result c.in-Err.reason c.refused.ensures (sym c.in-Err.is ∙ c.next_version.ensures w h)

pub returns-in-Refused-clause-steps : goal.returns-in-Refused-clause-steps
returns-in-Refused-clause-steps g c w h =
    undecided_step g.S.Row.Crdt.join g.S.Schema.words c.args.self.now w h c.args.node c.refused-in-Refused.result c.in_default.field-0 c.in-Refused.reason c.refused-in-Refused.ensures (sym c.in_default.is ∙ c.next_version.ensures w h)
    (subst (IsDecided c.args.self.now.roles c.args.self.now.redundancy) c.in-Refused.is c.in_ok-reason.ensures.decided)

pub returns-in-Given-clause-steps : goal.returns-in-Given-clause-steps
returns-in-Given-clause-steps g c = decided_steps g.S.Row.Crdt.join g.S.Schema.words c.args.self.now c.apply_with.new.self c.args.node c.in-Given.shown (subst (IsDecided c.args.self.now.roles c.args.self.now.redundancy) c.in-Given.is c.in_ok-reason.ensures.decided) c.apply_with.result c.apply_with.ensures.applies
