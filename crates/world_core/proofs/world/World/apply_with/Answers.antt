use Rattle.std.proofs.Common.{sym, ◌∙◌, ap, subst, [], ◌∷◌, ◌++◌}
use Rattle.cluster_machine.specs.Choices.{HasGreatest}
use Rattle.change_model.specs.Given.{given_at}
use Rattle.cluster_machine.specs.declared.line.Line.TheVariants.{Layout}
use Rattle.cluster_machine.specs.declared.step.Words.TheVariants.{One}
use Rattle.world_core.proofs.WorldsStand.{told_report}
use Rattle.world_core.proofs.WorldsInstall.{greatest_has_members}
use Rattle.world_core.proofs.WorldsApply.{after_newest, apply_refused, laid}
use Rattle.world_core.proofs.world.World.apply_with.Goals as goal

pub returns-in-Err-clause-applies : goal.returns-in-Err-clause-applies
returns-in-Err-clause-applies g c w h =
    apply_refused g.S.Row.Crdt.join g.S.Schema.words c.args.self.now w h c.args.node c.refused.result (given_at w c.args.node c.args.shown) c.in-Err.reason c.refused.ensures (sym c.in-Err.is ∙ c.next_version.ensures w h)

pub append-requires-clause-next : goal.append-requires-clause-next
append-requires-clause-next g c =
    let w = c.requires.stands.0 in
    let h = c.requires.stands.1 in
    ap (λ l. l.version) c.in_ok-layout.ensures.is ∙ after_newest g.S.Row.Crdt.join g.S.Schema.words c.args.self.now w h c.args.node c.in-Ok.version (sym c.in-Ok.is ∙ c.next_version.ensures w h)

pub append-requires-clause-inhabited : goal.append-requires-clause-inhabited
append-requires-clause-inhabited g c = greatest_has_members c.in_ok-layout.layout (subst HasGreatest (sym c.in_ok-layout.ensures.is) c.requires.greatest)

pub returns-clause-applies : goal.returns-clause-applies
returns-clause-applies g c w h =
    laid g.S.Row.Crdt.join g.S.Schema.words c.args.self.now w h c.args.node c.told.result g.met.S.Schema.laws c.append.new.self c.in-Ok.version c.in_ok-layout.layout c.args.shown (sym c.in-Ok.is ∙ c.next_version.ensures w h)
    c.in_ok-layout.ensures.is c.requires.greatest (c.told.ensures ∙ (λ i. told_report (One (c.from.ensures i)) ((c.in_ok-push.ensures.ok ∙ ap (λ lines. lines ++ Layout c.args.shown ∷ []) c.new-lines.ensures) i))) c.in_ok-append.ensures.appends
