use Rattle.std.proofs.Common.{◌≡◌, ap, ◌∙◌, arith}
use Rattle.view_model.specs.Layouts.{reading}
use Rattle.view_model.specs.View.{appended}
use Rattle.node_core.specs.Stands.{view_of}
use Rattle.world_core.proofs.WorldsInstall.{none_at}
use Rattle.world_core.proofs.nodes.Nodes.prepare.Goals as goal

pub view_with-requires-clause-next : goal.view_with-requires-clause-next
view_with-requires-clause-next g c =
    let none = none_at g.S.Row.Crdt.join g.S.Schema.words c.args.self.now c.ready.new.self c.args.node c.in-Some.found.now c.requires.unused c.in_ok-ready.ensures.same c.in-Some.ensures.value in
    let same : c.in_ok-copy.field-0.version ≡ 1 = ap (λ l. l.version) c.in_ok-copy.ensures.same ∙ c.requires.version in
    omega (arith, same, none)

pub returns-clause-prepared : goal.returns-clause-prepared
returns-clause-prepared g c = record {
  node = c.in-Some.found.now;
  there = c.in-Some.ensures.value;
  none = none_at g.S.Row.Crdt.join g.S.Schema.words c.args.self.now c.ready.new.self c.args.node c.in-Some.found.now c.requires.unused c.in_ok-ready.ensures.same c.in-Some.ensures.value;
  view = c.in_ok-view.ensures.appended ∙ ap (appended reading (view_of c.in-Some.found.now)) c.in_ok-copy.ensures.same;
}
