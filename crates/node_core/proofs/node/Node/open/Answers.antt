use Rattle.std.proofs.Common.{◌≡◌, true, ◌∷◌, ap, sym, subst, ◌∙◌}
use Rattle.view_model.specs.Layouts.{reading}
use Rattle.layout_history.specs.Views.{known}
use Rattle.view_model.specs.View.{newest, is_gapless}
use Rattle.cluster_machine.specs.Layouts.{is_member, layouts}
use Rattle.cluster_machine.specs.Node.{resting}
use Rattle.node_core.proofs.Nodes.{same_contents, member_has_version}
use Rattle.node_core.proofs.node.Node.open.Goals as goal

pub returns-in-Ok-clause-opens : goal.returns-in-Ok-clause-opens
returns-in-Ok-clause-opens g c id x below is =
    let start : c.newest.result ≡ newest reading x.view = c.newest.ensures ∙ ap (newest reading) is.view in
    let calls = record { request = c.args.request; start = newest reading x.view; phases = 0; present = resting } ∷ x.calls in
    let seen : is_member layouts (known c.args.self.now.view) c.args.self.now.id ≡ true = sym c.if-not-is_member.ensures in
    let member : is_member layouts x.view c.args.self.now.id ≡ true = subst (λ v. is_member layouts v c.args.self.now.id ≡ true) is.view seen in
    let gapless : is_gapless reading (known c.args.self.now.view).layouts ≡ true = c.args.self.now.view.gapless in
    record {
      id_is = is.id_is;
      view = is.view;
      contents = same_contents x x.view calls x.round x.rounds x.mending x.lasting is.contents;
      calls = rw start at (c.in-Ok.ensures.begun x.calls is.calls below);
      rounds = is.rounds;
      gc = is.gc;
      has_version = member_has_version x.view c.args.self.now.id (subst (λ v. is_gapless reading v.layouts ≡ true) is.view gapless) member;
    }
