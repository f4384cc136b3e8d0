use Rattle.std.proofs.Common.{◌≡◌, true, ap, sym, subst, ◌∙◌}
use Rattle.view_model.specs.Layouts.{reading}
use Rattle.layout_history.specs.Views.{known}
use Rattle.view_model.specs.View.{oldest, is_gapless, merged}
use Rattle.node_parts.proofs.Faults.{ok_to}
use Rattle.node_core.proofs.Nodes.{version_stays, newer_merged}
use Rattle.node_core.proofs.node.Node.take_view.Goals as goal

pub returns-clause-sees : goal.returns-clause-sees
returns-clause-sees g c = ok_to c.look_around.result c.look_around.ensures.sees (λ goes id x is.
    let other = c.args.view.now in
    let v = merged reading x.view (known other) in
    let own : is_gapless reading (known c.args.self.now.view).layouts ≡ true = c.args.self.now.view.gapless in
    goes id x v (ap (oldest reading) (sym is.view) ∙ sym c.oldest-before.ensures) (record {
      id_is = is.id_is;
      view = c.in_ok-merge.ensures.merged ∙ ap (λ w. merged reading w (known other)) is.view;
      contents = is.contents;
      calls = is.calls;
      rounds = is.rounds;
      gc = is.gc;
      has_version = version_stays x.view v x.calls (newer_merged x.view (known other) (subst (λ w. is_gapless reading w.layouts ≡ true) is.view own) other.gapless) is.has_version;
    }))
