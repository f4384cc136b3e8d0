use Rattle.std.proofs.Common.{◌≡◌, true, ap, sym, subst, ◌∙◌}
use Rattle.view_model.specs.Layouts.{reading}
use Rattle.layout_history.specs.Views.{known}
use Rattle.view_model.specs.View.{oldest, is_gapless, cleaned}
use Rattle.cluster_machine.specs.declared.step.LocalEnd.TheVariants.{At}
use Rattle.cluster_machine.specs.Rows.{sees}
use Rattle.cluster_machine.specs.Layouts.{layouts}
use Rattle.node_core.proofs.Nodes.{version_stays, cleaned_newest, silent}
use Rattle.node_core.proofs.node.Node.clean.Goals as goal

pub returns-clause-cleans : goal.returns-clause-cleans
returns-clause-cleans g c out id x is =
    let v = cleaned reading x.view in
    let own : is_gapless reading (known c.args.self.now.view).layouts ≡ true = c.args.self.now.view.gapless in
    let seen : known c.clean-oldest.new.self ≡ v = c.clean-oldest.ensures.cleaned ∙ ap (cleaned reading) is.view in (
      silent c.look_around.new.self id (sees g.S.Row.Crdt.join g.S.Schema.words layouts id c.args.now x v) out
          (c.in_ok-look_around.ensures.sees id x v (ap (oldest reading) (sym is.view) ∙ sym c.oldest-before.ensures) (record {
            id_is = is.id_is;
            view = seen;
            contents = is.contents;
            calls = is.calls;
            rounds = is.rounds;
            gc = is.gc;
            has_version = version_stays x.view v x.calls (cleaned_newest x.view (subst (λ w. is_gapless reading w.layouts ≡ true) is.view own)) is.has_version;
          })),
      ap At (c.clean-oldest.ensures.left ∙ ap (oldest reading) seen),
    )
