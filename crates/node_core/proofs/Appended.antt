-- A node whose view got one layout version more.
use Rattle.std.proofs.Common.{◌≡◌, ◌≤◌, ◌+◌, ℕ, ap, ◌∙◌, arith}
use Rattle.layout_roles.specs.declared.layout.Layout.{Layout}
use Rattle.view_model.specs.Layouts.{reading}
use Rattle.view_model.specs.View.{View, newest, appended}
use Rattle.view_model.proofs.ReadVersions.{newest_appended}
use Rattle.table_schema.specs.Words.{Words}
use Rattle.cluster_machine.specs.Acts.{appends}
use Rattle.cluster_machine.specs.Layouts.{layouts}
use Rattle.cluster_machine.specs.Node.{Node as Model}
use Rattle.node_core.specs.declared.node.Node.{Node}
use Rattle.node_core.specs.Stands.{StandsFor, view_of}
use Rattle.node_core.proofs.Nodes.{same_contents, version_stays}

grows : (l : Layout) (v : View Layout) → l.version ≡ newest reading v + 1 → newest reading v ≤ newest reading (appended reading v l)
grows l v next = let e = newest_appended reading v l in omega arith

pub appended_stands : {S R : Type 0} (join : R → R → R) (s : Words R) (c new : Node S R) (l : Layout) (id : ℕ) (x : Model R Layout) → new ≡ record c { view = new.view } → l.version ≡ newest reading (view_of c) + 1 →
    view_of new ≡ appended reading (view_of c) l → StandsFor join s c id x → StandsFor join s new id (appends layouts x l)
appended_stands join s c new l id x rest next view is =
    let v = appended reading x.view l in
    rw rest (record {
      id_is = is.id_is;
      view = view ∙ ap (λ w. appended reading w l) is.view;
      contents = same_contents x v x.calls x.round x.rounds x.mending x.lasting is.contents;
      calls = is.calls;
      rounds = is.rounds;
      gc = is.gc;
      has_version = version_stays x.view v x.calls (grows l x.view (next ∙ ap (λ w. newest reading w + 1) is.view)) is.has_version;
    })
