use Rattle.std.proofs.Common.{sym, ap, ◌∙◌, []}
use Rattle.layout_roles.specs.declared.layout.Layout.{Layout}
use Rattle.layout_history.specs.Views.{known}
use Rattle.layout_history.proofs.Views.{same_view}
use Rattle.layout_trackers.specs.Trackers.{no_trackers}
use Rattle.cluster_machine.specs.Node.{Node as Model, shows}
use Rattle.node_core.proofs.Nodes.{no_entries}
use Rattle.world_core.proofs.NodesAt.{stands_at, is_new}
use Rattle.world_core.proofs.nodes.Nodes.shown.Goals as goal
use Rattle.world_core.proofs.nodes.Nodes.shown.Goals.{in-Some+in_ok-view-in-Some, in-None}

pub returns-clause-shown : goal.returns-clause-shown
returns-clause-shown g c xs are =
    let join = g.S.Row.Crdt.join in
    let s = g.S.Schema.words in
    let n = c.args.node in
    ap shows (ap known c.in_ok-new.ensures.same ∙ elim c.match-get.branch [
      | in-Some+in_ok-view-in-Some w ↦
          ap known (w.view-is ∙ w.in_ok-view-in-Some.ensures.same) ∙ w.view.ensures ∙ (stands_at join s c.args.self.now n w.in-Some.found.now xs w.in-Some.ensures.value are).view
      | in-None w ↦
          let v = w.new-view.result in
          ap known w.view-is ∙ same_view v.layouts [] v.trackers no_trackers w.new-view.ensures.no_layouts (no_entries v.trackers w.new-view.ensures.no_entries)
          ∙ sym (ap (λ (x : Model g.row.S-Row.Denot Layout). x.view) (is_new join s c.args.self.now n xs w.in-None.ensures.value are))
    ])
