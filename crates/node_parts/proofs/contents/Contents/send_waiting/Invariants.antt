use Rattle.std.proofs.Common.{◌≡◌, take, flat_map}
use Rattle.layout_roles.specs.declared.layout.Layout.{Layout}
use Rattle.layout_history.specs.Views.{known}
use Rattle.cluster_machine.specs.Node.{Node}
use Rattle.cluster_machine.specs.Acts.{item_posts}
use Rattle.node_parts.specs.Contents.{IsContents}
use Rattle.cluster_machine.specs.Layouts.{layouts}
use Rattle.node_parts.specs.Posts.{Posts}
use Rattle.node_parts.proofs.contents.Contents.send_waiting.Given as goal

abbrev pub invariant-loop-item : goal.invariant-loop-item
invariant-loop-item g l = (x : Node g.row.S-Row.Denot Layout) → known l.view ≡ x.view → IsContents g.S.Row.Crdt.join g.S.Schema.words l.self x →
    Posts l.node l.fn.out.items l.out.items (flat_map (item_posts g.S.Row.Crdt.join g.S.Schema.words layouts x.view) (take l.item-index x.items))
