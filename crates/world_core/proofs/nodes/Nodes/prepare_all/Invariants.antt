use Rattle.std.proofs.Common.{◌≡◌, ℕ, take, map}
use Rattle.std.specs.List.{AllByRecursion}
use Rattle.layout_roles.specs.declared.layout.Layout.{Layout}
use Rattle.cluster_machine.specs.Node.{Node as Seen}
use Rattle.world_core.specs.Nodes.{AreNodes, IsPrepared}
use Rattle.world_core.proofs.nodes.Nodes.prepare_all.Given as goal

abbrev pub invariant-loop-node : goal.invariant-loop-node
invariant-loop-node g l = record {
  same : (xs : ℕ → Seen g.row.S-Row.Denot Layout) → AreNodes g.S.Row.Crdt.join g.S.Schema.words l.fn.self xs → AreNodes g.S.Row.Crdt.join g.S.Schema.words l.self xs;
  prepared : AllByRecursion (IsPrepared l.self l.first) l.all.items;
  nodes : map (λ one. one.node) l.all.items ≡ take l.node-index l.nodes;
}
