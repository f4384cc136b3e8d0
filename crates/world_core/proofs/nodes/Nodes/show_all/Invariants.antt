use Rattle.std.proofs.Common.{◌≡◌, ℕ, false, ◌++◌}
use Rattle.std.specs.List.{AllByRecursion, IsDistinct}
use Rattle.std.specs.Ordering.{nat_cmp}
use Rattle.std.specs.BTreeMap.{get}
use Rattle.std.proofs.Common.{nat_eq}
use Rattle.layout_roles.specs.declared.layout.Layout.{Layout}
use Rattle.quorum_model.specs.Quorum.{is_among}
use Rattle.cluster_machine.specs.Node.{Node as Seen}
use Rattle.world_core.specs.Nodes.{AreNodes, IsPrepared, given_to}
use Rattle.world_core.proofs.WorldsInstall.{names}
use Rattle.world_core.proofs.nodes.Nodes.show_all.Given as goal

abbrev pub invariant-loop-one : goal.invariant-loop-one
invariant-loop-one g l = record {
  rest : l.yielded ++ l.one-iterator.rest.items ≡ l.fn.all.items;
  others : (m : ℕ) → is_among m (names l.yielded) ≡ false → get nat_cmp l.self.by_number m ≡ get nat_cmp l.fn.self.by_number m;
  shown : (first : Layout) → first.version ≡ 1 → AllByRecursion (IsPrepared l.fn.self first) l.fn.all.items → IsDistinct nat_eq (names l.fn.all.items) →
      (xs : ℕ → Seen g.row.S-Row.Denot Layout) → AreNodes g.S.Row.Crdt.join g.S.Schema.words l.fn.self xs → AreNodes g.S.Row.Crdt.join g.S.Schema.words l.self (given_to (names l.yielded) first xs);
}
