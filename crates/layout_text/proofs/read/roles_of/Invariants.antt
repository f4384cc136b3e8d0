use Rattle.std.proofs.Common.{◌≡◌, List, [], Some, IsTrue, drop}
use Rattle.std.specs.List.{list_all}
use Rattle.toml.specs.Data.{Members}
use Rattle.toml.specs.View.{items_view}
use Rattle.layout_roles.specs.Zones.{nodes_ascend, is_numbered}
use Rattle.layout_text.specs.Values.{tables_of}
use Rattle.layout_text.specs.Settings.{roles_in}
use Rattle.layout_text.proofs.read.roles_of.Given as goal

abbrev pub invariant-loop-value : goal.invariant-loop-value
invariant-loop-value l = record {
  ascending : IsTrue (nodes_ascend l.list);
  numbered : IsTrue (list_all is_numbered l.list);
  reading : (tables : List Members) → tables_of (items_view l.nodes) ≡ Some tables →
      (rest : List Members) × (tables_of (items_view (drop l.value-index l.nodes)) ≡ Some rest) × (roles_in l.greatest [] tables ≡ roles_in l.greatest l.list rest);
}
