use Rattle.std.proofs.Common.{◌≡◌, [], IsTrue, drop}
use Rattle.std.specs.List.{list_all}
use Rattle.toml.specs.View.{items_view}
use Rattle.layout_roles.specs.Zones.{set_ascends}
use Rattle.layout_text.specs.Old.{sets_of}
use Rattle.layout_text.proofs.old.sets.Given as goal

abbrev pub invariant-loop-value : goal.invariant-loop-value
invariant-loop-value l = record {
  ascending : IsTrue (list_all set_ascends l.sets);
  rest : sets_of l.sets (items_view (drop l.value-index l.values)) ≡ sets_of [] (items_view l.values);
}
