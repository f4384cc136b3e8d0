use Rattle.std.proofs.Common.{◌≡◌, IsTrue, length}
use Rattle.std.specs.List.{list_all}
use Rattle.layout_roles.specs.Zones.{set_ascends}
use Rattle.node_tests.proofs.tests.everywhere.Given as goal

-- as many sets as passes, each ascending
abbrev pub invariant-loop-i : goal.invariant-loop-i
invariant-loop-i l = record { whole : length l.sets ≡ l._i; ascending : IsTrue (list_all set_ascends l.sets) }
