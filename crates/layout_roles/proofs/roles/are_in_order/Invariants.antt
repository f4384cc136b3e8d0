use Rattle.std.proofs.Common.{◌≡◌, ◌&&◌, drop}
use Rattle.std.specs.List.{list_all}
use Rattle.layout_roles.specs.Zones.{ascend_from, nodes_ascend, is_numbered}
use Rattle.layout_roles.proofs.roles.are_in_order.Given as goal

abbrev pub invariant-loop-role : goal.invariant-loop-role
invariant-loop-role l =
    (nodes_ascend l.roles && list_all is_numbered l.roles) ≡ (ascend_from l.last (drop l.role-index l.roles) && list_all is_numbered (drop l.role-index l.roles))
