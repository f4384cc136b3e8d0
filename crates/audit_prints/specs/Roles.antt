-- Which roles and which redundancies schedules stage.
use Rattle.std.specs.Prelude.{Bool, true, nat_le, ◌&&◌, List}
use Rattle.std.specs.List.{list_all}
use Rattle.layout_roles.specs.declared.role.Role.{Role}
use Rattle.layout_roles.specs.declared.redundancy.Redundancy.{Redundancy}
use Rattle.layout_roles.specs.declared.redundancy.Redundancy.TheVariants.{AtLeast, Maximum}
use Rattle.layout_roles.specs.Zones.{capacity_of}

-- a capacity of at most 1 PiB
abbrev pub is_bounded : Role → Bool
is_bounded role = nat_le (capacity_of role) 1125899906842624

-- so has each of these
abbrev pub are_bounded : List Role → Bool
are_bounded roles = list_all is_bounded roles

-- one zone at least and three at most
abbrev pub is_meant : Redundancy → Bool
is_meant (AtLeast r) = nat_le 1 r && nat_le r 3
is_meant Maximum = true
