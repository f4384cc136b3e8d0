-- What is asked of a layout, and what shows that an assignment is the greatest.
use Rattle.std.specs.Prelude.{ℕ, ◌≡◌, ◌+◌, ◌<◌, ◌≤◌, min, length, List}
use Rattle.std.specs.List.{filter}
use Rattle.layout_roles.specs.declared.redundancy.Redundancy.{Redundancy}
use Rattle.layout_roles.specs.declared.role.Role.{Role}
use Rattle.layout_roles.specs.declared.cut.Cut.{Cut as TheCut}
use Rattle.layout_roles.specs.declared.certified.Certified.{Certified}
use Rattle.layout_roles.specs.Zones.{storage_nodes, zone_names}
use Rattle.layout_roles.specs.Fits.{NoneFits, IsGreatest}
use Rattle.layout_roles.specs.Network.{network, vertices}
use Rattle.layout_roles.specs.Cuts.{Side, weight, IsPrinted}

-- the printed cut of the network for the size, with its weight and its vertices in order
pub record IsPrintedCut (roles : List Role) (r size : ℕ) (cut : TheCut) : Type 0 where
  pub set : Side
  pub printed : IsPrinted (network roles r size) set
  pub listed : cut.side ≡ filter set (vertices roles)
  pub weighs : cut.weight ≡ weight (network roles r size) set
  pub sized : cut.size ≡ size

-- one zone at least and three at most
abbrev pub IsRedundancy : Redundancy → Type 0
IsRedundancy (Redundancy.AtLeast r) = (1 ≤ r) × (r ≤ 3)
IsRedundancy Redundancy.Maximum = Unit {0}

-- in how many zones the nodes of a set have to lie
abbrev pub zones_wanted : Redundancy → List Role → ℕ
zones_wanted (Redundancy.AtLeast r) roles = r
zones_wanted Redundancy.Maximum roles = min 3 (length (zone_names roles))

-- three storage nodes, and as many zones as are wanted
pub record AreEnough (roles : List Role) (wanted : Redundancy) : Type 0 where
  pub nodes : 3 ≤ length (storage_nodes roles)
  pub zones : zones_wanted wanted roles ≤ length (zone_names roles)

-- an assignment of the greatest partition size, and the printed cut of the network for the next size, through which less than three copies of each partition go
pub record IsCertified (roles : List Role) (wanted : Redundancy) (certified : Certified) : Type 0 where
  pub redundancy : certified.r ≡ zones_wanted wanted roles
  pub greatest : IsGreatest roles certified.r certified.size certified.sets.sets
  pub above : (size : ℕ) → certified.size < size → NoneFits roles certified.r size
  pub some : 0 < certified.size
  pub cut : IsPrintedCut roles certified.r (certified.size + 1) certified.cut
  pub light : certified.cut.weight < 768

-- no assignment fits partitions of one byte, and the cut shows it
pub record ShowsNone (roles : List Role) (r : ℕ) (cut : TheCut) : Type 0 where
  pub none : NoneFits roles r 1
  pub printed : IsPrintedCut roles r 1 cut
  pub light : cut.weight < 768
