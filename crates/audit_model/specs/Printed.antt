-- Which layouts the lines of a transcript print, and which of them are lawful for what is staged.
use Rattle.std.specs.Prelude.{◌≡◌, ◌<◌, ◌+◌, ◌-◌, ◌==◌, ◌&&◌, nat_le, ℕ, suc, Bool, true, false, if◌then◌else◌, position, replicate, map, Option, Some, None, List, [], ◌∷◌, ◌++◌, flat_map}
use Rattle.std.specs.List.{AllByRecursion, filter, range_with_len}
use Rattle.layout_roles.specs.declared.role.Role.{Role}
use Rattle.layout_roles.specs.declared.redundancy.Redundancy.{Redundancy}
use Rattle.layout_roles.specs.declared.redundancy.Redundancy.TheVariants.{Maximum}
use Rattle.layout_roles.specs.declared.vertex.Vertex.{Vertex}
use Rattle.layout_roles.specs.declared.vertex.Vertex.TheVariants.{Source, Up, Down, Zone, Node}
use Rattle.layout_roles.specs.declared.layout.Layout.{Layout}
use Rattle.layout_roles.specs.Zones.{Name, zone_names, same_name}
use Rattle.layout_roles.specs.Sets.{in_order}
use Rattle.layout_roles.specs.Fits.{NodeSet, Fits}
use Rattle.layout_roles.specs.Network.{network, vertices}
use Rattle.layout_roles.specs.Cuts.{IsCut, weight}
use Rattle.layout_roles.specs.Certificates.{zones_wanted}
use Rattle.side_model.specs.Sides.{set_of}
use Rattle.cluster_machine.specs.World.{staged}
use Rattle.cluster_machine.specs.Trio.{stage_trio}
use Rattle.cluster_machine.specs.declared.applied.Applied.{Applied}
use Rattle.cluster_machine.specs.declared.step.Words.TheVariants.{One}
use Rattle.store_model.specs.declared.event.Event.{Event}
use Rattle.store_model.specs.declared.event.Event.TheVariants as event
use Rattle.store_model.specs.declared.event.Numbered.{Numbered}
use Rattle.audit_model.specs.declared.said.Told.{Told}
use Rattle.audit_model.specs.declared.said.Told.TheVariants.{Accepted}
use Rattle.audit_model.specs.declared.said.Said.{Said}
use Rattle.audit_model.specs.declared.said.Said.TheVariants as said
use Rattle.audit_model.specs.Heard.{event_at}

-- ---- what is staged

-- the roles and the redundancy of the layout that is computed next
pub record Staged : Type 0 where
  pub roles : List Role
  pub wanted : Redundancy

-- before the first event
abbrev pub nothing_staged : Staged
nothing_staged = record { roles = []; wanted = Maximum }

-- what is staged after an event that the transcript says was accepted
abbrev pub stages : Staged → Event → Staged
stages s event.Trio = record s { roles = stage_trio s.roles }
stages s (event.Role n role) = record s { roles = staged n role s.roles }
stages s (event.Redundancy wanted) = record s { wanted = wanted }
stages s other = s

-- the same where the transcript says that it was accepted
abbrev pub stages_if : Staged → Option Event → Told → Staged
stages_if s (Some e) (Accepted words) = stages s e
stages_if s e told = s

-- ---- what is printed

-- the sets of partitions from this one on, from the lines of sets that follow one another without a gap
abbrev pub sets_from : ℕ → List Said → List NodeSet
sets_from place [] = []
sets_from place (said.Sets first last set ∷ saids) =
    if (first == place) && (nat_le first last && nat_le last 255) then replicate (suc last - first) (in_order set.0 set.1 set.2) ++ sets_from (suc last) saids else []
sets_from place (said.Redundancy r ∷ saids) = sets_from place saids
sets_from place (other ∷ saids) = []

-- the vertex, where it holds
abbrev pub where_is : Bool → Vertex → List Vertex
where_is true v = v ∷ []
where_is false v = []

-- the number of a zone by its name
abbrev pub zone_at : List Name → Name → Option ℕ
zone_at names name = position (same_name name) names

-- the vertex of a partition and the zone of this name, if there is such a zone
abbrev pub zone_vertex : List Name → ℕ → Name → List Vertex
zone_vertex names p name = elim (zone_at names name) as (λ o. List Vertex) [ None ↦ [] | Some i ↦ Zone p i ∷ [] ]

-- the vertices of a partition that a line names
abbrev pub named_vertices : List Name → Bool → Bool → List Name → ℕ → List Vertex
named_vertices names up down zones p = where_is up (Up p) ++ where_is down (Down p) ++ flat_map (zone_vertex names p) zones

-- the partitions from the first to the last one; none where the last one is no partition
abbrev pub partitions_to : ℕ → ℕ → List ℕ
partitions_to first last = if nat_le last 255 then range_with_len first (suc last - first) else []

-- nodes are 64 at most
abbrev pub nodes_among : List ℕ → List ℕ
nodes_among numbers = filter (λ n. nat_le n 64) numbers

-- the vertices on the source's side that these lines name, in their order; what is no partition and no node names none
abbrev pub side_in : List Name → List Said → List Vertex
side_in names [] = []
side_in names (said.Side first last up down zones ∷ saids) = flat_map (named_vertices names up down zones) (partitions_to first last) ++ side_in names saids
side_in names (said.Nodes nodes ∷ saids) = map Node (nodes_among nodes)
side_in names (other ∷ saids) = side_in names saids

-- the line is one of a printed layout, past its first
abbrev pub is_more : Said → Bool
is_more (said.Redundancy r) = true
is_more (said.Sets first last set) = true
is_more (said.Cut size weight) = true
is_more (said.Side first last up down zones) = true
is_more (said.Nodes nodes) = true
is_more other = false

-- the first lines of these that are
abbrev pub more_lines : List Said → List Said
more_lines [] = []
more_lines (s ∷ saids) = if is_more s then s ∷ more_lines saids else []

-- a layout that lines print: its size, its sets, and the vertices of its cut
pub record Printed : Type 0 where
  pub size : ℕ
  pub sets : List NodeSet
  pub side : List Vertex

-- what the lines after `size S` print, for these roles
abbrev pub printed : List Role → ℕ → List Said → Printed
printed roles size saids = let lines = more_lines saids in record { size = size; sets = sets_from 0 lines; side = Source ∷ side_in (zone_names roles) lines }

-- ---- lawful layouts

-- the assignment fits, and the cut shows that none fits a size that is greater by one
pub record IsLawful (s : Staged) (p : Printed) : Type 0 where
  pub some : 0 < p.size
  pub fits : Fits s.roles (zones_wanted s.wanted s.roles) p.size p.sets
  pub cut : IsCut (set_of p.side)
  pub light : weight (network s.roles (zones_wanted s.wanted s.roles) (p.size + 1)) (set_of p.side) < 768

-- ---- the layouts of a transcript

-- a printed layout: the number of its first line, the line of the schedule whose apply gave it, and what was staged
pub record Print : Type 0 where
  pub place : ℕ
  pub line : ℕ
  pub staged : Staged
  pub printed : Printed

-- the layout that follows directly on an apply that was accepted
abbrev pub print_of : Staged → ℕ → ℕ → Option Event → Told → List Said → List Print
print_of s k line (Some (event.Apply n)) (Accepted (One v)) (said.Size size ∷ saids) = record { place = suc k; line = line; staged = s; printed = printed s.roles size saids } ∷ []
print_of s k line e told saids = []

-- the layouts that these lines print, the first of which has number k, where this is staged before
abbrev pub prints : List Numbered → Staged → ℕ → List Said → List Print
prints events s k [] = []
prints events s k (said.Event line name told ∷ saids) =
    let e = event_at events line name in print_of s k line e told saids ++ prints events (stages_if s e told) (suc k) saids
prints events s k (other ∷ saids) = prints events s (suc k) saids

-- all of them
abbrev pub all_prints : List Numbered → List Said → List Print
all_prints events saids = prints events nothing_staged 1 saids

-- the layout is lawful for what is staged
abbrev pub IsLawfulPrint : Print → Type 0
IsLawfulPrint p = IsLawful p.staged p.printed

-- the first of these that isn't lawful begins in line k
pub record IsUnlawful (ps : List Print) (k : ℕ) : Type 0 where
  pub before : List Print
  pub one : Print
  pub later : List Print
  pub whole : ps ≡ before ++ one ∷ later
  pub lawful : AllByRecursion IsLawfulPrint before
  pub unlawful : IsLawfulPrint one → ⊥
  pub place : one.place ≡ k

-- the layout that an apply in this line of the schedule printed
abbrev pub print_at : List Print → ℕ → Option Print
print_at [] line = None
print_at (p ∷ ps) line = if p.line == line then Some p else print_at ps line

-- the layout and what is shown of it are those that were printed, with the printed cut, whose vertices are shown in order
pub record IsOfPrint (roles : List Role) (wanted : Redundancy) (version : ℕ) (p : Printed) (l : Layout) (shown : Applied) : Type 0 where
  pub version_is : l.version ≡ version
  pub roles_are : l.roles.list ≡ roles
  pub shown_roles : shown.roles.list ≡ roles
  pub redundancy : l.r ≡ zones_wanted wanted roles
  pub shown_redundancy : shown.certified.r ≡ l.r
  pub size : (l.size ≡ p.size) × (shown.certified.size ≡ p.size)
  pub sets : (l.sets.sets ≡ p.sets) × (shown.certified.sets.sets ≡ p.sets)
  pub cut_size : shown.certified.cut.size ≡ p.size + 1
  pub cut_weight : shown.certified.cut.weight ≡ weight (network roles (zones_wanted wanted roles) (p.size + 1)) (set_of p.side)
  pub cut_side : shown.certified.cut.side ≡ filter (set_of p.side) (vertices roles)
