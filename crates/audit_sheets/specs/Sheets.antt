-- What the lines of a layout say, before they are text.
use Rattle.std.specs.Prelude.{◌≡◌, ◌<◌, ◌≤◌, ◌+◌, ◌-◌, ℕ, Bool, true, false, IsTrue, nat_eq, length, get_or, map, flat_map, List, [], ◌∷◌, ◌++◌, Some}
use Rattle.std.specs.Cmp.Lexicographic.{pointwise}
use Rattle.std.specs.List.{AllByRecursion, filter, list_all, list_any, range_with_len}
use Rattle.layout_roles.specs.declared.role.Role.{Role}
use Rattle.layout_roles.specs.declared.vertex.Vertex.{Vertex}
use Rattle.layout_roles.specs.declared.vertex.Vertex.TheVariants.{Source, Up, Down, Zone, Node}
use Rattle.layout_roles.specs.Names.{is_zone_name}
use Rattle.layout_roles.specs.Zones.{Name, zone_names}
use Rattle.layout_roles.specs.Fits.{NodeSet}
use Rattle.layout_roles.specs.Certificates.{IsRedundancy}
use Rattle.layout_roles.specs.Runs.{Run, runs}
use Rattle.layout_roles.specs.Text.{is_in_partition, side_words}
use Rattle.cluster_machine.specs.declared.applied.Applied.{Applied}
use Rattle.text_model.specs.Grammar.{IsIn, role_range}
use Rattle.audit_model.specs.declared.said.Said.{Said}
use Rattle.audit_model.specs.declared.said.Said.TheVariants as said
use Rattle.audit_model.specs.Lines.{IsNumber, AreNumbers}
use Rattle.audit_model.specs.Printed.{where_is, Staged}

-- ---- what is said

-- what is said of each run, by its first place, its last place and its value; the first run begins at `place`
abbrev pub runs_said : {A : Type 0} → (ℕ → ℕ → A → List Said) → ℕ → List (Run A) → List Said
runs_said say place [] = []
runs_said say place (run ∷ runs) = say place (place + run.count - 1) run.value ++ runs_said say (place + run.count) runs

-- partitions `first` to `last` have this set
abbrev pub set_said : ℕ → ℕ → NodeSet → List Said
set_said first last set = said.Sets first last (get_or set 0 0, get_or set 1 0, get_or set 2 0) ∷ []

-- a line for each longest run of partitions with one set
abbrev pub sets_said : List NodeSet → List Said
sets_said sets = runs_said set_said 0 (runs (pointwise nat_eq) sets)

-- the vertices of partition p on the source's side, in their order there
abbrev pub part : List Vertex → ℕ → List Vertex
part side p = filter (is_in_partition p) side

-- the vertex is one where a partition's copies in different zones start
abbrev pub is_up : Vertex → Bool
is_up (Up p) = true
is_up v = false

-- the vertex is one where a partition's further copies start
abbrev pub is_down : Vertex → Bool
is_down (Down p) = true
is_down v = false

-- the name of a vertex's zone, where it is of one
abbrev pub zone_named : List Name → Vertex → List Name
zone_named names (Zone p i) = get_or names i [] ∷ []
zone_named names v = []

-- partitions `first` to `last` have these vertices on the source's side; where there are none, nothing is said
abbrev pub part_said : List Name → ℕ → ℕ → List Vertex → List Said
part_said names first last [] = []
part_said names first last (v ∷ vs) =
    said.Side first last (list_any is_up (v ∷ vs)) (list_any is_down (v ∷ vs)) (flat_map (zone_named names) (v ∷ vs)) ∷ []

-- partitions `first` to `last` have the vertices of partition p
abbrev pub side_said : List Name → List Vertex → ℕ → ℕ → ℕ → List Said
side_said names side first last p = part_said names first last (part side p)

-- the vertices of two partitions on the source's side have the same words
abbrev pub same_words : List Name → List Vertex → ℕ → ℕ → Bool
same_words names side p q = pointwise nat_eq (side_words names side p) (side_words names side q)

-- a line for each longest run of partitions with the same vertices on the source's side, but where there are none
unfoldable pub sides_said : List Name → List Vertex → List Said
sides_said names side = runs_said (side_said names side) 0 (runs (same_words names side) (range_with_len 0 256))

-- the number of a node
abbrev pub node_of : Vertex → List ℕ
node_of (Node n) = n ∷ []
node_of v = []

-- the nodes on the source's side, in their order there
abbrev pub nodes_on : List Vertex → List ℕ
nodes_on side = flat_map node_of side

-- what the lines of a layout say behind its size
abbrev pub more_said : Applied → List Said
more_said shown =
    let c = shown.certified in
    said.Redundancy c.r ∷ sets_said c.sets.sets ++
    said.Cut c.cut.size c.cut.weight ∷ sides_said (zone_names shown.roles.list) c.cut.side ++ said.Nodes (nodes_on c.cut.side) ∷ []

-- what the lines of a layout say
abbrev pub sheet_said : Applied → List Said
sheet_said shown = said.Size shown.certified.size ∷ more_said shown

-- ---- when its text says so

-- three nodes, each below 2^64
abbrev pub IsSet : NodeSet → Type 0
IsSet set = (length set ≡ 3) × AreNumbers set

-- the vertices of partition p: up and down where they are there, and then these zones
abbrev pub in_part : ℕ → Bool → Bool → List ℕ → List Vertex
in_part p up down zones = where_is up (Up p) ++ where_is down (Down p) ++ map (Zone p) zones

-- vertices of partition p in order: up at most once, down at most once, and then zones, each of which has one of so many names
pub record IsPart (count p : ℕ) (vertices : List Vertex) : Type 0 where
  pub up : Bool
  pub down : Bool
  pub zones : List ℕ
  pub whole : vertices ≡ in_part p up down zones
  pub named : AllByRecursion (λ i. i < count) zones

-- each number is in its range, each partition's vertices on the source's side are in order, and zones have names of the grammar
pub record IsOrderly (shown : Applied) : Type 0 where
  pub size : IsNumber shown.certified.size
  pub redundancy : (1 ≤ shown.certified.r) × (shown.certified.r ≤ 3)
  pub sets : AllByRecursion IsSet shown.certified.sets.sets
  pub cut : AreNumbers (shown.certified.cut.size ∷ shown.certified.cut.weight ∷ [])
  pub parts : (p : ℕ) → p < 256 → IsPart (length (zone_names shown.roles.list)) p (part shown.certified.cut.side p)
  pub nodes : AreNumbers (nodes_on shown.certified.cut.side)
  pub names : IsTrue (list_all is_zone_name (zone_names shown.roles.list))

-- ---- when it is read back

-- the vertices of the partitions, from 0 to 255
unfoldable pub parts : List Vertex → List Vertex
parts side = flat_map (part side) (range_with_len 0 256)

-- the whole side is in order: the source, then by partitions, then the nodes, which are 64 at most
pub record IsRanked (side : List Vertex) : Type 0 where
  pub order : side ≡ Source ∷ parts side ++ map Node (nodes_on side)
  pub few : AllByRecursion (λ n. n ≤ 64) (nodes_on side)

-- ---- what is staged

-- each role is one that a schedule may give
abbrev pub AreInRange : List Role → Type 0
AreInRange roles = AllByRecursion (λ role. IsIn (role_range (Some (role.zone, role.kind)))) roles

-- such roles are staged, and a redundancy that there is
pub record IsStagedInRange (staged : Staged) : Type 0 where
  pub roles : AreInRange staged.roles
  pub wanted : IsRedundancy staged.wanted
