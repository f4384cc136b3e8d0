-- The text of a layout.
use Rattle.std.specs.Prelude.{ℕ, Bool, false, ◌==◌, nat_eq, get_or, map, List, [], ◌∷◌, ◌++◌, flat_map, codes, decimal}
use Rattle.std.specs.Cmp.Lexicographic.{pointwise}
use Rattle.std.specs.List.{filter, range_with_len}
use Rattle.layout_roles.specs.declared.role.Role.{Role}
use Rattle.layout_roles.specs.Zones.{Name, zone_names}
use Rattle.layout_roles.specs.Fits.{NodeSet}
use Rattle.layout_roles.specs.declared.vertex.Vertex.{Vertex}
use Rattle.layout_roles.specs.declared.vertex.Vertex.TheVariants.{Up, Down, Zone, Node}
use Rattle.layout_roles.specs.declared.cut.Cut.{Cut}
use Rattle.layout_roles.specs.declared.certified.Certified.{Certified}
use Rattle.layout_roles.specs.Runs.{runs, run_lines}

-- a word after one space
abbrev pub word : List ℕ → List ℕ
word w = 32 ∷ w

-- a number in decimal, after one space
abbrev pub number : ℕ → List ℕ
number n = word (decimal n)

-- words with a line feed
abbrev pub line : List ℕ → List ℕ
line words = words ++ 10 ∷ []

-- `p FIRST LAST A B C`
abbrev pub set_line : ℕ → ℕ → NodeSet → List ℕ
set_line first last set = line (codes "p" ++ number first ++ number last ++ flat_map number set)

-- a line for each longest run of partitions with one set
unfoldable pub set_lines : List NodeSet → List ℕ
set_lines sets = run_lines set_line 0 (runs (pointwise nat_eq) sets)

-- the vertex belongs to partition p
abbrev pub is_in_partition : ℕ → Vertex → Bool
is_in_partition p (Up q) = q == p
is_in_partition p (Down q) = q == p
is_in_partition p (Zone q i) = q == p
is_in_partition p _ = false

-- how a cut's line names zone i
abbrev pub zone_word : List Name → ℕ → List ℕ
zone_word names i = codes "z:" ++ get_or names i []

-- the word of a partition's vertex; a zone goes by its name
abbrev pub vertex_word : List Name → Vertex → List ℕ
vertex_word names (Up p) = codes "up"
vertex_word names (Down p) = codes "down"
vertex_word names (Zone p i) = zone_word names i
vertex_word names _ = []

-- the words of a partition's vertices on the source's side, in their order there: up, down, and the zones by name
abbrev pub side_words : List Name → List Vertex → ℕ → List ℕ
side_words names side p = flat_map (λ vertex. word (vertex_word names vertex)) (filter (is_in_partition p) side)

-- `c FIRST LAST` and the words, where there are any
abbrev pub side_line : ℕ → ℕ → List ℕ → List ℕ
side_line first last [] = []
side_line first last (b ∷ words) = line (codes "c" ++ number first ++ number last ++ (b ∷ words))

-- a line for each longest run of partitions with the same vertices on the source's side
unfoldable pub side_lines : List Name → List Vertex → List ℕ
side_lines names side = run_lines side_line 0 (runs (pointwise nat_eq) (map (side_words names side) (range_with_len 0 256)))

-- how a cut's line names a node
abbrev pub node_word : Vertex → List ℕ
node_word (Node n) = number n
node_word _ = []

-- `cut SIZE WEIGHT`
unfoldable pub cut_line : ℕ → ℕ → List ℕ
cut_line size weight = line (codes "cut" ++ number size ++ number weight)

-- `cn` and the nodes on the source's side, in their order there: ascending
unfoldable pub nodes_line : List Vertex → List ℕ
nodes_line side = line (codes "cn" ++ flat_map node_word side)

-- the lines that print a cut
abbrev pub cut_text : List Name → Cut → List ℕ
cut_text names cut = cut_line cut.size cut.weight ++ side_lines names cut.side ++ nodes_line cut.side

-- the lines of a cut of the network of these roles
abbrev pub cut_lines : List Role → Cut → List ℕ
cut_lines roles cut = cut_text (zone_names roles) cut

-- `size S`
unfoldable pub size_line : ℕ → List ℕ
size_line size = line (codes "size" ++ number size)

-- `redundancy R`
unfoldable pub redundancy_line : ℕ → List ℕ
redundancy_line r = line (codes "redundancy" ++ number r)

-- the size, the redundancy, the sets of the partitions, and the cut that shows that no greater size is possible
abbrev pub layout_text : List Role → Certified → List ℕ
layout_text roles certified =
    size_line certified.size ++ redundancy_line certified.r ++ set_lines certified.sets.sets ++ cut_lines roles certified.cut
