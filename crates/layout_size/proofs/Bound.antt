-- Where 64 nodes or fewer keep 768 copies, one of them keeps 12.
use Rattle.std.proofs.Common.{ℕ, ◌-◌, ◌*◌, ◌/◌, ◌<◌, ◌≤◌, true, false, cond, IsTrue, List, [], ◌∷◌, map, get_or, refl, ap, arith, le_refl, inl, inr}
use Rattle.std.specs.List.{flat_map, list_all, All, range_with_len, enumerate_from}
use Rattle.std.proofs.Math.Nat.{mul-le-mul_right, div-mul-le_self}
use Rattle.std.proofs.lemmas.Bool.{cases_lt}
use Rattle.std.proofs.lemmas.List.Sums.{sum_by-append, sum_by-le}
use Rattle.std.proofs.lemmas.List.{length-map}
use Rattle.std.proofs.lemmas.List.Elements.{All-nil, All-cons, All-append, All-map, All-filter}
use Rattle.layout_roles.specs.declared.role.Role.{Role}
use Rattle.layout_roles.specs.Zones.{nodes_ascend, is_numbered, is_storage, capacity_of, storage_nodes, zones}
use Rattle.layout_roles.specs.Fits.{partitions, NoneFits}
use Rattle.layout_flow.proofs.Few.{few_nodes}
use Rattle.layout_roles.specs.Network.{Edge, edge, zone_edges, partition_edges, node_edge, network_of, network}
use Rattle.layout_roles.specs.Cuts.{Side, leaves, weight, IsCut}
use Rattle.layout_roles.specs.declared.vertex.Vertex.TheVariants.{Source, Up, Down, Zone, Node, Sink}

-- all vertices but the sink
abbrev pub all_but_sink : Side
all_but_sink Source = true
all_but_sink (Up p) = true
all_but_sink (Down p) = true
all_but_sink (Zone p i) = true
all_but_sink (Node n) = true
all_but_sink Sink = false

all_but_sink_is_cut : IsCut all_but_sink
all_but_sink_is_cut = record { source = refl; sink = refl }

abbrev crossing : Edge → ℕ
crossing e = cond (leaves all_but_sink e) e.capacity 0

abbrev IsInside : Edge → Type 0
IsInside e = crossing e ≤ 0

all_flat : {X Y : Type 0} (P : Y → Type 0) (f : X → List Y) → ((x : X) → All P (f x)) → (xs : List X) → All P (flat_map f xs)
all_flat P f h [] = All-nil P
all_flat P f h (x ∷ xs) = All-append P (f x) (flat_map f xs) (h x) (all_flat P f h xs)

zone_inside : (r p : ℕ) (zone : ℕ × List Role) → All IsInside (zone_edges r p zone)
zone_inside r p zone =
    let to_node : Role → Edge = λ role. edge (Zone p zone.0) (Node role.node) 1 in
    let nodes : All IsInside (map to_node zone.1) = All-map IsInside to_node zone.1 (λ k d h. le_refl 0) in
    All-cons IsInside (edge (Up p) (Zone p zone.0) 1) (edge (Down p) (Zone p zone.0) (3 - r) ∷ map to_node zone.1) (le_refl 0)
    (All-cons IsInside (edge (Down p) (Zone p zone.0) (3 - r)) (map to_node zone.1) (le_refl 0) nodes)

part_inside : (roles : List Role) (r p : ℕ) → All IsInside (partition_edges roles r p)
part_inside roles r p =
    let rest = flat_map (zone_edges r p) (enumerate_from 0 (zones roles)) in
    All-cons IsInside (edge Source (Up p) r) (edge Source (Down p) (3 - r) ∷ rest) (le_refl 0)
    (All-cons IsInside (edge Source (Down p) (3 - r)) rest (le_refl 0) (all_flat IsInside (zone_edges r p) (zone_inside r p) (enumerate_from 0 (zones roles))))

few_copies : (capacity greatest size : ℕ) → capacity ≤ greatest → greatest / 12 < size → capacity / size ≤ 11
few_copies capacity greatest size below above =
    let a = div-mul-le_self capacity size in
    elim (cases_lt (capacity / size) 12) [
      | inl few ↦ omega arith
      | inr many ↦ let b = mul-le-mul_right size many in omega arith
    ]

-- the cut of all but the sink weighs what the nodes have room for
light : (count : ℕ) (roles : List Role) (r size greatest : ℕ) → IsTrue (nodes_ascend roles) → IsTrue (list_all is_numbered roles) → All (λ role. capacity_of role ≤ greatest) roles → greatest / 12 < size →
    weight (network_of count roles r size) all_but_sink < 768
unfolding network_of
light count roles r size greatest ascend numbered capacities above =
    let nodes = storage_nodes roles in
    let inner = flat_map (partition_edges roles r) (range_with_len 0 count) in
    let a = sum_by-append crossing inner (map (node_edge size) nodes) in
    let b = sum_by-le crossing 0 inner (all_flat IsInside (partition_edges roles r) (part_inside roles r) (range_with_len 0 count)) in
    let each : All (λ role. capacity_of role ≤ greatest) nodes = All-filter is_storage (λ role. capacity_of role ≤ greatest) roles capacities in
    let outer : All (λ e. crossing e ≤ 11) (map (node_edge size) nodes) =
    All-map (λ e. crossing e ≤ 11) (node_edge size) nodes (λ k d h. few_copies (capacity_of (get_or nodes k d)) greatest size (each k d h) above) in
    let c = sum_by-le crossing 11 (map (node_edge size) nodes) outer in
    let d = length-map nodes (node_edge size) in
    let e = few_nodes roles ascend numbered in
    let f = mul-le-mul_right 11 e in
    omega (arith, ap (λ n. n * 11) d)

pub none_above : (roles : List Role) (r size greatest : ℕ) → IsTrue (nodes_ascend roles) → IsTrue (list_all is_numbered roles) → All (λ role. capacity_of role ≤ greatest) roles → greatest / 12 < size →
    ((side : Side) → IsCut side → weight (network roles r size) side < 768 → NoneFits roles r size) → NoneFits roles r size
none_above roles r size greatest ascend numbered capacities above law =
    law all_but_sink all_but_sink_is_cut (light partitions roles r size greatest ascend numbered capacities above)
