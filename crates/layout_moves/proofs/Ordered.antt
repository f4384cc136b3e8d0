-- A listing has each vertex but the source once, in order.
use Rattle.std.proofs.Common.{◌≡◌, ℕ, List, [], ◌∷◌, ◌++◌, map, refl, sym, ap, ap₂, ◌∙◌}
use Rattle.std.specs.Prelude.{ℤ}
use Rattle.std.specs.List.{flat_map, range_with_len, enumerate_from}
use Rattle.std.proofs.lemmas.List.{map-append}
use Rattle.std.proofs.lemmas.List.Concat.{flat_map-cons}
use Rattle.layout_roles.specs.declared.role.Role.{Role}
use Rattle.layout_roles.specs.Zones.{storage_nodes, zones}
use Rattle.layout_roles.specs.Network.{partition_vertices, vertices_of}
use Rattle.layout_roles.specs.declared.vertex.Vertex.{Vertex}
use Rattle.layout_roles.specs.declared.vertex.Vertex.TheVariants.{Source, Up, Down, Zone, Node, Sink}
use Rattle.layout_moves.specs.Moves.{Potentials}
use Rattle.layout_moves.specs.Listing.{with_potential, partition_listing, node_listing, listing}

abbrev vertex_of : Vertex × ℤ → Vertex
vertex_of entry = entry.0

firsts : {X : Type 0} (potential : Potentials) (f : X → Vertex) (xs : List X) → map vertex_of (map (λ x. with_potential potential (f x)) xs) ≡ map f xs
firsts potential f [] = refl
firsts potential f (x ∷ xs) = ap (λ (vs : List Vertex). f x ∷ vs) (firsts potential f xs)

of_partition : (potential : Potentials) (roles : List Role) (p : ℕ) → map vertex_of (partition_listing potential roles p) ≡ partition_vertices roles p
of_partition potential roles p = ap (λ (vs : List Vertex). Up p ∷ Down p ∷ vs) (firsts potential (λ (zone : ℕ × List Role). Zone p zone.0) (enumerate_from 0 (zones roles)))

of_partitions : (potential : Potentials) (roles : List Role) (ps : List ℕ) → map vertex_of (flat_map (partition_listing potential roles) ps) ≡ flat_map (partition_vertices roles) ps
of_partitions potential roles [] = refl
of_partitions potential roles (p ∷ ps) =
    ap (map vertex_of) (flat_map-cons (partition_listing potential roles) p ps)
    ∙ map-append vertex_of (partition_listing potential roles p) (flat_map (partition_listing potential roles) ps)
    ∙ ap₂ (λ (a b : List Vertex). a ++ b) (of_partition potential roles p) (of_partitions potential roles ps)
    ∙ sym (flat_map-cons (partition_vertices roles) p ps)

pub in_vertex_order : (n : ℕ) (potential : Potentials) (roles : List Role) → Source ∷ map (λ entry. entry.0) (listing n potential roles) ≡ vertices_of n roles
unfolding listing vertices_of
in_vertex_order n potential roles =
    let ps = range_with_len 0 n in
    let rest = node_listing potential roles ++ with_potential potential Sink ∷ [] in
    let nodes = map-append vertex_of (node_listing potential roles) (with_potential potential Sink ∷ []) ∙ ap (λ (vs : List Vertex). vs ++ Sink ∷ []) (firsts potential (λ (role : Role). Node role.node) (storage_nodes roles)) in
    ap (λ (vs : List Vertex). Source ∷ vs)
    (map-append vertex_of (flat_map (partition_listing potential roles) ps) rest ∙ ap₂ (λ (a b : List Vertex). a ++ b) (of_partitions potential roles ps) nodes)
