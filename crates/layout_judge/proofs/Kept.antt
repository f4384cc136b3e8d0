-- What is kept of the network's vertices, one more at a time.
use Rattle.std.proofs.Common.{◌≡◌, ℕ, suc, ◌+◌, ◌<◌, List, [], ◌∷◌, ◌++◌, map, length, take, get_or, sym, ap, ◌∙◌, arith, append_assoc}
use Rattle.std.specs.List.{filter, flat_map, enumerate_from, range_with_len}
use Rattle.std.proofs.lemmas.List.{append-nil, map-append, take_more}
use Rattle.std.proofs.lemmas.List.Concat.{flat_map-append}
use Rattle.std.proofs.lemmas.List.Elements.{filter-append}
use Rattle.std.proofs.lemmas.List.FromFn.{length-enumerate_from, get_or-enumerate_from}
use Rattle.crdt_core.proofs.Ranges.{range_more}
use Rattle.layout_roles.specs.declared.role.Role.{Role}
use Rattle.layout_roles.specs.declared.vertex.Vertex.{Vertex}
use Rattle.layout_roles.specs.declared.vertex.Vertex.TheVariants.{Source, Zone, Sink}
use Rattle.layout_roles.specs.Zones.{zones}
use Rattle.layout_roles.specs.Fits.{partitions}
use Rattle.layout_roles.specs.Network.{vertices_of, vertices}
use Rattle.layout_roles.specs.Cuts.{Side}
use Rattle.side_model.specs.Sides.{set_of}
use Rattle.layout_judge.specs.Places.{all_fronts, node_vertices}

-- what is kept of two lists, one after the other
pub kept_both : (side : Side) (start old new xs ys : List Vertex) → old ≡ start ++ filter side xs → new ≡ old ++ filter side ys → new ≡ start ++ filter side (xs ++ ys)
kept_both side start old new xs ys before more =
    more ∙ ap (λ (s : List Vertex). s ++ filter side ys) before
    ∙ append_assoc start (filter side xs) (filter side ys)
    ∙ ap (λ (s : List Vertex). start ++ s) (sym (filter-append side xs ys))

-- a zone more
pub zones_more : (p : ℕ) (zs : List (List Role)) (i : ℕ) → i < length zs →
    map (λ z. Zone p z.0) (take (i + 1) (enumerate_from 0 zs)) ≡ map (λ z. Zone p z.0) (take i (enumerate_from 0 zs)) ++ Zone p i ∷ []
zones_more p zs i inside =
    let xs = enumerate_from 0 zs in
    let name : ℕ × List Role → Vertex = λ z. Zone p z.0 in
    let from_start : 0 + i ≡ i = omega arith in
    let at : name (get_or xs i (i, [])) ≡ Zone p i = ap name (get_or-enumerate_from 0 zs i (i, []) inside) ∙ ap (Zone p) from_start in
    ap (map name) (take_more xs i (i, []) (omega (arith, length-enumerate_from 0 zs)))
    ∙ map-append name (take i xs) (get_or xs i (i, []) ∷ [])
    ∙ ap (λ v. map name (take i xs) ++ v ∷ []) at

-- a partition more
pub parts_more : (f : ℕ → List Vertex) (p : ℕ) → flat_map f (range_with_len 0 (p + 1)) ≡ flat_map f (range_with_len 0 p) ++ f p
parts_more f p =
    let one : p + 1 ≡ suc p = omega arith in
    let from_start : 0 + p ≡ p = omega arith in
    ap (λ m. flat_map f (range_with_len 0 m)) one
    ∙ ap (flat_map f) (range_more 0 p ∙ ap (λ m. range_with_len 0 p ++ m ∷ []) from_start)
    ∙ flat_map-append f (range_with_len 0 p) (p ∷ [])
    ∙ ap (λ (xs : List Vertex). flat_map f (range_with_len 0 p) ++ xs) (append-nil (f p))

-- the source, the partitions, the nodes and the sink are all
pub all_kept : (marked given : List Vertex) (roles listed : List Role) (zs : List (List Role)) (start first second third all : List Vertex) → marked ≡ given → zs ≡ zones roles → listed ≡ roles →
    start ≡ [] → first ≡ start ++ filter (set_of marked) (Source ∷ []) → second ≡ first ++ filter (set_of marked) (all_fronts zs) →
    third ≡ second ++ filter (set_of marked) (node_vertices listed) → all ≡ third ++ filter (set_of marked) (Sink ∷ []) → all ≡ filter (set_of given) (vertices roles)
unfolding vertices_of partitions
all_kept marked given roles listed zs start first second third all same groups list none source parts ends sink =
    let side = set_of marked in
    let front = all_fronts zs in
    let two = kept_both side [] first second (Source ∷ []) front (source ∙ ap (λ (s : List Vertex). s ++ filter side (Source ∷ [])) none) parts in
    let three = kept_both side [] second third (Source ∷ front) (node_vertices listed) two ends in
    let four = kept_both side [] third all ((Source ∷ front) ++ node_vertices listed) (Sink ∷ []) three sink in
    four
    ∙ ap (filter side) (append_assoc (Source ∷ front) (node_vertices listed) (Sink ∷ []))
    ∙ (λ i. filter (set_of (same i)) ((Source ∷ all_fronts (groups i)) ++ (node_vertices (list i) ++ Sink ∷ [])))
