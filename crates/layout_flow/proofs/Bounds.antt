-- No flow is greater than a cut.
use Rattle.std.proofs.Common.{◌≡◌, ℕ, zero, suc, ◌+◌, ◌-◌, ◌*◌, ◌<◌, ◌≤◌, Bool, true, false, cond, not, ◌&&◌, ◌==◌, IsTrue, List, [], ◌∷◌, ◌++◌, map, length, get_or, refl, sym, ap, ◌∙◌, subst, inl, inr, arith, eqb-true}
use Rattle.std.specs.List.{sum_by, count_by, flat_map, All, enumerate_from, range_with_len}
use Rattle.std.proofs.lemmas.Bool.{cases_Bool, cases_eq, and_parts, eq-eqb, ne_eqb}
use Rattle.std.proofs.lemmas.Cmp.{nat_eq_equiv}
use Rattle.std.proofs.lemmas.List.Sums.{sum_by-cons, sum_by-append}
use Rattle.std.proofs.lemmas.List.FromFn.{length-enumerate_from}
use Rattle.std.proofs.lemmas.List.Elements.{All-cons, All-append, All-map, All-filter}
use Rattle.layout_roles.specs.declared.role.Role.{Role}
use Rattle.layout_roles.specs.Zones.{nodes_ascend, storage_nodes, zone_names, is_in_zone, nodes_in, zones}
use Rattle.layout_roles.specs.Network.{Edge, edge, zone_edges, partition_edges, node_edge, network_of, partition_vertices, vertices_of}
use Rattle.layout_roles.specs.Cuts.{Side, IsCut, leaves, weight}
use Rattle.layout_flow.specs.Flows.{same_vertex, Flow, carried, out_of, into, IsFlow, value}
use Rattle.layout_roles.specs.declared.vertex.Vertex.{Vertex}
use Rattle.layout_roles.specs.declared.vertex.Vertex.TheVariants.{Source, Up, Down, Zone, Node, Sink}
use Rattle.layout_flow.proofs.Sums.{yes, no, sum_by-plus, sum_by-agree, sum_by-below, sum_by-swap, sum_by-none, sum_by-map, sum_by-flat_map}
use Rattle.layout_flow.proofs.Zones.{count-cons, count_times, count_at, stored_once}
use Rattle.layout_flow.proofs.Printed.{all_parts, zone_at}
use Rattle.layout_flow.proofs.Lies.{All-flat_map}

-- ---- sums over all edges, and over all vertices

-- what a partition's edges add to a sum
abbrev pub part_sum : List Role → ℕ → (Edge → ℕ) → ℕ → ℕ
part_sum roles r g p =
    g (edge Source (Up p) r) + (g (edge Source (Down p) (3 - r)) +
    sum_by (λ z. g (edge (Up p) (Zone p z.0) 1) + (g (edge (Down p) (Zone p z.0) (3 - r)) + sum_by (λ role. g (edge (Zone p z.0) (Node role.node) 1)) z.1)) (enumerate_from 0 (zones roles)))

pub sum_of_edges : (n : ℕ) (roles : List Role) (r size : ℕ) (g : Edge → ℕ) →
    sum_by g (network_of n roles r size) ≡ sum_by (part_sum roles r g) (range_with_len 0 n) + sum_by (λ role. g (node_edge size role)) (storage_nodes roles)
unfolding network_of
sum_of_edges n roles r size g =
    let nodes = storage_nodes roles in
    let ps = range_with_len 0 n in
    let a = sum_by-append g (flat_map (partition_edges roles r) ps) (map (node_edge size) nodes) in
    let b = sum_by-flat_map g (partition_edges roles r) ps in
    let c = sum_by-map g (node_edge size) nodes in
    let d = sum_by-agree (λ p. sum_by g (partition_edges roles r p)) (part_sum roles r g) ps (λ k d h. part (get_or ps k d)) in
    omega arith
  where
    zone : (p : ℕ) (z : ℕ × List Role) → sum_by g (zone_edges r p z) ≡ g (edge (Up p) (Zone p z.0) 1) + (g (edge (Down p) (Zone p z.0) (3 - r)) + sum_by (λ role. g (edge (Zone p z.0) (Node role.node) 1)) z.1)
    zone p z =
        let h : Role → Edge = λ role. edge (Zone p z.0) (Node role.node) 1 in
        let a = sum_by-cons g (edge (Up p) (Zone p z.0) 1) (edge (Down p) (Zone p z.0) (3 - r) ∷ map h z.1) in
        let b = sum_by-cons g (edge (Down p) (Zone p z.0) (3 - r)) (map h z.1) in
        let c = sum_by-map g h z.1 in
        omega arith

    part : (p : ℕ) → sum_by g (partition_edges roles r p) ≡ part_sum roles r g p
    part p =
        let zs = enumerate_from 0 (zones roles) in
        let rest = flat_map (zone_edges r p) zs in
        let a = sum_by-cons g (edge Source (Up p) r) (edge Source (Down p) (3 - r) ∷ rest) in
        let b = sum_by-cons g (edge Source (Down p) (3 - r)) rest in
        let c = sum_by-flat_map g (zone_edges r p) zs in
        let d = sum_by-agree (λ z. sum_by g (zone_edges r p z)) (λ z. g (edge (Up p) (Zone p z.0) 1) + (g (edge (Down p) (Zone p z.0) (3 - r)) + sum_by (λ role. g (edge (Zone p z.0) (Node role.node) 1)) z.1)) zs
        (λ k d h. zone p (get_or zs k d)) in
        omega arith

vertices_sum : (n : ℕ) (roles : List Role) (g : Vertex → ℕ) →
    sum_by g (vertices_of n roles) ≡ (g Source + sum_by (λ p. g (Up p) + (g (Down p) + sum_by (λ z. g (Zone p z.0)) (enumerate_from 0 (zones roles)))) (range_with_len 0 n)) + (sum_by (λ role. g (Node role.node)) (storage_nodes roles) + g Sink)
unfolding vertices_of
vertices_sum n roles g =
    let nodes = storage_nodes roles in
    let ps = range_with_len 0 n in
    let node : Role → Vertex = λ role. Node role.node in
    let front = flat_map (partition_vertices roles) ps in
    let a = sum_by-append g (Source ∷ front) (map node nodes ++ Sink ∷ []) in
    let b = sum_by-cons g Source front in
    let c = sum_by-append g (map node nodes) (Sink ∷ []) in
    let d = sum_by-map g node nodes in
    let e = sum_by-cons g Sink [] in
    let f = sum_by-flat_map g (partition_vertices roles) ps in
    let h = sum_by-agree (λ p. sum_by g (partition_vertices roles p)) (λ p. g (Up p) + (g (Down p) + sum_by (λ z. g (Zone p z.0)) (enumerate_from 0 (zones roles)))) ps (λ k d h. part (get_or ps k d)) in
    omega arith
  where
    part : (p : ℕ) → sum_by g (partition_vertices roles p) ≡ g (Up p) + (g (Down p) + sum_by (λ z. g (Zone p z.0)) (enumerate_from 0 (zones roles)))
    part p =
        let zs = enumerate_from 0 (zones roles) in
        let zone : ℕ × List Role → Vertex = λ z. Zone p z.0 in
        let a = sum_by-cons g (Up p) (Down p ∷ map zone zs) in
        let b = sum_by-cons g (Down p) (map zone zs) in
        let c = sum_by-map g zone zs in
        omega arith

-- ---- each end of an edge is a vertex, once

range_above : (p a m : ℕ) → p < a → count_by (λ q. p == q) (range_with_len a m) ≡ 0
range_above p a zero h = refl
range_above p a (suc m) h =
    let more = count-cons (λ q. p == q) a (range_with_len (a + 1) m) in
    omega (arith, no (p == a) 1 (ne_eqb p a (λ e. omega arith)), range_above p (a + 1) m (omega arith))

range_once : (p a m : ℕ) → a ≤ p → p < a + m → count_by (λ q. p == q) (range_with_len a m) ≡ 1
range_once p a zero low high = absurd (omega arith)
range_once p a (suc m) low high =
    let more = count-cons (λ q. p == q) a (range_with_len (a + 1) m) in
    elim (cases_Bool (p == a)) [
      | inl same ↦
          let e : p ≡ a = eqb-true p a same in
          omega (arith, yes (p == a) 1 same, range_above p (a + 1) m (omega arith))
      | inr apart ↦
          let more_than : a < p = beyond apart in
          omega (arith, no (p == a) 1 apart, range_once p (a + 1) m (omega arith) (omega arith))
    ]
  where
    beyond : (p == a) ≡ false → a < p
    beyond apart = elim (cases_eq p a) [
      | inl e ↦ let t = eq-eqb p a e in cc
      | inr ne ↦ omega arith
    ]

places_once : (i a : ℕ) (zs : List (List Role)) → a ≤ i → i < a + length zs → count_by (λ z. i == z.0) (enumerate_from a zs) ≡ 1
places_once i a zs low high = count_places a zs ∙ range_once i a (length zs) low high
  where
    count_places : (a : ℕ) (zs : List (List Role)) → count_by (λ z. i == z.0) (enumerate_from a zs) ≡ count_by (λ q. i == q) (range_with_len a (length zs))
    count_places a [] = refl
    count_places a (z ∷ zs) =
        let f : ℕ × List Role → ℕ = λ z. cond (i == z.0) 1 0 in
        let x = sum_by-cons f (a, z) (enumerate_from (a + 1) zs) in
        let y = count-cons (λ q. i == q) a (range_with_len (a + 1) (length zs)) in
        omega (arith, count_places (a + 1) zs)

abbrev IsOnce : ℕ → List Role → Vertex → Type 0
IsOnce n roles w = count_by (same_vertex w) (vertices_of n roles) ≡ 1

source_once : (n : ℕ) (roles : List Role) → IsOnce n roles Source
source_once n roles =
    let a = vertices_sum n roles (λ v. cond (same_vertex Source v) 1 0) in
    let b = sum_by-none (storage_nodes roles) in
    let c = sum_by-agree (λ (p : ℕ). 0 + (0 + sum_by (λ (z : ℕ × List Role). 0) (enumerate_from 0 (zones roles)))) (λ p. 0) (range_with_len 0 n) (λ k d h. let z = sum_by-none (enumerate_from 0 (zones roles)) in omega arith) in
    let d = sum_by-none (range_with_len 0 n) in
    omega arith

sink_once : (n : ℕ) (roles : List Role) → IsOnce n roles Sink
sink_once n roles =
    let a = vertices_sum n roles (λ v. cond (same_vertex Sink v) 1 0) in
    let b = sum_by-none (storage_nodes roles) in
    let c = sum_by-agree (λ (p : ℕ). 0 + (0 + sum_by (λ (z : ℕ × List Role). 0) (enumerate_from 0 (zones roles)))) (λ p. 0) (range_with_len 0 n) (λ k d h. let z = sum_by-none (enumerate_from 0 (zones roles)) in omega arith) in
    let d = sum_by-none (range_with_len 0 n) in
    omega arith

up_once : (n : ℕ) (roles : List Role) (p : ℕ) → p < n → IsOnce n roles (Up p)
up_once n roles p less =
    let a = vertices_sum n roles (λ v. cond (same_vertex (Up p) v) 1 0) in
    let b = sum_by-none (storage_nodes roles) in
    let c = sum_by-agree (λ q. cond (p == q) 1 0 + (0 + sum_by (λ (z : ℕ × List Role). 0) (enumerate_from 0 (zones roles)))) (λ q. cond (p == q) 1 0) (range_with_len 0 n) (λ k d h. let z = sum_by-none (enumerate_from 0 (zones roles)) in omega arith) in
    let d = range_once p 0 n (omega arith) (omega arith) in
    omega arith

down_once : (n : ℕ) (roles : List Role) (p : ℕ) → p < n → IsOnce n roles (Down p)
down_once n roles p less =
    let a = vertices_sum n roles (λ v. cond (same_vertex (Down p) v) 1 0) in
    let b = sum_by-none (storage_nodes roles) in
    let c = sum_by-agree (λ q. 0 + (cond (p == q) 1 0 + sum_by (λ (z : ℕ × List Role). 0) (enumerate_from 0 (zones roles)))) (λ q. cond (p == q) 1 0) (range_with_len 0 n) (λ k d h. let z = sum_by-none (enumerate_from 0 (zones roles)) in omega arith) in
    let d = range_once p 0 n (omega arith) (omega arith) in
    omega arith

zone_vertex_once : (n : ℕ) (roles : List Role) (p i : ℕ) → p < n → i < length (zones roles) → IsOnce n roles (Zone p i)
zone_vertex_once n roles p i less inside =
    let zs = enumerate_from 0 (zones roles) in
    let a = vertices_sum n roles (λ v. cond (same_vertex (Zone p i) v) 1 0) in
    let b = sum_by-none (storage_nodes roles) in
    let e = places_once i 0 (zones roles) (omega arith) (omega arith) in
    let c = sum_by-agree (λ q. 0 + (0 + sum_by (λ (z : ℕ × List Role). cond ((p == q) && (i == z.0)) 1 0) zs)) (λ q. cond (p == q) 1 0) (range_with_len 0 n)
    (λ k d h. let q = get_or (range_with_len 0 n) k d in let one = at (p == q) e in omega arith) in
    let d = range_once p 0 n (omega arith) (omega arith) in
    omega arith
  where
    at : (t : Bool) → count_by (λ z. i == z.0) (enumerate_from 0 (zones roles)) ≡ 1 → sum_by (λ (z : ℕ × List Role). cond (t && (i == z.0)) 1 0) (enumerate_from 0 (zones roles)) ≡ cond t 1 0
    at true e = e
    at false e = sum_by-none (enumerate_from 0 (zones roles))

node_vertex_once : (n : ℕ) (roles : List Role) → IsTrue (nodes_ascend roles) → All (λ role. IsOnce n roles (Node role.node)) (storage_nodes roles)
node_vertex_once n roles ascend k d h =
    let nodes = storage_nodes roles in
    let node = (get_or nodes k d).node in
    let a = vertices_sum n roles (λ v. cond (same_vertex (Node node) v) 1 0) in
    let c = sum_by-agree (λ (p : ℕ). 0 + (0 + sum_by (λ (z : ℕ × List Role). 0) (enumerate_from 0 (zones roles)))) (λ p. 0) (range_with_len 0 n) (λ k d h. let z = sum_by-none (enumerate_from 0 (zones roles)) in omega arith) in
    let e = sum_by-none (range_with_len 0 n) in
    let some = count_at (λ role. role.node == node) nodes k d h (eq-eqb node node refl) in
    let once = stored_once node roles ascend in
    let flip = sum_by-agree (λ role. cond (node == role.node) 1 0) (λ role. cond (role.node == node) 1 0) nodes (λ j e g. ap (λ b. cond b 1 0) (nat_eq_equiv.symm node (get_or nodes j e).node)) in
    omega arith

-- both ends of an edge
record Ends (n : ℕ) (roles : List Role) (e : Edge) : Type 0 where
  from_once : IsOnce n roles e.from
  to_once : IsOnce n roles e.to

in_zones : (roles : List Role) (P : Role → Type 0) → All P (storage_nodes roles) → (k : ℕ) → k < length (zones roles) → All P (get_or (zones roles) k [])
in_zones roles P all k h =
    All-map (λ zone. All P zone) (nodes_in roles) (zone_names roles)
    (λ j d g. All-filter (is_in_zone (get_or (zone_names roles) j d)) P (storage_nodes roles) all) k [] h

ends_once : (n : ℕ) (roles : List Role) (r size : ℕ) → IsTrue (nodes_ascend roles) → All (Ends n roles) (network_of n roles r size)
unfolding network_of
ends_once n roles r size ascend =
    let nodes = storage_nodes roles in
    let node = node_vertex_once n roles ascend in
    All-append (Ends n roles) (flat_map (partition_edges roles r) (range_with_len 0 n)) (map (node_edge size) nodes)
    (All-flat_map (Ends n roles) (partition_edges roles r) (range_with_len 0 n) (all_parts n (λ p. All (Ends n roles) (partition_edges roles r p)) part))
    (All-map (Ends n roles) (node_edge size) nodes (λ k d h. record { from_once = node k d h; to_once = sink_once n roles }))
  where
    zone : (p : ℕ) → p < n → (k : ℕ) → k < length (zones roles) → All (Ends n roles) (zone_edges r p (k, get_or (zones roles) k []))
    zone p less k inside =
        let there = zone_vertex_once n roles p k less inside in
        let members = get_or (zones roles) k [] in
        let to_node : Role → Edge = λ role. edge (Zone p k) (Node role.node) 1 in
        All-cons (Ends n roles) (edge (Up p) (Zone p k) 1) (edge (Down p) (Zone p k) (3 - r) ∷ map to_node members) (record { from_once = up_once n roles p less; to_once = there })
        (All-cons (Ends n roles) (edge (Down p) (Zone p k) (3 - r)) (map to_node members) (record { from_once = down_once n roles p less; to_once = there })
        (All-map (Ends n roles) to_node members (λ j d h. record { from_once = there; to_once = in_zones roles (λ role. IsOnce n roles (Node role.node)) (node_vertex_once n roles ascend) k inside j d h })))

    part : (p : ℕ) → p < n → All (Ends n roles) (partition_edges roles r p)
    part p less =
        let zs = enumerate_from 0 (zones roles) in
        let rest = flat_map (zone_edges r p) zs in
        All-cons (Ends n roles) (edge Source (Up p) r) (edge Source (Down p) (3 - r) ∷ rest) (record { from_once = source_once n roles; to_once = up_once n roles p less })
        (All-cons (Ends n roles) (edge Source (Down p) (3 - r)) rest (record { from_once = source_once n roles; to_once = down_once n roles p less })
        (All-flat_map (Ends n roles) (zone_edges r p) zs
        (λ k d h.
        let inside : k < length (zones roles) = omega (arith, length-enumerate_from 0 (zones roles)) in
        subst (λ z. All (Ends n roles) (zone_edges r p z)) (sym (zone_at roles k d inside)) (zone p less k inside))))

-- ---- a flow against a cut

pub same_true : (v w : Vertex) → same_vertex v w ≡ true → v ≡ w
same_true Source Source e = refl
same_true (Up p) (Up q) e = ap Up (eqb-true p q e)
same_true (Down p) (Down q) e = ap Down (eqb-true p q e)
same_true (Zone p i) (Zone q j) e = let parts = and_parts (p == q) (i == j) e in (λ k. Zone (eqb-true p q parts.0 k) (eqb-true i j parts.1 k))
same_true (Node m) (Node n) e = ap Node (eqb-true m n e)
same_true Sink Sink e = refl
same_true _ _ e = cc

-- the sum over vertices of what one of them counts
pick : (w : Vertex) (g : Vertex → ℕ) (vs : List Vertex) → count_by (same_vertex w) vs ≡ 1 → sum_by (λ v. cond (same_vertex w v) (g v) 0) vs ≡ g w
pick w g vs once =
    let a = sum_by-agree (λ v. cond (same_vertex w v) (g v) 0) (λ v. cond (same_vertex w v) (g w) 0) vs (λ k d h. at (get_or vs k d)) in
    let b = count_times (same_vertex w) (g w) vs in
    let c = ap (λ m. m * g w) once in
    omega arith
  where
    at : (v : Vertex) → cond (same_vertex w v) (g v) 0 ≡ cond (same_vertex w v) (g w) 0
    at v = elim (cases_Bool (same_vertex w v)) [
      | inl t ↦ ap (λ x. cond (same_vertex w v) (g x) 0) (sym (same_true w v t))
      | inr f ↦ no (same_vertex w v) (g v) f ∙ sym (no (same_vertex w v) (g w) f)
    ]

pub cond_sum : {X : Type 0} (b : Bool) (g : X → ℕ) (xs : List X) → cond b (sum_by g xs) 0 ≡ sum_by (λ x. cond b (g x) 0) xs
cond_sum true g xs = refl
cond_sum false g xs = sym (sum_by-none xs)

-- what the vertices of a side count is what the edges there count
by_vertices : (end : Edge → Vertex) (side : Side) (f : Edge → ℕ) (vs : List Vertex) (es : List Edge) → All (λ e. count_by (same_vertex (end e)) vs ≡ 1) es →
    sum_by (λ v. cond (side v) (sum_by (λ e. cond (same_vertex (end e) v) (f e) 0) es) 0) vs ≡ sum_by (λ e. cond (side (end e)) (f e) 0) es
by_vertices end side f vs es once =
    sum_by-agree (λ v. cond (side v) (sum_by (λ e. cond (same_vertex (end e) v) (f e) 0) es) 0) (λ v. sum_by (λ e. cond (side v) (cond (same_vertex (end e) v) (f e) 0) 0) es) vs
    (λ k d h. cond_sum (side (get_or vs k d)) (λ e. cond (same_vertex (end e) (get_or vs k d)) (f e) 0) es)
    ∙ sum_by-swap (λ (v : Vertex) (e : Edge). cond (side v) (cond (same_vertex (end e) v) (f e) 0) 0) vs es
    ∙ sum_by-agree (λ e. sum_by (λ v. cond (side v) (cond (same_vertex (end e) v) (f e) 0) 0) vs) (λ e. cond (side (end e)) (f e) 0) es
    (λ k d h.
    let e = get_or es k d in
    sum_by-agree (λ v. cond (side v) (cond (same_vertex (end e) v) (f e) 0) 0) (λ v. cond (same_vertex (end e) v) (cond (side v) (f e) 0) 0) vs
    (λ j u g. both (side (get_or vs j u)) (same_vertex (end e) (get_or vs j u)) (f e))
    ∙ pick (end e) (λ v. cond (side v) (f e) 0) vs (once k d h))
  where
    both : (a b : Bool) (m : ℕ) → cond a (cond b m 0) 0 ≡ cond b (cond a m 0) 0
    both true true m = refl
    both true false m = refl
    both false true m = refl
    both false false m = refl

nothing_to_source : (n : ℕ) (roles : List Role) (r size : ℕ) (flow : Flow) → into (network_of n roles r size) flow Source ≡ 0
nothing_to_source n roles r size flow =
    let zs = enumerate_from 0 (zones roles) in
    let ps = range_with_len 0 n in
    let a = sum_of_edges n roles r size (λ e. cond (same_vertex e.to Source) (carried flow e) 0) in
    let b = sum_by-none (storage_nodes roles) in
    let c = sum_by-agree (λ (p : ℕ). 0 + (0 + sum_by (λ (z : ℕ × List Role). 0 + (0 + sum_by (λ (role : Role). 0) z.1)) zs)) (λ p. 0) ps
    (λ k d h.
    let e = sum_by-agree (λ (z : ℕ × List Role). 0 + (0 + sum_by (λ (role : Role). 0) z.1)) (λ z. 0) zs (λ j u g. let z = sum_by-none (get_or zs j u).1 in omega arith) in
    let z = sum_by-none zs in
    omega arith) in
    let d = sum_by-none ps in
    omega arith

pub flow_below_cut : (n : ℕ) (roles : List Role) (r size : ℕ) → IsTrue (nodes_ascend roles) → (flow : Flow) → IsFlow (network_of n roles r size) flow →
    (side : Side) → IsCut side → value (network_of n roles r size) flow ≤ weight (network_of n roles r size) side
flow_below_cut n roles r size ascend flow is_flow side cut =
    let es = network_of n roles r size in
    let vs = vertices_of n roles in
    let f = carried flow in
    let ends = ends_once n roles r size ascend in
    let a = by_vertices (λ e. e.from) side f vs es (λ k d h. (ends k d h).from_once) in
    let b = by_vertices (λ e. e.to) side f vs es (λ k d h. (ends k d h).to_once) in
    let v = pick Source (λ v. value es flow) vs (source_once n roles) in
    let c = sum_by-below (λ v. cond (same_vertex Source v) (value es flow) 0 + cond (side v) (into es flow v) 0) (λ v. cond (side v) (out_of es flow v) 0) vs
    (λ k d h. at (get_or vs k d)) in
    let p = sum_by-plus (λ v. cond (same_vertex Source v) (value es flow) 0) (λ v. cond (side v) (into es flow v) 0) vs in
    let e = sum_by-below (λ e. cond (side e.from) (f e) 0) (λ e. cond (leaves side e) e.capacity 0 + cond (side e.to) (f e) 0) es
    (λ k d h. let e = get_or es k d in crosses (side e.from) (side e.to) (f e) e.capacity (is_flow.within k d h)) in
    let q = sum_by-plus (λ e. cond (leaves side e) e.capacity 0) (λ e. cond (side e.to) (f e) 0) es in
    omega arith
  where
    crosses : (s t : Bool) (m c : ℕ) → m ≤ c → cond s m 0 ≤ cond (s && not t) c 0 + cond t m 0
    crosses true true m c h = omega arith
    crosses true false m c h = omega arith
    crosses false t m c h = omega arith

    equal : (b : Bool) (x y : ℕ) → x ≡ y → 0 + cond b x 0 ≤ cond b y 0
    equal true x y e = omega arith
    equal false x y e = omega arith

    at : (v : Vertex) → cond (same_vertex Source v) (value (network_of n roles r size) flow) 0 + cond (side v) (into (network_of n roles r size) flow v) 0 ≤ cond (side v) (out_of (network_of n roles r size) flow v) 0
    at Source =
        let es = network_of n roles r size in
        let none = nothing_to_source n roles r size flow in
        let x = yes (side Source) (into es flow Source) cut.source in
        let y = yes (side Source) (out_of es flow Source) cut.source in
        omega arith
    at (Up p) = equal (side (Up p)) (into (network_of n roles r size) flow (Up p)) (out_of (network_of n roles r size) flow (Up p)) (is_flow.kept (Up p) refl refl)
    at (Down p) = equal (side (Down p)) (into (network_of n roles r size) flow (Down p)) (out_of (network_of n roles r size) flow (Down p)) (is_flow.kept (Down p) refl refl)
    at (Zone p i) = equal (side (Zone p i)) (into (network_of n roles r size) flow (Zone p i)) (out_of (network_of n roles r size) flow (Zone p i)) (is_flow.kept (Zone p i) refl refl)
    at (Node m) = equal (side (Node m)) (into (network_of n roles r size) flow (Node m)) (out_of (network_of n roles r size) flow (Node m)) (is_flow.kept (Node m) refl refl)
    at Sink = let x = no (side Sink) (into (network_of n roles r size) flow Sink) cut.sink in omega arith
