-- What a cut weighs, edge by edge.
use Rattle.std.proofs.Common.{◌≡◌, ℕ, ◌+◌, ◌-◌, ◌<◌, cond, List, ◌∷◌, map, length, take, get_or, sym, ap, ◌∙◌, arith}
use Rattle.std.specs.List.{sum_by, flat_map, enumerate_from, range_with_len}
use Rattle.std.proofs.lemmas.List.Sums.{sum_by-cons, sum_by-append, sum_by_more}
use Rattle.std.proofs.lemmas.List.FromFn.{sum_by-map-range_with_len_more, length-enumerate_from, get_or-enumerate_from}
use Rattle.layout_roles.specs.declared.role.Role.{Role}
use Rattle.layout_roles.specs.declared.vertex.Vertex.{Vertex}
use Rattle.layout_roles.specs.declared.vertex.Vertex.TheVariants.{Source, Up, Down, Zone, Node}
use Rattle.layout_roles.specs.Zones.{is_storage, storage_nodes, zones}
use Rattle.layout_roles.specs.Fits.{partitions}
use Rattle.layout_roles.specs.Network.{Edge, edge, zone_edges, node_edge, network_of, network}
use Rattle.layout_roles.specs.Cuts.{Side, leaves, weight}
use Rattle.layout_flow.proofs.Sums.{sum_by-map, sum_by-flat_map, sum_by-filter}
use Rattle.side_model.specs.Sides.{set_of}
use Rattle.layout_judge.specs.Weights.{at_most, front_edges}

-- what one edge adds
abbrev pub adds : Side → Edge → ℕ
adds side e = cond (leaves side e) e.capacity 0

-- one more in a sum that stops
pub stops : (total a b : ℕ) → total ≡ at_most a → at_most (total + b) ≡ at_most (a + b)
stops total a b e = rw e (omega arith)

-- ---- sums that stop, one more at a time

-- two sums that stop
pub stops_both : (total other a b : ℕ) → total ≡ at_most a → other ≡ at_most b → at_most (total + other) ≡ at_most (a + b)
stops_both total other a b e f = rw (e, f) (omega arith)

module _ {X : Type 0} (f : X → ℕ) (xs : List X) (i : ℕ) (x : X) (inside : i < length xs) (at : x ≡ get_or xs i x) where
  pub stops_more : (base total other : ℕ) → total ≡ at_most (base + sum_by f (take i xs)) → other ≡ at_most (f x) → at_most (total + other) ≡ at_most (base + sum_by f (take (i + 1) xs))
  stops_more base total other e g =
      let more = sum_by_more f xs i x inside in
      let same : f (get_or xs i x) ≡ f x = ap f (sym at) in
      rw (e, g) (omega arith)

module _ (side : Side) where
  -- ---- a zone in a partition
  abbrev pub zone_front : ℕ → ℕ → ℕ → ℕ
  zone_front r p number = adds side (edge (Up p) (Zone p number) 1) + adds side (edge (Down p) (Zone p number) (3 - r))

  abbrev pub to_node : ℕ → ℕ → Role → ℕ
  to_node p number role = adds side (edge (Zone p number) (Node role.node) 1)

  pub zone_is : (r p number : ℕ) (zone : List Role) → weight (zone_edges r p (number, zone)) side ≡ zone_front r p number + sum_by (to_node p number) zone
  zone_is r p number zone =
      let F = adds side in
      let g : Role → Edge = λ role. edge (Zone p number) (Node role.node) 1 in
      let a = sum_by-cons F (edge (Up p) (Zone p number) 1) (edge (Down p) (Zone p number) (3 - r) ∷ map g zone) in
      let b = sum_by-cons F (edge (Down p) (Zone p number) (3 - r)) (map g zone) in
      let c = sum_by-map F g zone in
      omega arith

  -- ---- a partition
  abbrev pub front : ℕ → ℕ → ℕ
  front r p = adds side (edge Source (Up p) r) + adds side (edge Source (Down p) (3 - r))

  abbrev pub zone_weighs : ℕ → ℕ → ℕ × List Role → ℕ
  zone_weighs r p zone = weight (zone_edges r p zone) side

  pub front_is : (r p : ℕ) (zs : List (List Role)) → weight (front_edges r p zs) side ≡ front r p + sum_by (zone_weighs r p) (enumerate_from 0 zs)
  front_is r p zs =
      let F = adds side in
      let rest = flat_map (zone_edges r p) (enumerate_from 0 zs) in
      let a = sum_by-cons F (edge Source (Up p) r) (edge Source (Down p) (3 - r) ∷ rest) in
      let b = sum_by-cons F (edge Source (Down p) (3 - r)) rest in
      let c = sum_by-flat_map F (zone_edges r p) (enumerate_from 0 zs) in
      omega arith

  pub zone_more : (r p : ℕ) (zs : List (List Role)) (i : ℕ) (zone : List Role) → i < length zs → zone ≡ get_or zs i zone → (total other : ℕ) →
      total ≡ at_most (front r p + sum_by (zone_weighs r p) (take i (enumerate_from 0 zs))) → other ≡ at_most (weight (zone_edges r p (i, zone)) side) →
      at_most (total + other) ≡ at_most (front r p + sum_by (zone_weighs r p) (take (i + 1) (enumerate_from 0 zs)))
  zone_more r p zs i zone inside at total other so_far one =
      let from_start : 0 + i ≡ i = omega arith in
      let numbered : (0 + i, get_or zs i zone) ≡ (i, zone) = (λ k. (from_start k, sym at k)) in
      let within : i < length (enumerate_from 0 zs) = omega (arith, length-enumerate_from 0 zs) in
      stops_more (zone_weighs r p) (enumerate_from 0 zs) i (i, zone) within (sym (get_or-enumerate_from 0 zs i (i, zone) inside ∙ numbered)) (front r p) total other so_far one

  -- ---- all partitions
  abbrev pub fronts : ℕ → List (List Role) → ℕ → ℕ
  fronts r zs p = weight (front_edges r p zs) side

  pub fronts_are : (r : ℕ) (zs : List (List Role)) (n : ℕ) → weight (flat_map (λ p. front_edges r p zs) (range_with_len 0 n)) side ≡ sum_by (fronts r zs) (range_with_len 0 n)
  fronts_are r zs n = sum_by-flat_map (adds side) (λ p. front_edges r p zs) (range_with_len 0 n)

  -- ---- nodes
  abbrev pub of_node : ℕ → Role → ℕ
  of_node size role = adds side (node_edge size role)

  abbrev pub of_storage : ℕ → Role → ℕ
  of_storage size role = cond (is_storage role) (of_node size role) 0

  pub nodes_are : (size : ℕ) (roles : List Role) → weight (map (node_edge size) (storage_nodes roles)) side ≡ sum_by (of_storage size) roles
  nodes_are size roles = sum_by-map (adds side) (node_edge size) (storage_nodes roles) ∙ sum_by-filter is_storage (of_node size) roles

  -- ---- the network
  pub network_weighs : (roles : List Role) (r size : ℕ) → weight (network roles r size) side ≡ weight (flat_map (λ p. front_edges r p (zones roles)) (range_with_len 0 256)) side + weight (map (node_edge size) (storage_nodes roles)) side
  unfolding network_of partitions
  network_weighs roles r size = sum_by-append (adds side) (flat_map (λ p. front_edges r p (zones roles)) (range_with_len 0 256)) (map (node_edge size) (storage_nodes roles))

pub range_more : (f : ℕ → ℕ) (n total other : ℕ) → total ≡ at_most (sum_by f (range_with_len 0 n)) → other ≡ at_most (f n) → at_most (total + other) ≡ at_most (sum_by f (range_with_len 0 (n + 1)))
range_more f n total other e g =
    let more = sum_by-map-range_with_len_more f (λ p. p) 0 n n (omega arith) in
    let a = sum_by-map f (λ p. p) (range_with_len 0 n) in
    let b = sum_by-map f (λ p. p) (range_with_len 0 (n + 1)) in
    rw (e, g) (omega arith)

-- the edges up to the nodes and those behind them are the network's
pub both_weigh : (side given : List Vertex) (roles nodes : List Role) (zs : List (List Role)) (r size front rest total : ℕ) → side ≡ given → zs ≡ zones roles → nodes ≡ roles →
    front ≡ at_most (weight (flat_map (λ p. front_edges r p zs) (range_with_len 0 256)) (set_of side)) → rest ≡ at_most (weight (map (node_edge size) (storage_nodes nodes)) (set_of side)) →
    total ≡ at_most (front + rest) → total ≡ at_most (weight (network roles r size) (set_of given))
both_weigh side given roles nodes zs r size front rest total same groups list front_weighs rest_weighs sum =
    let front_part : ℕ = weight (flat_map (λ p. front_edges r p (zones roles)) (range_with_len 0 256)) (set_of given) in
    let rest_part : ℕ = weight (map (node_edge size) (storage_nodes roles)) (set_of given) in
    let front_is : front ≡ at_most front_part = front_weighs ∙ (λ i. at_most (weight (flat_map (λ p. front_edges r p (groups i)) (range_with_len 0 256)) (set_of (same i)))) in
    let rest_is : rest ≡ at_most rest_part = rest_weighs ∙ (λ i. at_most (weight (map (node_edge size) (storage_nodes (list i))) (set_of (same i)))) in
    sum ∙ (stops_both front rest front_part rest_part front_is rest_is ∙ ap at_most (sym (network_weighs (set_of given) roles r size)))
