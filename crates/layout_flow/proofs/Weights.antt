-- What a cut weighs, partition by partition: no less than the lightest cut that is the same in each partition.
use Rattle.std.proofs.Common.{◌≡◌, ℕ, ◌+◌, ◌-◌, ◌*◌, ◌<◌, ◌≤◌, min, Bool, true, false, cond, not, ◌&&◌, List, ◌∷◌, map, get_or, refl, ap, ◌∙◌, inl, inr, arith}
use Rattle.std.specs.List.{sum_by, flat_map, All, enumerate_from, range_with_len}
use Rattle.std.proofs.lemmas.Bool.{cases_lt}
use Rattle.std.proofs.Math.Nat.{mul-le-mul_left}
use Rattle.std.proofs.lemmas.List.Sums.{sum_by-cons, sum_by-append}
use Rattle.std.proofs.lemmas.List.FromFn.{length-range_with_len}
use Rattle.layout_roles.specs.declared.role.Role.{Role}
use Rattle.layout_roles.specs.Zones.{storage_nodes, zones}
use Rattle.layout_roles.specs.Fits.{room}
use Rattle.layout_roles.specs.Network.{Edge, edge, zone_edges, partition_edges, node_edge, network_of}
use Rattle.layout_roles.specs.Cuts.{Side, IsCut, leaves, weight}
use Rattle.layout_flow.specs.Totals.{total, copies_in}
use Rattle.layout_roles.specs.declared.vertex.Vertex.TheVariants.{Source, Up, Down, Zone, Node, Sink}
use Rattle.layout_flow.proofs.Sums.{yes, no, sum_by-plus, sum_by-agree, sum_by-below, sum_by-tight, sum_by-none, sum_by-scale, sum_by-map, sum_by-flat_map, sum_by-enumerate, sum_by-constant}
use Rattle.layout_flow.proofs.Lightest.{kept_out, into_zone, lightest}
use Rattle.layout_flow.proofs.Zones.{sum_by_zones}

-- ---- one zone in one partition

abbrev pub zone_cost : ℕ → Bool → Bool → Bool → (Role → Bool) → List Role → ℕ
zone_cost r up down held node zone =
    cond (up && not held) 1 0 + (cond (down && not held) (3 - r) 0 + sum_by (λ role. cond (held && not (node role)) 1 0) zone)

abbrev pub nodes_cost : ℕ → (Role → Bool) → List Role → ℕ
nodes_cost size node zone = sum_by (λ role. cond (node role) (room size role) 0) zone

-- so many times what a zone costs in one partition, and what its nodes cost
abbrev pub zone_times : ℕ → ℕ → ℕ → Bool → Bool → Bool → (Role → Bool) → List Role → ℕ
zone_times n r size up down held node zone = n * zone_cost r up down held node zone + nodes_cost size node zone

abbrev pub zone_least : ℕ → ℕ → ℕ → Bool → Bool → List Role → ℕ
zone_least n r size up down zone = min (into_zone r up down * n) (copies_in n size zone)

pub out_cost : (n r size : ℕ) (up down : Bool) (node : Role → Bool) (zone : List Role) →
    into_zone r up down * n + nodes_cost size node zone ≡ zone_times n r size up down false node zone
out_cost n r size up down node zone =
    let none = sum_by-none zone in
    elim up as (λ u. into_zone r u down * n + nodes_cost size node zone ≡ zone_times n r size u down false node zone) [
      | true ↦ elim down as (λ d. into_zone r true d * n + nodes_cost size node zone ≡ zone_times n r size true d false node zone) [ true ↦ go 1 (3 - r) | false ↦ go 1 0 ]
      | false ↦ elim down as (λ d. into_zone r false d * n + nodes_cost size node zone ≡ zone_times n r size false d false node zone) [ true ↦ go 0 (3 - r) | false ↦ go 0 0 ]
    ]
  where
    go : (a b : ℕ) → (a + b) * n + nodes_cost size node zone ≡ n * (a + (b + sum_by (λ (role : Role). 0) zone)) + nodes_cost size node zone
    go a b = let none : sum_by (λ (role : Role). 0) zone ≡ 0 = sum_by-none zone in rw none (omega arith)

-- a node's part of the cost of a zone that is held
abbrev pub node_times : ℕ → ℕ → Bool → ℕ
node_times n c held = n * cond (not held) 1 0 + cond held c 0

pub in_cost : (n r size : ℕ) (up down : Bool) (node : Role → Bool) (zone : List Role) →
    sum_by (λ role. node_times n (room size role) (node role)) zone ≡ zone_times n r size up down true node zone
in_cost n r size up down node zone =
    let a = sum_by-plus (λ role. n * cond (not (node role)) 1 0) (λ role. cond (node role) (room size role) 0) zone in
    let b = sum_by-scale n (λ role. cond (not (node role)) 1 0) zone in
    elim up as (λ u. sum_by (λ role. node_times n (room size role) (node role)) zone ≡ zone_times n r size u down true node zone) [
      | true ↦ elim down as (λ d. sum_by (λ role. node_times n (room size role) (node role)) zone ≡ zone_times n r size true d true node zone) [ true ↦ omega arith | false ↦ omega arith ]
      | false ↦ elim down as (λ d. sum_by (λ role. node_times n (room size role) (node role)) zone ≡ zone_times n r size false d true node zone) [ true ↦ omega arith | false ↦ omega arith ]
    ]

node_least : (n c : ℕ) (held : Bool) → min n c ≤ node_times n c held
node_least n c true = omega arith
node_least n c false = omega arith

node_held : (n c : ℕ) (held : Bool) → node_times n c held ≤ min n c → c < n → held ≡ true
node_held n c true h less = refl
node_held n c false h less = absurd (omega arith)

pub zone_below : (n r size : ℕ) (up down held : Bool) (node : Role → Bool) (zone : List Role) →
    zone_least n r size up down zone ≤ zone_times n r size up down held node zone
zone_below n r size up down held node zone =
    elim held as (λ h. zone_least n r size up down zone ≤ zone_times n r size up down h node zone) [
      | true ↦
          let e = in_cost n r size up down node zone in
          let below = sum_by-below (λ role. min n (room size role)) (λ role. node_times n (room size role) (node role)) zone
          (λ k d h. node_least n (room size (get_or zone k d)) (node (get_or zone k d))) in
          omega arith
      | false ↦ let e = out_cost n r size up down node zone in omega arith
    ]

-- where a zone costs no more than it must, it is held if it has little room, and so are then its nodes with little room
pub record Held (n r size : ℕ) (up down held : Bool) (node : Role → Bool) (zone : List Role) : Type 0 where
  pub zone_held : copies_in n size zone < into_zone r up down * n → held ≡ true
  pub nodes_held : held ≡ true → All (λ role. room size role < n → node role ≡ true) zone

pub zone_tight : (n r size : ℕ) (up down held : Bool) (node : Role → Bool) (zone : List Role) →
    zone_times n r size up down held node zone ≤ zone_least n r size up down zone → Held n r size up down held node zone
zone_tight n r size up down true node zone tight = record {
  zone_held = λ _. refl;
  nodes_held = λ _ k d h.
      let e = in_cost n r size up down node zone in
      let all = sum_by-tight (λ role. min n (room size role)) (λ role. node_times n (room size role) (node role)) zone
      (λ k d h. node_least n (room size (get_or zone k d)) (node (get_or zone k d))) (omega arith) in
      node_held n (room size (get_or zone k d)) (node (get_or zone k d)) (all k d h);
}
zone_tight n r size up down false node zone tight = record {
  zone_held = λ little. let e = out_cost n r size up down node zone in absurd (omega arith);
  nodes_held = λ e. cc;
}

-- a zone that is held where it has little room, with its nodes that have little room, costs what it must
pub zone_exact : (n r size : ℕ) (up down held : Bool) (node : Role → Bool) (zone : List Role) →
    held ≡ true → copies_in n size zone < into_zone r up down * n → All (λ role. min n (room size role) ≡ node_times n (room size role) (node role)) zone →
    zone_times n r size up down held node zone ≡ zone_least n r size up down zone
zone_exact n r size up down held node zone yes little exact =
    let e = in_cost n r size up down node zone in
    let same = sum_by-agree (λ role. min n (room size role)) (λ role. node_times n (room size role) (node role)) zone exact in
    rw yes (omega arith)

pub zone_exact_out : (n r size : ℕ) (up down held : Bool) (node : Role → Bool) (zone : List Role) →
    held ≡ false → into_zone r up down * n ≤ copies_in n size zone → All (λ role. node role ≡ false) zone →
    zone_times n r size up down held node zone ≡ zone_least n r size up down zone
zone_exact_out n r size up down held node zone out much none =
    let e = out_cost n r size up down node zone in
    let zero : nodes_cost size node zone ≡ 0 =
    sum_by-agree (λ role. cond (node role) (room size role) 0) (λ role. 0) zone (λ k d h. no (node (get_or zone k d)) (room size (get_or zone k d)) (none k d h))
    ∙ sum_by-none zone in
    rw out (omega arith)

-- ---- one partition

abbrev pub holds : Side → Role → Bool
holds side role = side (Node role.node)

abbrev pub part_weight : List Role → ℕ → Side → ℕ → ℕ
part_weight roles r side p = weight (partition_edges roles r p) side

abbrev pub zone_weight : ℕ → Side → ℕ → ℕ × List Role → ℕ
zone_weight r side p zone = zone_cost r (side (Up p)) (side (Down p)) (side (Zone p zone.0)) (holds side) zone.1

part_is : (roles : List Role) (r : ℕ) (side : Side) (p : ℕ) → side Source ≡ true →
    part_weight roles r side p ≡ kept_out r (side (Up p)) (side (Down p)) + sum_by (zone_weight r side p) (enumerate_from 0 (zones roles))
part_is roles r side p source =
    let F : Edge → ℕ = λ e. cond (leaves side e) e.capacity 0 in
    let zs = enumerate_from 0 (zones roles) in
    let rest = flat_map (zone_edges r p) zs in
    let a = sum_by-cons F (edge Source (Up p) r) (edge Source (Down p) (3 - r) ∷ rest) in
    let b = sum_by-cons F (edge Source (Down p) (3 - r)) rest in
    let c = sum_by-flat_map F (zone_edges r p) zs in
    let d = sum_by-agree (λ zone. sum_by F (zone_edges r p zone)) (zone_weight r side p) zs (λ k d h. zone_is (get_or zs k d)) in
    let up : cond (side Source && not (side (Up p))) r 0 ≡ cond (side (Up p)) 0 r = leaving (side Source) (side (Up p)) r source in
    let down : cond (side Source && not (side (Down p))) (3 - r) 0 ≡ cond (side (Down p)) 0 (3 - r) = leaving (side Source) (side (Down p)) (3 - r) source in
    omega arith
  where
    leaving : (a b : Bool) (n : ℕ) → a ≡ true → cond (a && not b) n 0 ≡ cond b 0 n
    leaving true true n e = refl
    leaving true false n e = refl
    leaving false b n e = cc

    zone_is : (zone : ℕ × List Role) → sum_by (λ e. cond (leaves side e) e.capacity 0) (zone_edges r p zone) ≡ zone_weight r side p zone
    zone_is zone =
        let F : Edge → ℕ = λ e. cond (leaves side e) e.capacity 0 in
        let g : Role → Edge = λ role. edge (Zone p zone.0) (Node role.node) 1 in
        let a = sum_by-cons F (edge (Up p) (Zone p zone.0) 1) (edge (Down p) (Zone p zone.0) (3 - r) ∷ map g zone.1) in
        let b = sum_by-cons F (edge (Down p) (Zone p zone.0) (3 - r)) (map g zone.1) in
        let c = sum_by-map F g zone.1 in
        omega arith

abbrev pub node_weight : List Role → ℕ → Side → ℕ
node_weight roles size side = nodes_cost size (holds side) (storage_nodes roles)

-- what the cut would weigh if it were in each of n partitions as it is in this one
abbrev pub as_here : ℕ → List Role → ℕ → ℕ → Side → ℕ → ℕ
as_here n roles r size side p = n * part_weight roles r side p + node_weight roles size side

abbrev pub zone_here : ℕ → ℕ → ℕ → Side → ℕ → ℕ × List Role → ℕ
zone_here n r size side p zone = zone_times n r size (side (Up p)) (side (Down p)) (side (Zone p zone.0)) (holds side) zone.1

pub here_is : (n : ℕ) (roles : List Role) (r size : ℕ) (side : Side) (p : ℕ) → side Source ≡ true →
    as_here n roles r size side p ≡ n * kept_out r (side (Up p)) (side (Down p)) + sum_by (zone_here n r size side p) (enumerate_from 0 (zones roles))
here_is n roles r size side p source =
    let zs = enumerate_from 0 (zones roles) in
    let a = ap (λ m. n * m) (part_is roles r side p source) in
    let b = sum_by-scale n (zone_weight r side p) zs in
    let c = sum_by-plus (λ zone. n * zone_weight r side p zone) (λ zone. nodes_cost size (holds side) zone.1) zs in
    let d = sum_by-enumerate (λ zone. nodes_cost size (holds side) zone) 0 (zones roles) in
    let e = sum_by_zones (λ role. cond (holds side role) (room size role) 0) roles in
    omega arith

abbrev pub lightest_here : ℕ → List Role → ℕ → ℕ → Side → ℕ → ℕ
lightest_here n roles r size side p = lightest n (copies_in n size) r (zones roles) (side (Up p)) (side (Down p))

pub least_is : (n : ℕ) (roles : List Role) (r size : ℕ) (up down : Bool) →
    sum_by (λ zone. zone_least n r size up down zone.1) (enumerate_from 0 (zones roles)) ≡ total n (copies_in n size) (into_zone r up down) (zones roles)
least_is n roles r size up down = sum_by-enumerate (zone_least n r size up down) 0 (zones roles)

pub here_below : (n : ℕ) (roles : List Role) (r size : ℕ) (side : Side) (p : ℕ) → side Source ≡ true →
    lightest_here n roles r size side p ≤ as_here n roles r size side p
here_below n roles r size side p source =
    let zs = enumerate_from 0 (zones roles) in
    let a = here_is n roles r size side p source in
    let b = least_is n roles r size (side (Up p)) (side (Down p)) in
    let c = sum_by-below (λ zone. zone_least n r size (side (Up p)) (side (Down p)) zone.1) (zone_here n r size side p) zs
    (λ k d h. let zone = get_or zs k d in zone_below n r size (side (Up p)) (side (Down p)) (side (Zone p zone.0)) (holds side) zone.1) in
    omega arith

pub here_tight : (n : ℕ) (roles : List Role) (r size : ℕ) (side : Side) (p : ℕ) → side Source ≡ true →
    as_here n roles r size side p ≤ lightest_here n roles r size side p →
    All (λ zone. Held n r size (side (Up p)) (side (Down p)) (side (Zone p zone.0)) (holds side) zone.1) (enumerate_from 0 (zones roles))
here_tight n roles r size side p source tight k d h =
    let zs = enumerate_from 0 (zones roles) in
    let a = here_is n roles r size side p source in
    let b = least_is n roles r size (side (Up p)) (side (Down p)) in
    let all = sum_by-tight (λ zone. zone_least n r size (side (Up p)) (side (Down p)) zone.1) (zone_here n r size side p) zs
    (λ k d h. let zone = get_or zs k d in zone_below n r size (side (Up p)) (side (Down p)) (side (Zone p zone.0)) (holds side) zone.1)
    (omega arith) in
    let zone = get_or zs k d in
    zone_tight n r size (side (Up p)) (side (Down p)) (side (Zone p zone.0)) (holds side) zone.1 (all k d h)

-- ---- all partitions

pub weight_is : (n : ℕ) (roles : List Role) (r size : ℕ) (side : Side) → IsCut side →
    weight (network_of n roles r size) side ≡ sum_by (part_weight roles r side) (range_with_len 0 n) + node_weight roles size side
unfolding network_of
weight_is n roles r size side cut =
    let F : Edge → ℕ = λ e. cond (leaves side e) e.capacity 0 in
    let nodes = storage_nodes roles in
    let a = sum_by-append F (flat_map (partition_edges roles r) (range_with_len 0 n)) (map (node_edge size) nodes) in
    let b = sum_by-flat_map F (partition_edges roles r) (range_with_len 0 n) in
    let c = sum_by-map F (node_edge size) nodes in
    let d = sum_by-agree (λ role. F (node_edge size role)) (λ role. cond (holds side role) (room size role) 0) nodes
    (λ k d h. leaving (side (Node (get_or nodes k d).node)) (side Sink) (room size (get_or nodes k d)) cut.sink) in
    omega arith
  where
    leaving : (a b : Bool) (n : ℕ) → b ≡ false → cond (a && not b) n 0 ≡ cond a n 0
    leaving a true n e = cc
    leaving true false n e = refl
    leaving false false n e = refl

-- so many times the weight is the sum of what the cut would weigh as it is in each partition
pub average : (n : ℕ) (roles : List Role) (r size : ℕ) (side : Side) → IsCut side →
    sum_by (as_here n roles r size side) (range_with_len 0 n) ≡ n * weight (network_of n roles r size) side
average n roles r size side cut =
    let ps = range_with_len 0 n in
    let a = ap (λ m. n * m) (weight_is n roles r size side cut) in
    let b = sum_by-plus (λ p. n * part_weight roles r side p) (λ p. node_weight roles size side) ps in
    let c = sum_by-scale n (part_weight roles r side) ps in
    let d = sum_by-constant (node_weight roles size side) ps in
    let e = ap (λ m. m * node_weight roles size side) (length-range_with_len 0 n) in
    omega arith

cancel : (n a b : ℕ) → 0 < n → n * a ≤ n * b → a ≤ b
cancel n a b some h =
    elim (cases_lt b a) [
      | inr le ↦ le
      | inl less ↦ let more = mul-le-mul_left n (more_than b a less) in absurd (omega arith)
    ]
  where
    more_than : (b a : ℕ) → b < a → b + 1 ≤ a
    more_than b a h = omega arith

sum_of_same : (n w : ℕ) → sum_by (λ (p : ℕ). w) (range_with_len 0 n) ≡ n * w
sum_of_same n w = sum_by-constant w (range_with_len 0 n) ∙ ap (λ m. m * w) (length-range_with_len 0 n)

pub weight_from_parts : (n : ℕ) (roles : List Role) (r size : ℕ) (side : Side) → 0 < n → IsCut side → (w : ℕ) →
    All (λ p. w ≤ as_here n roles r size side p) (range_with_len 0 n) → w ≤ weight (network_of n roles r size) side
weight_from_parts n roles r size side some cut w each =
    let a = average n roles r size side cut in
    let b = sum_by-below (λ p. w) (as_here n roles r size side) (range_with_len 0 n) each in
    let c = sum_of_same n w in
    cancel n w (weight (network_of n roles r size) side) some (omega arith)

pub parts_from_weight : (n : ℕ) (roles : List Role) (r size : ℕ) (side : Side) → IsCut side → (w : ℕ) →
    All (λ p. w ≤ as_here n roles r size side p) (range_with_len 0 n) → weight (network_of n roles r size) side ≤ w →
    All (λ p. as_here n roles r size side p ≤ w) (range_with_len 0 n)
parts_from_weight n roles r size side cut w each light =
    let a = average n roles r size side cut in
    let b = mul-le-mul_left n light in
    let c = sum_of_same n w in
    sum_by-tight (λ p. w) (as_here n roles r size side) (range_with_len 0 n) each (omega arith)

pub weight_from_same : (n : ℕ) (roles : List Role) (r size : ℕ) (side : Side) → 0 < n → IsCut side → (w : ℕ) →
    All (λ p. as_here n roles r size side p ≡ w) (range_with_len 0 n) → weight (network_of n roles r size) side ≡ w
weight_from_same n roles r size side some cut w each =
    let a = average n roles r size side cut in
    let b = sum_by-agree (as_here n roles r size side) (λ p. w) (range_with_len 0 n) each in
    let c = sum_of_same n w in
    let low = cancel n w (weight (network_of n roles r size) side) some (omega arith) in
    let high = cancel n (weight (network_of n roles r size) side) w some (omega arith) in
    omega arith
