-- Sets of nodes as a flow.
use Rattle.std.proofs.Common.{◌≡◌, ℕ, zero, suc, ◌+◌, ◌-◌, ◌*◌, ◌<◌, ◌≤◌, min, Bool, true, false, cond, ◌&&◌, ◌==◌, List, [], ◌∷◌, map, length, get_or, refl, sym, ap, ◌∙◌, subst, arith, le_refl}
use Rattle.std.specs.List.{sum, sum_by, count_by, flat_map, All, enumerate_from, range_with_len}
use Rattle.std.proofs.lemmas.List.{length-map, get_or-map, take_all}
use Rattle.std.proofs.lemmas.List.Sums.{sum_by-cons, sum-map, get_or-le-sum_by}
use Rattle.std.proofs.lemmas.List.FromFn.{length-enumerate_from}
use Rattle.std.proofs.lemmas.List.Elements.{All-head, All-tail, All-cons, All-append, All-map}
use Rattle.layout_roles.specs.declared.role.Role.{Role}
use Rattle.layout_roles.specs.Zones.{Name, storage_nodes, zone_names, nodes_in, zones}
use Rattle.layout_roles.specs.Fits.{NodeSet, has_node, load, room, set_at}
use Rattle.layout_roles.specs.Network.{Edge, edge, zone_edges, partition_edges, node_edge, network_of}
use Rattle.layout_flow.specs.Flows.{same_vertex, Flow, carried, out_of, into, IsFlow, value}
use Rattle.layout_roles.specs.declared.vertex.Vertex.{Vertex}
use Rattle.layout_roles.specs.declared.vertex.Vertex.TheVariants.{Source, Up, Down, Zone, Node, Sink}
use Rattle.layout_flow.proofs.Sums.{sum_by-agree, sum_by-swap, sum_by-none, sum_by-enumerate}
use Rattle.layout_flow.proofs.Zones.{sum_by_zones}
use Rattle.layout_flow.proofs.Lightest.{is_one, is_two, is_three, one_to_three}
use Rattle.layout_flow.proofs.Spread.{in_set}
use Rattle.layout_flow.proofs.Printed.{all_parts, zone_at}
use Rattle.layout_flow.proofs.Lies.{All-flat_map, sum_by_places}
use Rattle.layout_flow.proofs.Bounds.{part_sum, sum_of_edges, cond_sum}

-- ---- which copies go up and which go down: one of each zone goes up, as long as up has room

pub ups : ℕ → List ℕ → List ℕ
ups left [] = []
ups left (k ∷ ks) = min left (min 1 k) ∷ ups (left - min 1 k) ks

pub downs : ℕ → List ℕ → List ℕ
downs left [] = []
downs left (k ∷ ks) = (k - min left (min 1 k)) ∷ downs (left - min 1 k) ks

ups_length : (left : ℕ) (ks : List ℕ) → length (ups left ks) ≡ length ks
unfolding ups
ups_length left [] = refl
ups_length left (k ∷ ks) = ap suc (ups_length (left - min 1 k) ks)

downs_length : (left : ℕ) (ks : List ℕ) → length (downs left ks) ≡ length ks
unfolding downs
downs_length left [] = refl
downs_length left (k ∷ ks) = ap suc (downs_length (left - min 1 k) ks)

ups_one : (left : ℕ) (ks : List ℕ) (i : ℕ) → get_or (ups left ks) i 0 ≤ 1
unfolding ups
ups_one left [] i = omega arith
ups_one left (k ∷ ks) zero = omega arith
ups_one left (k ∷ ks) (suc i) = ups_one (left - min 1 k) ks i

both_at : (left : ℕ) (ks : List ℕ) (i : ℕ) → get_or (ups left ks) i 0 + get_or (downs left ks) i 0 ≡ get_or ks i 0
unfolding ups downs
both_at left [] i = refl
both_at left (k ∷ ks) zero = omega arith
both_at left (k ∷ ks) (suc i) = both_at (left - min 1 k) ks i

abbrev ones : List ℕ → ℕ
ones ks = sum_by (λ k. min 1 k) ks

ups_sum : (left : ℕ) (ks : List ℕ) → sum (ups left ks) ≡ min left (ones ks)
unfolding ups
ups_sum left [] = omega arith
ups_sum left (k ∷ ks) =
    omega (arith, sum_by-cons (λ x. x) (min left (min 1 k)) (ups (left - min 1 k) ks), sum_by-cons (λ x. min 1 x) k ks, ups_sum (left - min 1 k) ks)

both_sum : (left : ℕ) (ks : List ℕ) → sum (ups left ks) + sum (downs left ks) ≡ sum ks
unfolding ups downs
both_sum left [] = refl
both_sum left (k ∷ ks) =
    omega (arith, sum_by-cons (λ x. x) (min left (min 1 k)) (ups (left - min 1 k) ks), sum_by-cons (λ x. x) (k - min left (min 1 k)) (downs (left - min 1 k) ks), sum_by-cons (λ x. x) k ks, both_sum (left - min 1 k) ks)

few_each : (most : ℕ) (ks : List ℕ) → All (λ k. k ≤ most) ks → sum ks ≤ ones ks * most
few_each most [] all = omega arith
few_each most (k ∷ ks) all =
    let a = sum_by-cons (λ x. x) k ks in
    let b = sum_by-cons (λ x. min 1 x) k ks in
    let rest = few_each most ks (All-tail (λ k. k ≤ most) k ks all) in
    let first = All-head (λ k. k ≤ most) k ks all in
    go k (ones ks) (ones (k ∷ ks)) (sum ks) (sum (k ∷ ks)) first rest (omega arith) (omega arith)
  where
    go : (k o o' s s' : ℕ) → k ≤ most → s ≤ o * most → s' ≡ k + s → o' ≡ min 1 k + o → s' ≤ o' * most
    go zero o o' s s' first rest e f = let same : o' ≡ o = omega arith in let m = ap (λ x. x * most) same in omega arith
    go (suc k) o o' s s' first rest e f = let same : o' ≡ 1 + o = omega arith in let m = ap (λ x. x * most) same in omega arith

-- what goes down has room there
downs_few : (r : ℕ) (ks : List ℕ) → 1 ≤ r → r ≤ 3 → sum ks ≤ 3 → All (λ k. k ≤ 4 - r) ks → sum (downs r ks) ≤ 3 - r
downs_few r ks low high three few =
    let a = ups_sum r ks in
    let b = both_sum r ks in
    let c = few_each (4 - r) ks few in
    elim (one_to_three r low high) [
      | is_one e ↦ let m = subst (λ x. sum ks ≤ ones ks * (4 - x)) e c in omega arith
      | is_two e ↦ let m = subst (λ x. sum ks ≤ ones ks * (4 - x)) e c in omega arith
      | is_three e ↦ let m = subst (λ x. sum ks ≤ ones ks * (4 - x)) e c in omega arith
    ]

-- ---- the flow

-- how many nodes of a set lie in each zone
abbrev counts : List Role → NodeSet → List ℕ
counts roles set = map (λ zone. count_by (in_set set) zone) (zones roles)

abbrev pub carry : ℕ → List Role → List NodeSet → Flow
carry r roles sets Source (Up p) = sum (ups r (counts roles (set_at sets p)))
carry r roles sets Source (Down p) = sum (downs r (counts roles (set_at sets p)))
carry r roles sets (Up p) (Zone q i) = get_or (ups r (counts roles (set_at sets p))) i 0
carry r roles sets (Down p) (Zone q i) = get_or (downs r (counts roles (set_at sets p))) i 0
carry r roles sets (Zone p i) (Node node) = cond (has_node node (set_at sets p)) 1 0
carry r roles sets (Node node) Sink = load sets node
carry r roles sets _ _ = 0

-- sets that some copies of each partition may have
pub record IsPart (n : ℕ) (roles : List Role) (r size : ℕ) (sets : List NodeSet) : Type 0 where
  pub whole : length sets ≡ n
  pub three : All (λ set. count_by (in_set set) (storage_nodes roles) ≤ 3) sets
  pub few : (name : Name) → All (λ set. count_by (in_set set) (nodes_in roles name) ≤ 4 - r) sets
  pub within : All (λ role. load sets role.node ≤ room size role) (storage_nodes roles)

counts_at : (roles : List Role) (set : NodeSet) (i : ℕ) → i < length (zones roles) → get_or (counts roles set) i 0 ≡ count_by (in_set set) (get_or (zones roles) i [])
counts_at roles set i h = get_or-map (λ zone. count_by (in_set set) zone) (zones roles) i [] 0 h

counts_length : (roles : List Role) (set : NodeSet) → length (counts roles set) ≡ length (zones roles)
counts_length roles set = length-map (zones roles) (λ zone. count_by (in_set set) zone)

counts_sum : (roles : List Role) (set : NodeSet) → sum (counts roles set) ≡ count_by (in_set set) (storage_nodes roles)
counts_sum roles set = sum-map (λ zone. count_by (in_set set) zone) (zones roles) ∙ sum_by_zones (λ role. cond (in_set set role) 1 0) roles

counts_few : (roles : List Role) (set : NodeSet) (most : ℕ) → ((name : Name) → count_by (in_set set) (nodes_in roles name) ≤ most) → All (λ k. k ≤ most) (counts roles set)
counts_few roles set most few =
    All-map (λ k. k ≤ most) (λ zone. count_by (in_set set) zone) (zones roles)
    (All-map (λ zone. count_by (in_set set) zone ≤ most) (nodes_in roles) (zone_names roles) (λ k d h. few (get_or (zone_names roles) k d)))

places_sum : (a : ℕ) (xs : List ℕ) (zs : List (List Role)) → length xs ≡ length zs → (ys : List ℕ) → ((i : ℕ) → i < length xs → get_or ys (a + i) 0 ≡ get_or xs i 0) →
    sum_by (λ z. get_or ys z.0 0) (enumerate_from a zs) ≡ sum xs
places_sum a [] [] e ys same = refl
places_sum a [] (z ∷ zs) e ys same = absurd (omega arith)
places_sum a (x ∷ xs) [] e ys same = absurd (omega arith)
places_sum a (x ∷ xs) (z ∷ zs) e ys same =
    let f : ℕ × List Role → ℕ = λ z. get_or ys z.0 0 in
    let b = sum_by-cons f (a, z) (enumerate_from (a + 1) zs) in
    let c = sum_by-cons (λ x. x) x xs in
    let first : get_or ys a 0 ≡ x = ap (λ m. get_or ys m 0) (zero_more a) ∙ same 0 (omega arith) in
    let rest = places_sum (a + 1) xs zs (omega arith) ys (λ i h. ap (λ m. get_or ys m 0) (one_more a i) ∙ same (suc i) (omega arith)) in
    omega arith
  where
    zero_more : (a : ℕ) → a ≡ a + 0
    zero_more a = omega arith

    one_more : (a i : ℕ) → a + 1 + i ≡ a + suc i
    one_more a i = omega arith

all_places : (xs : List ℕ) (zs : List (List Role)) → length xs ≡ length zs → sum_by (λ z. get_or xs z.0 0) (enumerate_from 0 zs) ≡ sum xs
all_places xs zs e = places_sum 0 xs zs e xs (λ i h. let n : 0 + i ≡ i = omega arith in ap (λ m. get_or xs m 0) n)

-- no edge between vertices of these kinds
pub nothing : (roles : List Role) → sum_by (λ (z : ℕ × List Role). 0 + (0 + sum_by (λ (role : Role). 0) z.1)) (enumerate_from 0 (zones roles)) ≡ 0
nothing roles =
    let zs = enumerate_from 0 (zones roles) in
    sum_by-agree (λ (z : ℕ × List Role). 0 + (0 + sum_by (λ (role : Role). 0) z.1)) (λ z. 0) zs (λ j u g. let z = sum_by-none (get_or zs j u).1 in omega arith) ∙ sum_by-none zs

kept_up : (n : ℕ) (roles : List Role) (r size : ℕ) (sets : List NodeSet) (p : ℕ) →
    into (network_of n roles r size) (carry r roles sets) (Up p) ≡ out_of (network_of n roles r size) (carry r roles sets) (Up p)
kept_up n roles r size sets p =
    let flow = carry r roles sets in
    let ps = range_with_len 0 n in
    let a = sum_of_edges n roles r size (λ e. cond (same_vertex e.to (Up p)) (carried flow e) 0) in
    let b = sum_of_edges n roles r size (λ e. cond (same_vertex e.from (Up p)) (carried flow e) 0) in
    let c = sum_by-agree (part_sum roles r (λ e. cond (same_vertex e.to (Up p)) (carried flow e) 0)) (part_sum roles r (λ e. cond (same_vertex e.from (Up p)) (carried flow e) 0)) ps (λ k d h. at (get_or ps k d)) in
    omega arith
  where
    at : (q : ℕ) → part_sum roles r (λ e. cond (same_vertex e.to (Up p)) (carried (carry r roles sets) e) 0) q ≡ part_sum roles r (λ e. cond (same_vertex e.from (Up p)) (carried (carry r roles sets) e) 0) q
    at q =
        let xs = ups r (counts roles (set_at sets q)) in
        let zs = enumerate_from 0 (zones roles) in
        let a = nothing roles in
        let b = sum_by-agree (λ (z : ℕ × List Role). cond (q == p) (get_or xs z.0 0) 0 + (0 + sum_by (λ (role : Role). 0) z.1)) (λ z. cond (q == p) (get_or xs z.0 0) 0) zs
        (λ k d h. let z = sum_by-none (get_or zs k d).1 in omega arith) in
        let c = cond_sum (q == p) (λ (z : ℕ × List Role). get_or xs z.0 0) zs in
        let d = ap (λ m. cond (q == p) m 0) (all_places xs (zones roles) (ups_length r (counts roles (set_at sets q)) ∙ counts_length roles (set_at sets q))) in
        omega arith

kept_down : (n : ℕ) (roles : List Role) (r size : ℕ) (sets : List NodeSet) (p : ℕ) →
    into (network_of n roles r size) (carry r roles sets) (Down p) ≡ out_of (network_of n roles r size) (carry r roles sets) (Down p)
kept_down n roles r size sets p =
    let flow = carry r roles sets in
    let ps = range_with_len 0 n in
    let a = sum_of_edges n roles r size (λ e. cond (same_vertex e.to (Down p)) (carried flow e) 0) in
    let b = sum_of_edges n roles r size (λ e. cond (same_vertex e.from (Down p)) (carried flow e) 0) in
    let c = sum_by-agree (part_sum roles r (λ e. cond (same_vertex e.to (Down p)) (carried flow e) 0)) (part_sum roles r (λ e. cond (same_vertex e.from (Down p)) (carried flow e) 0)) ps (λ k d h. at (get_or ps k d)) in
    omega arith
  where
    at : (q : ℕ) → part_sum roles r (λ e. cond (same_vertex e.to (Down p)) (carried (carry r roles sets) e) 0) q ≡ part_sum roles r (λ e. cond (same_vertex e.from (Down p)) (carried (carry r roles sets) e) 0) q
    at q =
        let xs = downs r (counts roles (set_at sets q)) in
        let zs = enumerate_from 0 (zones roles) in
        let a = nothing roles in
        let b = sum_by-agree (λ (z : ℕ × List Role). 0 + (cond (q == p) (get_or xs z.0 0) 0 + sum_by (λ (role : Role). 0) z.1)) (λ z. cond (q == p) (get_or xs z.0 0) 0) zs
        (λ k d h. let z = sum_by-none (get_or zs k d).1 in omega arith) in
        let c = cond_sum (q == p) (λ (z : ℕ × List Role). get_or xs z.0 0) zs in
        let d = ap (λ m. cond (q == p) m 0) (all_places xs (zones roles) (downs_length r (counts roles (set_at sets q)) ∙ counts_length roles (set_at sets q))) in
        omega arith

kept_zone : (n : ℕ) (roles : List Role) (r size : ℕ) (sets : List NodeSet) (p i : ℕ) →
    into (network_of n roles r size) (carry r roles sets) (Zone p i) ≡ out_of (network_of n roles r size) (carry r roles sets) (Zone p i)
kept_zone n roles r size sets p i =
    let flow = carry r roles sets in
    let ps = range_with_len 0 n in
    let a = sum_of_edges n roles r size (λ e. cond (same_vertex e.to (Zone p i)) (carried flow e) 0) in
    let b = sum_of_edges n roles r size (λ e. cond (same_vertex e.from (Zone p i)) (carried flow e) 0) in
    let c = sum_by-agree (part_sum roles r (λ e. cond (same_vertex e.to (Zone p i)) (carried flow e) 0)) (part_sum roles r (λ e. cond (same_vertex e.from (Zone p i)) (carried flow e) 0)) ps (λ k d h. at (get_or ps k d)) in
    omega arith
  where
    split : (t : Bool) (u d c e : ℕ) → u + d ≡ c → e ≡ 0 → cond t u 0 + (cond t d 0 + e) ≡ 0 + (0 + cond t c 0)
    split true u d c e same none = omega arith
    split false u d c e same none = omega arith

    zone : (q k : ℕ) → k < length (zones roles) →
        cond ((q == p) && (k == i)) (get_or (ups r (counts roles (set_at sets q))) k 0) 0
        + (cond ((q == p) && (k == i)) (get_or (downs r (counts roles (set_at sets q))) k 0) 0 + sum_by (λ (role : Role). 0) (get_or (zones roles) k []))
        ≡ 0 + (0 + sum_by (λ role. cond ((q == p) && (k == i)) (cond (has_node role.node (set_at sets q)) 1 0) 0) (get_or (zones roles) k []))
    zone q k inside =
        let ks = counts roles (set_at sets q) in
        let t : Bool = (q == p) && (k == i) in
        let members = get_or (zones roles) k [] in
        split t (get_or (ups r ks) k 0) (get_or (downs r ks) k 0) (count_by (in_set (set_at sets q)) members) (sum_by (λ (role : Role). 0) members) (both_at r ks k ∙ counts_at roles (set_at sets q) k inside) (sum_by-none members)
        ∙ ap (λ m. 0 + (0 + m)) (cond_sum t (λ role. cond (has_node role.node (set_at sets q)) 1 0) members)

    at : (q : ℕ) → part_sum roles r (λ e. cond (same_vertex e.to (Zone p i)) (carried (carry r roles sets) e) 0) q ≡ part_sum roles r (λ e. cond (same_vertex e.from (Zone p i)) (carried (carry r roles sets) e) 0) q
    at q =
        let ks = counts roles (set_at sets q) in
        let zs = enumerate_from 0 (zones roles) in
        let left : ℕ × List Role → ℕ = λ z. cond ((q == p) && (z.0 == i)) (get_or (ups r ks) z.0 0) 0 + (cond ((q == p) && (z.0 == i)) (get_or (downs r ks) z.0 0) 0 + sum_by (λ (role : Role). 0) z.1) in
        let right : ℕ × List Role → ℕ = λ z. 0 + (0 + sum_by (λ role. cond ((q == p) && (z.0 == i)) (cond (has_node role.node (set_at sets q)) 1 0) 0) z.1) in
        let e = sum_by-agree left right zs
        (λ k d h.
        let inside : k < length (zones roles) = omega (arith, length-enumerate_from 0 (zones roles)) in
        subst (λ z. left z ≡ right z) (sym (zone_at roles k d inside)) (zone q k inside)) in
        omega arith

pub range_sum : (n : ℕ) (f : NodeSet → ℕ) (sets : List NodeSet) → length sets ≡ n → sum_by (λ p. f (set_at sets p)) (range_with_len 0 n) ≡ sum_by f sets
range_sum n f sets whole =
    let ps = range_with_len 0 n in
    let a = sum_by_places f [] 0 n sets (omega arith) in
    let b = sum_by-agree (λ p. f (get_or sets (0 + p) [])) (λ p. f (set_at sets p)) ps (λ k d h. let p = get_or ps k d in let e : 0 + p ≡ p = omega arith in ap (λ m. f (get_or sets m [])) e) in
    let c = ap (λ (xs : List NodeSet). sum_by f xs) (take_all (0 + n) sets (omega arith)) in
    omega arith

kept_node : (n : ℕ) (roles : List Role) (r size : ℕ) (sets : List NodeSet) → length sets ≡ n → (m : ℕ) →
    into (network_of n roles r size) (carry r roles sets) (Node m) ≡ out_of (network_of n roles r size) (carry r roles sets) (Node m)
kept_node n roles r size sets whole m =
    let flow = carry r roles sets in
    let ps = range_with_len 0 n in
    let nodes = storage_nodes roles in
    let g : ℕ → Role → ℕ = λ q role. cond (role.node == m) (cond (has_node role.node (set_at sets q)) 1 0) 0 in
    let a = sum_of_edges n roles r size (λ e. cond (same_vertex e.to (Node m)) (carried flow e) 0) in
    let b = sum_of_edges n roles r size (λ e. cond (same_vertex e.from (Node m)) (carried flow e) 0) in
    let none = nothing roles in
    let c = sum_by-agree (part_sum roles r (λ e. cond (same_vertex e.to (Node m)) (carried flow e) 0)) (λ q. sum_by (g q) nodes) ps (λ k d h. at (get_or ps k d)) in
    let d = sum_by-agree (part_sum roles r (λ e. cond (same_vertex e.from (Node m)) (carried flow e) 0)) (λ q. 0) ps (λ k d h. let z = nothing roles in omega arith) in
    let e = sum_by-none ps in
    let f = sum_by-swap g ps nodes in
    let h = sum_by-agree (λ role. sum_by (λ q. g q role) ps) (λ role. cond (role.node == m) (load sets role.node) 0) nodes
    (λ k d h.
    let role = get_or nodes k d in
    sym (cond_sum (role.node == m) (λ q. cond (has_node role.node (set_at sets q)) 1 0) ps)
    ∙ ap (λ x. cond (role.node == m) x 0) (range_sum n (λ set. cond (has_node role.node set) 1 0) sets whole)) in
    let i = sum_by-none nodes in
    omega arith
  where
    at : (q : ℕ) → part_sum roles r (λ e. cond (same_vertex e.to (Node m)) (carried (carry r roles sets) e) 0) q
        ≡ sum_by (λ role. cond (role.node == m) (cond (has_node role.node (set_at sets q)) 1 0) 0) (storage_nodes roles)
    at q =
        let g : Role → ℕ = λ role. cond (role.node == m) (cond (has_node role.node (set_at sets q)) 1 0) 0 in
        let zs = enumerate_from 0 (zones roles) in
        let a = sum_by-agree (λ (z : ℕ × List Role). 0 + (0 + sum_by g z.1)) (λ z. sum_by g z.1) zs (λ k d h. omega arith) in
        let b = sum_by-enumerate (λ zone. sum_by g zone) 0 (zones roles) in
        let c = sum_by_zones g roles in
        omega arith

carry_within : (n : ℕ) (roles : List Role) (r size : ℕ) (sets : List NodeSet) → 1 ≤ r → r ≤ 3 → IsPart n roles r size sets →
    All (λ e. carried (carry r roles sets) e ≤ e.capacity) (network_of n roles r size)
unfolding network_of
carry_within n roles r size sets low high is_part =
    let P : Edge → Type 0 = λ e. carried (carry r roles sets) e ≤ e.capacity in
    let nodes = storage_nodes roles in
    All-append P (flat_map (partition_edges roles r) (range_with_len 0 n)) (map (node_edge size) nodes)
    (All-flat_map P (partition_edges roles r) (range_with_len 0 n) (all_parts n (λ p. All P (partition_edges roles r p)) part))
    (All-map P (node_edge size) nodes is_part.within)
  where
    few_down : (p : ℕ) → p < n → sum (downs r (counts roles (set_at sets p))) ≤ 3 - r
    few_down p less =
        let inside : p < length sets = omega (arith, is_part.whole) in
        let total = counts_sum roles (set_at sets p) in
        let three = is_part.three p [] inside in
        downs_few r (counts roles (set_at sets p)) low high (omega arith) (counts_few roles (set_at sets p) (4 - r) (λ name. is_part.few name p [] inside))

    zone : (p k : ℕ) → p < n → k < length (zones roles) → All (λ e. carried (carry r roles sets) e ≤ e.capacity) (zone_edges r p (k, get_or (zones roles) k []))
    zone p k less inside =
        let P : Edge → Type 0 = λ e. carried (carry r roles sets) e ≤ e.capacity in
        let ks = counts roles (set_at sets p) in
        let members = get_or (zones roles) k [] in
        let to_node : Role → Edge = λ role. edge (Zone p k) (Node role.node) 1 in
        let long = downs_length r ks ∙ counts_length roles (set_at sets p) in
        let part = get_or-le-sum_by (λ x. x) (downs r ks) k 0 (omega arith) in
        let all = few_down p less in
        All-cons P (edge (Up p) (Zone p k) 1) (edge (Down p) (Zone p k) (3 - r) ∷ map to_node members) (ups_one r ks k)
        (All-cons P (edge (Down p) (Zone p k) (3 - r)) (map to_node members) (omega arith)
        (All-map P to_node members (λ j d h. bit (has_node (get_or members j d).node (set_at sets p)))))
      where
        bit : (b : Bool) → cond {A = ℕ} b 1 0 ≤ 1
        bit true = le_refl 1
        bit false = omega arith

    part : (p : ℕ) → p < n → All (λ e. carried (carry r roles sets) e ≤ e.capacity) (partition_edges roles r p)
    part p less =
        let P : Edge → Type 0 = λ e. carried (carry r roles sets) e ≤ e.capacity in
        let zs = enumerate_from 0 (zones roles) in
        let rest = flat_map (zone_edges r p) zs in
        let a = ups_sum r (counts roles (set_at sets p)) in
        All-cons P (edge Source (Up p) r) (edge Source (Down p) (3 - r) ∷ rest) (omega arith)
        (All-cons P (edge Source (Down p) (3 - r)) rest (few_down p less)
        (All-flat_map P (zone_edges r p) zs
        (λ k d h.
        let inside : k < length (zones roles) = omega (arith, length-enumerate_from 0 (zones roles)) in
        subst (λ z. All P (zone_edges r p z)) (sym (zone_at roles k d inside)) (zone p k less inside))))

pub carry_is_flow : (n : ℕ) (roles : List Role) (r size : ℕ) (sets : List NodeSet) → 1 ≤ r → r ≤ 3 → IsPart n roles r size sets → IsFlow (network_of n roles r size) (carry r roles sets)
carry_is_flow n roles r size sets low high is_part = record {
  within = carry_within n roles r size sets low high is_part;
  kept = kept;
}
  where
    kept : (v : Vertex) → same_vertex v Source ≡ false → same_vertex v Sink ≡ false → into (network_of n roles r size) (carry r roles sets) v ≡ out_of (network_of n roles r size) (carry r roles sets) v
    kept Source e f = cc
    kept (Up p) e f = kept_up n roles r size sets p
    kept (Down p) e f = kept_down n roles r size sets p
    kept (Zone p i) e f = kept_zone n roles r size sets p i
    kept (Node m) e f = kept_node n roles r size sets is_part.whole m
    kept Sink e f = cc

-- the flow's value is how many copies the sets have
pub carry_value : (n : ℕ) (roles : List Role) (r size : ℕ) (sets : List NodeSet) → length sets ≡ n →
    value (network_of n roles r size) (carry r roles sets) ≡ sum_by (λ set. count_by (in_set set) (storage_nodes roles)) sets
carry_value n roles r size sets whole =
    let flow = carry r roles sets in
    let ps = range_with_len 0 n in
    let a = sum_of_edges n roles r size (λ e. cond (same_vertex e.from Source) (carried flow e) 0) in
    let b = sum_by-agree (part_sum roles r (λ e. cond (same_vertex e.from Source) (carried flow e) 0)) (λ p. count_by (in_set (set_at sets p)) (storage_nodes roles)) ps (λ k d h. at (get_or ps k d)) in
    let c = range_sum n (λ set. count_by (in_set set) (storage_nodes roles)) sets whole in
    let d = sum_by-none (storage_nodes roles) in
    omega arith
  where
    at : (p : ℕ) → part_sum roles r (λ e. cond (same_vertex e.from Source) (carried (carry r roles sets) e) 0) p ≡ count_by (in_set (set_at sets p)) (storage_nodes roles)
    at p =
        let ks = counts roles (set_at sets p) in
        let a = nothing roles in
        let b = both_sum r ks in
        let c = counts_sum roles (set_at sets p) in
        omega arith
