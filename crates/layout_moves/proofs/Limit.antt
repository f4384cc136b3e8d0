-- How high a price can rise while an assignment fits.
use Rattle.std.proofs.Common.{◌≡◌, ℕ, zero, suc, ◌+◌, ◌-◌, ◌*◌, ◌<◌, ◌≤◌, Bool, true, false, cond, not, IsTrue, List, [], ◌∷◌, length, get_or, refl, ap, inl, inr, arith, le_refl}
use Rattle.std.specs.List.{sum_by, count_by, All, range_with_len}
use Rattle.std.proofs.Math.Nat.{mul-le-mul_left}
use Rattle.std.proofs.lemmas.Bool.{cases_lt}
use Rattle.std.proofs.lemmas.List.FromFn.{length-range_with_len}
use Rattle.std.proofs.lemmas.List.Sums.{sum_by-cons}
use Rattle.std.proofs.lemmas.List.Elements.{All-head, All-tail, All-map}
use Rattle.layout_roles.specs.declared.role.Role.{Role}
use Rattle.layout_roles.specs.Zones.{nodes_ascend, storage_nodes, zone_names, nodes_in, zones}
use Rattle.layout_roles.specs.Fits.{NodeSet, has_node, load, room, IsThree, FitsAll, set_at}
use Rattle.layout_flow.proofs.Sums.{sum_by-plus, sum_by-agree, sum_by-below, sum_by-constant}
use Rattle.layout_flow.proofs.Zones.{count_times}
use Rattle.layout_flow.proofs.Spread.{few_in_zone}
use Rattle.layout_flow.proofs.Lightest.{mul_below}
use Rattle.layout_flow.proofs.Printed.{all_parts}
use Rattle.layout_moves.specs.Moves.{new_nodes, moves_of}
use Rattle.layout_moves.specs.Prices.{IsBase, IsCheap, asked, AreCovered}
use Rattle.layout_moves.proofs.Chosen.{loads, threes_length}
use Rattle.layout_moves.proofs.Near.{cheap_near}

-- what all copies ask
abbrev pub all_asked : ℕ → ℕ → List NodeSet → List NodeSet → List ℕ → ℕ
all_asked n fee old sets prices = sum_by (λ p. sum_by (asked fee (set_at old p) prices) (set_at sets p)) (range_with_len 0 n)

-- the sets of an assignment that fits are not too many in a zone
pub base_of_fits : (n : ℕ) (roles : List Role) (r size : ℕ) (sets : List NodeSet) → r ≤ 3 → IsTrue (nodes_ascend roles) → FitsAll n roles r size sets → All (IsBase roles (4 - r)) sets
base_of_fits n roles r size sets great ascend fits k d h = record {
  three = fits.threes k d h;
  few = All-map (λ zone. count_by (λ role. has_node role.node (get_or sets k d)) zone ≤ 4 - r) (nodes_in roles) (zone_names roles)
      (λ j u g. few_in_zone roles (get_or sets k d) r great ascend (fits.threes k d h) (fits.spread k d h) (get_or (zone_names roles) j u));
}

fee_sum : (fee : ℕ) (old set : NodeSet) → sum_by (λ node. cond (has_node node old) 0 fee) set ≡ fee * new_nodes old set
fee_sum fee old set =
    let a = sum_by-agree (λ node. cond (has_node node old) 0 fee) (λ node. cond (not (has_node node old)) fee 0) set (λ k d h. at (has_node (get_or set k d) old)) in
    let b = count_times (λ node. not (has_node node old)) fee set in
    omega arith
  where
    at : (b : Bool) → cond b 0 fee ≡ cond (not b) fee 0
    at true = refl
    at false = refl

-- what all copies ask are the fees of the moves, and the prices
pub asked_is : (n fee : ℕ) (roles : List Role) (old sets : List NodeSet) (prices : List ℕ) → IsTrue (nodes_ascend roles) → length sets ≡ n → All (IsThree roles) sets →
    all_asked n fee old sets prices ≡ sum_by (λ role. load sets role.node * get_or prices role.node 0) (storage_nodes roles) + fee * moves_of n old sets
unfolding moves_of
asked_is n fee roles old sets prices ascend whole threes =
    let ps = range_with_len 0 n in
    let price : ℕ → ℕ = λ p. sum_by (λ node. get_or prices node 0) (set_at sets p) in
    let fees : ℕ → ℕ = λ p. fee * new_nodes (set_at old p) (set_at sets p) in
    let a = sum_by-agree (λ p. sum_by (asked fee (set_at old p) prices) (set_at sets p)) (λ p. price p + fees p) ps
    (λ k d h.
    let p = get_or ps k d in
    let e = sum_by-plus (λ node. get_or prices node 0) (λ node. cond (has_node node (set_at old p)) 0 fee) (set_at sets p) in
    let f = fee_sum fee (set_at old p) (set_at sets p) in
    omega arith) in
    let b = sum_by-plus price fees ps in
    let c = loads n roles sets (λ node. get_or prices node 0) ascend whole threes in
    let e = scale fee (λ p. new_nodes (set_at old p) (set_at sets p)) ps in
    omega arith
  where
    scale : (m : ℕ) (f : ℕ → ℕ) (xs : List ℕ) → sum_by (λ x. m * f x) xs ≡ m * sum_by f xs
    scale m f [] = omega arith
    scale m f (x ∷ xs) = omega (arith, sum_by-cons (λ x. m * f x) x xs, sum_by-cons f x xs, ap (λ k. m * k) (sum_by-cons f x xs), scale m f xs)

-- no assignment moves more than it has copies
few_moves : (n : ℕ) (roles : List Role) (old sets : List NodeSet) → length sets ≡ n → All (IsThree roles) sets → moves_of n old sets ≤ n * 3
unfolding moves_of
few_moves n roles old sets whole threes =
    let ps = range_with_len 0 n in
    let a = sum_by-below (λ p. new_nodes (set_at old p) (set_at sets p)) (λ p. sum_by (λ x. 1) (set_at sets p)) ps
    (λ k d h. let p = get_or ps k d in sum_by-below (λ node. cond (not (has_node node (set_at old p))) 1 0) (λ node. 1) (set_at sets p) (λ j u g. bit (not (has_node (get_or (set_at sets p) j u) (set_at old p))))) in
    let b = threes_length n roles sets 1 whole threes in
    omega arith
  where
    bit : (b : Bool) → cond {A = ℕ} b 1 0 ≤ 1
    bit true = le_refl 1
    bit false = omega arith

-- where no term is below that of the other sum, one that is above it by c counts
pub gap_at : {X : Type 0} (f g : X → ℕ) (c : ℕ) (xs : List X) → All (λ x. f x ≤ g x) xs → (k : ℕ) (d : X) → k < length xs → f (get_or xs k d) + c ≤ g (get_or xs k d) → sum_by f xs + c ≤ sum_by g xs
gap_at f g c [] le k d h gap = absurd (omega arith)
gap_at f g c (x ∷ xs) le zero d h gap =
    let a = sum_by-cons f x xs in
    let b = sum_by-cons g x xs in
    let rest = sum_by-below f g xs (All-tail (λ x. f x ≤ g x) x xs le) in
    omega arith
gap_at f g c (x ∷ xs) le (suc k) d h gap =
    let a = sum_by-cons f x xs in
    let b = sum_by-cons g x xs in
    let first = All-head (λ x. f x ≤ g x) x xs le in
    let rest = gap_at f g c xs (All-tail (λ x. f x ≤ g x) x xs le) k d (omega arith) gap in
    omega arith

-- what a node's room costs is no more than what its copies cost
room_costs : (room load price : ℕ) → (0 < price → room ≤ load) → room * price ≤ load * price
room_costs room load price covered =
    elim (cases_lt 0 price) [
      | inl some ↦ mul_below room load price (covered some)
      | inr none ↦
          let e : price ≡ 0 = omega arith in
          let a = ap (λ p. room * p) e in
          omega arith
    ]

pub rooms_cost : (roles : List Role) (size : ℕ) (sets : List NodeSet) (prices : List ℕ) → AreCovered roles size sets prices →
    All (λ role. room size role * get_or prices role.node 0 ≤ load sets role.node * get_or prices role.node 0) (storage_nodes roles)
rooms_cost roles size sets prices covered k d h =
    let role = get_or (storage_nodes roles) k d in
    room_costs (room size role) (load sets role.node) (get_or prices role.node 0) (covered k d h)

-- cheap sets, with no price at a node that has room left: a node that has too many copies is priced no higher than this
pub limit : (n fee slack : ℕ) (roles : List Role) (r size : ℕ) (old sets other : List NodeSet) (prices : List ℕ) → r ≤ 3 → IsTrue (nodes_ascend roles) → length sets ≡ n → All (IsBase roles (4 - r)) sets →
    ((p : ℕ) → p < n → IsCheap slack (4 - r) (zones roles) (asked fee (set_at old p) prices) (set_at sets p)) → AreCovered roles size sets prices → FitsAll n roles r size other →
    All (λ role. room size role < load sets role.node → get_or prices role.node 0 ≤ fee * (n * 3) + n * (length (storage_nodes roles) * slack)) (storage_nodes roles)
limit n fee slack roles r size old sets other prices great ascend whole bases cheap covered fits k d h over =
    let ps = range_with_len 0 n in
    let nodes = storage_nodes roles in
    let each = length nodes * slack in
    let asks : ℕ → ℕ → ℕ = λ p. asked fee (set_at old p) prices in
    let others = base_of_fits n roles r size other great ascend fits in
    let threes : All (IsThree roles) sets = λ j u g. (bases j u g).three in
    let near = sum_by-below (λ p. sum_by (asks p) (set_at sets p)) (λ p. sum_by (asks p) (set_at other p) + each) ps
    (all_parts n (λ p. sum_by (asks p) (set_at sets p) ≤ sum_by (asks p) (set_at other p) + each)
    (λ p less. cheap_near roles slack (4 - r) (asks p) (set_at sets p) (set_at other p) ascend (bases p [] (omega arith)) (cheap p less) (others p [] (omega (arith, fits.whole))))) in
    let p1 = sum_by-plus (λ p. sum_by (asks p) (set_at other p)) (λ p. each) ps in
    let c1 = sum_by-constant each ps in
    let len = length-range_with_len 0 n in
    let c2 = ap (λ m. m * each) len in
    let a1 = asked_is n fee roles old sets prices ascend whole threes in
    let a2 = asked_is n fee roles old other prices ascend fits.whole fits.threes in
    let price : Role → ℕ = λ role. get_or prices role.node 0 in
    let b1 = sum_by-below (λ role. load other role.node * price role) (λ role. room size role * price role) nodes
    (λ j u g. let role = get_or nodes j u in mul_below (load other role.node) (room size role) (price role) (fits.within j u g)) in
    let m1 = mul-le-mul_left fee (few_moves n roles old other fits.whole fits.threes) in
    let role = get_or nodes k d in
    let step = mul_below (room size role + 1) (load sets role.node) (price role) (omega arith) in
    let gap = gap_at (λ role. room size role * price role) (λ role. load sets role.node * price role) (price role) nodes (rooms_cost roles size sets prices covered) k d h (omega arith) in
    omega arith
