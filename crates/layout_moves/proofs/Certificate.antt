-- The potentials of prices: their bound is the number of moves.
use Rattle.std.proofs.Common.{◌≡◌, ℕ, ◌+◌, ◌-◌, ◌*◌, ◌<◌, ◌≤◌, cond, IsTrue, List, [], length, get_or, refl, sym, ap, subst, arith, le_trans}
use Rattle.std.specs.Prelude.{ℤ, pos, negsuc, ◌-ℤ◌, ◌*ℤ◌, ◌≤ℤ◌}
use Rattle.std.proofs.lemmas.Int.{ints}
use Rattle.std.specs.List.{sum_by, All, range_with_len, enumerate_from}
use Rattle.std.proofs.Math.Nat.{mul-le-mul_left}
use Rattle.std.proofs.lemmas.List.FromFn.{length-range_with_len, length-enumerate_from}
use Rattle.layout_roles.specs.declared.role.Role.{Role}
use Rattle.layout_roles.specs.Zones.{nodes_ascend, storage_nodes, zones}
use Rattle.layout_roles.specs.Fits.{NodeSet, has_node, load, room, partitions, Fits, set_at}
use Rattle.layout_roles.specs.Network.{Edge, edge, network_of, network}
use Rattle.layout_roles.specs.declared.vertex.Vertex.TheVariants.{Source, Up, Down, Zone, Node, Sink}
use Rattle.layout_flow.proofs.Sums.{sum_by-plus, sum_by-below, sum_by-constant, sum_by-enumerate}
use Rattle.layout_flow.proofs.Bounds.{part_sum, sum_of_edges}
use Rattle.layout_flow.proofs.Printed.{all_parts, zone_at}
use Rattle.layout_moves.specs.Moves.{moves_of, moves, Potentials, positive, gain, bound}
use Rattle.layout_moves.specs.Prices.{IsBase, IsCheap, asked, dearest, level, AreCovered, potential}
use Rattle.layout_moves.proofs.Near.{zone_gain, gains_little}
use Rattle.layout_moves.proofs.Limit.{asked_is, rooms_cost}
use Rattle.layout_moves.proofs.Weak.{at_most}

-- ---- gains of differences

between : (t a b c : ℕ) → positive (((pos t -ℤ pos a) -ℤ (pos t -ℤ pos b)) -ℤ pos c) ≤ b - (a + c)
between t a b c = at (((pos t -ℤ pos a) -ℤ (pos t -ℤ pos b)) -ℤ pos c) refl
  where
    at : (z : ℤ) → ((pos t -ℤ pos a) -ℤ (pos t -ℤ pos b)) -ℤ pos c ≡ z → positive z ≤ b - (a + c)
    at (pos n) e = omega (arith, ints)
    at (negsuc n) e = omega arith

from_source : (t b : ℕ) → positive (((pos t -ℤ pos b) -ℤ pos 0) -ℤ pos 0) ≤ t - b
from_source t b = at (((pos t -ℤ pos b) -ℤ pos 0) -ℤ pos 0) refl
  where
    at : (z : ℤ) → ((pos t -ℤ pos b) -ℤ pos 0) -ℤ pos 0 ≡ z → positive z ≤ t - b
    at (pos n) e = omega (arith, ints)
    at (negsuc n) e = omega arith

to_sink : (t y : ℕ) → positive ((pos t -ℤ (pos t -ℤ pos y)) -ℤ pos 0) ≤ y
to_sink t y = at ((pos t -ℤ (pos t -ℤ pos y)) -ℤ pos 0) refl
  where
    at : (z : ℤ) → (pos t -ℤ (pos t -ℤ pos y)) -ℤ pos 0 ≡ z → positive z ≤ y
    at (pos n) e = omega (arith, ints)
    at (negsuc n) e = omega arith

-- ---- one partition

-- potentials that are those of prices at the vertices of the network
pub record Agrees (n : ℕ) (roles : List Role) (one other : Potentials) : Type 0 where
  pub source : one Source ≡ other Source
  pub up : (p : ℕ) → p < n → one (Up p) ≡ other (Up p)
  pub down : (p : ℕ) → p < n → one (Down p) ≡ other (Down p)
  pub zone : (p i : ℕ) → p < n → i < length (zones roles) → one (Zone p i) ≡ other (Zone p i)
  pub node : All (λ role. one (Node role.node) ≡ other (Node role.node)) (storage_nodes roles)
  pub zone_node : (i : ℕ) → i < length (zones roles) → All (λ role. one (Node role.node) ≡ other (Node role.node)) (get_or (zones roles) i [])
  pub sink : one Sink ≡ other Sink

-- sets that are exactly cheap, at prices that only full nodes have
pub record Settled (n : ℕ) (roles : List Role) (r size : ℕ) (old sets : List NodeSet) (prices : List ℕ) (top : ℕ) : Type 0 where
  pub whole : length sets ≡ n
  pub bases : All (IsBase roles (4 - r)) sets
  pub cheap : (p : ℕ) → p < n → IsCheap 0 (4 - r) (zones roles) (asked 1 (set_at old p) prices) (set_at sets p)
  pub covered : AreCovered roles size sets prices
  pub topped : (p : ℕ) → p < n → dearest (asked 1 (set_at old p) prices) (set_at sets p) ≤ top

abbrev gains_of : List NodeSet → Potentials → Edge → ℕ
gains_of old one e = e.capacity * gain old one e

part_gains : (n : ℕ) (roles : List Role) (r size : ℕ) (old sets : List NodeSet) (prices : List ℕ) (top : ℕ) (one : Potentials) → 1 ≤ r → r ≤ 3 → IsTrue (nodes_ascend roles) →
    Settled n roles r size old sets prices top → Agrees n roles one (potential roles (4 - r) old sets prices top) → (p : ℕ) → p < n →
    part_sum roles r (gains_of old one) p + sum_by (asked 1 (set_at old p) prices) (set_at sets p) ≤ 3 * top
part_gains n roles r size old sets prices top one low high ascend settled agrees p less =
    let set = set_at sets p in
    let asks = asked 1 (set_at old p) prices in
    let b = dearest asks set in
    let lev : List Role → ℕ = level (4 - r) asks set in
    let zs = enumerate_from 0 (zones roles) in
    let term : ℕ × List Role → ℕ = λ z. 1 * gain old one (edge (Up p) (Zone p z.0) 1) + ((3 - r) * gain old one (edge (Down p) (Zone p z.0) (3 - r)) + sum_by (λ role. 1 * gain old one (edge (Zone p z.0) (Node role.node) 1)) z.1) in
    let little : ℕ × List Role → ℕ = λ z. zone_gain (4 - r) asks b (lev z.1) z.1 in
    let up : gain old one (edge Source (Up p) r) ≤ top - b = source_gain (one (Up p)) (one Source) top b (agrees.up p less) agrees.source in
    let down : gain old one (edge Source (Down p) (3 - r)) ≤ top - b = source_gain (one (Down p)) (one Source) top b (agrees.down p less) agrees.source in
    let each = sum_by-below term little zs
    (λ k d h.
    let inside : k < length (zones roles) = omega (arith, length-enumerate_from 0 (zones roles)) in
    subst (λ z. term z ≤ little z) (sym (zone_at roles k d inside)) (zone k inside)) in
    let enumerated = sum_by-enumerate (λ zone. zone_gain (4 - r) asks b (lev zone) zone) 0 (zones roles) in
    let few = gains_little roles 0 (4 - r) asks set ascend (settled.bases p [] (omega (arith, settled.whole))) (settled.cheap p less) in
    let u = mul-le-mul_left r up in
    let v = mul-le-mul_left (3 - r) down in
    let whole : 3 ≡ r + (3 - r) = omega arith in
    let w = ap (λ m. m * (top - b)) whole in
    let t = settled.topped p less in
    let none : length (storage_nodes roles) * 0 ≡ 0 = omega arith in
    omega arith
  where
    source_gain : (x s : ℤ) (t b : ℕ) → x ≡ pos t -ℤ pos b → s ≡ pos 0 → positive ((x -ℤ s) -ℤ pos 0) ≤ t - b
    source_gain x s t b e f = subst (λ y. positive ((y -ℤ s) -ℤ pos 0) ≤ t - b) (sym e) (subst (λ y. positive (((pos t -ℤ pos b) -ℤ y) -ℤ pos 0) ≤ t - b) (sym f) (from_source t b))

    zone_rise : (x y : ℤ) (t a b c : ℕ) → x ≡ pos t -ℤ pos a → y ≡ pos t -ℤ pos b → positive ((x -ℤ y) -ℤ pos c) ≤ b - (a + c)
    zone_rise x y t a b c e f = subst (λ w. positive ((w -ℤ y) -ℤ pos c) ≤ b - (a + c)) (sym e) (subst (λ w. positive (((pos t -ℤ pos a) -ℤ w) -ℤ pos c) ≤ b - (a + c)) (sym f) (between t a b c))

    zone : (k : ℕ) → k < length (zones roles) →
        1 * gain old one (edge (Up p) (Zone p k) 1) + ((3 - r) * gain old one (edge (Down p) (Zone p k) (3 - r)) + sum_by (λ role. 1 * gain old one (edge (Zone p k) (Node role.node) 1)) (get_or (zones roles) k []))
        ≤ zone_gain (4 - r) (asked 1 (set_at old p) prices) (dearest (asked 1 (set_at old p) prices) (set_at sets p)) (level (4 - r) (asked 1 (set_at old p) prices) (set_at sets p) (get_or (zones roles) k [])) (get_or (zones roles) k [])
    zone k inside =
        let asks = asked 1 (set_at old p) prices in
        let b = dearest asks (set_at sets p) in
        let members = get_or (zones roles) k [] in
        let a = level (4 - r) asks (set_at sets p) members in
        let no_fee : b - (a + 0) ≡ b - a = omega arith in
        let up : gain old one (edge (Up p) (Zone p k) 1) ≤ b - a = subst (λ n. gain old one (edge (Up p) (Zone p k) 1) ≤ n) no_fee (zone_rise (one (Zone p k)) (one (Up p)) top a b 0 (agrees.zone p k less inside) (agrees.up p less)) in
        let down : gain old one (edge (Down p) (Zone p k) (3 - r)) ≤ b - a = subst (λ n. gain old one (edge (Down p) (Zone p k) (3 - r)) ≤ n) no_fee (zone_rise (one (Zone p k)) (one (Down p)) top a b 0 (agrees.zone p k less inside) (agrees.down p less)) in
        let nodes = sum_by-below (λ role. 1 * gain old one (edge (Zone p k) (Node role.node) 1)) (λ role. a - asks role.node) members
        (λ j u g.
        let role = get_or members j u in
        let fee = cond {A = ℕ} (has_node role.node (set_at old p)) 0 1 in
        let rise = zone_rise (one (Node role.node)) (one (Zone p k)) top (get_or prices role.node 0) a fee (agrees.zone_node k inside j u g) (agrees.zone p k less inside) in
        omega arith) in
        let v = mul-le-mul_left (3 - r) down in
        let whole : 4 - r ≡ 1 + (3 - r) = omega arith in
        let w = ap (λ m. m * (b - a)) whole in
        omega arith

-- ---- all partitions

pub all_gains : (n : ℕ) (roles : List Role) (r size : ℕ) (old sets : List NodeSet) (prices : List ℕ) (top : ℕ) (one : Potentials) → 1 ≤ r → r ≤ 3 → IsTrue (nodes_ascend roles) →
    Settled n roles r size old sets prices top → Agrees n roles one (potential roles (4 - r) old sets prices top) →
    sum_by (gains_of old one) (network_of n roles r size) + moves_of n old sets ≤ n * (3 * top)
all_gains n roles r size old sets prices top one low high ascend settled agrees =
    let ps = range_with_len 0 n in
    let nodes = storage_nodes roles in
    let price : Role → ℕ = λ role. get_or prices role.node 0 in
    let part : ℕ → ℕ = part_sum roles r (gains_of old one) in
    let asks : ℕ → ℕ = λ p. sum_by (asked 1 (set_at old p) prices) (set_at sets p) in
    let edges = sum_of_edges n roles r size (gains_of old one) in
    let parts = sum_by-below (λ p. part p + asks p) (λ p. 3 * top) ps
    (all_parts n (λ p. part p + asks p ≤ 3 * top) (part_gains n roles r size old sets prices top one low high ascend settled agrees)) in
    let p1 = sum_by-plus part asks ps in
    let c1 = sum_by-constant (3 * top) ps in
    let c2 = ap (λ m. m * (3 * top)) (length-range_with_len 0 n) in
    let a1 = asked_is n 1 roles old sets prices ascend settled.whole (λ k d h. (settled.bases k d h).three) in
    let ends = sum_by-below (λ role. room size role * gain old one (edge (Node role.node) Sink (room size role))) (λ role. load sets role.node * price role) nodes
    (λ k d h.
    let role = get_or nodes k d in
    let g = sink_gain (one Sink) (one (Node role.node)) top (price role) agrees.sink (agrees.node k d h) in
    le_trans (mul-le-mul_left (room size role) g) (rooms_cost roles size sets prices settled.covered k d h)) in
    omega arith
  where
    sink_gain : (x y : ℤ) (t p : ℕ) → x ≡ pos t → y ≡ pos t -ℤ pos p → positive ((x -ℤ y) -ℤ pos 0) ≤ p
    sink_gain x y t p e f = subst (λ w. positive ((w -ℤ y) -ℤ pos 0) ≤ p) (sym e) (subst (λ w. positive ((pos t -ℤ w) -ℤ pos 0) ≤ p) (sym f) (to_sink t p))

-- the bound is the number of moves
pub bound_is : (roles : List Role) (r size : ℕ) (old sets : List NodeSet) (prices : List ℕ) (top : ℕ) (one : Potentials) → 1 ≤ r → r ≤ 3 → IsTrue (nodes_ascend roles) → Fits roles r size sets →
    Settled 256 roles r size old sets prices top → Agrees 256 roles one (potential roles (4 - r) old sets prices top) →
    bound roles r size old one ≡ pos (moves old sets)
unfolding partitions
bound_is roles r size old sets prices top one low high ascend fits settled agrees =
    let all = all_gains 256 roles r size old sets prices top one low high ascend settled agrees in
    let most = at_most roles r size old sets one ascend low high agrees.source fits in
    finish (one Sink) top (moves old sets) (sum_by (gains_of old one) (network roles r size)) agrees.sink all most
  where
    finish : (z : ℤ) (t m s : ℕ) → z ≡ pos t → s + m ≤ 256 * (3 * t) → ((pos 768 *ℤ z) -ℤ pos s) ≤ℤ pos m → (pos 768 *ℤ z) -ℤ pos s ≡ pos m
    finish z t m s e h most = omega (arith, ints)
