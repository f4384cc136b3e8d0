-- No bound of potentials is above the moves of an assignment that fits.
use Rattle.std.proofs.Common.{◌≡◌, ℕ, ◌+◌, ◌-◌, ◌*◌, ◌<◌, ◌≤◌, min, Bool, true, false, cond, not, IsTrue, List, [], ◌∷◌, length, get_or, refl, ap, inl, inr, arith}
use Rattle.std.specs.Prelude.{ℤ, pos, negsuc, ◌-ℤ◌, ◌*ℤ◌, ◌≤ℤ◌}
use borrow.Author.Differences.{up, down}
use Rattle.std.proofs.lemmas.Int.{ints}
use Rattle.std.specs.List.{sum_by, count_by, All, range_with_len, enumerate_from}
use Rattle.std.proofs.Math.Nat.{mul-le-mul_left}
use Rattle.std.proofs.lemmas.Bool.{cases_Bool}
use Rattle.std.proofs.lemmas.List.FromFn.{length-range_with_len}
use Rattle.std.proofs.lemmas.List.Sums.{sum_by-cons}
use Rattle.std.proofs.lemmas.List.Elements.{All-map}
use Rattle.layout_roles.specs.declared.role.Role.{Role}
use Rattle.layout_roles.specs.Zones.{nodes_ascend, storage_nodes, zone_names, nodes_in, zones}
use Rattle.layout_roles.specs.Fits.{NodeSet, has_node, load, room, partitions, IsThree, FitsAll, Fits, set_at}
use Rattle.layout_roles.specs.Network.{Edge, network_of, network}
use Rattle.layout_roles.specs.declared.vertex.Vertex.{Vertex}
use Rattle.layout_roles.specs.declared.vertex.Vertex.TheVariants.{Source, Up, Down, Zone, Node, Sink}
use Rattle.layout_flow.proofs.Sums.{yes, no, sum_by-plus, sum_by-agree, sum_by-below, sum_by-constant, sum_by-enumerate}
use Rattle.layout_flow.proofs.Zones.{count-cons, sum_by_zones}
use Rattle.layout_flow.proofs.Spread.{in_set, few_in_zone}
use Rattle.layout_flow.proofs.Lightest.{mul_below}
use Rattle.layout_flow.proofs.Bounds.{part_sum, sum_of_edges}
use Rattle.layout_flow.proofs.Printed.{all_parts}
use Rattle.layout_moves.specs.Moves.{new_nodes, moves_of, moves, cost_between, Potentials, positive, gain, bound}
use Rattle.layout_moves.proofs.Chosen.{sum_in_set, zones_of_set, zones_with_some, loads, threes_length}

-- ---- one zone, and all zones

-- what the chosen of a list gain over a zone
chosen_part : {X : Type 0} (t : X → Bool) (high low fee gains : X → ℕ) (zu zd : ℕ) (xs : List X) → ((x : X) → high x + zd ≤ zu + low x + (fee x + gains x)) →
    sum_by (λ x. cond (t x) (high x) 0) xs + count_by t xs * zd ≤ sum_by (λ x. cond (t x) (low x + fee x) 0) xs + count_by t xs * zu + sum_by gains xs
chosen_part t high low fee gains zu zd [] h = omega arith
chosen_part t high low fee gains zu zd (x ∷ xs) h =
    let ih = chosen_part t high low fee gains zu zd xs h in
    let a = sum_by-cons (λ x. cond (t x) (high x) 0) x xs in
    let b = sum_by-cons (λ x. cond (t x) (low x + fee x) 0) x xs in
    let c = sum_by-cons gains x xs in
    let e = count-cons t x xs in
    let hx = h x in
    elim (cases_Bool (t x)) [
      | inl y ↦
          let one : count_by t (x ∷ xs) ≡ 1 + count_by t xs = omega (arith, yes (t x) 1 y) in
          omega (arith, yes (t x) (high x) y, yes (t x) (low x + fee x) y, ap (λ m. m * zd) one, ap (λ m. m * zu) one)
      | inr n ↦
          let same : count_by t (x ∷ xs) ≡ count_by t xs = omega (arith, no (t x) 1 n) in
          omega (arith, no (t x) (high x) n, no (t x) (low x + fee x) n, ap (λ m. m * zd) same, ap (λ m. m * zu) same)
    ]

-- one zone's copies: so many come from up, at most one, and the others from down
zone_step : (k e d m zu zd uu ud du dd gu gd : ℕ) → k ≡ e + d → e ≤ 1 → d ≤ m → zu + ud ≤ uu + zd + gu → zu + dd ≤ du + zd + gd →
    k * zu + (e * ud + d * dd) ≤ k * zd + (e * uu + d * du) + (gu + m * gd)
zone_step k e d m zu zd uu ud du dd gu gd split one few hu hd =
    let a = mul-le-mul_left e hu in
    let b = mul-le-mul_left d hd in
    let c = mul_below e 1 gu one in
    let f = mul_below d m gd few in
    let g = ap (λ n. n * zu) split in
    let h = ap (λ n. n * zd) split in
    omega arith

-- the copies of all zones: left of them come from up, in different zones, and the rest from down
spread_part : {X : Type 0} (k zu zd gu gd : X → ℕ) (uu ud du dd m : ℕ) →
    ((x : X) → zu x + ud ≤ uu + zd x + gu x) → ((x : X) → zu x + dd ≤ du + zd x + gd x) →
    (xs : List X) (left rest : ℕ) → left ≤ sum_by (λ x. min 1 (k x)) xs → sum_by k xs ≡ left + rest → rest ≤ m →
    sum_by (λ x. k x * zu x) xs + (left * ud + rest * dd) ≤ sum_by (λ x. k x * zd x) xs + (left * uu + rest * du) + sum_by (λ x. gu x + m * gd x) xs
spread_part k zu zd gu gd uu ud du dd m hu hd [] left rest enough total few =
    let l : left ≡ 0 = omega arith in
    let r : rest ≡ 0 = omega arith in
    omega (arith, ap (λ n. n * ud) l, ap (λ n. n * uu) l, ap (λ n. n * dd) r, ap (λ n. n * du) r)
spread_part k zu zd gu gd uu ud du dd m hu hd (x ∷ xs) left rest enough total few =
    let a = sum_by-cons (λ x. k x * zu x) x xs in
    let b = sum_by-cons (λ x. k x * zd x) x xs in
    let c = sum_by-cons (λ x. gu x + m * gd x) x xs in
    let d = sum_by-cons k x xs in
    let o = sum_by-cons (λ x. min 1 (k x)) x xs in
    let below = sum_by-below (λ x. min 1 (k x)) k xs (λ j u h. omega arith) in
    let e = min left (min 1 (k x)) in
    let f = k x - e in
    let split : k x ≡ e + f = omega arith in
    let l : left ≡ e + (left - e) = omega arith in
    let r : rest ≡ f + (rest - f) = omega arith in
    let step = zone_step (k x) e f m (zu x) (zd x) uu ud du dd (gu x) (gd x) split (omega arith) (omega arith) (hu x) (hd x) in
    let ih = spread_part k zu zd gu gd uu ud du dd m hu hd xs (left - e) (rest - f) (omega arith) (omega arith) (omega arith) in
    joined e f (left - e) (rest - f) left rest uu ud du dd l r (ap (λ n. n * ud) l) (ap (λ n. n * uu) l) (ap (λ n. n * dd) r) (ap (λ n. n * du) r) _ _ _ _ _ _ _ _ _ step ih a b c
  where
    joined : (e f l' r' left rest uu ud du dd : ℕ) → left ≡ e + l' → rest ≡ f + r' →
        left * ud ≡ (e + l') * ud → left * uu ≡ (e + l') * uu → rest * dd ≡ (f + r') * dd → rest * du ≡ (f + r') * du →
        (s1 s2 s3 t1 t2 t3 x1 x2 x3 : ℕ) → x1 + (e * ud + f * dd) ≤ x2 + (e * uu + f * du) + x3 → s1 + (l' * ud + r' * dd) ≤ s2 + (l' * uu + r' * du) + s3 →
        t1 ≡ x1 + s1 → t2 ≡ x2 + s2 → t3 ≡ x3 + s3 → t1 + (left * ud + rest * dd) ≤ t2 + (left * uu + rest * du) + t3
    joined e f l' r' left rest uu ud du dd l r p1 p2 p3 p4 s1 s2 s3 t1 t2 t3 x1 x2 x3 step ih a b c = omega arith

-- ---- one partition

-- potentials as differences of two numbers, and what each pair of vertices gains at least
pub record Rises (old : List NodeSet) (high low : Vertex → ℕ) (gains : Vertex → Vertex → ℕ) : Type 0 where
  pub rises : (v w : Vertex) → high w + low v ≤ high v + low w + (cost_between old v w + gains v w)

abbrev pub gained : (Vertex → Vertex → ℕ) → Edge → ℕ
gained gains e = e.capacity * gains e.from e.to

new_as_sum : (old set : NodeSet) → sum_by (λ node. cond (has_node node old) 0 1) set ≡ new_nodes old set
new_as_sum old set = sum_by-agree (λ node. cond (has_node node old) 0 1) (λ node. cond (not (has_node node old)) 1 0) set (λ k d h. at (has_node (get_or set k d) old))
  where
    at : (b : Bool) → cond {A = ℕ} b 0 1 ≡ cond (not b) 1 0
    at true = refl
    at false = refl

part_bound : (roles : List Role) (r p : ℕ) (old : List NodeSet) (set : NodeSet) (high low : Vertex → ℕ) (gains : Vertex → Vertex → ℕ) → Rises old high low gains →
    1 ≤ r → r ≤ 3 → IsTrue (nodes_ascend roles) → IsThree roles set → All (λ zone. count_by (in_set set) zone ≤ 4 - r) (zones roles) →
    sum_by (λ n. high (Node n)) set + 3 * low Source ≤ sum_by (λ n. low (Node n)) set + 3 * high Source + new_nodes (set_at old p) set + part_sum roles r (gained gains) p
part_bound roles r p old set high low gains rises small great ascend three few =
    let zs = enumerate_from 0 (zones roles) in
    let k : ℕ × List Role → ℕ = λ z. count_by (in_set set) z.1 in
    let fee : ℕ → ℕ = λ n. cond (has_node n (set_at old p)) 0 1 in
    let tops : ℕ × List Role → ℕ = λ z. sum_by (λ role. cond (has_node role.node set) (high (Node role.node)) 0) z.1 in
    let feet : ℕ × List Role → ℕ = λ z. sum_by (λ role. cond (has_node role.node set) (low (Node role.node) + fee role.node) 0) z.1 in
    let inner : ℕ × List Role → ℕ = λ z. sum_by (λ role. gains (Zone p z.0) (Node role.node)) z.1 in
    let zu : ℕ × List Role → ℕ = λ z. high (Zone p z.0) in
    let zd : ℕ × List Role → ℕ = λ z. low (Zone p z.0) in
    let gu : ℕ × List Role → ℕ = λ z. gains (Up p) (Zone p z.0) in
    let gd : ℕ × List Role → ℕ = λ z. gains (Down p) (Zone p z.0) in
    let each = sum_by-below (λ z. tops z + k z * zd z) (λ z. feet z + k z * zu z + inner z) zs
    (λ j d h.
    let z = get_or zs j d in
    chosen_part (in_set set) (λ role. high (Node role.node)) (λ role. low (Node role.node)) (λ role. fee role.node) (λ role. gains (Zone p z.0) (Node role.node)) (zu z) (zd z) z.1
    (λ role. rises.rises (Zone p z.0) (Node role.node))) in
    let p1 = sum_by-plus tops (λ z. k z * zd z) zs in
    let p2 = sum_by-plus (λ z. feet z + k z * zu z) inner zs in
    let p3 = sum_by-plus feet (λ z. k z * zu z) zs in
    let t1 = sum_by-enumerate (λ zone. sum_by (λ role. cond (has_node role.node set) (high (Node role.node)) 0) zone) 0 (zones roles) in
    let t2 = sum_by_zones (λ role. cond (has_node role.node set) (high (Node role.node)) 0) roles in
    let t3 = sum_in_set roles set (λ n. high (Node n)) ascend three in
    let f1 = sum_by-enumerate (λ zone. sum_by (λ role. cond (has_node role.node set) (low (Node role.node) + fee role.node) 0) zone) 0 (zones roles) in
    let f2 = sum_by_zones (λ role. cond (has_node role.node set) (low (Node role.node) + fee role.node) 0) roles in
    let f3 = sum_in_set roles set (λ n. low (Node n) + fee n) ascend three in
    let f4 = sum_by-plus (λ n. low (Node n)) fee set in
    let f5 = new_as_sum (set_at old p) set in
    let total = zones_of_set roles set ascend three in
    let spread = spread_part k zu zd gu gd (high (Up p)) (low (Up p)) (high (Down p)) (low (Down p)) (3 - r)
    (λ z. simpler (zu z + low (Up p)) (high (Up p) + zd z) (gu z) (rises.rises (Up p) (Zone p z.0))) (λ z. simpler (zu z + low (Down p)) (high (Down p) + zd z) (gd z) (rises.rises (Down p) (Zone p z.0))) zs r (3 - r)
    (zones_with_some roles r set small great ascend three few) (omega arith) (omega arith) in
    let g1 = sum_by-agree (λ z. 1 * gu z + ((3 - r) * gd z + sum_by (λ role. 1 * gains (Zone p z.0) (Node role.node)) z.1)) (λ z. (gu z + (3 - r) * gd z) + inner z) zs
    (λ j d h.
    let z = get_or zs j d in
    let e = sum_by-agree (λ (role : Role). 1 * gains (Zone p z.0) (Node role.node)) (λ role. gains (Zone p z.0) (Node role.node)) z.1 (λ i u g. omega arith) in
    omega arith) in
    let g2 = sum_by-plus (λ z. gu z + (3 - r) * gd z) inner zs in
    let s1 = mul-le-mul_left r (rises.rises Source (Up p)) in
    let s2 = mul-le-mul_left (3 - r) (rises.rises Source (Down p)) in
    let whole : 3 ≡ r + (3 - r) = omega arith in
    let w1 = ap (λ n. n * low Source) whole in
    let w2 = ap (λ n. n * high Source) whole in
    omega arith
  where
    simpler : (a b c : ℕ) → a ≤ b + (0 + c) → a ≤ b + c
    simpler a b c h = omega arith

-- ---- all partitions

pub all_bound : (n : ℕ) (roles : List Role) (r size : ℕ) (old sets : List NodeSet) (high low : Vertex → ℕ) (gains : Vertex → Vertex → ℕ) → Rises old high low gains →
    1 ≤ r → r ≤ 3 → IsTrue (nodes_ascend roles) → FitsAll n roles r size sets →
    n * (3 * high Sink) + n * (3 * low Source) ≤ n * (3 * low Sink) + n * (3 * high Source) + moves_of n old sets + sum_by (gained gains) (network_of n roles r size)
unfolding moves_of
all_bound n roles r size old sets high low gains rises small great ascend fits =
    let ps = range_with_len 0 n in
    let nodes = storage_nodes roles in
    let tops : ℕ → ℕ = λ p. sum_by (λ m. high (Node m)) (set_at sets p) in
    let feet : ℕ → ℕ = λ p. sum_by (λ m. low (Node m)) (set_at sets p) in
    let news : ℕ → ℕ = λ p. new_nodes (set_at old p) (set_at sets p) in
    let parts = sum_by-below (λ p. tops p + 3 * low Source) (λ p. feet p + 3 * high Source + news p + part_sum roles r (gained gains) p) ps
    (all_parts n (λ p. tops p + 3 * low Source ≤ feet p + 3 * high Source + news p + part_sum roles r (gained gains) p)
    (λ p less.
    let set = set_at sets p in
    let inside : p < length sets = omega (arith, fits.whole) in
    let three = fits.threes p [] inside in
    part_bound roles r p old set high low gains rises small great ascend three
    (All-map (λ zone. count_by (in_set set) zone ≤ 4 - r) (nodes_in roles) (zone_names roles) (λ k d h. few_in_zone roles set r great ascend three (fits.spread p [] inside) (get_or (zone_names roles) k d))))) in
    let p1 = sum_by-plus tops (λ p. 3 * low Source) ps in
    let p2 = sum_by-plus (λ p. feet p + 3 * high Source + news p) (part_sum roles r (gained gains)) ps in
    let p3 = sum_by-plus (λ p. feet p + 3 * high Source) news ps in
    let p4 = sum_by-plus feet (λ p. 3 * high Source) ps in
    let c1 = sum_by-constant (3 * low Source) ps in
    let c2 = sum_by-constant (3 * high Source) ps in
    let len = length-range_with_len 0 n in
    let c3 = ap (λ m. m * (3 * low Source)) len in
    let c4 = ap (λ m. m * (3 * high Source)) len in
    let l1 = loads n roles sets (λ m. high (Node m)) ascend fits.whole fits.threes in
    let l2 = loads n roles sets (λ m. low (Node m)) ascend fits.whole fits.threes in
    let l3 = loads n roles sets (λ m. high Sink) ascend fits.whole fits.threes in
    let l4 = loads n roles sets (λ m. low Sink) ascend fits.whole fits.threes in
    let l5 = threes_length n roles sets (high Sink) fits.whole fits.threes in
    let l6 = threes_length n roles sets (low Sink) fits.whole fits.threes in
    let ends = sum_by-below (λ role. load sets role.node * high Sink + load sets role.node * low (Node role.node))
    (λ role. load sets role.node * high (Node role.node) + load sets role.node * low Sink + room size role * gains (Node role.node) Sink) nodes
    (λ k d h.
    let role = get_or nodes k d in
    let a = mul-le-mul_left (load sets role.node) (rises.rises (Node role.node) Sink) in
    let b = mul_below (load sets role.node) (room size role) (gains (Node role.node) Sink) (fits.within k d h) in
    omega arith) in
    let e1 = sum_by-plus (λ role. load sets role.node * high Sink) (λ role. load sets role.node * low (Node role.node)) nodes in
    let e2 = sum_by-plus (λ role. load sets role.node * high (Node role.node) + load sets role.node * low Sink) (λ role. room size role * gains (Node role.node) Sink) nodes in
    let e3 = sum_by-plus (λ role. load sets role.node * high (Node role.node)) (λ role. load sets role.node * low Sink) nodes in
    let edges = sum_of_edges n roles r size (gained gains) in
    omega arith

-- ---- whole numbers

rise : (v w : ℤ) (c : ℕ) → up w + down v ≤ up v + down w + (c + positive ((w -ℤ v) -ℤ pos c))
rise v w c = at ((w -ℤ v) -ℤ pos c) refl
  where
    at : (z : ℤ) → (w -ℤ v) -ℤ pos c ≡ z → up w + down v ≤ up v + down w + (c + positive z)
    at (pos n) e = omega (arith, ints)
    at (negsuc n) e = omega (arith, ints)

pub at_most : (roles : List Role) (r size : ℕ) (old sets : List NodeSet) (potential : Potentials) → IsTrue (nodes_ascend roles) → 1 ≤ r → r ≤ 3 → potential Source ≡ pos 0 → Fits roles r size sets →
    bound roles r size old potential ≤ℤ pos (moves old sets)
unfolding partitions
at_most roles r size old sets potential ascend small great source fits =
    let gains : Vertex → Vertex → ℕ = λ v w. positive ((potential w -ℤ potential v) -ℤ pos (cost_between old v w)) in
    let all = all_bound partitions roles r size old sets (λ v. up (potential v)) (λ v. down (potential v)) gains
    (record { rises = λ v w. rise (potential v) (potential w) (cost_between old v w) }) small great ascend fits in
    let hs : up (potential Source) ≡ 0 = ap up source in
    let ls : down (potential Source) ≡ 0 = ap down source in
    finish (potential Sink) (moves old sets) (sum_by (λ e. e.capacity * gain old potential e) (network roles r size)) (up (potential Source)) (down (potential Source)) hs ls all
  where
    finish : (z : ℤ) (m s hs ls : ℕ) → hs ≡ 0 → ls ≡ 0 → 256 * (3 * up z) + 256 * (3 * ls) ≤ 256 * (3 * down z) + 256 * (3 * hs) + m + s → ((pos 768 *ℤ z) -ℤ pos s) ≤ℤ pos m
    finish z m s hs ls e f h = omega (arith, ints)
