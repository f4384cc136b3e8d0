-- The set that is the same in each partition is the printed cut, where the zones have too little room.
use Rattle.std.proofs.Common.{◌≡◌, ℕ, ◌+◌, ◌-◌, ◌*◌, ◌<◌, ◌≤◌, min, Bool, true, false, cond, ◌&&◌, ◌||◌, ◌==◌, nat_lt, IsTrue, List, [], ◌∷◌, length, get_or, refl, sym, ap, ◌∙◌, subst, inl, inr, arith, le_refl, le_trans, eqb-true, ltb-true, ltb-false, lt-ltb}
use Rattle.std.specs.List.{count_by, list_any, All, enumerate_from, range_with_len}
use Rattle.std.proofs.lemmas.Bool.{cases_Bool, and_parts, and_left, eq-eqb}
use Rattle.std.proofs.lemmas.List.Folds.{Any-from_list_any}
use Rattle.std.proofs.lemmas.List.FromFn.{length-range_with_len, get_or-range_with_len, length-enumerate_from, get_or-enumerate_from}
use Rattle.std.proofs.lemmas.List.{get_or_default}
use Rattle.std.proofs.lemmas.List.Sums.{get_or-le-sum_by}
use Rattle.layout_roles.specs.declared.role.Role.{Role}
use Rattle.layout_roles.specs.Zones.{nodes_ascend, zones}
use Rattle.layout_roles.specs.Fits.{room}
use Rattle.layout_roles.specs.Network.{network_of}
use Rattle.layout_roles.specs.Cuts.{Side, IsCut, weight, IsPrinted}
use Rattle.layout_flow.specs.Totals.{copies_in}
use Rattle.layout_flow.specs.Closed.{copies_for, down_is_held, to_zone, zone_is_held, node_is_held, held, printed_side}
use Rattle.layout_roles.specs.declared.vertex.Vertex.{Vertex}
use Rattle.layout_roles.specs.declared.vertex.Vertex.TheVariants.{Source, Up, Down, Zone, Node, Sink}
use Rattle.layout_flow.proofs.Sums.{sum_by-agree, sum_by-below}
use Rattle.layout_flow.proofs.Lightest.{mul_below, kept_out, into_zone, lightest, lightest_holds}
use Rattle.layout_flow.proofs.Zones.{count_at, count_some, any_from_count, any_of_one, zones_once}
use Rattle.layout_flow.proofs.Weights.{zone_times, zone_least, node_times, Held, zone_exact, zone_exact_out, holds, as_here, zone_here, here_is, least_is, here_below, here_tight, lightest_here, weight_from_parts, parts_from_weight, weight_from_same}

-- ---- a place in the lists

pub zone_at : (roles : List Role) (k : ℕ) (d : ℕ × List Role) → k < length (zones roles) → get_or (enumerate_from 0 (zones roles)) k d ≡ (k, get_or (zones roles) k [])
zone_at roles k d h =
    let e = get_or-enumerate_from 0 (zones roles) k d h in
    let z = get_or_default (zones roles) k d.1 [] h in
    let n : 0 + k ≡ k = omega arith in
    e ∙ (λ i. (n i, z i))

part_at : (n p : ℕ) → p < n → (P : ℕ → Type 0) → All P (range_with_len 0 n) → P p
part_at n p h P all =
    let at : get_or (range_with_len 0 n) p 0 ≡ p = get_or-range_with_len 0 n p 0 h ∙ (omega arith) in
    subst P at (all p 0 (omega (arith, length-range_with_len 0 n)))

pub all_parts : (n : ℕ) (P : ℕ → Type 0) → ((p : ℕ) → p < n → P p) → All P (range_with_len 0 n)
all_parts n P each k d h =
    let less : k < n = omega (arith, length-range_with_len 0 n) in
    let at : get_or (range_with_len 0 n) k d ≡ k = get_or-range_with_len 0 n k d less ∙ (omega arith) in
    subst P (sym at) (each k less)

-- ---- the nodes that are held

-- a node stands in one zone alone, so it is held where that zone is and it has little room
node_held_at : (n size each : ℕ) (roles : List Role) → IsTrue (nodes_ascend roles) → (k : ℕ) → k < length (zones roles) → (down : Bool) (r : ℕ) →
    All (λ role. held n roles r size each down (Node role.node) ≡ (zone_is_held n size each (get_or (zones roles) k []) && nat_lt (room size role) n)) (get_or (zones roles) k [])
node_held_at n size each roles ascend k h down r j d g =
    let zone = get_or (zones roles) k [] in
    let role = get_or zone j d in
    let node = role.node in
    let has : List Role → Bool = λ z. list_any (λ other. other.node == node) z in
    let test : Role → Bool = λ other. other.node == node in
    let itself : test role ≡ true = eq-eqb role.node role.node refl in
    let in_sum = get_or-le-sum_by (λ z. count_by test z) (zones roles) k [] h in
    let once = zones_once node roles ascend in
    let in_zone = any_of_one test (λ other. nat_lt (room size other) n) zone (omega arith) j d g itself in
    let zones_have : count_by has (zones roles) ≤ 1 = le_trans (sum_by-below (λ z. cond (has z) 1 0) (λ z. count_by test z) (zones roles) (λ k d h. one_below test (get_or (zones roles) k d))) once in
    let zone_has : has zone ≡ true = any_at test zone j d g itself in
    let across = any_of_one has (λ z. zone_is_held n size each z && list_any (λ other. (other.node == node) && nat_lt (room size other) n) z) (zones roles) zones_have k [] h zone_has in
    list_any_agree (node_is_held n size each node) (λ z. has z && (zone_is_held n size each z && list_any (λ other. (other.node == node) && nat_lt (room size other) n) z)) (zones roles)
    (λ z. absorbs (has z) (zone_is_held n size each z) (list_any (λ other. (other.node == node) && nat_lt (room size other) n) z) (λ e. any_without test (λ other. nat_lt (room size other) n) z e))
    ∙ across ∙ ap (λ b. zone_is_held n size each zone && b) in_zone
  where
    one_below_by : (b : Bool) (m : ℕ) → (b ≡ true → 1 ≤ m) → cond b 1 0 ≤ m
    one_below_by true m some = some refl
    one_below_by false m some = omega arith

    one_below : (test : Role → Bool) (z : List Role) → cond (list_any test z) 1 0 ≤ count_by test z
    one_below test z = one_below_by (list_any test z) (count_by test z) (count_some test z)

    any_at : (test : Role → Bool) (z : List Role) (j : ℕ) (d : Role) → j < length z → test (get_or z j d) ≡ true → list_any test z ≡ true
    any_at test z j d g e = any_from_count test z (count_at test z j d g e)

    list_any_agree : (p q : List Role → Bool) (zs : List (List Role)) → ((z : List Role) → p z ≡ q z) → list_any p zs ≡ list_any q zs
    list_any_agree p q [] same = refl
    list_any_agree p q (z ∷ zs) same = let a = same z in let b = list_any_agree p q zs same in cc

    absorbs : (a b c : Bool) → (a ≡ false → c ≡ false) → (b && c) ≡ (a && (b && c))
    absorbs true b c h = refl
    absorbs false true c h = h refl
    absorbs false false c h = refl

    without : (a b c d : Bool) → (a || c) ≡ false → (c ≡ false → d ≡ false) → ((a && b) || d) ≡ false
    without true b c d e f = cc
    without false b c d e f = f e

    any_without : (t s : Role → Bool) (z : List Role) → list_any t z ≡ false → list_any (λ other. t other && s other) z ≡ false
    any_without t s [] e = refl
    any_without t s (x ∷ xs) e = without (t x) (s x) (list_any t xs) (list_any (λ other. t other && s other) xs) e (any_without t s xs)

-- ---- its weight

each_is : (r : ℕ) → r ≤ 3 → (down : Bool) → into_zone r true down ≡ to_zone r down
each_is r high true = omega arith
each_is r high false = omega arith

-- what the set holds of one partition
pub record HeldHere (n : ℕ) (roles : List Role) (r size each : ℕ) (down : Bool) (p : ℕ) : Type 0 where
  pub up : held n roles r size each down (Up p) ≡ true
  pub down_is : held n roles r size each down (Down p) ≡ down
  pub zone_is : (k : ℕ) → k < length (zones roles) → held n roles r size each down (Zone p k) ≡ zone_is_held n size each (get_or (zones roles) k [])

pub held_here : (n : ℕ) (roles : List Role) (r size each : ℕ) (down : Bool) (p : ℕ) → p < n → HeldHere n roles r size each down p
held_here n roles r size each down p less =
    let yes : nat_lt p n ≡ true = lt-ltb p n less in
    record {
      up = yes;
      down_is = right down (nat_lt p n) yes;
      zone_is = λ k h. left (nat_lt p n) (nat_lt k (length (zones roles))) (zone_is_held n size each (get_or (zones roles) k [])) yes (lt-ltb k (length (zones roles)) h);
    }
  where
    right : (a b : Bool) → b ≡ true → (a && b) ≡ a
    right true b e = e
    right false b e = refl

    left : (a b c : Bool) → a ≡ true → b ≡ true → (a && (b && c)) ≡ c
    left true true c e f = refl
    left true false c e f = cc
    left false b c e f = cc

held_cost : (n c : ℕ) (held : Bool) → held ≡ nat_lt c n → min n c ≡ node_times n c held
held_cost n c true e = let less = ltb-true c n (sym e) in omega arith
held_cost n c false e = let more = ltb-false c n (sym e) in omega arith

zone_costs : (n r size : ℕ) (up down zone_held : Bool) (node : Role → Bool) (zone : List Role) (each : ℕ) →
    into_zone r up down ≡ each → zone_held ≡ zone_is_held n size each zone →
    All (λ role. node role ≡ (zone_is_held n size each zone && nat_lt (room size role) n)) zone →
    zone_times n r size up down zone_held node zone ≡ zone_least n r size up down zone
zone_costs n r size up down zone_held node zone each e same nodes =
    elim (cases_Bool (zone_is_held n size each zone)) [
      | inl held_so ↦
          zone_exact n r size up down zone_held node zone (same ∙ held_so)
          (let little = ltb-true (copies_in n size zone) (each * n) held_so in rw e little)
          (λ k d h. held_cost n (room size (get_or zone k d)) (node (get_or zone k d)) (nodes k d h ∙ true_and (zone_is_held n size each zone) (nat_lt (room size (get_or zone k d)) n) held_so))
      | inr out ↦
          zone_exact_out n r size up down zone_held node zone (same ∙ out)
          (let much = ltb-false (copies_in n size zone) (each * n) out in rw e much)
          (λ k d h. nodes k d h ∙ and_left (zone_is_held n size each zone) (nat_lt (room size (get_or zone k d)) n) out)
    ]
  where
    true_and : (a b : Bool) → a ≡ true → (a && b) ≡ b
    true_and true b e = refl
    true_and false b e = cc

held_weight : (n : ℕ) (roles : List Role) (r size : ℕ) → r ≤ 3 → IsTrue (nodes_ascend roles) → (down : Bool) (p : ℕ) → p < n →
    as_here n roles r size (held n roles r size (to_zone r down) down) p ≡ lightest n (copies_in n size) r (zones roles) true down
held_weight n roles r size high ascend down p less =
    let each = to_zone r down in
    let side : Side = held n roles r size each down in
    let here = held_here n roles r size each down p less in
    let zs = enumerate_from 0 (zones roles) in
    let a = here_is n roles r size side p refl in
    let through : into_zone r (side (Up p)) (side (Down p)) ≡ each =
    ap (λ u. into_zone r u (side (Down p))) here.up ∙ ap (λ d. into_zone r true d) here.down_is ∙ each_is r high down in
    let b = sum_by-agree (zone_here n r size side p) (λ zone. zone_least n r size (side (Up p)) (side (Down p)) zone.1) zs
    (λ k d h.
    let inside : k < length (zones roles) = omega (arith, length-enumerate_from 0 (zones roles)) in
    let zone = get_or (zones roles) k [] in
    subst (λ e. zone_here n r size side p e ≡ zone_least n r size (side (Up p)) (side (Down p)) e.1) (sym (zone_at roles k d inside))
    (zone_costs n r size (side (Up p)) (side (Down p)) (side (Zone p k)) (holds side) zone each through (here.zone_is k inside) (node_held_at n size each roles ascend k inside down r))) in
    let c = least_is n roles r size (side (Up p)) (side (Down p)) in
    a ∙ ap (λ m. n * kept_out r (side (Up p)) (side (Down p)) + m) (b ∙ c)
    ∙ ap (λ u. lightest n (copies_in n size) r (zones roles) u (side (Down p))) here.up
    ∙ ap (λ d. lightest n (copies_in n size) r (zones roles) true d) here.down_is

-- ---- the least weight, and the least set

both_held : (n : ℕ) (roles : List Role) (r size : ℕ) → r ≤ 3 → lightest n (copies_in n size) r (zones roles) true true ≡ copies_for n roles size (4 - r)
both_held n roles r size high =
    let e : into_zone r true true ≡ 4 - r = each_is r high true in
    rw e (omega arith)

up_held : (n : ℕ) (roles : List Role) (r size : ℕ) → lightest n (copies_in n size) r (zones roles) true false ≡ (3 - r) * n + copies_for n roles size 1
up_held n roles r size = omega arith

printed_lightest : (n : ℕ) (roles : List Role) (r size : ℕ) → 0 < n → 1 ≤ r → r ≤ 3 → copies_for n roles size (4 - r) < 3 * n →
    lightest n (copies_in n size) r (zones roles) true (down_is_held n roles r size) ≡ copies_for n roles size (4 - r)
printed_lightest n roles r size some low high little =
    let light = lightest_holds n some (copies_in n size) r low high (zones roles) in
    elim (cases_Bool (down_is_held n roles r size)) [
      | inl held_so ↦ rw held_so (both_held n roles r size high)
      | inr out ↦
          let more = ltb-false (copies_for n roles size (4 - r)) ((3 - r) * n + copies_for n roles size 1) out in
          let least = light.least true false in
          let e = up_held n roles r size in
          rw out (omega arith)
    ]

pub record Exact (n : ℕ) (roles : List Role) (r size : ℕ) : Type 0 where
  pub weighs : weight (network_of n roles r size) (printed_side n roles r size) ≡ copies_for n roles size (4 - r)
  pub printed : IsPrinted (network_of n roles r size) (printed_side n roles r size)

side_is_cut : (n : ℕ) (roles : List Role) (r size : ℕ) → IsCut (printed_side n roles r size)
side_is_cut n roles r size = record { source = refl; sink = refl }

-- each cut weighs as much as all copies, or as what the zones have room for
pub each_weight : (n : ℕ) (roles : List Role) (r size : ℕ) → 0 < n → 1 ≤ r → r ≤ 3 → (side : Side) → IsCut side → (w : ℕ) →
    w ≤ 3 * n → w ≤ copies_for n roles size (4 - r) → All (λ p. w ≤ as_here n roles r size side p) (range_with_len 0 n)
each_weight n roles r size some low high side cut w small little k d h =
    let p = get_or (range_with_len 0 n) k d in
    let light = lightest_holds n some (copies_in n size) r low high (zones roles) in
    let a = light.least (side (Up p)) (side (Down p)) in
    let b = here_below n roles r size side p cut.source in
    omega arith

pub every_weight : (n : ℕ) (roles : List Role) (r size : ℕ) → 0 < n → 1 ≤ r → r ≤ 3 → (side : Side) → IsCut side → (w : ℕ) →
    w ≤ 3 * n → w ≤ copies_for n roles size (4 - r) → w ≤ weight (network_of n roles r size) side
every_weight n roles r size some low high side cut w small little =
    weight_from_parts n roles r size side some cut w (each_weight n roles r size some low high side cut w small little)

printed_weighs : (n : ℕ) (roles : List Role) (r size : ℕ) → 0 < n → 1 ≤ r → r ≤ 3 → IsTrue (nodes_ascend roles) → copies_for n roles size (4 - r) < 3 * n →
    weight (network_of n roles r size) (printed_side n roles r size) ≡ copies_for n roles size (4 - r)
printed_weighs n roles r size some low high ascend little =
    weight_from_same n roles r size (printed_side n roles r size) some (side_is_cut n roles r size) (copies_for n roles size (4 - r))
    (all_parts n (λ p. as_here n roles r size (printed_side n roles r size) p ≡ copies_for n roles size (4 - r))
    (λ p less. held_weight n roles r size high ascend (down_is_held n roles r size) p less ∙ printed_lightest n roles r size some low high little))

-- what a cut of least weight holds in each partition
record Least (n : ℕ) (roles : List Role) (r size : ℕ) (side : Side) (p : ℕ) : Type 0 where
  up : side (Up p) ≡ true
  down : down_is_held n roles r size ≡ true → side (Down p) ≡ true
  zones_held : All (λ zone. Held n r size (side (Up p)) (side (Down p)) (side (Zone p zone.0)) (holds side) zone.1) (enumerate_from 0 (zones roles))

least_here : (n : ℕ) (roles : List Role) (r size : ℕ) → 0 < n → 1 ≤ r → r ≤ 3 → copies_for n roles size (4 - r) < 3 * n →
    (side : Side) → IsCut side → weight (network_of n roles r size) side ≤ copies_for n roles size (4 - r) → (p : ℕ) → p < n → Least n roles r size side p
least_here n roles r size some low high little side cut light p less =
    let w = copies_for n roles size (4 - r) in
    let small : w ≤ 3 * n = omega arith in
    let below = here_below n roles r size side p cut.source in
    let each = each_weight n roles r size some low high side cut w small (le_refl w) in
    let here : as_here n roles r size side p ≤ w = part_at n p less (λ q. as_here n roles r size side q ≤ w) (parts_from_weight n roles r size side cut w each light) in
    let best = lightest_holds n some (copies_in n size) r low high (zones roles) in
    let least = best.least (side (Up p)) (side (Down p)) in
    let up : side (Up p) ≡ true = best.holds_up little (side (Up p)) (side (Down p)) (le_trans below here) in
    record {
      up = up;
      down = λ yes. elim (cases_Bool (side (Down p))) [
        | inl d ↦ d
        | inr d ↦
            let both : lightest_here n roles r size side p ≤ w = le_trans below here in
            let at : lightest n (copies_in n size) r (zones roles) true false ≤ w =
            subst (λ b. lightest n (copies_in n size) r (zones roles) true b ≤ w) d
            (subst (λ b. lightest n (copies_in n size) r (zones roles) b (side (Down p)) ≤ w) up both) in
            let e = up_held n roles r size in
            let strict = ltb-true w ((3 - r) * n + copies_for n roles size 1) yes in
            absurd (omega arith)
      ];
      zones_held = here_tight n roles r size side p cut.source (omega arith);
    }

-- more flows to a zone that is kept out than the printed cut counts
through_more : (n r : ℕ) → r ≤ 3 → (down up' down' : Bool) → up' ≡ true → (down ≡ true → down' ≡ true) → to_zone r down * n ≤ into_zone r up' down' * n
through_more n r high down true true up hd = mul_below (to_zone r down) (into_zone r true true) n (both down)
  where
    both : (d : Bool) → to_zone r d ≤ 1 + (3 - r)
    both true = omega arith
    both false = omega arith
through_more n r high true true false up hd = let e : false ≡ true = hd refl in cc
through_more n r high false true false up hd = le_refl (1 * n)
through_more n r high down false down' up hd = cc

zone_in : (n : ℕ) (roles : List Role) (r size : ℕ) → r ≤ 3 → (side : Side) (p : ℕ) → Least n roles r size side p → (k : ℕ) → k < length (zones roles) →
    zone_is_held n size (to_zone r (down_is_held n roles r size)) (get_or (zones roles) k []) ≡ true →
    (side (Zone p k) ≡ true) × All (λ role. room size role < n → holds side role ≡ true) (get_or (zones roles) k [])
zone_in n roles r size high side p least k h small =
    let zone = get_or (zones roles) k [] in
    let kept : Held n r size (side (Up p)) (side (Down p)) (side (Zone p k)) (holds side) zone =
    subst (λ e. Held n r size (side (Up p)) (side (Down p)) (side (Zone p e.0)) (holds side) e.1) (zone_at roles k (0, []) h)
    (least.zones_held k (0, []) (omega (arith, length-enumerate_from 0 (zones roles)))) in
    let little = ltb-true (copies_in n size zone) (to_zone r (down_is_held n roles r size) * n) small in
    let more = through_more n r high (down_is_held n roles r size) (side (Up p)) (side (Down p)) least.up least.down in
    let is_in = kept.zone_held (omega arith) in
    (is_in, kept.nodes_held is_in)

printed_inside : (n : ℕ) (roles : List Role) (r size : ℕ) → 0 < n → 1 ≤ r → r ≤ 3 → copies_for n roles size (4 - r) < 3 * n →
    (side : Side) → IsCut side → weight (network_of n roles r size) side ≤ copies_for n roles size (4 - r) →
    (vertex : Vertex) → IsTrue (printed_side n roles r size vertex) → IsTrue (side vertex)
printed_inside n roles r size some low high little side cut light Source t = cut.source
printed_inside n roles r size some low high little side cut light (Up p) t =
    (least_here n roles r size some low high little side cut light p (ltb-true p n t)).up
printed_inside n roles r size some low high little side cut light (Down p) t =
    let parts = and_parts (down_is_held n roles r size) (nat_lt p n) t in
    (least_here n roles r size some low high little side cut light p (ltb-true p n parts.1)).down parts.0
printed_inside n roles r size some low high little side cut light (Zone p i) t =
    let each = to_zone r (down_is_held n roles r size) in
    let parts = and_parts (nat_lt p n) (nat_lt i (length (zones roles)) && zone_is_held n size each (get_or (zones roles) i [])) t in
    let zone = and_parts (nat_lt i (length (zones roles))) (zone_is_held n size each (get_or (zones roles) i [])) parts.1 in
    (zone_in n roles r size high side p (least_here n roles r size some low high little side cut light p (ltb-true p n parts.0)) i (ltb-true i (length (zones roles)) zone.0) zone.1).0
printed_inside n roles r size some low high little side cut light (Node node) t =
    let each = to_zone r (down_is_held n roles r size) in
    let found = Any-from_list_any (node_is_held n size each node) (zones roles) t in
    let k = found.0 in
    let inside = found.2 in
    let zone = get_or (zones roles) k [] in
    let at : zone ≡ found.1 = get_or_default (zones roles) k [] found.1 inside ∙ found.3 in
    let parts = and_parts (zone_is_held n size each zone) (list_any (λ role. (role.node == node) && nat_lt (room size role) n) zone) (subst (λ z. node_is_held n size each node z ≡ true) (sym at) found.4) in
    let role = Any-from_list_any (λ role. (role.node == node) && nat_lt (room size role) n) zone parts.1 in
    let tests = and_parts (role.1.node == node) (nat_lt (room size role.1) n) role.4 in
    let kept = (zone_in n roles r size high side 0 (least_here n roles r size some low high little side cut light 0 some) k inside parts.0).1 role.0 role.1 role.2 in
    let here : get_or zone role.0 role.1 ≡ role.1 = role.3 in
    let held_there : holds side role.1 ≡ true = subst (λ x. room size x < n → holds side x ≡ true) here kept (ltb-true (room size role.1) n tests.1) in
    let same : role.1.node ≡ node = eqb-true role.1.node node tests.0 in
    subst (λ m. side (Node m) ≡ true) same held_there
printed_inside n roles r size some low high little side cut light Sink t = cc

pub printed_exact : (n : ℕ) (roles : List Role) (r size : ℕ) → 0 < n → 1 ≤ r → r ≤ 3 → IsTrue (nodes_ascend roles) → copies_for n roles size (4 - r) < 3 * n → Exact n roles r size
printed_exact n roles r size some low high ascend little =
    let w = printed_weighs n roles r size some low high ascend little in
    record {
      weighs = w;
      printed = record {
        cut = side_is_cut n roles r size;
        least = λ other cut. le_trans (le_from w) (every_weight n roles r size some low high other cut (copies_for n roles size (4 - r)) (omega arith) (le_refl (copies_for n roles size (4 - r))));
        inside = λ other cut light. printed_inside n roles r size some low high little other cut (le_trans light (le_from w));
      };
    }
  where
    le_from : {a b : ℕ} → a ≡ b → a ≤ b
    le_from {a} {b} e = omega arith
