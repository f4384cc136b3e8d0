-- A set that is cheap costs hardly more than any other, and what its potentials gain.
use Rattle.std.proofs.Common.{◌≡◌, ℕ, ◌+◌, ◌-◌, ◌*◌, ◌<◌, ◌≤◌, Bool, true, false, cond, not, ◌&&◌, ◌||◌, ◌==◌, nat_eq, nat_lt, IsTrue, List, [], ◌∷◌, length, get_or, refl, sym, ap, ◌∙◌, inl, inr, arith, ltb-false, eqb-true}
use Rattle.std.specs.List.{sum_by, count_by, filter, list_any, All}
use Rattle.std.proofs.Math.Nat.{mul-le-mul_left}
use Rattle.std.proofs.lemmas.List.{get_or_default}
use Rattle.std.proofs.lemmas.Bool.{cases_Bool, cases_lt, cond-true, cond-false, and_from, or_cases, eq-eqb}
use Rattle.std.proofs.lemmas.List.Sums.{sum_by-cons, get_or-le-sum_by}
use Rattle.std.proofs.lemmas.List.Folds.{list_any_at}
use Rattle.std.proofs.lemmas.List.Elements.{All-head, All-tail, All-cons, All-nil}
use Rattle.layout_roles.specs.declared.role.Role.{Role}
use Rattle.layout_roles.specs.Zones.{nodes_ascend, storage_nodes, zones}
use Rattle.layout_roles.specs.Fits.{NodeSet, has_node}
use Rattle.layout_flow.proofs.Sums.{yes, no, sum_by-plus, sum_by-agree, sum_by-below, sum_by-constant}
use Rattle.layout_flow.proofs.Zones.{count-cons, count_some, any_from_count, sum_by_zones}
use Rattle.layout_flow.proofs.Spread.{in_set, three_chosen}
use Rattle.layout_flow.proofs.Lightest.{mul_below}
use Rattle.layout_moves.specs.Prices.{kept, lies, IsBase, is_open, may_take, IsCheap, dearest, level}
use Rattle.layout_moves.proofs.Chosen.{sum_in_set}

pub or_left : (a b : Bool) → a ≡ true → (a || b) ≡ true
or_left true b e = refl
or_left false b e = cc

pub or_right : (a b : Bool) → b ≡ true → (a || b) ≡ true
or_right true b e = refl
or_right false b e = e

-- a node of a zone is a storage node
pub zone_stored : (roles : List Role) (i node : ℕ) → i < length (zones roles) → lies (get_or (zones roles) i []) node ≡ true → list_any (λ role. role.node == node) (storage_nodes roles) ≡ true
zone_stored roles i node inside t =
    let here = count_some (λ role. role.node == node) (get_or (zones roles) i []) t in
    let below = get_or-le-sum_by (λ z. count_by (λ role. role.node == node) z) (zones roles) i [] inside in
    let all = sum_by_zones (λ role. cond (role.node == node) 1 0) roles in
    any_from_count (λ role. role.node == node) (storage_nodes roles) (omega arith)

-- ---- the dearest

pub dearest_least : (asks : ℕ → ℕ) (most : ℕ) (nodes : List ℕ) → All (λ n. asks n ≤ most) nodes → dearest asks nodes ≤ most
dearest_least asks most [] all = omega arith
dearest_least asks most (n ∷ ns) all =
    let first = All-head (λ n. asks n ≤ most) n ns all in
    let rest = dearest_least asks most ns (All-tail (λ n. asks n ≤ most) n ns all) in
    omega arith

pub dearest_bounds : (asks : ℕ → ℕ) (nodes : List ℕ) → All (λ n. asks n ≤ dearest asks nodes) nodes
dearest_bounds asks [] = All-nil (λ n. asks n ≤ 0)
dearest_bounds asks (n ∷ ns) =
    All-cons (λ m. asks m ≤ dearest asks (n ∷ ns)) n ns (omega arith)
    (λ k d h. let e = dearest_bounds asks ns k d h in omega arith)

-- a node that stands in the list asks no more
bounds_has : (asks : ℕ → ℕ) (node : ℕ) (nodes : List ℕ) → has_node node nodes ≡ true → asks node ≤ dearest asks nodes
bounds_has asks node [] t = cc
bounds_has asks node (n ∷ ns) t =
    elim (or_cases (nat_eq node n) (has_node node ns) t) [
      | inl same ↦ let e = ap asks (eqb node n same) in omega arith
      | inr more ↦ let e = bounds_has asks node ns more in omega arith
    ]
  where
    eqb : (a b : ℕ) → nat_eq a b ≡ true → a ≡ b
    eqb a b t = eqb-true a b t

has_filter : (test : ℕ → Bool) (node : ℕ) (nodes : List ℕ) → test node ≡ true → has_node node nodes ≡ true → has_node node (filter test nodes) ≡ true
has_filter test node [] t h = cc
has_filter test node (n ∷ ns) t h =
    elim (or_cases (nat_eq node n) (has_node node ns) h) [
      | inl same ↦
          let e : node ≡ n = eqb-true node n same in
          let tn : test n ≡ true = ap test (sym e) ∙ t in
          rw (cond-true (test n) (n ∷ filter test ns) (filter test ns) tn) (or_left (nat_eq node n) (has_node node (filter test ns)) same)
      | inr more ↦
          let ih = has_filter test node ns t more in
          elim (test n) as (λ b. has_node node (cond b (n ∷ filter test ns) (filter test ns)) ≡ true) [
            | true ↦ or_right (nat_eq node n) (has_node node (filter test ns)) ih
            | false ↦ ih
          ]
    ]

filter_below : (asks : ℕ → ℕ) (test : ℕ → Bool) (most : ℕ) (nodes : List ℕ) → All (λ n. test n ≡ true → asks n ≤ most) nodes → dearest asks (filter test nodes) ≤ most
filter_below asks test most [] all = omega arith
filter_below asks test most (n ∷ ns) all =
    let ih = filter_below asks test most ns (All-tail (λ n. test n ≡ true → asks n ≤ most) n ns all) in
    let first = All-head (λ n. test n ≡ true → asks n ≤ most) n ns all in
    by (test n) first ih
  where
    by : (b : Bool) → (b ≡ true → asks n ≤ most) → dearest asks (filter test ns) ≤ most → dearest asks (cond b (n ∷ filter test ns) (filter test ns)) ≤ most
    by true first ih = let f = first refl in omega arith
    by false first ih = ih

-- ---- what a zone has to ask

pub record IsLevel (slack each : ℕ) (asks : ℕ → ℕ) (set : NodeSet) (zone : List Role) : Type 0 where
  pub below : level each asks set zone ≤ dearest asks set
  pub within : All (λ role. has_node role.node set ≡ true → asks role.node ≤ level each asks set zone) zone
  pub above : All (λ role. has_node role.node set ≡ false → level each asks set zone ≤ asks role.node + slack) zone
  pub full : kept set zone < each → dearest asks set ≤ level each asks set zone

lies_at : (zone : List Role) → All (λ role. lies zone role.node ≡ true) zone
lies_at zone k d h = list_any_at (λ role. role.node == (get_or zone k d).node) zone k d h (eq-eqb (get_or zone k d).node (get_or zone k d).node refl)

-- a zone's node may take a copy that may go into the zone
pub takes : (each : ℕ) (set : NodeSet) (out : ℕ) (zones : List (List Role)) (i node : ℕ) → i < length zones → is_open each set out (get_or zones i []) ≡ true → lies (get_or zones i []) node ≡ true → has_node node set ≡ false →
    IsTrue (may_take each set out zones node)
takes each set out zones i node less opened there apart =
    let test : List Role → Bool = λ zone. is_open each set out zone && lies zone node in
    let some = list_any_at test zones i [] less (and_from (is_open each set out (get_or zones i [])) (lies (get_or zones i []) node) opened there) in
    and_from (list_any test zones) (not (has_node node set)) some (ap not apart)

pub is_level : (slack each : ℕ) (asks : ℕ → ℕ) (set : NodeSet) (zs : List (List Role)) → IsCheap slack each zs asks set → All (IsLevel slack each asks set) zs
is_level slack each asks set zs cheap i d less' =
    let zone = get_or zs i d in
    at zone (same i d less')
  where
    same : (i : ℕ) (d : List Role) → i < length zs → (out node : ℕ) → is_open each set out (get_or zs i d) ≡ true → lies (get_or zs i d) node ≡ true → has_node node set ≡ false → IsTrue (may_take each set out zs node)
    same i d less out node opened there apart =
        let e = get_or_default zs i d [] less in
        takes each set out zs i node less (ap (λ (z : List Role). is_open each set out z) (sym e) ∙ opened) (ap (λ (z : List Role). lies z node) (sym e) ∙ there) apart

    at : (zone : List Role) → ((out node : ℕ) → is_open each set out zone ≡ true → lies zone node ≡ true → has_node node set ≡ false → IsTrue (may_take each set out zs node)) → IsLevel slack each asks set zone
    at zone can =
        let inner = filter_below asks (lies zone) (dearest asks set) set (λ k d h e. dearest_bounds asks set k d h) in
        elim (cases_Bool (nat_lt (kept set zone) each)) [
          | inl little ↦
              let lev : level each asks set zone ≡ dearest asks set = cond-true (nat_lt (kept set zone) each) (dearest asks set) (dearest asks (filter (lies zone) set)) little in
              record {
                below = omega arith;
                within = λ k d h t. let e = bounds_has asks (get_or zone k d).node set t in omega arith;
                above = λ k d h t.
                    let node = (get_or zone k d).node in
                    let e = dearest_least asks (asks node + slack) set (λ j u g. cheap j u g node (can (get_or set j u) node (or_left (nat_lt (kept set zone) each) (lies zone (get_or set j u)) little) (lies_at zone k d h) t)) in
                    omega arith;
                full = λ _. omega arith;
              }
          | inr much ↦
              let lev : level each asks set zone ≡ dearest asks (filter (lies zone) set) = cond-false (nat_lt (kept set zone) each) (dearest asks set) (dearest asks (filter (lies zone) set)) much in
              record {
                below = omega arith;
                within = λ k d h t. let e = bounds_has asks (get_or zone k d).node (filter (lies zone) set) (has_filter (lies zone) (get_or zone k d).node set (lies_at zone k d h) t) in omega arith;
                above = λ k d h t.
                    let node = (get_or zone k d).node in
                    let e = filter_below asks (lies zone) (asks node + slack) set (λ j u g there. cheap j u g node (can (get_or set j u) node (or_right (nat_lt (kept set zone) each) (lies zone (get_or set j u)) there) (lies_at zone k d h) t)) in
                    omega arith;
                full = λ few. let ge = ltb-false (kept set zone) each much in absurd (omega arith);
              }
        ]

-- ---- one zone

-- what the potentials of a zone gain, where it asks a and the partition b
abbrev pub zone_gain : ℕ → (ℕ → ℕ) → ℕ → ℕ → List Role → ℕ
zone_gain each asks b a zone = each * (b - a) + sum_by (λ role. a - asks role.node) zone

-- of the nodes that a test chooses none asks more than a, and of the others none less than a by more than the slack
above_part : {X : Type 0} (t : X → Bool) (asks : X → ℕ) (a slack : ℕ) (xs : List X) → All (λ x. t x ≡ true → asks x ≤ a) xs → All (λ x. t x ≡ false → a ≤ asks x + slack) xs →
    sum_by (λ x. cond (t x) (asks x) 0) xs + sum_by (λ x. a - asks x) xs ≤ count_by t xs * a + length xs * slack
above_part t asks a slack [] low high = omega arith
above_part {X} t asks a slack (x ∷ xs) low high =
    let ih = above_part t asks a slack xs (All-tail (λ x. t x ≡ true → asks x ≤ a) x xs low) (All-tail (λ x. t x ≡ false → a ≤ asks x + slack) x xs high) in
    let p = sum_by-cons (λ x. cond (t x) (asks x) 0) x xs in
    let q = sum_by-cons (λ x. a - asks x) x xs in
    let c = count-cons t x xs in
    elim (cases_Bool (t x)) [
      | inl y ↦
          let le = All-head (λ x. t x ≡ true → asks x ≤ a) x xs low y in
          let one : count_by t (x ∷ xs) ≡ 1 + count_by t xs = omega (arith, yes (t x) 1 y) in
          omega (arith, yes (t x) (asks x) y, ap (λ m. m * a) one)
      | inr n ↦
          let le = All-head (λ x. t x ≡ false → a ≤ asks x + slack) x xs high n in
          let same : count_by t (x ∷ xs) ≡ count_by t xs = omega (arith, no (t x) 1 n) in
          omega (arith, no (t x) (asks x) n, ap (λ m. m * a) same)
    ]

below_part : {X : Type 0} (t : X → Bool) (asks : X → ℕ) (a : ℕ) (xs : List X) → count_by t xs * a ≤ sum_by (λ x. cond (t x) (asks x) 0) xs + sum_by (λ x. a - asks x) xs
below_part t asks a [] = omega arith
below_part t asks a (x ∷ xs) =
    let ih = below_part t asks a xs in
    let p = sum_by-cons (λ x. cond (t x) (asks x) 0) x xs in
    let q = sum_by-cons (λ x. a - asks x) x xs in
    let c = count-cons t x xs in
    elim (cases_Bool (t x)) [
      | inl y ↦
          let one : count_by t (x ∷ xs) ≡ 1 + count_by t xs = omega (arith, yes (t x) 1 y) in
          omega (arith, yes (t x) (asks x) y, ap (λ m. m * a) one)
      | inr n ↦
          let same : count_by t (x ∷ xs) ≡ count_by t xs = omega (arith, no (t x) 1 n) in
          omega (arith, no (t x) (asks x) n, ap (λ m. m * a) same)
    ]

-- so many copies at a, and the room above them at the rise to b, are so many at b
filled : (k each a b : ℕ) → k ≤ each → a ≤ b → (k < each → b ≤ a) → k * a + each * (b - a) ≤ k * b
filled k each a b few le full =
    elim (cases_lt k each) [
      | inl less ↦
          let e : b - a ≡ 0 = let f = full less in omega arith in
          let z = ap (λ m. each * m) e in
          let g = mul-le-mul_left k le in
          omega arith
      | inr more ↦
          let e : each ≡ k = omega arith in
          let z = ap (λ m. m * (b - a)) e in
          let s : b ≡ a + (b - a) = omega arith in
          let g = ap (λ m. k * m) s in
          omega arith
    ]

-- a set that is cheap: what it costs, and what the potentials gain, is no more than three copies at the dearest
pub gains_little : (roles : List Role) (slack each : ℕ) (asks : ℕ → ℕ) (set : NodeSet) → IsTrue (nodes_ascend roles) → IsBase roles each set → IsCheap slack each (zones roles) asks set →
    sum_by asks set + sum_by (λ zone. zone_gain each asks (dearest asks set) (level each asks set zone) zone) (zones roles) ≤ 3 * dearest asks set + length (storage_nodes roles) * slack
gains_little roles slack each asks set ascend base cheap =
    let b = dearest asks set in
    let lev : List Role → ℕ = level each asks set in
    let tops : List Role → ℕ = λ zone. sum_by (λ role. cond (has_node role.node set) (asks role.node) 0) zone in
    let gain : List Role → ℕ = λ zone. zone_gain each asks b (lev zone) zone in
    let levels = is_level slack each asks set (zones roles) cheap in
    let all = sum_by-below (λ zone. tops zone + gain zone) (λ zone. kept set zone * b + length zone * slack) (zones roles)
    (λ k d h.
    let zone = get_or (zones roles) k d in
    let is = levels k d h in
    let part = above_part (in_set set) (λ role. asks role.node) (lev zone) slack zone is.within is.above in
    let fill = filled (kept set zone) each (lev zone) b (base.few k d h) is.below is.full in
    omega arith) in
    let p1 = sum_by-plus tops gain (zones roles) in
    let p2 = sum_by-plus (λ zone. kept set zone * b) (λ zone. length zone * slack) (zones roles) in
    let t1 = sum_by_zones (λ role. cond (has_node role.node set) (asks role.node) 0) roles in
    let t2 = sum_in_set roles set asks ascend base.three in
    let k1 = sum_by-times b (kept set) (zones roles) in
    let k2 = sum_by_zones (λ role. cond (in_set set role) 1 0) roles in
    let k3 = three_chosen roles set ascend base.three in
    let k4 : sum_by (kept set) (zones roles) ≡ 3 = k2 ∙ k3 in
    let k5 = ap (λ m. m * b) k4 in
    let l1 = sum_by-times slack (λ zone. length zone) (zones roles) in
    let l2 = sum_by-agree (λ zone. length zone) (λ zone. sum_by (λ (role : Role). 1) zone) (zones roles) (λ k d h. let c = sum_by-constant 1 (get_or (zones roles) k d) in omega arith) in
    let l3 = sum_by_zones (λ role. 1) roles in
    let l4 = sum_by-constant 1 (storage_nodes roles) in
    let l5 : sum_by (λ zone. length zone) (zones roles) ≡ length (storage_nodes roles) = omega arith in
    let l6 = ap (λ m. m * slack) l5 in
    omega arith
  where
    sum_by-times : {X : Type 0} (m : ℕ) (f : X → ℕ) (xs : List X) → sum_by (λ x. f x * m) xs ≡ sum_by f xs * m
    sum_by-times m f [] = omega arith
    sum_by-times m f (x ∷ xs) =
        let a = sum_by-cons (λ x. f x * m) x xs in
        let c = sum_by-cons f x xs in
        omega (arith, sum_by-times m f xs, ap (λ n. n * m) c)

-- three copies cost no less than three at any b, less what potentials gain
pub costs_enough : (roles : List Role) (each : ℕ) (asks : ℕ → ℕ) (set : NodeSet) (b : ℕ) (lev : List Role → ℕ) → IsTrue (nodes_ascend roles) → IsBase roles each set →
    3 * b ≤ sum_by asks set + sum_by (λ zone. zone_gain each asks b (lev zone) zone) (zones roles)
costs_enough roles each asks set b lev ascend base =
    let tops : List Role → ℕ = λ zone. sum_by (λ role. cond (has_node role.node set) (asks role.node) 0) zone in
    let gain : List Role → ℕ = λ zone. zone_gain each asks b (lev zone) zone in
    let all = sum_by-below (λ zone. kept set zone * b) (λ zone. tops zone + gain zone) (zones roles)
    (λ k d h.
    let zone = get_or (zones roles) k d in
    let a = lev zone in
    let part = below_part (in_set set) (λ role. asks role.node) a zone in
    let few = mul_below (kept set zone) each (b - a) (base.few k d h) in
    let le : b ≤ a + (b - a) = omega arith in
    let up = mul-le-mul_left (kept set zone) le in
    omega arith) in
    let p1 = sum_by-plus tops gain (zones roles) in
    let t1 = sum_by_zones (λ role. cond (has_node role.node set) (asks role.node) 0) roles in
    let t2 = sum_in_set roles set asks ascend base.three in
    let k1 = sum_by-times b (kept set) (zones roles) in
    let k2 = sum_by_zones (λ role. cond (in_set set role) 1 0) roles in
    let k3 = three_chosen roles set ascend base.three in
    let k4 : sum_by (kept set) (zones roles) ≡ 3 = k2 ∙ k3 in
    let k5 = ap (λ m. m * b) k4 in
    omega arith
  where
    sum_by-times : {X : Type 0} (m : ℕ) (f : X → ℕ) (xs : List X) → sum_by (λ x. f x * m) xs ≡ sum_by f xs * m
    sum_by-times m f [] = omega arith
    sum_by-times m f (x ∷ xs) =
        let a = sum_by-cons (λ x. f x * m) x xs in
        let c = sum_by-cons f x xs in
        omega (arith, sum_by-times m f xs, ap (λ n. n * m) c)

-- a cheap set costs no more than another, but for the slack
pub cheap_near : (roles : List Role) (slack each : ℕ) (asks : ℕ → ℕ) (set other : NodeSet) → IsTrue (nodes_ascend roles) → IsBase roles each set → IsCheap slack each (zones roles) asks set → IsBase roles each other →
    sum_by asks set ≤ sum_by asks other + length (storage_nodes roles) * slack
cheap_near roles slack each asks set other ascend base cheap base' =
    let a = gains_little roles slack each asks set ascend base cheap in
    let b = costs_enough roles each asks other (dearest asks set) (level each asks set) ascend base' in
    omega arith
