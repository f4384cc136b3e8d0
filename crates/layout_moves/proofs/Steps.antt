-- A price that rises and a copy that moves keep where the auction stands, and bring it nearer to its end.
use Rattle.std.proofs.Common.{◌≡◌, ℕ, suc, ◌+◌, ◌-◌, ◌*◌, ◌<◌, ◌≤◌, Bool, true, false, cond, not, ◌&&◌, ◌==◌, nat_eq, nat_lt, IsTrue, List, [], ◌∷◌, length, get_or, refl, sym, ap, ◌∙◌, subst, inl, inr, arith, le_refl, eqb-true, ltb-true}
use Rattle.std.specs.List.{sum_by, count_by, list_any, list_all, filter, All, range_with_len, IsDistinct}
use Rattle.std.proofs.Math.ListN.{set}
use Rattle.std.proofs.lemmas.Bool.{cases_Bool, cases_lt, and_parts, and_from, or_cases, eq-eqb, eqb-false}
use Rattle.std.proofs.lemmas.List.{get_or-set_same, get_or-set_other, length-set}
use Rattle.std.proofs.lemmas.List.FromFn.{length-range_with_len, get_or-range_with_len}
use Rattle.std.proofs.lemmas.List.Sums.{sum_by-set, count_by-le-length, get_or-le-sum_by, AllPass-from_list_all, list_all-from_AllPass}
use Rattle.std.proofs.lemmas.List.Elements.{All-filter}
use Rattle.layout_roles.specs.declared.role.Role.{Role}
use Rattle.layout_roles.specs.Zones.{nodes_ascend, is_numbered, is_storage, storage_nodes, zones, set_ascends}
use Rattle.layout_roles.specs.Fits.{NodeSet, has_node, load, room, partitions, is_storage_node, IsThree, Fits, set_at}
use Rattle.layout_flow.proofs.Sums.{yes, sum_by-plus, sum_by-agree, sum_by-below}
use Rattle.layout_flow.proofs.Zones.{count_times, stored_once}
use Rattle.layout_flow.proofs.Spread.{distinct_once, any_as_count}
use Rattle.layout_flow.proofs.Lightest.{mul_below}
use Rattle.layout_flow.proofs.Printed.{all_parts}
use Rattle.layout_flow.proofs.Few.{numbered_below, few_nodes}
use Rattle.layout_moves.specs.Moves.{moves_of}
use Rattle.layout_moves.specs.Prices.{IsBase, IsCheap, IsSwap, asked, may_take, is_open, lies, AreCovered}
use Rattle.layout_moves.specs.Auction.{highest, IsPriced, is_over, left_to_rise, unrest}
use Rattle.layout_moves.proofs.Near.{or_left, or_right, zone_stored}
use Rattle.layout_moves.proofs.Swaps.{place_of, two_below, lacks, Swapped, swap_base, swap_cheap, rise_cheap}
use Rattle.layout_moves.proofs.Limit.{all_asked, asked_is, gap_at, limit}

-- ---- a node that keeps too many

pub record Found {X : Type 0} (test : X → Bool) (xs : List X) : Type 0 where
  pub item : X
  pub at : ℕ
  pub inside : at < length xs
  pub is : (d : X) → get_or xs at d ≡ item
  pub passes : test item ≡ true

pub found : {X : Type 0} (test : X → Bool) (xs : List X) → list_any test xs ≡ true → Found test xs
found test [] t = cc
found test (x ∷ xs) t =
    elim (or_cases (test x) (list_any test xs) t) [
      | inl first ↦ record { item = x; at = 0; inside = omega arith; is = λ d. refl; passes = first }
      | inr more ↦ let f = found test xs more in record { item = f.item; at = suc f.at; inside = let l = f.inside in omega arith; is = f.is; passes = f.passes }
    ]

pub record Over (roles : List Role) (size : ℕ) (sets : List NodeSet) (node : ℕ) : Type 0 where
  pub role : Role
  pub at : ℕ
  pub inside : at < length (storage_nodes roles)
  pub is : (d : Role) → get_or (storage_nodes roles) at d ≡ role
  pub named : role.node ≡ node
  pub more : room size role < load sets role.node

pub over_at : (roles : List Role) (size : ℕ) (sets : List NodeSet) (node : ℕ) → is_over roles size sets node ≡ true → Over roles size sets node
over_at roles size sets node t =
    let test : Role → Bool = λ role. nat_lt (room size role) (load sets role.node) && (role.node == node) in
    let f = found test (storage_nodes roles) (any_storage roles t) in
    let parts = and_parts (nat_lt (room size f.item) (load sets f.item.node)) (f.item.node == node) f.passes in
    record {
      role = f.item;
      at = f.at;
      inside = f.inside;
      is = f.is;
      named = eqb-true f.item.node node parts.1;
      more = ltb-true (room size f.item) (load sets f.item.node) parts.0;
    }
  where
    step : (s a b : Bool) (role : Role) (rs : List Role) → a ≡ nat_lt (room size role) (load sets role.node) → b ≡ (role.node == node) → ((s && a) && b) ≡ true →
        list_any (λ role. nat_lt (room size role) (load sets role.node) && (role.node == node)) (cond s (role ∷ rs) rs) ≡ true
    step true true true role rs e f t = or_left (nat_lt (room size role) (load sets role.node) && (role.node == node)) (list_any (λ role. nat_lt (room size role) (load sets role.node) && (role.node == node)) rs) (and_from (nat_lt (room size role) (load sets role.node)) (role.node == node) (sym e) (sym f))
    step true true false role rs e f t = cc
    step true false b role rs e f t = cc
    step false a b role rs e f t = cc

    keep : (s : Bool) (role : Role) (rs : List Role) → list_any (λ role. nat_lt (room size role) (load sets role.node) && (role.node == node)) rs ≡ true →
        list_any (λ role. nat_lt (room size role) (load sets role.node) && (role.node == node)) (cond s (role ∷ rs) rs) ≡ true
    keep true role rs h = or_right (nat_lt (room size role) (load sets role.node) && (role.node == node)) (list_any (λ role. nat_lt (room size role) (load sets role.node) && (role.node == node)) rs) h
    keep false role rs h = h

    any_storage : (rs : List Role) → list_any (λ role. (is_storage role && nat_lt (room size role) (load sets role.node)) && (role.node == node)) rs ≡ true →
        list_any (λ role. nat_lt (room size role) (load sets role.node) && (role.node == node)) (filter is_storage rs) ≡ true
    any_storage [] t = cc
    any_storage (role ∷ rs) t =
        elim (or_cases ((is_storage role && nat_lt (room size role) (load sets role.node)) && (role.node == node)) (list_any (λ role. (is_storage role && nat_lt (room size role) (load sets role.node)) && (role.node == node)) rs) t) [
          | inl first ↦ step (is_storage role) (nat_lt (room size role) (load sets role.node)) (role.node == node) role (filter is_storage rs) refl refl first
          | inr more ↦ keep (is_storage role) role (filter is_storage rs) (any_storage rs more)
        ]

-- the one storage node of its number keeps too many
all_over : (roles : List Role) (size : ℕ) (sets : List NodeSet) (node : ℕ) → IsTrue (nodes_ascend roles) → Over roles size sets node →
    All (λ role. role.node ≡ node → room size role < load sets role.node) (storage_nodes roles)
all_over roles size sets node ascend over k d h e =
    let nodes = storage_nodes roles in
    let test : Role → ℕ = λ role. cond (role.node == node) 1 0 in
    let once = stored_once node roles ascend in
    let named = ap (λ (r : Role). r.node) (over.is d) ∙ over.named in
    let a = yes ((get_or nodes k d).node == node) 1 (eq-eqb (get_or nodes k d).node node e) in
    let b = yes ((get_or nodes over.at d).node == node) 1 (eq-eqb (get_or nodes over.at d).node node named) in
    elim (cases_lt k over.at) [
      | inl less ↦ let two = two_below test nodes k over.at d less over.inside in absurd (omega arith)
      | inr more ↦ elim (cases_lt over.at k) [
        | inl less ↦ let two = two_below test nodes over.at k d less h in absurd (omega arith)
        | inr same ↦
            let eq : k ≡ over.at = omega arith in
            let role = ap (λ n. get_or nodes n d) eq ∙ over.is d in
            subst (λ (r : Role). room size r < load sets r.node) (sym role) over.more
      ]
    ]

over_once : (roles : List Role) (size : ℕ) (sets : List NodeSet) (node : ℕ) → IsTrue (nodes_ascend roles) → Over roles size sets node → count_by (λ role. role.node == node) (storage_nodes roles) ≡ 1
over_once roles size sets node ascend over =
    let once = stored_once node roles ascend in
    let d = over.role in
    let named = ap (λ (r : Role). r.node) (over.is d) ∙ over.named in
    let b = yes ((get_or (storage_nodes roles) over.at d).node == node) 1 (eq-eqb (get_or (storage_nodes roles) over.at d).node node named) in
    let some = get_or-le-sum_by (λ (role : Role). cond (role.node == node) 1 0) (storage_nodes roles) over.at d over.inside in
    omega arith

-- ---- a price that rises

-- the rise is no more than each partition allows
abbrev pub Allowed : List Role → ℕ → List NodeSet → List NodeSet → List ℕ → ℕ → ℕ → Type 0
Allowed roles r old sets prices node rise =
    (p : ℕ) → p < 256 → has_node node (set_at sets p) ≡ true → (other : ℕ) → IsTrue (may_take (4 - r) (set_at sets p) node (zones roles) other) →
    asked 66 (set_at old p) prices node + rise ≤ asked 66 (set_at old p) prices other + 1

abbrev pub raised : List ℕ → ℕ → ℕ → List ℕ
raised prices node rise = set prices node (get_or prices node 0 + rise)

pub record Risen (roles : List Role) (r size : ℕ) (old sets : List NodeSet) (prices after : List ℕ) (rise : ℕ) : Type 0 where
  pub priced : IsPriced roles r size old sets after
  pub nearer : unrest roles old sets after + rise ≤ unrest roles old sets prices

pub price_same : (prices : List ℕ) (node value : ℕ) → node < length prices → get_or (set prices node value) node 0 ≡ value
price_same prices node value less = get_or-set_same prices node value 0 less

pub price_other : (prices : List ℕ) (node value n : ℕ) → (n ≡ node → ⊥) → get_or (set prices node value) n 0 ≡ get_or prices n 0
price_other prices node value n apart = get_or-set_other prices node n value 0 apart

-- what is known of the new price, and of the others
record Prices (prices after : List ℕ) (node rise : ℕ) : Type 0 where
  same : get_or after node 0 ≡ get_or prices node 0 + rise
  others : (n : ℕ) → (n ≡ node → ⊥) → get_or after n 0 ≡ get_or prices n 0

prices_of : (prices : List ℕ) (node rise : ℕ) → node < length prices → Prices prices (raised prices node rise) node rise
prices_of prices node rise less = record {
  same = get_or-set_same prices node (get_or prices node 0 + rise) 0 less;
  others = λ n apart. get_or-set_other prices node n (get_or prices node 0 + rise) 0 apart;
}

risen_cheap : (roles : List Role) (r size : ℕ) (old sets : List NodeSet) (prices after : List ℕ) (node rise : ℕ) → IsPriced roles r size old sets prices → Prices prices after node rise → Allowed roles r old sets prices node rise →
    (p : ℕ) → p < 256 → IsCheap 1 (4 - r) (zones roles) (asked 66 (set_at old p) after) (set_at sets p)
risen_cheap roles r size old sets prices after node rise priced new allowed p less =
    rise_cheap (4 - r) (zones roles) (asked 66 (set_at old p) prices) (asked 66 (set_at old p) after) (set_at sets p) node rise (priced.cheap p less)
    (let e = new.same in omega arith) (λ n apart. let e = new.others n apart in omega arith) (allowed p less)

risen_covered : (roles : List Role) (size : ℕ) (sets : List NodeSet) (prices after : List ℕ) (node rise : ℕ) → IsTrue (nodes_ascend roles) → AreCovered roles size sets prices → Prices prices after node rise → Over roles size sets node →
    AreCovered roles size sets after
risen_covered roles size sets prices after node rise ascend covered new over k d h some =
    let role = get_or (storage_nodes roles) k d in
    elim (cases_Bool (role.node == node)) [
      | inl same ↦ let o = all_over roles size sets node ascend over k d h (eqb-true role.node node same) in omega arith
      | inr apart ↦ let e = new.others role.node (eqb-false role.node node apart) in covered k d h (omega arith)
    ]

-- the sum over all nodes of what one node adds
one_adds : (roles : List Role) (node m : ℕ) → count_by (λ role. role.node == node) (storage_nodes roles) ≡ 1 → sum_by (λ role. cond (role.node == node) m 0) (storage_nodes roles) ≡ m
one_adds roles node m once =
    let t = count_times (λ (role : Role). role.node == node) m (storage_nodes roles) in
    let e = ap (λ n. n * m) once in
    omega arith

at_node : (prices after : List ℕ) (node rise : ℕ) → Prices prices after node rise → (n : ℕ) → (n == node) ≡ true → get_or after n 0 ≡ get_or prices n 0 + rise
at_node prices after node rise new n t =
    let e = eqb-true n node t in
    let p = ap (λ m. get_or prices m 0) e in
    let q = ap (λ m. get_or after m 0) e in
    let s = new.same in
    omega arith

at_other : (prices after : List ℕ) (node rise : ℕ) → Prices prices after node rise → (n : ℕ) → (n == node) ≡ false → get_or after n 0 ≡ get_or prices n 0
at_other prices after node rise new n t = new.others n (eqb-false n node t)

room_falls : (high price after rise : ℕ) (t : Bool) → after ≤ high → (t ≡ true → after ≡ price + rise) → (t ≡ false → after ≡ price) → high - price ≡ (high - after) + cond t rise 0
room_falls high price after rise true le same other = let e = same refl in omega arith
room_falls high price after rise false le same other = let e = other refl in omega arith

costs_grow : (load price after rise : ℕ) (t : Bool) → load ≤ 256 → (t ≡ true → after ≡ price + rise) → (t ≡ false → after ≡ price) → load * after ≤ load * price + cond t (256 * rise) 0
costs_grow load price after rise true le same other =
    let e = ap (λ n. load * n) (same refl) in
    let m = mul_below load 256 rise le in
    omega arith
costs_grow load price after rise false le same other = let e = ap (λ n. load * n) (other refl) in omega arith

few_loads : (sets : List NodeSet) (node : ℕ) → length sets ≡ 256 → load sets node ≤ 256
few_loads sets node whole = let few = count_by-le-length (has_node node) sets in omega arith

left_falls : (roles : List Role) (prices after : List ℕ) (node rise : ℕ) → Prices prices after node rise → count_by (λ role. role.node == node) (storage_nodes roles) ≡ 1 →
    All (λ role. get_or after role.node 0 ≤ highest) (storage_nodes roles) → left_to_rise roles prices ≡ left_to_rise roles after + rise
left_falls roles prices after node rise new once low =
    let nodes = storage_nodes roles in
    sum_by-agree (λ role. highest - get_or prices role.node 0) (λ role. (highest - get_or after role.node 0) + cond (role.node == node) rise 0) nodes
    (λ k d h. let n = (get_or nodes k d).node in room_falls highest (get_or prices n 0) (get_or after n 0) rise (n == node) (low k d h) (at_node prices after node rise new n) (at_other prices after node rise new n))
    ∙ sum_by-plus (λ role. highest - get_or after role.node 0) (λ role. cond (role.node == node) rise 0) nodes
    ∙ ap (λ m. left_to_rise roles after + m) (one_adds roles node rise once)

loads_rise : (roles : List Role) (sets : List NodeSet) (prices after : List ℕ) (node rise : ℕ) → length sets ≡ 256 → Prices prices after node rise → count_by (λ role. role.node == node) (storage_nodes roles) ≡ 1 →
    sum_by (λ role. load sets role.node * get_or after role.node 0) (storage_nodes roles) ≤ sum_by (λ role. load sets role.node * get_or prices role.node 0) (storage_nodes roles) + 256 * rise
loads_rise roles sets prices after node rise whole new once =
    let nodes = storage_nodes roles in
    let below = sum_by-below (λ role. load sets role.node * get_or after role.node 0) (λ role. load sets role.node * get_or prices role.node 0 + cond (role.node == node) (256 * rise) 0) nodes
    (λ k d h. let n = (get_or nodes k d).node in costs_grow (load sets n) (get_or prices n 0) (get_or after n 0) rise (n == node) (few_loads sets n whole) (at_node prices after node rise new n) (at_other prices after node rise new n)) in
    let split = sum_by-plus (λ role. load sets role.node * get_or prices role.node 0) (λ role. cond (role.node == node) (256 * rise) 0) nodes ∙ ap (λ m. sum_by (λ role. load sets role.node * get_or prices role.node 0) nodes + m) (one_adds roles node (256 * rise) once) in
    subst (λ m. sum_by (λ role. load sets role.node * get_or after role.node 0) nodes ≤ m) split below

costs_rise : (roles : List Role) (old sets : List NodeSet) (prices after : List ℕ) (node rise : ℕ) → IsTrue (nodes_ascend roles) → length sets ≡ 256 → All (IsThree roles) sets → Prices prices after node rise →
    count_by (λ role. role.node == node) (storage_nodes roles) ≡ 1 → all_asked 256 66 old sets after ≤ all_asked 256 66 old sets prices + 256 * rise
costs_rise roles old sets prices after node rise ascend whole threes new once =
    joined (all_asked 256 66 old sets after) (all_asked 256 66 old sets prices) (66 * moves_of 256 old sets)
    (sum_by (λ role. load sets role.node * get_or after role.node 0) (storage_nodes roles)) (sum_by (λ role. load sets role.node * get_or prices role.node 0) (storage_nodes roles)) rise
    (asked_is 256 66 roles old sets after ascend whole threes) (asked_is 256 66 roles old sets prices ascend whole threes) (loads_rise roles sets prices after node rise whole new once)
  where
    joined : (x y m a b rise : ℕ) → x ≡ a + m → y ≡ b + m → a ≤ b + 256 * rise → x ≤ y + 256 * rise
    joined x y m a b rise e f h = omega arith

risen_nearer : (roles : List Role) (r size : ℕ) (old sets : List NodeSet) (prices after : List ℕ) (node rise : ℕ) → IsTrue (nodes_ascend roles) → IsPriced roles r size old sets prices → Prices prices after node rise → Over roles size sets node →
    All (λ role. get_or after role.node 0 ≤ highest) (storage_nodes roles) → unrest roles old sets after + rise ≤ unrest roles old sets prices
unfolding unrest
risen_nearer roles r size old sets prices after node rise ascend priced new over low =
    let once = over_once roles size sets node ascend over in
    finish (left_to_rise roles prices) (left_to_rise roles after) (all_asked 256 66 old sets prices) (all_asked 256 66 old sets after) rise (left_falls roles prices after node rise new once low)
    (costs_rise roles old sets prices after node rise ascend priced.whole (λ k d h. (priced.bases k d h).three) new once)
  where
    finish : (x x' y y' rise : ℕ) → x ≡ x' + rise → y' ≤ y + 256 * rise → 257 * x' + y' + rise ≤ 257 * x + y
    finish x x' y y' rise e h = omega arith

pub risen : (roles : List Role) (r size : ℕ) (old sets other : List NodeSet) (prices : List ℕ) (node rise : ℕ) → r ≤ 3 → IsTrue (nodes_ascend roles) → IsTrue (list_all is_numbered roles) → Fits roles r size other →
    IsPriced roles r size old sets prices → Over roles size sets node → Allowed roles r old sets prices node rise →
    Risen roles r size old sets prices (raised prices node rise) rise
unfolding highest partitions
risen roles r size old sets other prices node rise great ascend numbered fits priced over allowed =
    let after = raised prices node rise in
    let nodes = storage_nodes roles in
    let numbers = All-filter is_storage (λ role. role.node ≤ 64) roles (numbered_below roles numbered) in
    let small = numbers over.at over.role over.inside in
    let named = ap (λ (r : Role). r.node) (over.is over.role) ∙ over.named in
    let inside : node < length prices = let w = priced.rows in omega arith in
    let new = prices_of prices node rise inside in
    let cheap = risen_cheap roles r size old sets prices after node rise priced new allowed in
    let covered = risen_covered roles size sets prices after node rise ascend priced.covered new over in
    let few = few_nodes roles ascend numbered in
    let lim = limit 256 66 1 roles r size old sets other after great ascend priced.whole priced.bases cheap covered fits in
    let low : All (λ role. get_or after role.node 0 ≤ 67072) nodes = λ k d h.
    let role = get_or nodes k d in
    elim (cases_Bool (role.node == node)) [
      | inl same ↦ let l = lim k d h (all_over roles size sets node ascend over k d h (eqb-true role.node node same)) in omega arith
      | inr apart ↦ let e = new.others role.node (eqb-false role.node node apart) in let l = priced.low k d h in omega arith
    ] in
    record {
      priced = record {
        whole = priced.whole;
        rows = length-set prices node (get_or prices node 0 + rise) ∙ priced.rows;
        bases = priced.bases;
        ascending = priced.ascending;
        cheap = cheap;
        covered = covered;
        low = low;
      };
      nearer = risen_nearer roles r size old sets prices after node rise ascend priced new over low;
    }

-- ---- a copy that moves

-- a node that may take a copy is a storage node
pub taker_stored : (roles : List Role) (each : ℕ) (set : NodeSet) (out new : ℕ) → IsTrue (may_take each set out (zones roles) new) → IsTrue (is_storage_node roles new)
taker_stored roles each set out new t =
    let test : List Role → Bool = λ zone. is_open each set out zone && lies zone new in
    let parts = and_parts (list_any test (zones roles)) (not (has_node new set)) t in
    let p = place_of test (zones roles) [] parts.0 in
    let zone = get_or (zones roles) p.at [] in
    let both = and_parts (is_open each set out zone) (lies zone new) p.passes in
    zone_stored roles p.at new p.inside both.1

pub all_set : (P : NodeSet → Type 0) (sets : List NodeSet) (p : ℕ) (after : NodeSet) → p < length sets → All P sets → P after → All P (set sets p after)
all_set P sets p after less all new k d h =
    elim (cases_Bool (nat_eq k p)) [
      | inl same ↦ subst P (sym (ap (λ n. get_or (set sets p after) n d) (eqb-true k p same) ∙ get_or-set_same sets p after d less)) new
      | inr apart ↦ subst P (sym (get_or-set_other sets p k after d (eqb-false k p apart))) (all k d (omega (arith, length-set sets p after)))
    ]

pub all_at : (P : ℕ → NodeSet → Type 0) (sets : List NodeSet) (p : ℕ) (after : NodeSet) → p < length sets → (q : ℕ) → (q ≡ p → P p after) → ((q ≡ p → ⊥) → P q (set_at sets q)) → P q (set_at (set sets p after) q)
all_at P sets p after less q new old =
    elim (cases_Bool (nat_eq q p)) [
      | inl same ↦ let e = eqb-true q p same in subst (λ n. P n (set_at (set sets p after) n)) (sym e) (subst (P p) (sym (get_or-set_same sets p after [] less)) (new e))
      | inr apart ↦ let ne = eqb-false q p apart in subst (P q) (sym (get_or-set_other sets p q after [] ne)) (old ne)
    ]

pub record Moved (roles : List Role) (r size : ℕ) (old sets moved : List NodeSet) (prices : List ℕ) : Type 0 where
  pub priced : IsPriced roles r size old moved prices
  pub nearer : unrest roles old moved prices + 1 ≤ unrest roles old sets prices

has_count : (node : ℕ) (set : NodeSet) → IsDistinct nat_eq set → cond {A = ℕ} (has_node node set) 1 0 ≡ count_by (nat_eq node) set
has_count node set different = any_as_count (nat_eq node) set (distinct_once node set different)

-- how a node's load changes
load_change : (sets : List NodeSet) (p : ℕ) (after : NodeSet) (out new node : ℕ) → p < length sets → IsDistinct nat_eq (set_at sets p) → IsDistinct nat_eq after → IsSwap (set_at sets p) out new after →
    load (set sets p after) node + cond (nat_eq node out) 1 0 ≡ load sets node + cond (nat_eq node new) 1 0
load_change sets p after out new node less d1 d2 swap =
    let a = sum_by-set (λ set. cond (has_node node set) 1 0) sets p after [] less in
    let b = has_count node (set_at sets p) d1 in
    let c = has_count node after d2 in
    let e = swap.sums (λ m. cond (nat_eq node m) 1 0) in
    omega arith

pub moved : (roles : List Role) (r size : ℕ) (old sets : List NodeSet) (prices : List ℕ) (p out new : ℕ) (after : NodeSet) → IsTrue (nodes_ascend roles) → IsPriced roles r size old sets prices → Over roles size sets out → p < 256 →
    has_node out (set_at sets p) ≡ true → IsTrue (may_take (4 - r) (set_at sets p) out (zones roles) new) → asked 66 (set_at old p) prices out ≡ asked 66 (set_at old p) prices new + 1 →
    IsSwap (set_at sets p) out new after → IsTrue (set_ascends after) → Moved roles r size old sets (set sets p after) prices
unfolding unrest
moved roles r size old sets prices p out new after ascend priced over less had take gap swap rising =
    let inside : p < length sets = let w = priced.whole in omega arith in
    let s : Swapped roles (4 - r) (set_at sets p) out new after = record {
      base = priced.bases p [] inside;
      had = had;
      lacked = lacks (4 - r) (set_at sets p) out (zones roles) new take;
      stored = taker_stored roles (4 - r) (set_at sets p) out new take;
      taken = take;
      swap = swap;
    } in
    let base = swap_base roles (4 - r) (set_at sets p) out new after ascend s in
    let f : ℕ → ℕ = λ q. sum_by (asked 66 (set_at old q) prices) (set_at (set sets p after) q) in
    let g : ℕ → ℕ = λ q. sum_by (asked 66 (set_at old q) prices) (set_at sets q) in
    let ps = range_with_len 0 256 in
    let sums = swap.sums (asked 66 (set_at old p) prices) in
    let at_p : f p ≡ sum_by (asked 66 (set_at old p) prices) after = ap (λ (x : NodeSet). sum_by (asked 66 (set_at old p) prices) x) (get_or-set_same sets p after [] inside) in
    let fp : f p + 1 ≤ g p = omega arith in
    let all = all_parts 256 (λ q. f q ≤ g q)
    (λ q _. all_at (λ n x. sum_by (asked 66 (set_at old n) prices) x ≤ g n) sets p after inside q (λ _. omega arith) (λ _. le_refl (g q))) in
    let place : get_or ps p 0 ≡ p = get_or-range_with_len 0 256 p 0 less ∙ (omega arith) in
    let near = gap_at f g 1 ps all p 0 (omega (arith, length-range_with_len 0 256)) (subst (λ n. f n + 1 ≤ g n) (sym place) fp) in
    record {
      priced = record {
        whole = length-set sets p after ∙ priced.whole;
        rows = priced.rows;
        bases = all_set (IsBase roles (4 - r)) sets p after inside priced.bases base;
        ascending = list_all-from_AllPass set_ascends (set sets p after) (all_set (λ x. IsTrue (set_ascends x)) sets p after inside (AllPass-from_list_all set_ascends sets priced.ascending) rising);
        cheap = λ q h. all_at (λ n x. IsCheap 1 (4 - r) (zones roles) (asked 66 (set_at old n) prices) x) sets p after inside q
            (λ _. swap_cheap roles (4 - r) (asked 66 (set_at old p) prices) (set_at sets p) out new after ascend s (priced.cheap p less) gap) (λ _. priced.cheap q h);
        covered = λ k d h some.
            let role = get_or (storage_nodes roles) k d in
            let change = load_change sets p after out new role.node inside s.base.three.different base.three.different swap in
            still_covered (room size role) (load sets role.node) (load (set sets p after) role.node) (nat_eq role.node out) (nat_eq role.node new) change
            (λ t. all_over roles size sets out ascend over k d h (eqb-true role.node out t)) (λ _. priced.covered k d h some);
        low = priced.low;
      };
      nearer = finish (left_to_rise roles prices) (sum_by f ps) (sum_by g ps) near;
    }
  where
    still_covered : (room load load' : ℕ) (t u : Bool) → load' + cond t 1 0 ≡ load + cond u 1 0 → (t ≡ true → room < load) → (t ≡ false → room ≤ load) → room ≤ load'
    still_covered room load load' true true e over covered = let o = over refl in omega arith
    still_covered room load load' true false e over covered = let o = over refl in omega arith
    still_covered room load load' false true e over covered = let o = covered refl in omega arith
    still_covered room load load' false false e over covered = let o = covered refl in omega arith

    finish : (x y z : ℕ) → y + 1 ≤ z → 257 * x + y + 1 ≤ 257 * x + z
    finish x y z h = omega arith
