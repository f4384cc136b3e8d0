-- What stays where one node's copy gives way to another's, and where a price rises.
use Rattle.std.proofs.Common.{◌≡◌, ℕ, zero, suc, ◌+◌, ◌<◌, ◌≤◌, Bool, true, false, cond, not, ◌&&◌, ◌||◌, ◌==◌, nat_eq, nat_lt, IsTrue, List, [], ◌∷◌, length, get_or, refl, sym, ap, ◌∙◌, inl, inr, arith, le_trans, ltb-true, eqb-true}
use Rattle.std.specs.List.{sum_by, count_by, list_any, All, IsDistinct}
use Rattle.std.proofs.lemmas.List.{get_or_default}
use Rattle.std.proofs.lemmas.Bool.{cases_Bool, cases_lt, and_parts, or_cases, eq-eqb, lt-ltb, eqb-false}
use Rattle.std.proofs.lemmas.List.Sums.{sum_by-cons, get_or-le-sum_by}
use Rattle.layout_roles.specs.declared.role.Role.{Role}
use Rattle.layout_roles.specs.Zones.{nodes_ascend, zones}
use Rattle.layout_roles.specs.Fits.{NodeSet, has_node, is_storage_node, IsThree}
use Rattle.layout_flow.proofs.Sums.{yes, no, sum_by-swap, sum_by-agree, sum_by-constant}
use Rattle.layout_flow.proofs.Zones.{count_some, count_none, any_from_count, none_from_count, zones_once}
use Rattle.layout_flow.proofs.Spread.{distinct_once, any_as_count}
use Rattle.layout_flow.proofs.Wrapped.{distinct_from_counts}
use Rattle.layout_moves.specs.Prices.{kept, lies, IsBase, is_open, may_take, IsCheap, IsSwap}
use Rattle.layout_moves.proofs.Near.{takes}

-- ---- places in lists

pub record Place {X : Type 0} (test : X → Bool) (xs : List X) (d : X) : Type 0 where
  pub at : ℕ
  pub inside : at < length xs
  pub passes : test (get_or xs at d) ≡ true

pub place_of : {X : Type 0} (test : X → Bool) (xs : List X) (d : X) → list_any test xs ≡ true → Place test xs d
place_of test [] d t = cc
place_of test (x ∷ xs) d t =
    elim (or_cases (test x) (list_any test xs) t) [
      | inl first ↦ record { at = 0; inside = omega arith; passes = first }
      | inr more ↦ let p = place_of test xs d more in record { at = suc p.at; inside = let l = p.inside in omega arith; passes = p.passes }
    ]

-- two different places
pub two_below : {X : Type 0} (f : X → ℕ) (xs : List X) (i j : ℕ) (d : X) → i < j → j < length xs → f (get_or xs i d) + f (get_or xs j d) ≤ sum_by f xs
two_below f [] i j d less inside = absurd (omega arith)
two_below f (x ∷ xs) zero zero d less inside = absurd (omega arith)
two_below f (x ∷ xs) (suc i) zero d less inside = absurd (omega arith)
two_below f (x ∷ xs) zero (suc j) d less inside =
    let a = sum_by-cons f x xs in
    let b = get_or-le-sum_by f xs j d (omega arith) in
    omega arith
two_below f (x ∷ xs) (suc i) (suc j) d less inside =
    let a = sum_by-cons f x xs in
    let b = two_below f xs i j d (omega arith) (omega arith) in
    omega arith

-- ---- counts of nodes

abbrev pub here : List Role → ℕ → ℕ
here zone node = count_by (λ role. role.node == node) zone

zone_at : List Role → ℕ → List Role
zone_at roles i = get_or (zones roles) i []

here_some : (zone : List Role) (node : ℕ) → lies zone node ≡ true → 1 ≤ here zone node
here_some zone node t = count_some (λ role. role.node == node) zone t

some_here : (zone : List Role) (node : ℕ) → 1 ≤ here zone node → lies zone node ≡ true
some_here zone node h = any_from_count (λ role. role.node == node) zone h

-- how many nodes of a set a zone keeps, as a sum over the set
kept_as_sum : (set : NodeSet) (zone : List Role) → IsDistinct nat_eq set → kept set zone ≡ sum_by (here zone) set
kept_as_sum set zone different =
    let a = sum_by-agree (λ role. cond (has_node role.node set) 1 0) (λ role. count_by (nat_eq role.node) set) zone
    (λ k d h. any_as_count (nat_eq (get_or zone k d).node) set (distinct_once (get_or zone k d).node set different)) in
    a ∙ sum_by-swap (λ (role : Role) (n : ℕ). cond (nat_eq role.node n) 1 0) zone set

-- ---- a swap

pub record Swapped (roles : List Role) (each : ℕ) (set : NodeSet) (out new : ℕ) (after : NodeSet) : Type 0 where
  pub base : IsBase roles each set
  pub had : has_node out set ≡ true
  pub lacked : has_node new set ≡ false
  pub stored : IsTrue (is_storage_node roles new)
  pub taken : IsTrue (may_take each set out (zones roles) new)
  pub swap : IsSwap set out new after

-- in whom the nodes of the sets differ
swap_count : (set after : NodeSet) (out new m : ℕ) → IsSwap set out new after → count_by (nat_eq m) after + cond (nat_eq m out) 1 0 ≡ count_by (nat_eq m) set + cond (nat_eq m new) 1 0
swap_count set after out new m swap = swap.sums (λ n. cond (nat_eq m n) 1 0)

swap_distinct : (roles : List Role) (each : ℕ) (set : NodeSet) (out new : ℕ) (after : NodeSet) → Swapped roles each set out new after → IsDistinct nat_eq after
swap_distinct roles each set out new after s =
    distinct_from_counts after
    (λ m.
    let e = swap_count set after out new m s.swap in
    let once = distinct_once m set s.base.three.different in
    let none = count_none (nat_eq new) set s.lacked in
    elim (cases_Bool (nat_eq m new)) [
      | inl t ↦
          let same : m ≡ new = eqb-true m new t in
          let z : count_by (nat_eq m) set ≡ 0 = ap (λ n. count_by (nat_eq n) set) same ∙ none in
          omega (arith, yes (nat_eq m new) 1 t)
      | inr f ↦ omega (arith, no (nat_eq m new) 1 f)
    ])

no_sum : (set : List ℕ) (f : ℕ → ℕ) → sum_by f set ≡ 0 → All (λ n. f n ≡ 0) set
no_sum set f none k d h = let e = get_or-le-sum_by f set k d h in omega arith

swap_three : (roles : List Role) (each : ℕ) (set : NodeSet) (out new : ℕ) (after : NodeSet) → Swapped roles each set out new after → IsThree roles after
swap_three roles each set out new after s =
    let c1 = s.swap.sums (λ n. 1) in
    let c2 = sum_by-constant 1 after in
    let c3 = sum_by-constant 1 set in
    let three = s.base.three.three in
    let bad : ℕ → ℕ = λ n. cond (is_storage_node roles n) 0 1 in
    let none = all_none set s.base.three.stored in
    let z = s.swap.sums bad in
    let y = good (is_storage_node roles new) s.stored in
    let good_all = no_sum after bad (omega arith) in
    record {
      three = omega arith;
      different = swap_distinct roles each set out new after s;
      stored = λ k d h. is_good (is_storage_node roles (get_or after k d)) (good_all k d h);
    }
  where
    good : (b : Bool) → IsTrue b → cond {A = ℕ} b 0 1 ≡ 0
    good true t = refl
    good false t = cc

    is_good : (b : Bool) → cond {A = ℕ} b 0 1 ≡ 0 → IsTrue b
    is_good true e = refl
    is_good false e = absurd (omega arith)

    all_none : (ns : List ℕ) → All (λ n. IsTrue (is_storage_node roles n)) ns → sum_by (λ n. cond (is_storage_node roles n) 0 1) ns ≡ 0
    all_none [] all = refl
    all_none (n ∷ ns) all =
        let a = sum_by-cons (λ n. cond (is_storage_node roles n) 0 1) n ns in
        let b = all_none ns (λ k d h. all (suc k) d (omega arith)) in
        let c = good (is_storage_node roles n) (all 0 0 (omega arith)) in
        omega arith

-- how the counts of a zone change
zone_change : (roles : List Role) (each : ℕ) (set : NodeSet) (out new : ℕ) (after : NodeSet) (zone : List Role) → Swapped roles each set out new after →
    kept after zone + here zone out ≡ kept set zone + here zone new
zone_change roles each set out new after zone s =
    let a = kept_as_sum set zone s.base.three.different in
    let b = kept_as_sum after zone (swap_distinct roles each set out new after s) in
    let c = s.swap.sums (here zone) in
    omega arith

-- zones at two places: they are one, or no node lies in both
pub data Apart (i j : ℕ) (y z : List Role) : Type 0 where
  one : i ≡ j → Apart i j y z
  two : ((node : ℕ) → here y node + here z node ≤ 1) → Apart i j y z

apart : (roles : List Role) → IsTrue (nodes_ascend roles) → (i j : ℕ) → i < length (zones roles) → j < length (zones roles) → Apart i j (get_or (zones roles) i []) (get_or (zones roles) j [])
apart roles ascend i j hi hj =
    elim (cases_lt i j) [
      | inl less ↦ two (λ node. le_trans (two_below (λ zone. here zone node) (zones roles) i j [] less hj) (zones_once node roles ascend))
      | inr more ↦ elim (cases_lt j i) [
        | inl less ↦ two (λ node. let e = le_trans (two_below (λ zone. here zone node) (zones roles) j i [] less hi) (zones_once node roles ascend) in omega arith)
        | inr same ↦ one (omega arith)
      ]
    ]

-- what is known of the zone that takes the copy
record Taken (roles : List Role) (each : ℕ) (set : NodeSet) (out new : ℕ) : Type 0 where
  at : ℕ
  inside : at < length (zones roles)
  lies_there : 1 ≤ here (get_or (zones roles) at []) new
  opened : kept set (get_or (zones roles) at []) < each + here (get_or (zones roles) at []) out
  few : kept set (get_or (zones roles) at []) ≤ each

open_count : (each : ℕ) (set : NodeSet) (out : ℕ) (zone : List Role) → kept set zone ≤ each → is_open each set out zone ≡ true → kept set zone < each + here zone out
open_count each set out zone few t =
    elim (or_cases (nat_lt (kept set zone) each) (lies zone out) t) [
      | inl less ↦ let l = ltb-true (kept set zone) each less in omega arith
      | inr there ↦ let l = here_some zone out there in omega arith
    ]

count_open : (each : ℕ) (set : NodeSet) (out : ℕ) (zone : List Role) → kept set zone < each + here zone out → is_open each set out zone ≡ true
count_open each set out zone h =
    elim (cases_lt (kept set zone) each) [
      | inl less ↦ left (nat_lt (kept set zone) each) (lies zone out) (lt-ltb (kept set zone) each less)
      | inr more ↦ right (nat_lt (kept set zone) each) (lies zone out) (some_here zone out (omega arith))
    ]
  where
    left : (a b : Bool) → a ≡ true → (a || b) ≡ true
    left true b e = refl
    left false b e = cc

    right : (a b : Bool) → b ≡ true → (a || b) ≡ true
    right true b e = refl
    right false b e = e

taken_at : (roles : List Role) (each : ℕ) (set : NodeSet) (out new : ℕ) → All (λ zone. kept set zone ≤ each) (zones roles) → IsTrue (may_take each set out (zones roles) new) → Taken roles each set out new
taken_at roles each set out new few t =
    let test : List Role → Bool = λ zone. is_open each set out zone && lies zone new in
    let parts = and_parts (list_any test (zones roles)) (not (has_node new set)) t in
    let p = place_of test (zones roles) [] parts.0 in
    let zone = get_or (zones roles) p.at [] in
    let both = and_parts (is_open each set out zone) (lies zone new) p.passes in
    record {
      at = p.at;
      inside = p.inside;
      lies_there = here_some zone new both.1;
      opened = open_count each set out zone (few p.at [] p.inside) both.0;
      few = few p.at [] p.inside;
    }

pub lacks : (each : ℕ) (set : NodeSet) (out : ℕ) (zs : List (List Role)) (new : ℕ) → IsTrue (may_take each set out zs new) → has_node new set ≡ false
lacks each set out zs new t =
    let parts = and_parts (list_any (λ zone. is_open each set out zone && lies zone new) zs) (not (has_node new set)) t in
    flip (has_node new set) parts.1
  where
    flip : (b : Bool) → not b ≡ true → b ≡ false
    flip true e = cc
    flip false e = refl

pub swap_base : (roles : List Role) (each : ℕ) (set : NodeSet) (out new : ℕ) (after : NodeSet) → IsTrue (nodes_ascend roles) → Swapped roles each set out new after → IsBase roles each after
swap_base roles each set out new after ascend s = record {
  three = swap_three roles each set out new after s;
  few = λ i d h.
      let e = get_or_default (zones roles) i d [] h in
      let few = at i h in
      let same = ap (λ (z : List Role). kept after z) e in
      omega arith;
}
  where
    at : (i : ℕ) → i < length (zones roles) → kept after (get_or (zones roles) i []) ≤ each
    at i h =
        let zone = get_or (zones roles) i [] in
        let change = zone_change roles each set out new after zone s in
        let few = s.base.few i [] h in
        let t = taken_at roles each set out new s.base.few s.taken in
        let once = zones_once new roles ascend in
        let below = get_or-le-sum_by (λ z. here z new) (zones roles) i [] h in
        elim (apart roles ascend i t.at h t.inside) [
          | one e ↦
              let z = ap (λ n. kept set (get_or (zones roles) n [])) e in
              let y = ap (λ n. here (get_or (zones roles) n []) out) e in
              let o = t.opened in
              omega arith
          | two none ↦ let n = none new in let l = t.lies_there in omega arith
        ]

-- a set that is cheap within 1 stays so where the dearer by 1 gives way
pub swap_cheap : (roles : List Role) (each : ℕ) (asks : ℕ → ℕ) (set : NodeSet) (out new : ℕ) (after : NodeSet) → IsTrue (nodes_ascend roles) → Swapped roles each set out new after →
    IsCheap 1 each (zones roles) asks set → asks out ≡ asks new + 1 → IsCheap 1 each (zones roles) asks after
swap_cheap roles each asks set out new after ascend s cheap gap k d h node t =
    at (get_or after k d) (in_after k d h) node (lacks each after (get_or after k d) (zones roles) node t) (taken_at roles each after (get_or after k d) node (swap_base roles each set out new after ascend s).few t)
  where
    in_after : (k d : ℕ) → k < length after → 1 ≤ count_by (nat_eq (get_or after k d)) after
    in_after k d h =
        let n = get_or after k d in
        let e = get_or-le-sum_by (λ m. cond (nat_eq n m) 1 0) after k d h in
        omega (arith, yes (nat_eq n n) 1 (eq-eqb n n refl))

    -- an old node of the set against a node outside it
    old_node : (u v i : ℕ) → 1 ≤ count_by (nat_eq u) set → has_node v set ≡ false → i < length (zones roles) → 1 ≤ here (get_or (zones roles) i []) v →
        kept set (get_or (zones roles) i []) < each + here (get_or (zones roles) i []) u → asks u ≤ asks v + 1
    old_node u v i has lacked less there opened =
        let zone = get_or (zones roles) i [] in
        let p = place_of (nat_eq u) set 0 (any_from_count (nat_eq u) set has) in
        let same : u ≡ get_or set p.at 0 = eqb-true u (get_or set p.at 0) p.passes in
        let c = cheap p.at 0 p.inside v (takes each set (get_or set p.at 0) (zones roles) i v less
        (count_open each set (get_or set p.at 0) zone (let e = ap (here zone) same in omega arith)) (some_here zone v there) lacked) in
        let e = ap asks same in
        omega arith

    at : (u : ℕ) → 1 ≤ count_by (nat_eq u) after → (v : ℕ) → has_node v after ≡ false → Taken roles each after u v → asks u ≤ asks v + 1
    at u has v lacked t =
        let z = get_or (zones roles) t.at [] in
        let y' = taken_at roles each set out new s.base.few s.taken in
        let y = get_or (zones roles) y'.at [] in
        let cu = swap_count set after out new u s.swap in
        let cv = swap_count set after out new v s.swap in
        let none = count_none (nat_eq v) after lacked in
        let zc = zone_change roles each set out new after z s in
        let few = s.base.few t.at [] t.inside in
        let had = count_some (nat_eq out) set s.had in
        let zo = t.opened in
        let yo = y'.opened in
        let zl = t.lies_there in
        let yl = y'.lies_there in
        let once = le_trans (get_or-le-sum_by (λ zone. here zone u) (zones roles) t.at [] t.inside) (zones_once u roles ascend) in
        let aparts = apart roles ascend t.at y'.at t.inside y'.inside in
        elim (cases_Bool (nat_eq u new)) [
          | inl un ↦
              let eu : u ≡ new = eqb-true u new un in
              let au = ap asks eu in
              elim (cases_Bool (nat_eq v out)) [
                | inl vo ↦ let av = ap asks (eqb-true v out vo) in omega arith
                | inr vo ↦
                    let hu = ap (here z) eu in
                    let lack = none_from_count (nat_eq v) set (omega (arith, no (nat_eq v out) 1 vo)) in
                    let c = old_node out v t.at had lack t.inside zl (omega arith) in
                    omega arith
              ]
          | inr un ↦
              let hasu : 1 ≤ count_by (nat_eq u) set = omega (arith, no (nat_eq u new) 1 un) in
              elim (cases_Bool (nat_eq v out)) [
                | inl vo ↦
                    let ev : v ≡ out = eqb-true v out vo in
                    let av = ap asks ev in
                    let hv = ap (here z) ev in
                    let opens = elim aparts as (λ _. kept set y < each + here y u) [
                      | one e ↦
                          let e1 = ap (λ n. kept set (get_or (zones roles) n [])) e in
                          let e2 = ap (λ n. here (get_or (zones roles) n []) u) e in
                          let e3 = ap (λ n. here (get_or (zones roles) n []) new) e in
                          let e4 = ap (λ n. here (get_or (zones roles) n []) out) e in
                          let oo = le_trans (get_or-le-sum_by (λ zone. here zone out) (zones roles) t.at [] t.inside) (zones_once out roles ascend) in
                          omega arith
                      | two none ↦ let n = none out in omega arith
                    ] in
                    let c = old_node u new y'.at hasu s.lacked y'.inside yl opens in
                    omega arith
                | inr vo ↦
                    let lack = none_from_count (nat_eq v) set (omega (arith, no (nat_eq v out) 1 vo)) in
                    elim (cases_lt (kept set z) (each + here z u)) [
                      | inl opened ↦ old_node u v t.at hasu lack t.inside zl opened
                      | inr shut ↦
                          let oo = le_trans (get_or-le-sum_by (λ zone. here zone out) (zones roles) t.at [] t.inside) (zones_once out roles ascend) in
                          let c1 = old_node out v t.at had lack t.inside zl (omega arith) in
                          let opens = elim aparts as (λ _. kept set y < each + here y u) [
                            | one e ↦
                                let e3 = ap (λ n. here (get_or (zones roles) n []) new) e in
                                absurd (omega arith)
                            | two none ↦ let n = none out in omega arith
                          ] in
                          let c2 = old_node u new y'.at hasu s.lacked y'.inside yl opens in
                          omega arith
                    ]
              ]
        ]

-- ---- a price that rises

-- where a node asks more, no more than those that may take its copies allow, a set stays cheap
pub rise_cheap : (each : ℕ) (zs : List (List Role)) (asks more : ℕ → ℕ) (set : NodeSet) (up rise : ℕ) → IsCheap 1 each zs asks set →
    more up ≡ asks up + rise → ((n : ℕ) → (n ≡ up → ⊥) → more n ≡ asks n) →
    (has_node up set ≡ true → (node : ℕ) → IsTrue (may_take each set up zs node) → asks up + rise ≤ asks node + 1) →
    IsCheap 1 each zs more set
rise_cheap each zs asks more set up rise cheap raised others least k d h node t =
    let out = get_or set k d in
    let old = cheap k d h node t in
    let grows : asks node ≤ more node = elim (cases_Bool (nat_eq node up)) [
      | inl same ↦ let e = eqb-true node up same in let a = ap asks e in let b = ap more e in omega arith
      | inr apart ↦ let e = others node (eqb-false node up apart) in omega arith
    ] in
    elim (cases_Bool (nat_eq out up)) [
      | inl same ↦
          let e = eqb-true out up same in
          let b = ap more e in
          let has : has_node up set ≡ true = any_from_count (nat_eq up) set (count_here e) in
          let l = least has node (ap (λ n. may_take each set n zs node) (sym e) ∙ t) in
          omega arith
      | inr other ↦ let e = others out (eqb-false out up other) in omega arith
    ]
  where
    count_here : get_or set k d ≡ up → 1 ≤ count_by (nat_eq up) set
    count_here e =
        let le = get_or-le-sum_by (λ m. cond (nat_eq up m) 1 0) set k d h in
        omega (arith, yes (nat_eq up (get_or set k d)) 1 (eq-eqb up (get_or set k d) (sym e)))
