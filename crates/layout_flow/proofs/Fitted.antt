-- The columns of the three rows fit, where the zones have room for three copies of each partition.
use Rattle.std.proofs.Common.{◌≡◌, ℕ, ◌+◌, ◌-◌, ◌*◌, ◌<◌, ◌≤◌, min, Bool, true, false, cond, ◌==◌, nat_eq, nat_lt, IsTrue, List, [], ◌∷◌, length, get_or, take, refl, sym, ap, ◌∙◌, subst, inl, inr, arith, le_refl, le_trans, eqb-true}
use Rattle.std.specs.List.{sum_by, count_by, list_any, flat_map, All, AllByRecursion, range_with_len}
use Rattle.std.proofs.lemmas.Bool.{cases_Bool, eq-eqb, ne_eqb}
use Rattle.std.proofs.lemmas.List.{get_or-map, take_all, length-map}
use Rattle.std.proofs.lemmas.Cmp.{nat_eq_equiv}
use Rattle.std.proofs.lemmas.List.Sums.{sum_by-take-le}
use Rattle.std.proofs.lemmas.List.Folds.{sum_by-replicate}
use Rattle.std.proofs.lemmas.List.FromFn.{length-map-range_with_len}
use Rattle.std.proofs.lemmas.List.Elements.{All-map, All-cons, All-nil, All-head, All-tail}
use Rattle.layout_roles.specs.declared.role.Role.{Role}
use Rattle.layout_roles.specs.Zones.{Name, nodes_ascend, storage_nodes, set_ascends, is_in_zone, nodes_in, zones}
use Rattle.layout_roles.specs.Fits.{NodeSet, has_node, is_storage_node, IsThree, FitsAll, load, room, zones_of}
use Rattle.layout_roles.specs.Sets.{put_node, in_order}
use Rattle.layout_flow.specs.Closed.{copies_for, all_copies, column, columns}
use Rattle.layout_flow.proofs.Sums.{yes, no, sum_by-plus, sum_by-agree, sum_by-below, sum_by-map, sum_by-flat_map}
use Rattle.layout_flow.proofs.Lightest.{OneToThree, is_one, is_two, is_three, one_to_three}
use Rattle.layout_flow.proofs.Zones.{count_some, sum_by_zones, stored_once}
use Rattle.layout_flow.proofs.Spread.{in_set, any_as_count, spread_from_few}
use Rattle.layout_flow.proofs.Printed.{all_parts}
use Rattle.layout_flow.proofs.Lies.{sum_by_places, sum_of_one}
use Rattle.layout_flow.proofs.Wrapped.{node_of, role_copies, zone_roles, all_roles, numbers_are, all_length, is_node, node_lies, zone_lies, all_from, Stored, all_stored, order_count, order_length, distinct_from_counts, put_ascends}

-- ---- one partition's set

-- three copies, with what is known of their roles
record Three (roles : List Role) (each : ℕ) (a b c : Role) : Type 0 where
  first : Stored roles a
  second : Stored roles b
  third : Stored roles c
  ab : a.node ≡ b.node → ⊥
  ac : a.node ≡ c.node → ⊥
  bc : b.node ≡ c.node → ⊥
  few : (name : Name) → cond (is_in_zone name a) 1 0 + (cond (is_in_zone name b) 1 0 + cond (is_in_zone name c) 1 0) ≤ each

apart : (x a b : ℕ) → (a ≡ b → ⊥) → cond (nat_eq x a) 1 0 + cond (nat_eq x b) 1 0 ≤ 1
apart x a b ne =
    elim (cases_Bool (nat_eq x a)) [
      | inl s ↦ elim (cases_Bool (nat_eq x b)) [
        | inl t ↦ let e = eqb-true x a s in let f = eqb-true x b t in absurd (ne (sym e ∙ f))
        | inr t ↦ omega (arith, yes (nat_eq x a) 1 s, no (nat_eq x b) 1 t)
      ]
      | inr s ↦ elim (cases_Bool (nat_eq x b)) [
        | inl t ↦ omega (arith, no (nat_eq x a) 1 s, yes (nat_eq x b) 1 t)
        | inr t ↦ omega (arith, no (nat_eq x a) 1 s, no (nat_eq x b) 1 t)
      ]
    ]

three_once : (x a b c : ℕ) → (a ≡ b → ⊥) → (a ≡ c → ⊥) → (b ≡ c → ⊥) → count_by (nat_eq x) (in_order a b c) ≤ 1
three_once x a b c ab ac bc = omega (arith, order_count (nat_eq x) a b c, apart x a b ab, apart x a c ac, apart x b c bc)

set_of : Role → Role → Role → NodeSet
set_of a b c = in_order a.node b.node c.node

all_put_node : (P : ℕ → Type 0) (node : ℕ) (rest : List ℕ) → P node → All P rest → All P (put_node node rest)
all_put_node P node [] p all = All-cons P node [] p all
all_put_node P node (first ∷ rest) p all =
    elim (nat_lt node first) as (λ t. All P (cond t (node ∷ first ∷ rest) (first ∷ put_node node rest))) [
      | true ↦ All-cons P node (first ∷ rest) p all
      | false ↦ All-cons P first (put_node node rest) (All-head P first rest all) (all_put_node P node rest p (All-tail P first rest all))
    ]

set_is_three : (roles : List Role) (each : ℕ) (a b c : Role) → Three roles each a b c → IsThree roles (set_of a b c)
unfolding set_of
set_is_three roles each a b c three =
    let P : ℕ → Type 0 = λ node. IsTrue (is_storage_node roles node) in
    record {
      three = order_length a.node b.node c.node;
      different = distinct_from_counts (in_order a.node b.node c.node) (λ x. three_once x a.node b.node c.node three.ab three.ac three.bc);
      stored = all_put_node P c.node (put_node b.node (a.node ∷ [])) three.third.is_stored
          (all_put_node P b.node (a.node ∷ []) three.second.is_stored (All-cons P a.node [] three.first.is_stored (All-nil P)));
    }

set_few : (roles : List Role) (each : ℕ) (a b c : Role) → Three roles each a b c → (name : Name) → count_by (in_set (set_of a b c)) (nodes_in roles name) ≤ each
unfolding set_of
set_few roles each a b c three name =
    let zone = nodes_in roles name in
    let set = in_order a.node b.node c.node in
    let e = sum_by-agree (λ role. cond (in_set set role) 1 0) (λ role. cond (role.node == a.node) 1 0 + (cond (role.node == b.node) 1 0 + cond (role.node == c.node) 1 0)) zone
    (λ k d h.
    let x = (get_or zone k d).node in
    any_as_count (nat_eq x) set (three_once x a.node b.node c.node three.ab three.ac three.bc) ∙ order_count (nat_eq x) a.node b.node c.node) in
    let f = sum_by-plus (λ role. cond (role.node == a.node) 1 0) (λ role. cond (role.node == b.node) 1 0 + cond (role.node == c.node) 1 0) zone in
    let g = sum_by-plus (λ role. cond (role.node == b.node) 1 0) (λ role. cond (role.node == c.node) 1 0) zone in
    let first = three.first.elsewhere name in
    let second = three.second.elsewhere name in
    let third = three.third.elsewhere name in
    let few = three.few name in
    omega arith

set_rises : (roles : List Role) (each : ℕ) (a b c : Role) → Three roles each a b c → IsTrue (set_ascends (set_of a b c))
unfolding set_of
set_rises roles each a b c three =
    put_ascends c.node (put_node b.node (a.node ∷ []))
    (differs (nat_lt b.node a.node) (ne_eqb c.node b.node (λ e. three.bc (sym e))) (ne_eqb c.node a.node (λ e. three.ac (sym e))))
    (put_ascends b.node (a.node ∷ []) (ne_eqb b.node a.node (λ e. three.ab (sym e)), tt) refl)
  where
    differs : (t : Bool) → nat_eq c.node b.node ≡ false → nat_eq c.node a.node ≡ false → AllByRecursion (λ y. nat_eq c.node y ≡ false) (cond t (b.node ∷ a.node ∷ []) (a.node ∷ b.node ∷ []))
    differs true cb ca = (cb, (ca, tt))
    differs false cb ca = (ca, (cb, tt))

-- ---- three places in the rows

bit : (b : Bool) → cond {A = ℕ} b 1 0 ≤ 1
bit true = le_refl 1
bit false = omega arith

-- within a stretch of one row no two of the three places stand, and within one of two rows no three
pub few_one : (n p from : ℕ) → p < n → (x y z : Bool) →
    (x ≡ true → (from ≤ p) × (p < from + 1 * n)) → (y ≡ true → (from ≤ n + p) × (n + p < from + 1 * n)) → (z ≡ true → (from ≤ 2 * n + p) × (2 * n + p < from + 1 * n)) →
    cond {A = ℕ} x 1 0 + (cond {A = ℕ} y 1 0 + cond {A = ℕ} z 1 0) ≤ 1
few_one n p from less true true z hx hy hz = let a = hx refl in let b = hy refl in absurd (omega arith)
few_one n p from less true false true hx hy hz = let a = hx refl in let b = hz refl in absurd (omega arith)
few_one n p from less false true true hx hy hz = let a = hy refl in let b = hz refl in absurd (omega arith)
few_one n p from less true false false hx hy hz = omega arith
few_one n p from less false true false hx hy hz = omega arith
few_one n p from less false false z hx hy hz = let b = bit z in omega arith

few_two : (n p from : ℕ) → p < n → (x y z : Bool) →
    (x ≡ true → (from ≤ p) × (p < from + 2 * n)) → (y ≡ true → (from ≤ n + p) × (n + p < from + 2 * n)) → (z ≡ true → (from ≤ 2 * n + p) × (2 * n + p < from + 2 * n)) →
    cond {A = ℕ} x 1 0 + (cond {A = ℕ} y 1 0 + cond {A = ℕ} z 1 0) ≤ 2
few_two n p from less true y true hx hy hz = let a = hx refl in let b = hz refl in absurd (omega arith)
few_two n p from less true y false hx hy hz = let b = bit y in omega arith
few_two n p from less false y z hx hy hz = let b = bit y in let c = bit z in omega arith

pub few_at : (n each p from : ℕ) → p < n → OneToThree each → (x y z : Bool) →
    (x ≡ true → (from ≤ p) × (p < from + each * n)) → (y ≡ true → (from ≤ n + p) × (n + p < from + each * n)) → (z ≡ true → (from ≤ 2 * n + p) × (2 * n + p < from + each * n)) →
    cond {A = ℕ} x 1 0 + (cond {A = ℕ} y 1 0 + cond {A = ℕ} z 1 0) ≤ each
few_at n each p from less some x y z hx hy hz =
    elim some [
      | is_one e ↦
          let few = few_one n p from less x y z
          (λ t. let h = hx t in let m = ap (λ k. k * n) e in (h.0, omega arith))
          (λ t. let h = hy t in let m = ap (λ k. k * n) e in (h.0, omega arith))
          (λ t. let h = hz t in let m = ap (λ k. k * n) e in (h.0, omega arith)) in
          omega arith
      | is_two e ↦
          let few = few_two n p from less x y z
          (λ t. let h = hx t in let m = ap (λ k. k * n) e in (h.0, omega arith))
          (λ t. let h = hy t in let m = ap (λ k. k * n) e in (h.0, omega arith))
          (λ t. let h = hz t in let m = ap (λ k. k * n) e in (h.0, omega arith)) in
          omega arith
      | is_three e ↦ let a = bit x in let b = bit y in let c = bit z in omega arith
    ]

three_at : (n : ℕ) (roles : List Role) (size each : ℕ) (d : Role) (p : ℕ) → OneToThree each → IsTrue (nodes_ascend roles) → 3 * n ≤ copies_for n roles size each → p < n →
    let copies = all_roles n roles size each in Three roles each (get_or copies p d) (get_or copies (n + p) d) (get_or copies (2 * n + p) d)
three_at n roles size each d p some ascend enough less =
    let copies = all_roles n roles size each in
    let len = all_length n roles size each enough in
    let a = get_or copies p d in
    let b = get_or copies (n + p) d in
    let c = get_or copies (2 * n + p) d in
    let stored = all_from n roles size each (Stored roles) (all_stored roles ascend) in
    let first_lies = node_lies n roles size each ascend a.node in
    let second_lies = node_lies n roles size each ascend b.node in
    record {
      first = stored p d (omega arith);
      second = stored (n + p) d (omega arith);
      third = stored (2 * n + p) d (omega arith);
      ab = λ e.
          let i = first_lies.within p d (omega arith) (eq-eqb a.node a.node refl) in
          let j = first_lies.within (n + p) d (omega arith) (eq-eqb b.node a.node (sym e)) in
          omega arith;
      ac = λ e.
          let i = first_lies.within p d (omega arith) (eq-eqb a.node a.node refl) in
          let j = first_lies.within (2 * n + p) d (omega arith) (eq-eqb c.node a.node (sym e)) in
          omega arith;
      bc = λ e.
          let i = second_lies.within (n + p) d (omega arith) (eq-eqb b.node b.node refl) in
          let j = second_lies.within (2 * n + p) d (omega arith) (eq-eqb c.node b.node (sym e)) in
          omega arith;
      few = λ name.
          let lies = zone_lies n roles size each name in
          few_at n each p lies.from less some (is_in_zone name a) (is_in_zone name b) (is_in_zone name c)
          (lies.within p d (omega arith)) (lies.within (n + p) d (omega arith)) (lies.within (2 * n + p) d (omega arith));
    }

pub copy_at : (n : ℕ) (roles : List Role) (size each : ℕ) (d : Role) (i : ℕ) → i < length (all_roles n roles size each) →
    get_or (all_copies n roles size each) i 0 ≡ (get_or (all_roles n roles size each) i d).node
copy_at n roles size each d i less =
    ap (λ (xs : List ℕ). get_or xs i 0) (sym (numbers_are n roles size each)) ∙ get_or-map node_of (all_roles n roles size each) i d 0 less

column_is : (n : ℕ) (roles : List Role) (size each : ℕ) (d : Role) (p : ℕ) → 3 * n ≤ copies_for n roles size each → p < n →
    let copies = all_roles n roles size each in
    column n (all_copies n roles size each) p ≡ set_of (get_or copies p d) (get_or copies (n + p) d) (get_or copies (2 * n + p) d)
unfolding set_of
column_is n roles size each d p enough less =
    let len = all_length n roles size each enough in
    let a = copy_at n roles size each d p (omega arith) in
    let b = copy_at n roles size each d (n + p) (omega arith) in
    let c = copy_at n roles size each d (2 * n + p) (omega arith) in
    λ i. in_order (a i) (b i) (c i)

-- ---- how many partitions a node keeps

node_load : (n : ℕ) (roles : List Role) (size each : ℕ) → IsTrue (nodes_ascend roles) → 3 * n ≤ copies_for n roles size each → (node : ℕ) →
    load (columns n (all_copies n roles size each)) node ≤ count_by (nat_eq node) (all_copies n roles size each)
unfolding columns
node_load n roles size each ascend enough node =
    let copies = all_copies n roles size each in
    let ps = range_with_len 0 n in
    let len : length copies ≡ 3 * n = ap (λ (xs : List ℕ). length xs) (sym (numbers_are n roles size each)) ∙ length-map (all_roles n roles size each) node_of ∙ all_length n roles size each enough in
    let f : ℕ → ℕ = λ m. cond (nat_eq node m) 1 0 in
    let row : ℕ → ℕ → ℕ = λ a p. f (get_or copies (a + p) 0) in
    let a = sum_by-map (λ set. cond (has_node node set) 1 0) (column n copies) ps in
    let b = sum_by-below (λ p. cond (has_node node (column n copies p)) 1 0) (λ p. row 0 p + (row n p + row (2 * n) p)) ps
    (λ k d h.
    let p = get_or ps k d in
    let zero : 0 + p ≡ p = omega arith in
    let first = ap (λ m. f (get_or copies m 0)) zero in
    let count = order_count (nat_eq node) (get_or copies p 0) (get_or copies (n + p) 0) (get_or copies (2 * n + p) 0) in
    let below = any_below (nat_eq node) (column n copies p) in
    omega arith) in
    let c = sum_by-plus (row 0) (λ p. row n p + row (2 * n) p) ps in
    let d = sum_by-plus (row n) (row (2 * n)) ps in
    let e = sum_by_places f 0 0 n copies (omega arith) in
    let g = sum_by_places f 0 n n copies (omega arith) in
    let h = sum_by_places f 0 (2 * n) n copies (omega arith) in
    let n0 : 0 + n ≡ n = omega arith in
    let n1 : n + n ≡ 2 * n = omega arith in
    let i = ap (λ k. sum_by f (take k copies)) n0 in
    let j = ap (λ k. sum_by f (take k copies)) n1 in
    let all : sum_by f (take (2 * n + n) copies) ≡ sum_by f copies = ap (λ (xs : List ℕ). sum_by f xs) (take_all (2 * n + n) copies (omega arith)) in
    omega arith
  where
    below_by : (b : Bool) (m : ℕ) → (b ≡ true → 1 ≤ m) → cond b 1 0 ≤ m
    below_by true m some = some refl
    below_by false m some = omega arith

    any_below : (p : ℕ → Bool) (xs : List ℕ) → cond (list_any p xs) 1 0 ≤ count_by p xs
    any_below p xs = below_by (list_any p xs) (count_by p xs) (count_some p xs)

pub node_copies : (n : ℕ) (roles : List Role) (size each : ℕ) → IsTrue (nodes_ascend roles) →
    All (λ role. count_by (nat_eq role.node) (all_copies n roles size each) ≤ room size role) (storage_nodes roles)
node_copies n roles size each ascend k d h =
    let nodes = storage_nodes roles in
    let role = get_or nodes k d in
    let t : Role → Bool = is_node role.node in
    let f : Role → ℕ = λ other. cond (t other) 1 0 in
    let a : count_by (nat_eq role.node) (all_copies n roles size each) ≡ sum_by f (all_roles n roles size each) =
    ap (λ (xs : List ℕ). count_by (nat_eq role.node) xs) (sym (numbers_are n roles size each))
    ∙ sum_by-map (λ m. cond (nat_eq role.node m) 1 0) node_of (all_roles n roles size each)
    ∙ sum_by-agree (λ other. cond (nat_eq role.node other.node) 1 0) f (all_roles n roles size each)
    (λ j e g. let other = get_or (all_roles n roles size each) j e in ap (λ b. cond b 1 0) (nat_eq_equiv.symm role.node other.node)) in
    let b = sum_by-take-le f (flat_map (zone_roles n size each) (zones roles)) (3 * n) in
    let c = sum_by-flat_map f (zone_roles n size each) (zones roles) in
    let e = sum_by-below (λ zone. sum_by f (zone_roles n size each zone)) (λ zone. sum_by (λ other. cond (t other) (min n (room size other)) 0) zone) (zones roles)
    (λ j e g.
    let zone = get_or (zones roles) j e in
    let x = sum_by-take-le f (flat_map (role_copies n size) zone) (each * n) in
    let y = sum_by-flat_map f (role_copies n size) zone in
    let z = sum_by-agree (λ other. sum_by f (role_copies n size other)) (λ other. cond (t other) (min n (room size other)) 0) zone
    (λ i u v. let other = get_or zone i u in sum_by-replicate f (min n (room size other)) other ∙ times (min n (room size other)) (t other)) in
    omega arith) in
    let g = sum_by_zones (λ other. cond (t other) (min n (room size other)) 0) roles in
    let i = sum_of_one t (λ other. min n (room size other)) nodes (stored_once role.node roles ascend) k d h (eq-eqb role.node role.node refl) in
    omega arith
  where
    times : (m : ℕ) (b : Bool) → m * cond b 1 0 ≡ cond b m 0
    times m true = omega arith
    times m false = omega arith

-- ---- all partitions

pub record Fitted (n : ℕ) (roles : List Role) (r size : ℕ) (sets : List NodeSet) : Type 0 where
  pub fits : FitsAll n roles r size sets
  pub rises : All (λ set. IsTrue (set_ascends set)) sets

fitted_from : (n : ℕ) (roles : List Role) (r size : ℕ) (d : Role) → 1 ≤ r → r ≤ 3 → IsTrue (nodes_ascend roles) → 3 * n ≤ copies_for n roles size (4 - r) →
    Fitted n roles r size (columns n (all_copies n roles size (4 - r)))
unfolding columns
fitted_from n roles r size d low high ascend enough =
    let each = 4 - r in
    let copies = all_roles n roles size each in
    let numbers = all_copies n roles size each in
    let ps = range_with_len 0 n in
    let three = λ (p : ℕ) (less : p < n). three_at n roles size each d p (one_to_three each (omega arith) (omega arith)) ascend enough less in
    let at : ℕ → NodeSet = λ p. set_of (get_or copies p d) (get_or copies (n + p) d) (get_or copies (2 * n + p) d) in
    let is_three = λ (p : ℕ) (less : p < n). set_is_three roles each (get_or copies p d) (get_or copies (n + p) d) (get_or copies (2 * n + p) d) (three p less) in
    let over = λ (P : NodeSet → Type 0) (holds : (p : ℕ) → p < n → P (at p)).
    All-map P (column n numbers) ps (all_parts n (λ p. P (column n numbers p)) (λ p less. subst P (sym (column_is n roles size each d p enough less)) (holds p less))) in
    record {
      fits = record {
        whole = length-map-range_with_len (column n numbers) 0 n;
        threes = over (IsThree roles) is_three;
        spread = over (λ set. r ≤ length (zones_of roles set))
            (λ p less. spread_from_few roles (at p) r low high ascend (is_three p less)
            (set_few roles each (get_or copies p d) (get_or copies (n + p) d) (get_or copies (2 * n + p) d) (three p less)));
        within = λ k e h.
            let role = get_or (storage_nodes roles) k e in
            le_trans (node_load n roles size each ascend enough role.node) (node_copies n roles size each ascend k e h);
      };
      rises = over (λ set. IsTrue (set_ascends set)) (λ p less. set_rises roles each (get_or copies p d) (get_or copies (n + p) d) (get_or copies (2 * n + p) d) (three p less));
    }

pub fitted : (n : ℕ) (roles : List Role) (r size : ℕ) → 0 < n → 1 ≤ r → r ≤ 3 → IsTrue (nodes_ascend roles) → 3 * n ≤ copies_for n roles size (4 - r) →
    Fitted n roles r size (columns n (all_copies n roles size (4 - r)))
fitted n [] r size some low high ascend enough = absurd (omega arith)
fitted n (role ∷ roles) r size some low high ascend enough = fitted_from n (role ∷ roles) r size role low high ascend enough
