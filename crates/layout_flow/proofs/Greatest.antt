-- As many copies as the zones have room for make a flow, and no flow is greater.
use Rattle.std.proofs.Common.{◌≡◌, ℕ, zero, suc, ◌+◌, ◌-◌, ◌*◌, ◌<◌, ◌≤◌, min, Bool, true, false, cond, ◌&&◌, ◌==◌, nat_eq, nat_lt, IsTrue, List, [], ◌∷◌, ◌++◌, length, get_or, take, replicate, refl, sym, ap, ◌∙◌, subst, inl, inr, arith, le_refl, le_trans, ltb-true, lt-ltb, length-append}
use Rattle.std.specs.List.{sum_by, count_by, list_any, flat_map, All, enumerate_from, range_with_len}
use Rattle.std.proofs.lemmas.Bool.{cases_lt, and_parts, eq-eqb, ne_eqb}
use Rattle.std.proofs.lemmas.List.{get_or_past, length-map, length-take, take_all}
use Rattle.std.proofs.lemmas.Cmp.{nat_eq_equiv}
use Rattle.std.proofs.lemmas.List.Concat.{length-flat_map}
use Rattle.std.proofs.lemmas.List.Sums.{sum_by-cons, sum_by-append}
use Rattle.std.proofs.lemmas.List.FromFn.{length-range_with_len, length-map-range_with_len}
use Rattle.std.proofs.lemmas.List.Elements.{All-head, All-tail, All-cons, All-nil, All-map, All-filter}
use Rattle.layout_roles.specs.declared.role.Role.{Role}
use Rattle.layout_roles.specs.Zones.{Name, ascend_from, nodes_ascend, is_storage, storage_nodes, is_in_zone, nodes_in, zones}
use Rattle.layout_roles.specs.Fits.{NodeSet, has_node, load}
use Rattle.layout_roles.specs.Network.{network_of}
use Rattle.layout_roles.specs.declared.role.Kind.TheVariants.{Gateway}
use Rattle.layout_roles.specs.Cuts.{Side, leaves, weight}
use Rattle.layout_flow.specs.Flows.{same_vertex, Flow, IsFlow, value}
use Rattle.layout_roles.specs.declared.vertex.Vertex.TheVariants.{Source}
use Rattle.layout_flow.proofs.Bounds.{part_sum, sum_of_edges}
use Rattle.layout_flow.specs.Totals.{copies_in}
use Rattle.layout_roles.specs.Sets.{in_order}
use Rattle.layout_flow.specs.Closed.{copies_for, all_copies, column, columns}
use Rattle.layout_flow.proofs.Sums.{no, sum_by-plus, sum_by-agree, sum_by-below, sum_by-swap, sum_by-map, sum_by-none, sum_by-constant}
use Rattle.layout_flow.proofs.Lightest.{one_to_three}
use Rattle.layout_flow.proofs.Zones.{count_none, count_some, count_at, stored_once}
use Rattle.layout_flow.proofs.Spread.{in_set, any_as_count}
use Rattle.layout_flow.proofs.Printed.{all_parts}
use Rattle.layout_flow.proofs.Lies.{Lies, any_replicate, sum_by_places}
use Rattle.layout_flow.proofs.Wrapped.{node_of, zone_roles, all_roles, numbers_are, zone_length, is_node, node_lies, zone_lies, all_from, Stored, all_stored, order_count}
use Rattle.layout_flow.proofs.Fitted.{few_one, few_at, copy_at, node_copies}
use Rattle.layout_flow.proofs.Carry.{nothing, carry, IsPart, carry_is_flow, carry_value}

-- ---- places without a copy have the number 0, which is no node's

positive_from : (before : ℕ) (roles : List Role) → IsTrue (ascend_from before roles) → All (λ role. 1 ≤ role.node) roles
positive_from before [] ascend = All-nil (λ role. 1 ≤ role.node)
positive_from before (role ∷ roles) ascend =
    let parts = and_parts (nat_lt before role.node) (ascend_from role.node roles) ascend in
    let less = ltb-true before role.node parts.0 in
    All-cons (λ role. 1 ≤ role.node) role roles (omega arith) (positive_from role.node roles parts.1)

positive : (roles : List Role) → IsTrue (nodes_ascend roles) → All (λ role. 1 ≤ role.node) (storage_nodes roles)
positive roles ascend = All-filter is_storage (λ role. 1 ≤ role.node) roles (positive_from 0 roles ascend)

short_length : (n : ℕ) (roles : List Role) (size each : ℕ) → length (all_roles n roles size each) ≡ min (3 * n) (copies_for n roles size each)
short_length n roles size each =
    let a = length-take (3 * n) (flat_map (zone_roles n size each) (zones roles)) in
    let b = length-flat_map (zone_roles n size each) (zones roles) in
    let c = sum_by-agree (λ zone. length (zone_roles n size each zone)) (λ zone. min (each * n) (copies_in n size zone)) (zones roles)
    (λ k d h. zone_length n size each (get_or (zones roles) k d)) in
    omega arith

numbers_length : (n : ℕ) (roles : List Role) (size each : ℕ) → length (all_copies n roles size each) ≡ length (all_roles n roles size each)
numbers_length n roles size each =
    ap (λ (xs : List ℕ). length xs) (sym (numbers_are n roles size each)) ∙ length-map (all_roles n roles size each) node_of

-- whether there is a copy at a place, of a role that passes
abbrev here : ℕ → List Role → ℕ → ℕ → Role → (Role → Bool) → ℕ → Bool
here n roles size each d t i = nat_lt i (length (all_roles n roles size each)) && t (get_or (all_roles n roles size each) i d)

both_true : (a b : Bool) → a ≡ true → cond {A = ℕ} b 1 0 ≤ cond {A = ℕ} (a && b) 1 0
both_true true b e = le_refl (cond {A = ℕ} b 1 0)
both_true false b e = cc

node_here : (n : ℕ) (roles : List Role) (size each : ℕ) (d : Role) (node : ℕ) → 1 ≤ node → (i : ℕ) →
    cond {A = ℕ} (nat_eq node (get_or (all_copies n roles size each) i 0)) 1 0 ≤ cond {A = ℕ} (here n roles size each d (is_node node) i) 1 0
node_here n roles size each d node some i =
    let copies = all_roles n roles size each in
    elim (cases_lt i (length copies)) [
      | inl less ↦
          let at = copy_at n roles size each d i less in
          let same : nat_eq node (get_or (all_copies n roles size each) i 0) ≡ is_node node (get_or copies i d) =
          ap (λ m. nat_eq node m) at ∙ nat_eq_equiv.symm node (get_or copies i d).node in
          le_trans (same_bit same) (both_true (nat_lt i (length copies)) (is_node node (get_or copies i d)) (lt-ltb i (length copies) less))
      | inr past ↦
          let zero : get_or (all_copies n roles size each) i 0 ≡ 0 = get_or_past (all_copies n roles size each) i 0 (omega (arith, numbers_length n roles size each)) in
          let apart : nat_eq node (get_or (all_copies n roles size each) i 0) ≡ false = ne_eqb node (get_or (all_copies n roles size each) i 0) (λ e. omega arith) in
          omega (arith, no (nat_eq node (get_or (all_copies n roles size each) i 0)) 1 apart)
    ]
  where
    same_bit : {a b : Bool} → a ≡ b → cond {A = ℕ} a 1 0 ≤ cond {A = ℕ} b 1 0
    same_bit {a} {b} e = let f = ap (λ t. cond {A = ℕ} t 1 0) e in omega arith

zone_here : (n : ℕ) (roles : List Role) (size each : ℕ) (d : Role) → IsTrue (nodes_ascend roles) → (name : Name) (i : ℕ) →
    count_by (is_node (get_or (all_copies n roles size each) i 0)) (nodes_in roles name) ≤ cond {A = ℕ} (here n roles size each d (is_in_zone name) i) 1 0
zone_here n roles size each d ascend name i =
    let copies = all_roles n roles size each in
    elim (cases_lt i (length copies)) [
      | inl less ↦
          let at = ap (λ m. count_by (is_node m) (nodes_in roles name)) (copy_at n roles size each d i less) in
          let stored = all_from n roles size each (Stored roles) (all_stored roles ascend) i d less in
          let few = stored.elsewhere name in
          let bits = both_true (nat_lt i (length copies)) (is_in_zone name (get_or copies i d)) (lt-ltb i (length copies) less) in
          omega arith
      | inr past ↦
          let zero = ap (λ m. count_by (is_node m) (nodes_in roles name)) (get_or_past (all_copies n roles size each) i 0 (omega (arith, numbers_length n roles size each))) in
          let none = nobody (nodes_in roles name) (All-filter (is_in_zone name) (λ role. 1 ≤ role.node) (storage_nodes roles) (positive roles ascend)) in
          omega arith
    ]
  where
    nobody : (xs : List Role) → All (λ role. 1 ≤ role.node) xs → count_by (is_node 0) xs ≡ 0
    nobody [] all = refl
    nobody (x ∷ xs) all =
        let first = All-head (λ role. 1 ≤ role.node) x xs all in
        let more = sum_by-cons (λ role. cond (is_node 0 role) 1 0) x xs in
        omega (arith, no (is_node 0 x) 1 (ne_eqb x.node 0 (λ e. omega arith)), nobody xs (All-tail (λ role. 1 ≤ role.node) x xs all))

-- ---- a column has at most three nodes, one copy of each, and few of a zone

here_within : (n : ℕ) (roles : List Role) (size each : ℕ) (d : Role) (t : Role → Bool) (k : ℕ) (lies : Lies t k (all_roles n roles size each)) (i : ℕ) →
    here n roles size each d t i ≡ true → (lies.from ≤ i) × (i < lies.from + k)
here_within n roles size each d t k lies i e =
    let copies = all_roles n roles size each in
    let parts = and_parts (nat_lt i (length copies)) (t (get_or copies i d)) e in
    lies.within i d (ltb-true i (length copies) parts.0) parts.1

node_in_column : (n : ℕ) (roles : List Role) (size each : ℕ) (d : Role) → IsTrue (nodes_ascend roles) → (node : ℕ) → 1 ≤ node → (p : ℕ) → p < n →
    count_by (nat_eq node) (column n (all_copies n roles size each) p) ≤ 1
node_in_column n roles size each d ascend node some p less =
    let copies = all_copies n roles size each in
    let lies = node_lies n roles size each ascend node in
    let t = here n roles size each d (is_node node) in
    let few = few_one n p lies.from less (t p) (t (n + p)) (t (2 * n + p))
    (λ e. let w = here_within n roles size each d (is_node node) n lies p e in (w.0, omega arith))
    (λ e. let w = here_within n roles size each d (is_node node) n lies (n + p) e in (w.0, omega arith))
    (λ e. let w = here_within n roles size each d (is_node node) n lies (2 * n + p) e in (w.0, omega arith)) in
    let count = order_count (nat_eq node) (get_or copies p 0) (get_or copies (n + p) 0) (get_or copies (2 * n + p) 0) in
    let a = node_here n roles size each d node some p in
    let b = node_here n roles size each d node some (n + p) in
    let c = node_here n roles size each d node some (2 * n + p) in
    omega arith

-- the nodes of a list that a column has
column_below : (a b c : ℕ) (xs : List Role) → count_by (in_set (in_order a b c)) xs ≤ count_by (is_node a) xs + (count_by (is_node b) xs + count_by (is_node c) xs)
column_below a b c xs =
    let set = in_order a b c in
    let e = sum_by-below (λ role. cond (in_set set role) 1 0) (λ role. cond (role.node == a) 1 0 + (cond (role.node == b) 1 0 + cond (role.node == c) 1 0)) xs
    (λ k d h. let x = (get_or xs k d).node in let o = order_count (nat_eq x) a b c in let s = any_below (nat_eq x) set in omega arith) in
    let f = sum_by-plus (λ role. cond (role.node == a) 1 0) (λ role. cond (role.node == b) 1 0 + cond (role.node == c) 1 0) xs in
    let g = sum_by-plus (λ role. cond (role.node == b) 1 0) (λ role. cond (role.node == c) 1 0) xs in
    omega arith
  where
    below_by : (b : Bool) (m : ℕ) → (b ≡ true → 1 ≤ m) → cond b 1 0 ≤ m
    below_by true m some = some refl
    below_by false m some = omega arith

    any_below : (p : ℕ → Bool) (ys : List ℕ) → cond (list_any p ys) 1 0 ≤ count_by p ys
    any_below p ys = below_by (list_any p ys) (count_by p ys) (count_some p ys)

-- ---- how many partitions a node keeps

zeros : ℕ → List ℕ
zeros k = replicate k 0

zero_at : (k i : ℕ) → get_or (zeros k) i 0 ≡ 0
unfolding zeros
zero_at zero i = refl
zero_at (suc k) zero = refl
zero_at (suc k) (suc i) = zero_at k i

zeros_length : (k : ℕ) → length (zeros k) ≡ k
unfolding zeros
zeros_length zero = refl
zeros_length (suc k) = ap suc (zeros_length k)

zeros_none : (k node : ℕ) → 1 ≤ node → count_by (nat_eq node) (zeros k) ≡ 0
unfolding zeros
zeros_none k node some = count_none (nat_eq node) (replicate k 0) (any_replicate (nat_eq node) k 0 (ne_eqb node 0 (λ e. omega arith)))

padded : (xs : List ℕ) (k i : ℕ) → get_or (xs ++ zeros k) i 0 ≡ get_or xs i 0
padded [] k i = zero_at k i
padded (x ∷ xs) k zero = refl
padded (x ∷ xs) k (suc i) = padded xs k i

node_load_is : (n : ℕ) (roles : List Role) (size each : ℕ) (d : Role) → IsTrue (nodes_ascend roles) → (node : ℕ) → 1 ≤ node →
    load (columns n (all_copies n roles size each)) node ≡ count_by (nat_eq node) (all_copies n roles size each)
unfolding columns
node_load_is n roles size each d ascend node some =
    let short = all_copies n roles size each in
    let more = 3 * n - length short in
    let copies = short ++ zeros more in
    let ps = range_with_len 0 n in
    let len : length copies ≡ 3 * n = omega (arith, length-append short (zeros more), zeros_length more, numbers_length n roles size each, short_length n roles size each) in
    let f : ℕ → ℕ = λ m. cond (nat_eq node m) 1 0 in
    let row : ℕ → ℕ → ℕ = λ a p. f (get_or copies (a + p) 0) in
    let a = sum_by-map (λ set. cond (has_node node set) 1 0) (column n short) ps in
    let b = sum_by-agree (λ p. cond (has_node node (column n short p)) 1 0) (λ p. row 0 p + (row n p + row (2 * n) p)) ps
    (all_parts n (λ p. cond (has_node node (column n short p)) 1 0 ≡ row 0 p + (row n p + row (2 * n) p))
    (λ p less.
    let zero : 0 + p ≡ p = omega arith in
    let first = ap (λ m. f (get_or copies m 0)) zero in
    let x = ap f (padded short more p) in
    let y = ap f (padded short more (n + p)) in
    let z = ap f (padded short more (2 * n + p)) in
    let count = order_count (nat_eq node) (get_or short p 0) (get_or short (n + p) 0) (get_or short (2 * n + p) 0) in
    let once = any_as_count (nat_eq node) (column n short p) (node_in_column n roles size each d ascend node some p less) in
    omega arith)) in
    let c = sum_by-plus (row 0) (λ p. row n p + row (2 * n) p) ps in
    let e = sum_by-plus (row n) (row (2 * n)) ps in
    let g = sum_by_places f 0 0 n copies (omega arith) in
    let h = sum_by_places f 0 n n copies (omega arith) in
    let i = sum_by_places f 0 (2 * n) n copies (omega arith) in
    let n0 : 0 + n ≡ n = omega arith in
    let n1 : n + n ≡ 2 * n = omega arith in
    let j = ap (λ k. sum_by f (take k copies)) n0 in
    let k = ap (λ k. sum_by f (take k copies)) n1 in
    let all : sum_by f (take (2 * n + n) copies) ≡ sum_by f copies = ap (λ (xs : List ℕ). sum_by f xs) (take_all (2 * n + n) copies (omega arith)) in
    let split = sum_by-append f short (zeros more) in
    let none = zeros_none more node some in
    omega arith

-- ---- the columns are a part of an assignment, with all copies

columns_are_part : (n : ℕ) (roles : List Role) (r size : ℕ) (d : Role) → 1 ≤ r → r ≤ 3 → IsTrue (nodes_ascend roles) →
    IsPart n roles r size (columns n (all_copies n roles size (4 - r)))
unfolding columns
columns_are_part n roles r size d low high ascend =
    let each = 4 - r in
    let copies = all_copies n roles size each in
    let ps = range_with_len 0 n in
    record {
      whole = length-map-range_with_len (column n copies) 0 n;
      three = All-map (λ set. count_by (in_set set) (storage_nodes roles) ≤ 3) (column n copies) ps
          (λ k e h.
          let p = get_or ps k e in
          let x = column_below (get_or copies p 0) (get_or copies (n + p) 0) (get_or copies (2 * n + p) 0) (storage_nodes roles) in
          let a = stored_once (get_or copies p 0) roles ascend in
          let b = stored_once (get_or copies (n + p) 0) roles ascend in
          let c = stored_once (get_or copies (2 * n + p) 0) roles ascend in
          omega arith);
      few = λ name. All-map (λ set. count_by (in_set set) (nodes_in roles name) ≤ 4 - r) (column n copies) ps
          (all_parts n (λ p. count_by (in_set (column n copies p)) (nodes_in roles name) ≤ 4 - r)
          (λ p less.
          let lies = zone_lies n roles size each name in
          let t = here n roles size each d (is_in_zone name) in
          let few = few_at n each p lies.from less (one_to_three each (omega arith) (omega arith)) (t p) (t (n + p)) (t (2 * n + p))
          (here_within n roles size each d (is_in_zone name) (each * n) lies p)
          (here_within n roles size each d (is_in_zone name) (each * n) lies (n + p))
          (here_within n roles size each d (is_in_zone name) (each * n) lies (2 * n + p)) in
          let x = column_below (get_or copies p 0) (get_or copies (n + p) 0) (get_or copies (2 * n + p) 0) (nodes_in roles name) in
          let a = zone_here n roles size each d ascend name p in
          let b = zone_here n roles size each d ascend name (n + p) in
          let c = zone_here n roles size each d ascend name (2 * n + p) in
          omega arith));
      within = λ k e h.
          let role = get_or (storage_nodes roles) k e in
          let is = node_load_is n roles size each d ascend role.node (positive roles ascend k e h) in
          let few = node_copies n roles size each ascend k e h in
          omega arith;
    }

columns_count : (n : ℕ) (roles : List Role) (size each : ℕ) (d : Role) → IsTrue (nodes_ascend roles) →
    sum_by (λ set. count_by (in_set set) (storage_nodes roles)) (columns n (all_copies n roles size each)) ≡ min (3 * n) (copies_for n roles size each)
columns_count n roles size each d ascend =
    let nodes = storage_nodes roles in
    let sets = columns n (all_copies n roles size each) in
    let copies = all_copies n roles size each in
    let a = sum_by-swap (λ (set : NodeSet) (role : Role). cond (in_set set role) 1 0) sets nodes in
    let b = sum_by-agree (λ role. load sets role.node) (λ role. count_by (nat_eq role.node) copies) nodes
    (λ k e h. node_load_is n roles size each d ascend (get_or nodes k e).node (positive roles ascend k e h)) in
    let c = sum_by-swap (λ (role : Role) (y : ℕ). cond (nat_eq role.node y) 1 0) nodes copies in
    let each_once : All (λ y. count_by (λ role. nat_eq role.node y) nodes ≡ 1) copies =
    subst (λ xs. All (λ y. count_by (λ role. nat_eq role.node y) nodes ≡ 1) xs) (numbers_are n roles size each)
    (All-map (λ y. count_by (λ role. nat_eq role.node y) nodes ≡ 1) node_of (all_roles n roles size each)
    (all_from n roles size each (λ other. count_by (λ role. nat_eq role.node other.node) nodes ≡ 1)
    (λ k e h.
    let other = get_or nodes k e in
    let some = count_at (λ role. nat_eq role.node other.node) nodes k e h (eq-eqb other.node other.node refl) in
    let once = stored_once other.node roles ascend in
    omega arith))) in
    let e = sum_by-agree (λ y. count_by (λ role. nat_eq role.node y) nodes) (λ y. 1) copies each_once in
    let f = sum_by-constant 1 copies in
    let g = numbers_length n roles size each in
    let h = short_length n roles size each in
    omega arith

-- a flow that carries what the zones have room for, three copies of each partition at most
pub record GreatFlow (n : ℕ) (roles : List Role) (r size : ℕ) : Type 0 where
  pub flow : Flow
  pub is_flow : IsFlow (network_of n roles r size) flow
  pub carries : value (network_of n roles r size) flow ≡ min (3 * n) (copies_for n roles size (4 - r))

great_from : (n : ℕ) (roles : List Role) (r size : ℕ) (d : Role) → 1 ≤ r → r ≤ 3 → IsTrue (nodes_ascend roles) → GreatFlow n roles r size
great_from n roles r size d low high ascend =
    let sets = columns n (all_copies n roles size (4 - r)) in
    let is_part = columns_are_part n roles r size d low high ascend in
    record {
      flow = carry r roles sets;
      is_flow = carry_is_flow n roles r size sets low high is_part;
      carries = carry_value n roles r size sets is_part.whole ∙ columns_count n roles size (4 - r) d ascend;
    }

-- stands for a copy where there is none
nobody : Role
nobody = record { node = 0; zone = record { 0 = [] }; kind = Gateway }

pub great : (n : ℕ) (roles : List Role) (r size : ℕ) → 1 ≤ r → r ≤ 3 → IsTrue (nodes_ascend roles) → GreatFlow n roles r size
great n roles r size low high ascend = great_from n roles r size nobody low high ascend

-- the cut that holds the source alone
abbrev pub source_alone : Side
source_alone vertex = same_vertex vertex Source

pub source_weight : (n : ℕ) (roles : List Role) (r size : ℕ) → r ≤ 3 → weight (network_of n roles r size) source_alone ≡ 3 * n
source_weight n roles r size high =
    let zs = enumerate_from 0 (zones roles) in
    let ps = range_with_len 0 n in
    let a = sum_of_edges n roles r size (λ e. cond (leaves source_alone e) e.capacity 0) in
    let b = sum_by-agree (part_sum roles r (λ e. cond (leaves source_alone e) e.capacity 0)) (λ p. 3) ps (λ k d h. let z = nothing roles in omega arith) in
    let c = sum_by-constant 3 ps in
    let d = length-range_with_len 0 n in
    let e = sum_by-none (storage_nodes roles) in
    omega arith
