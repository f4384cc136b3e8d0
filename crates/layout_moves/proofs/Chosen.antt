-- Sums over the nodes of a set, over zones and over partitions.
use Rattle.std.proofs.Common.{◌≡◌, ℕ, zero, suc, ◌+◌, ◌-◌, ◌*◌, ◌≤◌, min, Bool, true, false, cond, ◌==◌, nat_eq, IsTrue, List, [], ◌∷◌, length, get_or, sym, ap, ◌∙◌, subst, inl, inr, arith, eqb-true}
use Rattle.std.specs.List.{sum_by, count_by, All, range_with_len, enumerate_from}
use Rattle.std.proofs.lemmas.Bool.{cases_Bool}
use Rattle.std.proofs.lemmas.List.Sums.{sum_by-cons}
use Rattle.std.proofs.lemmas.List.Elements.{All-head, All-tail}
use Rattle.layout_roles.specs.declared.role.Role.{Role}
use Rattle.layout_roles.specs.Zones.{nodes_ascend, storage_nodes, zones}
use Rattle.layout_roles.specs.Fits.{NodeSet, has_node, load, IsThree, set_at}
use Rattle.layout_flow.proofs.Sums.{no, sum_by-agree, sum_by-swap, sum_by-constant, sum_by-enumerate}
use Rattle.layout_flow.proofs.Zones.{count_times, count_some, stored_once, sum_by_zones}
use Rattle.layout_flow.proofs.Spread.{in_set, distinct_once, any_as_count, three_chosen}
use Rattle.layout_flow.proofs.Carry.{range_sum}
use Rattle.layout_flow.proofs.Lightest.{is_one, is_two, is_three, one_to_three}

-- ---- the nodes of a set

pub count_as_sum : (f : ℕ → ℕ) (n : ℕ) (set : List ℕ) → count_by (nat_eq n) set ≤ 1 → cond (has_node n set) (f n) 0 ≡ sum_by (λ m. cond (nat_eq n m) (f m) 0) set
count_as_sum f n set once =
    let same = sum_by-agree (λ m. cond (nat_eq n m) (f n) 0) (λ m. cond (nat_eq n m) (f m) 0) set (λ k d h. moved (get_or set k d)) in
    let times = count_times (nat_eq n) (f n) set in
    let one = any_as_count (nat_eq n) set once in
    omega (arith, scaled (has_node n set) (f n), ap (λ m. m * f n) one)
  where
    moved : (m : ℕ) → cond (nat_eq n m) (f n) 0 ≡ cond (nat_eq n m) (f m) 0
    moved m = elim (cases_Bool (nat_eq n m)) [
      | inl t ↦ ap (λ x. cond (nat_eq n m) (f x) 0) (eqb-true n m t)
      | inr e ↦ no (nat_eq n m) (f n) e ∙ sym (no (nat_eq n m) (f m) e)
    ]

    scaled : (b : Bool) (x : ℕ) → cond b x 0 ≡ cond {A = ℕ} b 1 0 * x
    scaled true x = omega arith
    scaled false x = omega arith

-- a sum over the storage nodes that a set has is the sum over the set
pub sum_in_set : (roles : List Role) (set : NodeSet) (f : ℕ → ℕ) → IsTrue (nodes_ascend roles) → IsThree roles set →
    sum_by (λ role. cond (has_node role.node set) (f role.node) 0) (storage_nodes roles) ≡ sum_by f set
sum_in_set roles set f ascend three =
    let nodes = storage_nodes roles in
    let a = sum_by-agree (λ role. cond (has_node role.node set) (f role.node) 0) (λ role. sum_by (λ m. cond (nat_eq role.node m) (f m) 0) set) nodes
    (λ k d h. let n = (get_or nodes k d).node in count_as_sum f n set (distinct_once n set three.different)) in
    let b = sum_by-swap (λ (role : Role) (m : ℕ). cond (nat_eq role.node m) (f m) 0) nodes set in
    let c = sum_by-agree (λ m. sum_by (λ role. cond (nat_eq role.node m) (f m) 0) nodes) f set
    (λ k d h.
    let m = get_or set k d in
    let times = count_times (λ role. role.node == m) (f m) nodes in
    let some = count_some (λ role. role.node == m) nodes (three.stored k d h) in
    let once = stored_once m roles ascend in
    let one : count_by (λ role. role.node == m) nodes ≡ 1 = omega arith in
    omega (arith, ap (λ x. x * f m) one)) in
    a ∙ b ∙ c

-- ---- zones

-- a set's nodes, zone by zone
pub zones_of_set : (roles : List Role) (set : NodeSet) → IsTrue (nodes_ascend roles) → IsThree roles set →
    sum_by (λ z. count_by (in_set set) z.1) (enumerate_from 0 (zones roles)) ≡ 3
zones_of_set roles set ascend three =
    sum_by-enumerate (λ zone. count_by (in_set set) zone) 0 (zones roles) ∙ sum_by_zones (λ role. cond (in_set set role) 1 0) roles ∙ three_chosen roles set ascend three

-- how many zones keep some, at least
some_each : {X : Type 0} (most : ℕ) (f : X → ℕ) (xs : List X) → All (λ x. f x ≤ most) xs → sum_by f xs ≤ sum_by (λ x. min 1 (f x)) xs * most
some_each most f [] all = omega arith
some_each most f (x ∷ xs) all =
    let a = sum_by-cons f x xs in
    let b = sum_by-cons (λ x. min 1 (f x)) x xs in
    let rest = some_each most f xs (All-tail (λ x. f x ≤ most) x xs all) in
    let first = All-head (λ x. f x ≤ most) x xs all in
    go (f x) (sum_by (λ x. min 1 (f x)) xs) (sum_by (λ x. min 1 (f x)) (x ∷ xs)) (sum_by f xs) (sum_by f (x ∷ xs)) first rest (omega arith) (omega arith)
  where
    go : (k o o' s s' : ℕ) → k ≤ most → s ≤ o * most → s' ≡ k + s → o' ≡ min 1 k + o → s' ≤ o' * most
    go zero o o' s s' first rest e f = let same : o' ≡ o = omega arith in let m = ap (λ x. x * most) same in omega arith
    go (suc k) o o' s s' first rest e f = let same : o' ≡ 1 + o = omega arith in let m = ap (λ x. x * most) same in omega arith

-- three nodes with at most 4 - r in a zone lie in r zones at least
zones_enough : (r ones : ℕ) → 1 ≤ r → r ≤ 3 → 3 ≤ ones * (4 - r) → r ≤ ones
zones_enough r ones low high total =
    elim (one_to_three r low high) [
      | is_one e ↦ let t = subst (λ m. 3 ≤ ones * (4 - m)) e total in omega arith
      | is_two e ↦ let t = subst (λ m. 3 ≤ ones * (4 - m)) e total in omega arith
      | is_three e ↦ let t = subst (λ m. 3 ≤ ones * (4 - m)) e total in omega arith
    ]

pub zones_with_some : (roles : List Role) (r : ℕ) (set : NodeSet) → 1 ≤ r → r ≤ 3 → IsTrue (nodes_ascend roles) → IsThree roles set → All (λ zone. count_by (in_set set) zone ≤ 4 - r) (zones roles) →
    r ≤ sum_by (λ z. min 1 (count_by (in_set set) z.1)) (enumerate_from 0 (zones roles))
zones_with_some roles r set low high ascend three few =
    let all = zones_of_set roles set ascend three in
    let a = sum_by-enumerate (λ zone. count_by (in_set set) zone) 0 (zones roles) in
    let b = sum_by-enumerate (λ zone. min 1 (count_by (in_set set) zone)) 0 (zones roles) in
    let c = some_each (4 - r) (λ zone. count_by (in_set set) zone) (zones roles) few in
    let e = zones_enough r (sum_by (λ zone. min 1 (count_by (in_set set) zone)) (zones roles)) low high (omega arith) in
    omega arith

-- ---- partitions

-- a sum over the nodes of all sets, node by node
pub loads : (n : ℕ) (roles : List Role) (sets : List NodeSet) (f : ℕ → ℕ) → IsTrue (nodes_ascend roles) → length sets ≡ n → All (IsThree roles) sets →
    sum_by (λ p. sum_by f (set_at sets p)) (range_with_len 0 n) ≡ sum_by (λ role. load sets role.node * f role.node) (storage_nodes roles)
loads n roles sets f ascend whole threes =
    let nodes = storage_nodes roles in
    let a = range_sum n (λ set. sum_by f set) sets whole in
    let b = sum_by-agree (λ set. sum_by f set) (λ set. sum_by (λ role. cond (has_node role.node set) (f role.node) 0) nodes) sets
    (λ k d h. sym (sum_in_set roles (get_or sets k d) f ascend (threes k d h))) in
    let c = sum_by-swap (λ (set : NodeSet) (role : Role). cond (has_node role.node set) (f role.node) 0) sets nodes in
    let e = sum_by-agree (λ role. sum_by (λ set. cond (has_node role.node set) (f role.node) 0) sets) (λ role. load sets role.node * f role.node) nodes
    (λ k d h. count_times (has_node (get_or nodes k d).node) (f (get_or nodes k d).node) sets) in
    a ∙ b ∙ c ∙ e

pub threes_length : (n : ℕ) (roles : List Role) (sets : List NodeSet) (m : ℕ) → length sets ≡ n → All (IsThree roles) sets →
    sum_by (λ p. sum_by (λ x. m) (set_at sets p)) (range_with_len 0 n) ≡ n * (3 * m)
threes_length n roles sets m whole threes =
    let a = range_sum n (λ set. sum_by (λ x. m) set) sets whole in
    let b = sum_by-agree (λ set. sum_by (λ x. m) set) (λ set. 3 * m) sets
    (λ k d h. let set = get_or sets k d in sum_by-constant m set ∙ ap (λ l. l * m) (threes k d h).three) in
    let c = sum_by-constant (3 * m) sets in
    let e = ap (λ l. l * (3 * m)) whole in
    a ∙ b ∙ c ∙ e
