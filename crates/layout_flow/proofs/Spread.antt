-- A set of three nodes lies in r zones where no zone has more than 4 - r of them, and only there.
use Rattle.std.proofs.Common.{◌≡◌, ℕ, ◌+◌, ◌-◌, ◌*◌, ◌≤◌, Bool, true, false, cond, ◌==◌, nat_eq, IsTrue, List, [], ◌∷◌, map, length, get_or, refl, sym, ap, ◌∙◌, subst, inl, inr, arith, eqb-true}
use Rattle.std.specs.List.{sum_by, count_by, filter, fold, list_any, All, IsDistinct, AllByRecursion}
use Rattle.std.specs.Ordering.{nat_cmp, is_lt}
use Rattle.std.specs.Cmp.Lexicographic.{slice_cmp}
use Rattle.std.proofs.lemmas.Bool.{cases_Bool, cond-true, cond-false}
use Rattle.std.proofs.lemmas.Map.Keys.{IsDistinct-head, IsDistinct-tail}
use Rattle.std.proofs.lemmas.List.Sums.{length-filter, sum_by-le}
use Rattle.std.proofs.lemmas.List.Elements.{All-head, All-tail, All-cons, All-nil}
use Rattle.layout_roles.specs.declared.role.Role.{Role}
use Rattle.layout_roles.specs.Zones.{Name, name_of, nodes_ascend, is_storage, storage_nodes, put_in_order, same_name, with_name, zone_names, is_in_zone, nodes_in}
use Rattle.layout_roles.specs.Fits.{NodeSet, has_node, IsThree, zones_of}
use Rattle.layout_flow.proofs.Sums.{yes, no, sum_by-plus, sum_by-agree, sum_by-below, sum_by-swap, sum_by-map, sum_by-none, sum_by-constant}
use Rattle.layout_flow.proofs.Lightest.{is_one, is_two, is_three, one_to_three}
use Rattle.layout_roles.proofs.ZoneNames.{same_true}
use Rattle.layout_flow.proofs.Zones.{count-cons, count_none, count_some, count_at, count_times, same_itself, names_once, zone_once, sum_by_zones, stored_once}

-- ---- the roles of the nodes of a set

abbrev pub in_set : NodeSet → Role → Bool
in_set set role = has_node role.node set

distinct_none : (n x : ℕ) (xs : List ℕ) → n ≡ x → AllByRecursion (λ y. nat_eq x y ≡ false) xs → count_by (nat_eq n) xs ≡ 0
distinct_none n x [] e h = refl
distinct_none n x (y ∷ ys) e h =
    let apart : nat_eq n y ≡ false = rw e h.0 in
    omega (arith, count-cons (nat_eq n) y ys, no (nat_eq n y) 1 apart, distinct_none n x ys e h.1)

pub distinct_once : (n : ℕ) (xs : List ℕ) → IsDistinct nat_eq xs → count_by (nat_eq n) xs ≤ 1
distinct_once n [] h = omega arith
distinct_once n (x ∷ xs) h =
    let more = count-cons (nat_eq n) x xs in
    elim (cases_Bool (nat_eq n x)) [
      | inl same ↦ omega (arith, yes (nat_eq n x) 1 same, distinct_none n x xs (eqb-true n x same) (IsDistinct-head nat_eq x xs h))
      | inr apart ↦ omega (arith, no (nat_eq n x) 1 apart, distinct_once n xs (IsDistinct-tail nat_eq x xs h))
    ]

-- at most one that passes: the test whether there is one, as a number, is the count
pub any_as_count : {X : Type 0} (p : X → Bool) (xs : List X) → count_by p xs ≤ 1 → cond (list_any p xs) 1 0 ≡ count_by p xs
any_as_count p xs once =
    elim (cases_Bool (list_any p xs)) [
      | inl t ↦ let some = count_some p xs t in omega (arith, yes (list_any p xs) 1 t)
      | inr f ↦ let none = count_none p xs f in omega (arith, no (list_any p xs) 1 f)
    ]

pub three_chosen : (roles : List Role) (set : NodeSet) → IsTrue (nodes_ascend roles) → IsThree roles set → count_by (in_set set) (storage_nodes roles) ≡ 3
three_chosen roles set ascend three =
    let nodes = storage_nodes roles in
    let a = sum_by-agree (λ role. cond (in_set set role) 1 0) (λ role. count_by (nat_eq role.node) set) nodes
    (λ k d h. any_as_count (nat_eq (get_or nodes k d).node) set (distinct_once (get_or nodes k d).node set three.different)) in
    let b = sum_by-swap (λ (role : Role) (n : ℕ). cond (nat_eq role.node n) 1 0) nodes set in
    let c = sum_by-agree (λ n. count_by (λ role. role.node == n) nodes) (λ n. 1) set
    (λ k d h.
    let n = get_or set k d in
    let some = count_some (λ role. role.node == n) nodes (three.stored k d h) in
    let once = stored_once n roles ascend in
    omega arith) in
    let d = sum_by-constant 1 set in
    let e = three.three in
    omega arith

keep : {X : Type 0} (p : X → Bool) (x : X) (xs : List X) → p x ≡ true → filter p (x ∷ xs) ≡ x ∷ filter p xs
keep p x xs h = cond-true (p x) (x ∷ filter p xs) (filter p xs) h

skip : {X : Type 0} (p : X → Bool) (x : X) (xs : List X) → p x ≡ false → filter p (x ∷ xs) ≡ filter p xs
skip p x xs h = cond-false (p x) (x ∷ filter p xs) (filter p xs) h

filter_both : {X : Type 0} (p q : X → Bool) (xs : List X) → filter p (filter q xs) ≡ filter q (filter p xs)
filter_both p q [] = refl
filter_both p q (x ∷ xs) =
    let ih = filter_both p q xs in
    elim (cases_Bool (p x)) [
      | inl a ↦ elim (cases_Bool (q x)) [
        | inl b ↦
            ap (filter p) (keep q x xs b) ∙ keep p x (filter q xs) a ∙ ap (λ ys. x ∷ ys) ih
            ∙ sym (ap (filter q) (keep p x xs a) ∙ keep q x (filter p xs) b)
        | inr b ↦ ap (filter p) (skip q x xs b) ∙ ih ∙ sym (ap (filter q) (keep p x xs a) ∙ skip q x (filter p xs) b)
      ]
      | inr a ↦ elim (cases_Bool (q x)) [
        | inl b ↦ ap (filter p) (keep q x xs b) ∙ skip p x (filter q xs) a ∙ ih ∙ sym (ap (filter q) (skip p x xs a))
        | inr b ↦ ap (filter p) (skip q x xs b) ∙ ih ∙ sym (ap (filter q) (skip p x xs a))
      ]
    ]

abbrev pub chosen : List Role → NodeSet → List Role
chosen roles set = filter (in_set set) roles

-- how many nodes of a set lie in a zone
pub in_zone_count : (roles : List Role) (set : NodeSet) (name : Name) →
    count_by (in_set set) (nodes_in roles name) ≡ length (nodes_in (chosen roles set) name)
in_zone_count roles set name =
    sym (length-filter (in_set set) (nodes_in roles name))
    ∙ ap (λ (xs : List Role). length xs) (filter_both (in_set set) (is_in_zone name) (storage_nodes roles) ∙ ap (filter (is_in_zone name)) (filter_both (in_set set) is_storage roles))

chosen_count : (roles : List Role) (set : NodeSet) → length (storage_nodes (chosen roles set)) ≡ count_by (in_set set) (storage_nodes roles)
chosen_count roles set =
    ap (λ (xs : List Role). length xs) (sym (filter_both (in_set set) is_storage roles)) ∙ length-filter (in_set set) (storage_nodes roles)

-- the nodes of a list, zone by zone
by_zone : (roles : List Role) → sum_by (λ name. length (nodes_in roles name)) (zone_names roles) ≡ length (storage_nodes roles)
by_zone roles =
    let ones = λ (zs : List Role). sum_by-constant 1 zs in
    let a = sum_by_zones (λ role. 1) roles in
    let b = sum_by-map (λ zone. sum_by (λ (role : Role). 1) zone) (nodes_in roles) (zone_names roles) in
    let c = sum_by-agree (λ name. sum_by (λ (role : Role). 1) (nodes_in roles name)) (λ name. length (nodes_in roles name)) (zone_names roles)
    (λ k d h. let e = ones (nodes_in roles (get_or (zone_names roles) k d)) in omega arith) in
    let e = ones (storage_nodes roles) in
    omega arith

-- ---- each name is that of a storage node's zone

all_put : (P : Name → Type 0) (names : List Name) (name : Name) → P name → All P names → All P (put_in_order names name)
all_put P [] name p all = All-cons P name [] p all
all_put P (first ∷ names) name p all =
    elim (is_lt (slice_cmp nat_cmp name first)) as (λ t. All P (cond t (name ∷ first ∷ names) (first ∷ put_in_order names name))) [
      | true ↦ All-cons P name (first ∷ names) p all
      | false ↦ All-cons P first (put_in_order names name) (All-head P first names all) (all_put P names name p (All-tail P first names all))
    ]

all_with : (P : Name → Type 0) (names : List Name) (name : Name) → P name → All P names → All P (with_name names name)
all_with P names name p all =
    elim (list_any (same_name name) names) as (λ t. All P (cond t names (put_in_order names name))) [
      | true ↦ all
      | false ↦ all_put P names name p all
    ]

all_fold : (P : Name → Type 0) (acc : List Name) (roles : List Role) → All P acc → All (λ role. P (name_of role)) roles → All P (fold with_name acc (map name_of roles))
all_fold P acc [] all each = all
all_fold P acc (x ∷ xs) all each =
    all_fold P (with_name acc (name_of x)) xs (all_with P acc (name_of x) (All-head (λ role. P (name_of role)) x xs each) all) (All-tail (λ role. P (name_of role)) x xs each)

zone_has_node : (roles : List Role) → All (λ name. 1 ≤ length (nodes_in roles name)) (zone_names roles)
zone_has_node roles =
    all_fold (λ name. 1 ≤ length (nodes_in roles name)) [] (storage_nodes roles) (All-nil (λ name. 1 ≤ length (nodes_in roles name)))
    (λ k d h.
    let name = name_of (get_or (storage_nodes roles) k d) in
    let some = count_at (is_in_zone name) (storage_nodes roles) k d h (same_itself name) in
    omega (arith, length-filter (is_in_zone name) (storage_nodes roles)))

-- ---- three nodes in at least r zones

-- no zone has more nodes than there are, less one for each other zone
zone_of_few : (roles : List Role) (name : Name) → length (nodes_in roles name) + length (zone_names roles) ≤ length (storage_nodes roles) + 1
zone_of_few roles name =
    let names = zone_names roles in
    let many = length (nodes_in roles name) in
    let p : Name → Bool = same_name name in
    elim (cases_Bool (list_any p names)) [
      | inl there ↦
          let some = count_some p names there in
          let once = names_once roles name in
          let g : Name → ℕ = λ other. cond (p other) (many - 1) 0 + 1 in
          let below = sum_by-below g (λ other. length (nodes_in roles other)) names (λ k d h. term (get_or names k d) (zone_has_node roles k d h)) in
          let a = sum_by-plus (λ other. cond (p other) (many - 1) 0) (λ other. 1) names in
          let b = count_times p (many - 1) names in
          let c = sum_by-constant 1 names in
          let one : count_by p names ≡ 1 = omega arith in
          let d = ap (λ m. m * (many - 1)) one in
          let e = by_zone roles in
          omega arith
      | inr absent ↦
          let none : many ≡ 0 = no_role absent in
          let each = sum_by-below (λ other. 1) (λ other. length (nodes_in roles other)) names (zone_has_node roles) in
          let c = sum_by-constant 1 names in
          let e = by_zone roles in
          omega arith
    ]
  where
    elsewhere : (role : Role) → count_by (same_name (name_of role)) (zone_names roles) ≡ 1 → list_any (same_name name) (zone_names roles) ≡ false → is_in_zone name role ≡ false
    elsewhere role once absent = elim (cases_Bool (is_in_zone name role)) [
      | inl same ↦
          let e = same_true (name_of role) name same in
          let one : count_by (same_name name) (zone_names roles) ≡ 1 = subst (λ n. count_by (same_name n) (zone_names roles) ≡ 1) e once in
          let none = count_none (same_name name) (zone_names roles) absent in
          absurd (omega arith)
      | inr apart ↦ apart
    ]

    term : (other : Name) → 1 ≤ length (nodes_in roles other) → cond (same_name name other) (length (nodes_in roles name) - 1) 0 + 1 ≤ length (nodes_in roles other)
    term other some = elim (cases_Bool (same_name name other)) [
      | inl same ↦
          let e : length (nodes_in roles name) ≡ length (nodes_in roles other) = ap (λ n. length (nodes_in roles n)) (same_true name other same) in
          omega (arith, yes (same_name name other) (length (nodes_in roles name) - 1) same)
      | inr apart ↦ omega (arith, no (same_name name other) (length (nodes_in roles name) - 1) apart)
    ]

    no_role : list_any (same_name name) (zone_names roles) ≡ false → length (nodes_in roles name) ≡ 0
    no_role absent =
        let nodes = storage_nodes roles in
        let e = length-filter (is_in_zone name) nodes in
        let f = sum_by-agree (λ role. cond (is_in_zone name role) 1 0) (λ role. 0) nodes
        (λ k d h. no (is_in_zone name (get_or nodes k d)) 1 (elsewhere (get_or nodes k d) (zone_once roles k d h) absent)) in
        let g = sum_by-none nodes in
        omega arith

-- a set of three in at least r zones has at most 4 - r nodes in each
pub few_in_zone : (roles : List Role) (set : NodeSet) (r : ℕ) → r ≤ 3 → IsTrue (nodes_ascend roles) → IsThree roles set → r ≤ length (zones_of roles set) → (name : Name) →
    count_by (in_set set) (nodes_in roles name) ≤ 4 - r
few_in_zone roles set r high ascend three spread name =
    let a = in_zone_count roles set name in
    let b = zone_of_few (chosen roles set) name in
    let c = chosen_count roles set in
    let d = three_chosen roles set ascend three in
    omega arith

-- a set of three with at most 4 - r nodes in each zone lies in at least r zones
pub spread_from_few : (roles : List Role) (set : NodeSet) (r : ℕ) → 1 ≤ r → r ≤ 3 → IsTrue (nodes_ascend roles) → IsThree roles set →
    ((name : Name) → count_by (in_set set) (nodes_in roles name) ≤ 4 - r) → r ≤ length (zones_of roles set)
spread_from_few roles set r low high ascend three few =
    let names = zones_of roles set in
    let a = by_zone (chosen roles set) in
    let b = sum_by-le (λ name. length (nodes_in (chosen roles set) name)) (4 - r) names
    (λ k d h. let name = get_or names k d in let e = in_zone_count roles set name in let f = few name in omega arith) in
    let c = chosen_count roles set in
    let d = three_chosen roles set ascend three in
    let total : 3 ≤ length names * (4 - r) = omega arith in
    elim (one_to_three r low high) [
      | is_one e ↦ let t = subst (λ m. 3 ≤ length names * (4 - m)) e total in omega arith
      | is_two e ↦ let t = subst (λ m. 3 ≤ length names * (4 - m)) e total in omega arith
      | is_three e ↦ let t = subst (λ m. 3 ≤ length names * (4 - m)) e total in omega arith
    ]
