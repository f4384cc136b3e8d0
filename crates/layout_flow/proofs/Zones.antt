-- Each zone has one name, each storage node stands in one zone, and once.
use Rattle.std.proofs.Common.{◌≡◌, ℕ, ◌+◌, ◌*◌, ◌<◌, ◌≤◌, Bool, true, false, cond, ◌&&◌, ◌||◌, ◌==◌, nat_lt, IsTrue, List, [], ◌∷◌, map, length, get_or, refl, ap, ◌∙◌, inl, inr, arith, le_refl, le_trans, eqb-true, ltb-true}
use Rattle.std.specs.List.{sum_by, count_by, filter, fold, list_any, All}
use Rattle.std.specs.Ordering.{nat_cmp, is_lt}
use Rattle.std.specs.Cmp.Lexicographic.{slice_cmp}
use Rattle.std.proofs.lemmas.Cmp.{nat_list_eq_equiv}
use Rattle.std.proofs.lemmas.Bool.{and_parts, cases_Bool, cond-true, cond-false, or_parts, or_cases}
use Rattle.std.proofs.lemmas.List.Sums.{sum_by-cons, get_or-le-sum_by}
use Rattle.std.proofs.lemmas.List.Elements.{All-cons, All-nil}
use Rattle.layout_roles.specs.declared.role.Role.{Role}
use Rattle.layout_roles.specs.Zones.{Name, name_of, ascend_from, nodes_ascend, is_storage, storage_nodes, put_in_order, same_name, with_name, zone_names, is_in_zone, nodes_in, zones}
use Rattle.layout_flow.proofs.Sums.{yes, no, sum_by-agree, sum_by-below, sum_by-swap, sum_by-filter, sum_by-map}
use Rattle.layout_roles.proofs.ZoneNames.{same_true}

-- ---- tests and counts

pub count-cons : {X : Type 0} (p : X → Bool) (x : X) (xs : List X) → count_by p (x ∷ xs) ≡ cond (p x) 1 0 + count_by p xs
count-cons p x xs = sum_by-cons (λ x. cond (p x) 1 0) x xs

pub count_none : {X : Type 0} (p : X → Bool) (xs : List X) → list_any p xs ≡ false → count_by p xs ≡ 0
count_none p [] h = refl
count_none p (x ∷ xs) h =
    let parts = or_parts (p x) (list_any p xs) h in
    omega (arith, count-cons p x xs, no (p x) 1 parts.0, count_none p xs parts.1)

pub count_some : {X : Type 0} (p : X → Bool) (xs : List X) → list_any p xs ≡ true → 1 ≤ count_by p xs
count_some p [] h = cc
count_some p (x ∷ xs) h =
    let more = count-cons p x xs in
    elim (or_cases (p x) (list_any p xs) h) [
      | inl a ↦ omega (arith, yes (p x) 1 a)
      | inr b ↦ omega (arith, count_some p xs b)
    ]

pub any_from_count : {X : Type 0} (p : X → Bool) (xs : List X) → 1 ≤ count_by p xs → list_any p xs ≡ true
any_from_count p xs h =
    elim (cases_Bool (list_any p xs)) [ inl t ↦ t | inr f ↦ let none = count_none p xs f in absurd (omega arith) ]

pub none_from_count : {X : Type 0} (p : X → Bool) (xs : List X) → count_by p xs ≡ 0 → list_any p xs ≡ false
none_from_count p xs h =
    elim (cases_Bool (list_any p xs)) [ inl t ↦ let some = count_some p xs t in absurd (omega arith) | inr f ↦ f ]

pub count_at : {X : Type 0} (p : X → Bool) (xs : List X) (k : ℕ) (d : X) → k < length xs → p (get_or xs k d) ≡ true → 1 ≤ count_by p xs
count_at p xs k d h t = omega (arith, get_or-le-sum_by (λ x. cond (p x) 1 0) xs k d h, yes (p (get_or xs k d)) 1 t)

pub count_times : {X : Type 0} (p : X → Bool) (n : ℕ) (xs : List X) → sum_by (λ x. cond (p x) n 0) xs ≡ count_by p xs * n
count_times p n [] = omega arith
count_times p n (x ∷ xs) =
    let a = sum_by-cons (λ x. cond (p x) n 0) x xs in
    let b = count-cons p x xs in
    let c = count_times p n xs in
    elim (cases_Bool (p x)) [
      | inl t ↦
          let one : count_by p (x ∷ xs) ≡ 1 + count_by p xs = omega (arith, yes (p x) 1 t) in
          omega (arith, yes (p x) n t, ap (λ m. m * n) one)
      | inr f ↦
          let same : count_by p (x ∷ xs) ≡ count_by p xs = omega (arith, no (p x) 1 f) in
          omega (arith, no (p x) n f, ap (λ m. m * n) same)
    ]

pub count_filter : {X : Type 0} (p q : X → Bool) (xs : List X) → count_by p (filter q xs) ≤ count_by p xs
count_filter p q xs =
    let e = sum_by-filter q (λ x. cond (p x) 1 0) xs in
    let below = sum_by-below (λ x. cond (q x) (cond (p x) 1 0) 0) (λ x. cond (p x) 1 0) xs (λ k d h. smaller (q (get_or xs k d)) (cond (p (get_or xs k d)) 1 0)) in
    omega arith
  where
    smaller : (b : Bool) (n : ℕ) → cond b n 0 ≤ n
    smaller true n = le_refl n
    smaller false n = omega arith

-- where one element at most passes a test, what holds of some that pass holds of it
pub any_of_one : {X : Type 0} (t s : X → Bool) (xs : List X) → count_by t xs ≤ 1 → All (λ x. t x ≡ true → list_any (λ y. t y && s y) xs ≡ s x) xs
any_of_one t s [] one = All-nil (λ x. t x ≡ true → list_any (λ y. t y && s y) [] ≡ s x)
any_of_one {X} t s (x ∷ xs) one =
    let P : X → Type 0 = λ z. t z ≡ true → list_any (λ y. t y && s y) (x ∷ xs) ≡ s z in
    let more = count-cons t x xs in
    All-cons P x xs
    (λ e.
    let none : list_any (λ y. t y && s y) xs ≡ false = weaker xs (none_from_count t xs (omega (arith, yes (t x) 1 e))) in
    head (t x) (s x) (list_any (λ y. t y && s y) xs) e none)
    (λ k d h e.
    let some = count_at t xs k d h e in
    tail (t x) (s x) (list_any (λ y. t y && s y) xs) (elim (cases_Bool (t x)) [ inl y ↦ absurd (omega (arith, yes (t x) 1 y)) | inr n ↦ n ])
    ∙ any_of_one t s xs (omega arith) k d h e)
  where
    head : (a b c : Bool) → a ≡ true → c ≡ false → ((a && b) || c) ≡ b
    head true true c _ _ = refl
    head true false c _ e = e
    head false b c e _ = cc

    tail : (a b c : Bool) → a ≡ false → ((a && b) || c) ≡ c
    tail true b c e = cc
    tail false b c e = refl

    both : (a b : Bool) → a ≡ false → (a && b) ≡ false
    both true b e = cc
    both false b e = refl

    none_of : (a b : Bool) → a ≡ false → b ≡ false → (a || b) ≡ false
    none_of true b e f = cc
    none_of false b e f = f

    weaker : (ys : List X) → list_any t ys ≡ false → list_any (λ y. t y && s y) ys ≡ false
    weaker [] e = refl
    weaker (y ∷ ys) e = let parts = or_parts (t y) (list_any t ys) e in none_of (t y && s y) (list_any (λ y. t y && s y) ys) (both (t y) (s y) parts.0) (weaker ys parts.1)

-- ---- names

pub same_itself : (a : Name) → same_name a a ≡ true
same_itself a = nat_list_eq_equiv.refl a

put_count : (p : Name → Bool) (name : Name) (names : List Name) → count_by p (put_in_order names name) ≡ cond (p name) 1 0 + count_by p names
put_count p name [] = count-cons p name []
put_count p name (first ∷ names) =
    let a = count-cons p name (first ∷ names) in
    let b = count-cons p first (put_in_order names name) in
    let c = count-cons p first names in
    let d = put_count p name names in
    elim (is_lt (slice_cmp nat_cmp name first)) as (λ t. count_by p (cond t (name ∷ first ∷ names) (first ∷ put_in_order names name)) ≡ cond (p name) 1 0 + count_by p (first ∷ names)) [
      | true ↦ a
      | false ↦ omega arith
    ]

abbrev EachOnce : List Name → Type 0
EachOnce names = (name : Name) → count_by (same_name name) names ≤ 1

with_once : (names : List Name) (name : Name) → EachOnce names → EachOnce (with_name names name)
with_once names name once other =
    elim (cases_Bool (list_any (same_name name) names)) [
      | inl t ↦ rw (cond-true (list_any (same_name name) names) names (put_in_order names name) t) (once other)
      | inr f ↦ rw (cond-false (list_any (same_name name) names) names (put_in_order names name) f) (put_once f)
    ]
  where
    put_once : list_any (same_name name) names ≡ false → count_by (same_name other) (put_in_order names name) ≤ 1
    put_once f =
        let more = put_count (same_name other) name names in
        let before = once other in
        elim (cases_Bool (same_name other name)) [
          | inl same ↦
              let none : count_by (same_name other) names ≡ 0 = rw (same_true other name same) (count_none (same_name name) names f) in
              omega (arith, yes (same_name other name) 1 same)
          | inr apart ↦ omega (arith, no (same_name other name) 1 apart)
        ]

with_keeps : (names : List Name) (name other : Name) → count_by (same_name other) names ≤ count_by (same_name other) (with_name names name)
with_keeps names name other =
    elim (cases_Bool (list_any (same_name name) names)) [
      | inl t ↦ rw (cond-true (list_any (same_name name) names) names (put_in_order names name) t) (le_refl (count_by (same_name other) names))
      | inr f ↦ rw (cond-false (list_any (same_name name) names) names (put_in_order names name) f) (omega (arith, put_count (same_name other) name names))
    ]

with_has : (names : List Name) (name : Name) → 1 ≤ count_by (same_name name) (with_name names name)
with_has names name =
    elim (cases_Bool (list_any (same_name name) names)) [
      | inl t ↦ rw (cond-true (list_any (same_name name) names) names (put_in_order names name) t) (count_some (same_name name) names t)
      | inr f ↦ rw (cond-false (list_any (same_name name) names) names (put_in_order names name) f) (omega (arith, put_count (same_name name) name names, yes (same_name name name) 1 (same_itself name)))
    ]

fold_once : (acc xs : List Name) → EachOnce acc → EachOnce (fold with_name acc xs)
fold_once acc [] once = once
fold_once acc (x ∷ xs) once = fold_once (with_name acc x) xs (with_once acc x once)

fold_keeps : (acc xs : List Name) (name : Name) → count_by (same_name name) acc ≤ count_by (same_name name) (fold with_name acc xs)
fold_keeps acc [] name = le_refl (count_by (same_name name) acc)
fold_keeps acc (x ∷ xs) name = le_trans (with_keeps acc x name) (fold_keeps (with_name acc x) xs name)

fold_has : (acc : List Name) (roles : List Role) → All (λ role. 1 ≤ count_by (same_name (name_of role)) (fold with_name acc (map name_of roles))) roles
fold_has acc [] = All-nil (λ role. 1 ≤ count_by (same_name (name_of role)) acc)
fold_has acc (x ∷ xs) =
    All-cons (λ role. 1 ≤ count_by (same_name (name_of role)) (fold with_name acc (map name_of (x ∷ xs)))) x xs
    (le_trans (with_has acc (name_of x)) (fold_keeps (with_name acc (name_of x)) (map name_of xs) (name_of x)))
    (fold_has (with_name acc (name_of x)) xs)

pub names_once : (roles : List Role) (name : Name) → count_by (same_name name) (zone_names roles) ≤ 1
names_once roles = fold_once [] (map name_of (storage_nodes roles)) (λ name. omega arith)

-- each storage node's zone has its name once among the names
pub zone_once : (roles : List Role) → All (λ role. count_by (same_name (name_of role)) (zone_names roles) ≡ 1) (storage_nodes roles)
zone_once roles k d h =
    let some = fold_has [] (storage_nodes roles) k d h in
    let once = names_once roles (name_of (get_or (storage_nodes roles) k d)) in
    omega arith

-- ---- a sum over storage nodes, zone by zone

pub sum_by_zones : (f : Role → ℕ) (roles : List Role) → sum_by (λ zone. sum_by f zone) (zones roles) ≡ sum_by f (storage_nodes roles)
sum_by_zones f roles =
    let nodes = storage_nodes roles in
    let names = zone_names roles in
    sum_by-map (λ zone. sum_by f zone) (nodes_in roles) names
    ∙ sum_by-agree (λ name. sum_by f (nodes_in roles name)) (λ name. sum_by (λ role. cond (same_name (name_of role) name) (f role) 0) nodes) names
    (λ k d h. sum_by-filter (is_in_zone (get_or names k d)) f nodes)
    ∙ sum_by-swap (λ (name : Name) (role : Role). cond (same_name (name_of role) name) (f role) 0) names nodes
    ∙ sum_by-agree (λ role. sum_by (λ name. cond (same_name (name_of role) name) (f role) 0) names) f nodes
    (λ k d h.
    let role = get_or nodes k d in
    let times = count_times (same_name (name_of role)) (f role) names in
    let once = zone_once roles k d h in
    omega (arith, ap (λ m. m * f role) once))

-- ---- nodes

above : (n before : ℕ) (roles : List Role) → n ≤ before → IsTrue (ascend_from before roles) → count_by (λ role. role.node == n) roles ≡ 0
above n before [] low h = refl
above n before (role ∷ roles) low h =
    let parts = and_parts (nat_lt before role.node) (ascend_from role.node roles) h in
    let less : before < role.node = ltb-true before role.node parts.0 in
    let more = count-cons (λ role. role.node == n) role roles in
    let rest = above n role.node roles (omega arith) parts.1 in
    elim (cases_Bool (role.node == n)) [
      | inl same ↦ let eq : role.node ≡ n = eqb-true role.node n same in absurd (omega arith)
      | inr apart ↦ omega (arith, no (role.node == n) 1 apart)
    ]

once_from : (n before : ℕ) (roles : List Role) → IsTrue (ascend_from before roles) → count_by (λ role. role.node == n) roles ≤ 1
once_from n before [] h = omega arith
once_from n before (role ∷ roles) h =
    let parts = and_parts (nat_lt before role.node) (ascend_from role.node roles) h in
    let more = count-cons (λ role. role.node == n) role roles in
    elim (cases_Bool (role.node == n)) [
      | inl same ↦
          let eq : role.node ≡ n = eqb-true role.node n same in
          omega (arith, yes (role.node == n) 1 same, above n role.node roles (omega arith) parts.1)
      | inr apart ↦ omega (arith, no (role.node == n) 1 apart, once_from n role.node roles parts.1)
    ]

pub node_once : (n : ℕ) (roles : List Role) → IsTrue (nodes_ascend roles) → count_by (λ role. role.node == n) roles ≤ 1
node_once n roles h = once_from n 0 roles h

pub stored_once : (n : ℕ) (roles : List Role) → IsTrue (nodes_ascend roles) → count_by (λ role. role.node == n) (storage_nodes roles) ≤ 1
stored_once n roles h = le_trans (count_filter (λ role. role.node == n) is_storage roles) (node_once n roles h)

pub zones_once : (n : ℕ) (roles : List Role) → IsTrue (nodes_ascend roles) → sum_by (λ zone. count_by (λ role. role.node == n) zone) (zones roles) ≤ 1
zones_once n roles h = omega (arith, sum_by_zones (λ role. cond (role.node == n) 1 0) roles, stored_once n roles h)
