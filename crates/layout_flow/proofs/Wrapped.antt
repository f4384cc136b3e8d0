-- All copies laid out in three rows make an assignment that fits.
use Rattle.std.proofs.Common.{◌≡◌, ℕ, zero, suc, ◌+◌, ◌*◌, ◌<◌, ◌≤◌, min, Bool, true, false, cond, ◌&&◌, ◌==◌, nat_eq, nat_lt, IsTrue, List, [], ◌∷◌, ◌++◌, map, length, get_or, take, replicate, refl, sym, ap, ◌∙◌, subst, inl, inr, arith, le_refl, le_trans}
use Rattle.std.specs.List.{count_by, list_any, list_all, filter, flat_map, All, AllByRecursion, IsDistinct}
use Rattle.std.proofs.lemmas.Bool.{cases_Bool, or_from, or_parts, and_parts, and_from, cond-true, cond-false, eq-eqb, eqb-false, ltb-true, ltb-false, lt-ltb}
use Rattle.std.proofs.lemmas.List.{length-take, length-replicate, take-map, map-append}
use Rattle.std.proofs.lemmas.List.Concat.{length-flat_map}
use Rattle.std.proofs.lemmas.List.Sums.{get_or-le-sum_by}
use Rattle.std.proofs.lemmas.List.Folds.{list_any_none}
use Rattle.std.proofs.lemmas.Cmp.{nat_list_eq_equiv}
use Rattle.std.proofs.lemmas.List.Elements.{All-take, All-replicate, All-filter, All-map, filter_passes}
use Rattle.layout_roles.specs.declared.role.Role.{Role}
use Rattle.layout_roles.specs.Zones.{Name, name_of, nodes_ascend, storage_nodes, same_name, set_ascends, zone_names, is_in_zone, nodes_in, zones}
use Rattle.layout_roles.specs.Fits.{is_storage_node, room}
use Rattle.layout_flow.specs.Totals.{copies_in}
use Rattle.layout_roles.specs.Sets.{put_node, in_order}
use Rattle.layout_flow.specs.Closed.{copies_for, copies_of, zone_copies, all_copies}
use Rattle.layout_flow.proofs.Sums.{yes, no, sum_by-agree, sum_by-below, sum_by-map, sum_by-filter}
use Rattle.layout_roles.proofs.ZoneNames.{same_true}
use Rattle.layout_flow.proofs.Zones.{count-cons, count_none, count_some, count_at, count_filter, any_from_count, any_of_one, names_once, stored_once, zones_once}
use Rattle.layout_flow.proofs.Lies.{Lies, lies_short, lies_take, lies_flat, any_flat, any_take, any_replicate, All-flat_map}

-- ---- the copies, as roles

abbrev pub node_of : Role → ℕ
node_of role = role.node

abbrev pub role_copies : ℕ → ℕ → Role → List Role
role_copies n size role = replicate (min n (room size role)) role

abbrev pub zone_roles : ℕ → ℕ → ℕ → List Role → List Role
zone_roles n size each zone = take (each * n) (flat_map (role_copies n size) zone)

abbrev pub all_roles : ℕ → List Role → ℕ → ℕ → List Role
all_roles n roles size each = take (3 * n) (flat_map (zone_roles n size each) (zones roles))

flat_map-agree : {X Y : Type 0} (f g : X → List Y) → ((x : X) → f x ≡ g x) → (xs : List X) → flat_map f xs ≡ flat_map g xs
flat_map-agree f g same [] = refl
flat_map-agree f g same (x ∷ xs) = ap (λ ys. ys ++ flat_map f xs) (same x) ∙ ap (λ ys. g x ++ ys) (flat_map-agree f g same xs)

map-flat_map : {X Y Z : Type 0} (h : Y → Z) (f : X → List Y) (xs : List X) → map h (flat_map f xs) ≡ flat_map (λ x. map h (f x)) xs
map-flat_map h f [] = refl
map-flat_map h f (x ∷ xs) = map-append h (f x) (flat_map f xs) ∙ ap (λ ys. map h (f x) ++ ys) (map-flat_map h f xs)

map-replicate : {X Y : Type 0} (h : X → Y) (n : ℕ) (x : X) → map h (replicate n x) ≡ replicate n (h x)
map-replicate h zero x = refl
map-replicate h (suc n) x = ap (λ ys. h x ∷ ys) (map-replicate h n x)

pub numbers_are : (n : ℕ) (roles : List Role) (size each : ℕ) → map node_of (all_roles n roles size each) ≡ all_copies n roles size each
numbers_are n roles size each =
    sym (take-map node_of (3 * n) (flat_map (zone_roles n size each) (zones roles)))
    ∙ ap (λ (xs : List ℕ). take (3 * n) xs) (map-flat_map node_of (zone_roles n size each) (zones roles) ∙ flat_map-agree (λ zone. map node_of (zone_roles n size each zone)) (zone_copies n size each) in_zone (zones roles))
  where
    in_zone : (zone : List Role) → map node_of (zone_roles n size each zone) ≡ zone_copies n size each zone
    in_zone zone =
        sym (take-map node_of (each * n) (flat_map (role_copies n size) zone))
        ∙ ap (λ (xs : List ℕ). take (each * n) xs) (map-flat_map node_of (role_copies n size) zone ∙ flat_map-agree (λ role. map node_of (role_copies n size role)) (copies_of n size) (λ role. map-replicate node_of (min n (room size role)) role) zone)

pub zone_length : (n size each : ℕ) (zone : List Role) → length (zone_roles n size each zone) ≡ min (each * n) (copies_in n size zone)
zone_length n size each zone =
    let a = length-take (each * n) (flat_map (role_copies n size) zone) in
    let b = length-flat_map (role_copies n size) zone in
    let c = sum_by-agree (λ role. length (role_copies n size role)) (λ role. min n (room size role)) zone
    (λ k d h. let role = get_or zone k d in length-replicate (min n (room size role)) role) in
    a ∙ ap (λ m. min (each * n) m) (b ∙ c)

pub all_length : (n : ℕ) (roles : List Role) (size each : ℕ) → 3 * n ≤ copies_for n roles size each → length (all_roles n roles size each) ≡ 3 * n
all_length n roles size each enough =
    let a = length-take (3 * n) (flat_map (zone_roles n size each) (zones roles)) in
    let b = length-flat_map (zone_roles n size each) (zones roles) in
    let c = sum_by-agree (λ zone. length (zone_roles n size each zone)) (λ zone. min (each * n) (copies_in n size zone)) (zones roles)
    (λ k d h. zone_length n size each (get_or (zones roles) k d)) in
    omega arith

-- ---- the copies of a node, and those in a zone, stand close together

one_below : (b : Bool) (m : ℕ) → (b ≡ true → 1 ≤ m) → cond b 1 0 ≤ m
one_below true m some = some refl
one_below false m some = omega arith

zone_any : (n size each : ℕ) (p : Role → Bool) (zone : List Role) → list_any p zone ≡ false → list_any p (zone_roles n size each zone) ≡ false
zone_any n size each p zone none =
    any_take p (each * n) (flat_map (role_copies n size) zone) (any_flat p (role_copies n size) zone ∙ within zone none)
  where
    within : (z : List Role) → list_any p z ≡ false → list_any (λ role. list_any p (role_copies n size role)) z ≡ false
    within [] e = refl
    within (x ∷ xs) e =
        let parts = or_parts (p x) (list_any p xs) e in
        or_from (list_any p (role_copies n size x)) (list_any (λ role. list_any p (role_copies n size role)) xs) (any_replicate p (min n (room size x)) x parts.0) (within xs parts.1)

lies_in_zones : (n : ℕ) (roles : List Role) (size each : ℕ) (p : Role → Bool) (k : ℕ) → count_by (list_any p) (zones roles) ≤ 1 →
    All (λ zone. Lies p k (zone_roles n size each zone)) (zones roles) → Lies p k (all_roles n roles size each)
lies_in_zones n roles size each p k once each_zone =
    lies_take p k (3 * n) (flat_map (zone_roles n size each) (zones roles))
    (lies_flat p k (zone_roles n size each) (zones roles)
    (le_trans (sum_by-below (λ zone. cond (list_any p (zone_roles n size each zone)) 1 0) (λ zone. cond (list_any p zone) 1 0) (zones roles)
    (λ k d h. let zone = get_or (zones roles) k d in fewer (list_any p (zone_roles n size each zone)) (list_any p zone) (zone_any n size each p zone))) once)
    each_zone)
  where
    fewer : (a b : Bool) → (b ≡ false → a ≡ false) → cond a 1 0 ≤ cond b 1 0
    fewer a true h = elim a as (λ a. cond a 1 0 ≤ 1) [ true ↦ le_refl 1 | false ↦ omega arith ]
    fewer true false h = let e = h refl in cc
    fewer false false h = le_refl 0

abbrev pub is_node : ℕ → Role → Bool
is_node node role = role.node == node

pub node_lies : (n : ℕ) (roles : List Role) (size each : ℕ) → IsTrue (nodes_ascend roles) → (node : ℕ) → Lies (is_node node) n (all_roles n roles size each)
node_lies n roles size each ascend node =
    let p = is_node node in
    let once = zones_once node roles ascend in
    lies_in_zones n roles size each p n
    (le_trans (sum_by-below (λ zone. cond (list_any p zone) 1 0) (λ zone. count_by p zone) (zones roles)
    (λ k d h. let zone = get_or (zones roles) k d in one_below (list_any p zone) (count_by p zone) (count_some p zone))) once)
    (λ k d h.
    let zone = get_or (zones roles) k d in
    let part = get_or-le-sum_by (λ z. count_by p z) (zones roles) k d h in
    lies_take p n (each * n) (flat_map (role_copies n size) zone)
    (lies_flat p n (role_copies n size) zone
    (le_trans (sum_by-below (λ role. cond (list_any p (role_copies n size role)) 1 0) (λ role. cond (p role) 1 0) zone
    (λ j e g. let role = get_or zone j e in copies_below role)) (le_trans part once))
    (λ j e g. let role = get_or zone j e in
    let len = length-replicate (min n (room size role)) role in
    lies_short p n (role_copies n size role) (omega arith))))
  where
    fewer : (a b : Bool) → (b ≡ false → a ≡ false) → cond a 1 0 ≤ cond b 1 0
    fewer true true h = le_refl 1
    fewer true false h = let e = h refl in cc
    fewer false b h = omega arith

    copies_below : (role : Role) → cond (list_any (is_node node) (role_copies n size role)) 1 0 ≤ cond (is_node node role) 1 0
    copies_below role = fewer (list_any (is_node node) (role_copies n size role)) (is_node node role) (any_replicate (is_node node) (min n (room size role)) role)

pub zone_lies : (n : ℕ) (roles : List Role) (size each : ℕ) (name : Name) → Lies (is_in_zone name) (each * n) (all_roles n roles size each)
zone_lies n roles size each name =
    let p = is_in_zone name in
    let names = zone_names roles in
    let once = names_once roles name in
    let a = sum_by-map (λ zone. cond (list_any p zone) 1 0) (nodes_in roles) names in
    let b = sum_by-below (λ other. cond (list_any p (nodes_in roles other)) 1 0) (λ other. cond (same_name name other) 1 0) names
    (λ k d h. fewer (get_or names k d)) in
    lies_in_zones n roles size each p (each * n) (omega arith)
    (λ k d h.
    let zone = get_or (zones roles) k d in
    let len = zone_length n size each zone in
    lies_short p (each * n) (zone_roles n size each zone) (omega arith))
  where
    below : (a b : Bool) → (b ≡ false → a ≡ false) → cond a 1 0 ≤ cond b 1 0
    below true true h = le_refl 1
    below true false h = let e = h refl in cc
    below false b h = omega arith

    none_named : (other : Name) → same_name name other ≡ false → list_any (is_in_zone name) (nodes_in roles other) ≡ false
    none_named other apart =
        list_any_none (is_in_zone name) (nodes_in roles other)
        (λ k d h.
        let role = get_or (nodes_in roles other) k d in
        let at : name_of role ≡ other = same_true (name_of role) other (filter_passes (is_in_zone other) (storage_nodes roles) k d h) in
        subst (λ m. same_name m name ≡ false) (sym at) (nat_list_eq_equiv.symm other name ∙ apart))

    fewer : (other : Name) → cond (list_any (is_in_zone name) (nodes_in roles other)) 1 0 ≤ cond (same_name name other) 1 0
    fewer other = below (list_any (is_in_zone name) (nodes_in roles other)) (same_name name other) (none_named other)

-- ---- each copy is of a storage node

pub all_from : (n : ℕ) (roles : List Role) (size each : ℕ) (P : Role → Type 0) → All P (storage_nodes roles) → All P (all_roles n roles size each)
all_from n roles size each P all =
    All-take P (3 * n) (flat_map (zone_roles n size each) (zones roles))
    (All-flat_map P (zone_roles n size each) (zones roles)
    (All-map (λ zone. All P (zone_roles n size each zone)) (nodes_in roles) (zone_names roles)
    (λ k d h.
    let zone = nodes_in roles (get_or (zone_names roles) k d) in
    let inside : All P zone = All-filter (is_in_zone (get_or (zone_names roles) k d)) P (storage_nodes roles) all in
    All-take P (each * n) (flat_map (role_copies n size) zone)
    (All-flat_map P (role_copies n size) zone (λ j e g. All-replicate P (min n (room size (get_or zone j e))) (get_or zone j e) (inside j e g))))))

-- what is known of a storage node's role
pub record Stored (roles : List Role) (role : Role) : Type 0 where
  pub is_stored : IsTrue (is_storage_node roles role.node)
  pub elsewhere : (name : Name) → count_by (is_node role.node) (nodes_in roles name) ≤ cond (is_in_zone name role) 1 0

count_both : {X : Type 0} (t s : X → Bool) (xs : List X) → count_by t (filter s xs) ≡ count_by (λ x. t x && s x) xs
count_both t s xs =
    sum_by-filter s (λ x. cond (t x) 1 0) xs
    ∙ sum_by-agree (λ x. cond (s x) (cond (t x) 1 0) 0) (λ x. cond (t x && s x) 1 0) xs (λ k d h. both (t (get_or xs k d)) (s (get_or xs k d)))
  where
    both : (a b : Bool) → cond {A = ℕ} b (cond {A = ℕ} a 1 0) 0 ≡ cond {A = ℕ} (a && b) 1 0
    both true true = refl
    both true false = refl
    both false true = refl
    both false false = refl

pub all_stored : (roles : List Role) → IsTrue (nodes_ascend roles) → All (Stored roles) (storage_nodes roles)
all_stored roles ascend k d h =
    let nodes = storage_nodes roles in
    let role = get_or nodes k d in
    let t = is_node role.node in
    let itself : t role ≡ true = eq-eqb role.node role.node refl in
    let once = stored_once role.node roles ascend in
    record {
      is_stored = any_from_count t nodes (count_at t nodes k d h itself);
      elsewhere = λ name.
          let both = count_both t (is_in_zone name) nodes in
          let few = count_filter t (is_in_zone name) nodes in
          elim (cases_Bool (is_in_zone name role)) [
            | inl there ↦ omega (arith, yes (is_in_zone name role) 1 there)
            | inr absent ↦
                let none = count_none (λ x. t x && is_in_zone name x) nodes (any_of_one t (is_in_zone name) nodes once k d h itself ∙ absent) in
                omega (arith, no (is_in_zone name role) 1 absent)
          ];
    }

-- ---- three numbers in order

put_count : (p : ℕ → Bool) (node : ℕ) (rest : List ℕ) → count_by p (put_node node rest) ≡ cond (p node) 1 0 + count_by p rest
put_count p node [] = count-cons p node []
put_count p node (first ∷ rest) =
    let a = count-cons p node (first ∷ rest) in
    let b = count-cons p first (put_node node rest) in
    let c = count-cons p first rest in
    let d = put_count p node rest in
    elim (nat_lt node first) as (λ t. count_by p (cond t (node ∷ first ∷ rest) (first ∷ put_node node rest)) ≡ cond (p node) 1 0 + count_by p (first ∷ rest)) [
      | true ↦ a
      | false ↦ omega arith
    ]

put_length : (node : ℕ) (rest : List ℕ) → length (put_node node rest) ≡ suc (length rest)
put_length node [] = refl
put_length node (first ∷ rest) =
    elim (nat_lt node first) as (λ t. length (cond t (node ∷ first ∷ rest) (first ∷ put_node node rest)) ≡ suc (suc (length rest))) [
      | true ↦ refl
      | false ↦ ap suc (put_length node rest)
    ]

pub order_count : (p : ℕ → Bool) (a b c : ℕ) → count_by p (in_order a b c) ≡ cond (p a) 1 0 + (cond (p b) 1 0 + cond (p c) 1 0)
order_count p a b c = omega (arith, put_count p c (put_node b (a ∷ [])), put_count p b (a ∷ []), count-cons p a [])

pub order_length : (a b c : ℕ) → length (in_order a b c) ≡ 3
order_length a b c = put_length c (put_node b (a ∷ [])) ∙ ap suc (put_length b (a ∷ []))

pub distinct_from_counts : (xs : List ℕ) → ((x : ℕ) → count_by (nat_eq x) xs ≤ 1) → IsDistinct nat_eq xs
unfolding IsDistinct
distinct_from_counts [] once = tt
distinct_from_counts (x ∷ xs) once =
    let itself : nat_eq x x ≡ true = eq-eqb x x refl in
    let more = count-cons (nat_eq x) x xs in
    let one = once x in (
      none xs (omega (arith, yes (nat_eq x x) 1 itself)),
      distinct_from_counts xs (λ y. let m = count-cons (nat_eq y) x xs in let o = once y in omega arith),
    )
  where
    none : (ys : List ℕ) → count_by (nat_eq x) ys ≡ 0 → AllByRecursion (λ y. nat_eq x y ≡ false) ys
    none [] h = tt
    none (y ∷ ys) h =
        let more = count-cons (nat_eq x) y ys in
        (elim (cases_Bool (nat_eq x y)) [ inl t ↦ absurd (omega (arith, yes (nat_eq x y) 1 t)) | inr f ↦ f ], none ys (omega arith))

all_above : (n : ℕ) (xs : List ℕ) → AllByRecursion (λ y. nat_eq n y ≡ false) xs → (m : ℕ) → n < m → IsTrue (list_all (nat_lt m) xs) → IsTrue (list_all (nat_lt n) xs)
all_above n [] apart m less t = refl
all_above n (x ∷ xs) apart m less t =
    let parts = and_parts (nat_lt m x) (list_all (nat_lt m) xs) t in
    let above = ltb-true m x parts.0 in
    and_from (nat_lt n x) (list_all (nat_lt n) xs) (lt-ltb n x (omega arith)) (all_above n xs apart.1 m less parts.1)

all_put : (m n : ℕ) (xs : List ℕ) → m < n → IsTrue (list_all (nat_lt m) xs) → IsTrue (list_all (nat_lt m) (put_node n xs))
all_put m n [] less t = and_from (nat_lt m n) true (lt-ltb m n less) refl
all_put m n (x ∷ xs) less t =
    let parts = and_parts (nat_lt m x) (list_all (nat_lt m) xs) t in
    elim (nat_lt n x) as (λ b. IsTrue (list_all (nat_lt m) (cond b (n ∷ x ∷ xs) (x ∷ put_node n xs)))) [
      | true ↦ and_from (nat_lt m n) (list_all (nat_lt m) (x ∷ xs)) (lt-ltb m n less) t
      | false ↦ and_from (nat_lt m x) (list_all (nat_lt m) (put_node n xs)) parts.0 (all_put m n xs less parts.1)
    ]

pub put_ascends : (n : ℕ) (xs : List ℕ) → AllByRecursion (λ y. nat_eq n y ≡ false) xs → IsTrue (set_ascends xs) → IsTrue (set_ascends (put_node n xs))
put_ascends n [] apart t = refl
put_ascends n (x ∷ xs) apart t =
    let parts = and_parts (list_all (nat_lt x) xs) (set_ascends xs) t in
    elim (cases_Bool (nat_lt n x)) [
      | inl less ↦
          rw (cond-true (nat_lt n x) (n ∷ x ∷ xs) (x ∷ put_node n xs) less)
          (and_from (nat_lt n x && list_all (nat_lt n) xs) (set_ascends (x ∷ xs))
          (and_from (nat_lt n x) (list_all (nat_lt n) xs) less (all_above n xs apart.1 x (ltb-true n x less) parts.0)) t)
      | inr more ↦
          let ne : n ≡ x → ⊥ = eqb-false n x apart.0 in
          let ge = ltb-false n x more in
          rw (cond-false (nat_lt n x) (n ∷ x ∷ xs) (x ∷ put_node n xs) more)
          (and_from (list_all (nat_lt x) (put_node n xs)) (set_ascends (put_node n xs)) (all_put x n xs (omega arith) parts.0) (put_ascends n xs apart.1 parts.1))
    ]
