-- How many names a list of roles has.
use Rattle.std.proofs.Common.{◌≡◌, ℕ, suc, ◌+◌, ◌<◌, Bool, true, false, cond, ◌&&◌, ◌||◌, nat_eq, List, [], ◌∷◌, ◌++◌, map, length, get_or, take, refl, sym, ap, ◌∙◌, inl, inr, arith, eqb-true}
use Rattle.std.specs.List.{fold, list_any}
use Rattle.std.specs.Ordering.{nat_cmp, is_lt}
use Rattle.std.specs.Cmp.Lexicographic.{slice_cmp}
use Rattle.std.proofs.lemmas.Bool.{cases_Bool, and_parts, cond-true, cond-false}
use Rattle.std.proofs.lemmas.Cmp.{nat_list_eq_equiv}
use Rattle.std.proofs.lemmas.List.{map-append}
use Rattle.std.proofs.lemmas.List.Sums.{fold-append}
use Rattle.std.proofs.lemmas.List.Elements.{filter_more}
use Rattle.std.proofs.Math.Bool.{or_assoc, or-false}
use Rattle.layout_roles.specs.declared.role.Role.{Role}
use Rattle.layout_roles.specs.Zones.{Name, name_of, is_storage, storage_nodes, put_in_order, same_name, with_name, zone_names, is_in_zone}

-- equal names are the same
pub same_true : (a b : Name) → same_name a b ≡ true → a ≡ b
same_true [] [] h = refl
same_true [] (y ∷ ys) h = cc
same_true (x ∷ xs) [] h = cc
same_true (x ∷ xs) (y ∷ ys) h =
    let parts = and_parts (nat_eq x y) (same_name xs ys) h in
    let first : x ≡ y = eqb-true x y parts.0 in
    let rest : xs ≡ ys = same_true xs ys parts.1 in
    cc

or_swap : (a b c : Bool) → (a || (b || c)) ≡ (b || (a || c))
or_swap true true c = refl
or_swap true false c = refl
or_swap false b c = refl

any_put : (p : Name → Bool) (names : List Name) (name : Name) → list_any p (put_in_order names name) ≡ (p name || list_any p names)
any_put p [] name = refl
any_put p (first ∷ names) name =
    elim (is_lt (slice_cmp nat_cmp name first)) as (λ t. list_any p (cond t (name ∷ first ∷ names) (first ∷ put_in_order names name)) ≡ (p name || (p first || list_any p names))) [
      | true ↦ refl
      | false ↦ ap (λ b. p first || b) (any_put p names name) ∙ or_swap (p first) (p name) (list_any p names)
    ]

-- a name is there after another was put in, where it was there or is the same
any_with : (n : Name) (names : List Name) (name : Name) → list_any (same_name n) (with_name names name) ≡ (same_name n name || list_any (same_name n) names)
any_with n names name =
    elim (cases_Bool (list_any (same_name name) names)) [
      | inl there ↦
          ap (λ (xs : List Name). list_any (same_name n) xs) (cond-true (list_any (same_name name) names) names (put_in_order names name) there)
          ∙ absorbed (same_name n name) (list_any (same_name n) names)
          (λ same. ap (λ m. list_any (same_name m) names) (same_true n name same) ∙ there)
      | inr new ↦
          ap (λ (xs : List Name). list_any (same_name n) xs) (cond-false (list_any (same_name name) names) names (put_in_order names name) new)
          ∙ any_put (same_name n) names name
    ]
  where
    absorbed : (a b : Bool) → (a ≡ true → b ≡ true) → b ≡ (a || b)
    absorbed true b h = h refl
    absorbed false b h = refl

any_fold : (n : Name) (acc xs : List Name) → list_any (same_name n) (fold with_name acc xs) ≡ (list_any (same_name n) acc || list_any (same_name n) xs)
any_fold n acc [] = sym (or-false (list_any (same_name n) acc))
any_fold n acc (x ∷ xs) =
    any_fold n (with_name acc x) xs ∙ ap (λ b. b || list_any (same_name n) xs) (any_with n acc x)
    ∙ turned (same_name n x) (list_any (same_name n) acc) (list_any (same_name n) xs)
  where
    turned : (a b c : Bool) → ((a || b) || c) ≡ (b || (a || c))
    turned a b c = or_assoc a b c ∙ or_swap a b c

any_names : (n : Name) (roles : List Role) → list_any (same_name n) (map name_of (storage_nodes roles)) ≡ list_any (λ role. is_storage role && is_in_zone n role) roles
any_names n [] = refl
any_names n (role ∷ roles) = by (is_storage role) (is_in_zone n role) (nat_list_eq_equiv.symm n (name_of role)) (any_names n roles)
  where
    by : (s b : Bool) → same_name n (name_of role) ≡ b → list_any (same_name n) (map name_of (storage_nodes roles)) ≡ list_any (λ role. is_storage role && is_in_zone n role) roles →
        list_any (same_name n) (map name_of (cond s (role ∷ storage_nodes roles) (storage_nodes roles))) ≡ ((s && b) || list_any (λ role. is_storage role && is_in_zone n role) roles)
    by true b e h = λ i. e i || h i
    by false b e h = h

put_length : (names : List Name) (name : Name) → length (put_in_order names name) ≡ suc (length names)
put_length [] name = refl
put_length (x ∷ xs) name = elim (is_lt (slice_cmp nat_cmp name x)) as (λ t. length (cond t (name ∷ x ∷ xs) (x ∷ put_in_order xs name)) ≡ suc (suc (length xs))) [
  | true ↦ refl
  | false ↦ ap suc (put_length xs name)
]

-- the names of one role more
names_more : (roles : List Role) (i : ℕ) (role : Role) → i < length roles → role ≡ get_or roles i role →
    zone_names (take (i + 1) roles) ≡ fold with_name (zone_names (take i roles)) (map name_of (cond (is_storage role) (role ∷ []) []))
names_more roles i role inside at =
    let more = filter_more is_storage roles i role inside in
    let one = ap (λ x. cond (is_storage x) (x ∷ []) []) (sym at) in
    ap (λ (xs : List Role). fold with_name [] (map name_of xs)) (more ∙ ap (λ xs. storage_nodes (take i roles) ++ xs) one)
    ∙ ap (fold with_name []) (map-append name_of (storage_nodes (take i roles)) (cond (is_storage role) (role ∷ []) []))
    ∙ fold-append with_name [] (map name_of (storage_nodes (take i roles))) (map name_of (cond (is_storage role) (role ∷ []) []))

-- whether a zone has a storage node among the roles is whether its name is among their names
pub has_name : (n : Name) (roles : List Role) → list_any (λ role. is_storage role && is_in_zone n role) roles ≡ list_any (same_name n) (zone_names roles)
has_name n roles = sym (any_names n roles) ∙ sym (any_fold n [] (map name_of (storage_nodes roles)))

-- a storage node of a new zone makes one name more
pub count_new : (roles : List Role) (i : ℕ) (role : Role) → i < length roles → role ≡ get_or roles i role → is_storage role ≡ true →
    list_any (λ other. is_storage other && is_in_zone (name_of role) other) (take i roles) ≡ false → length (zone_names (take (i + 1) roles)) ≡ length (zone_names (take i roles)) + 1
count_new roles i role inside at storage new =
    let before = zone_names (take i roles) in
    let absent = sym (has_name (name_of role) (take i roles)) ∙ new in
    let put = cond-false (list_any (same_name (name_of role)) before) before (put_in_order before (name_of role)) absent in
    let one = cond-true (is_storage role) (role ∷ []) [] storage in
    let more = names_more roles i role inside at ∙ ap (λ (xs : List Role). fold with_name before (map name_of xs)) one ∙ put in
    let len = ap (λ (xs : List Name). length xs) more in
    omega (arith, put_length before (name_of role))

-- a gateway, or a further storage node of a zone, makes none
pub count_same : (roles : List Role) (i : ℕ) (role : Role) → i < length roles → role ≡ get_or roles i role →
    (is_storage role ≡ true → list_any (λ other. is_storage other && is_in_zone (name_of role) other) (take i roles) ≡ true) → length (zone_names (take (i + 1) roles)) ≡ length (zone_names (take i roles))
count_same roles i role inside at old =
    let before = zone_names (take i roles) in
    ap (λ (xs : List Name). length xs)
    (names_more roles i role inside at ∙ elim (cases_Bool (is_storage role)) [
      | inl storage ↦
          ap (λ (xs : List Role). fold with_name before (map name_of xs)) (cond-true (is_storage role) (role ∷ []) [] storage)
          ∙ cond-true (list_any (same_name (name_of role)) before) before (put_in_order before (name_of role)) (sym (has_name (name_of role) (take i roles)) ∙ old storage)
      | inr gateway ↦ ap (λ (xs : List Role). fold with_name before (map name_of xs)) (cond-false (is_storage role) (role ∷ []) [] gateway)
    ])
