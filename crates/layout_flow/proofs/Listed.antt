-- The vertices that are held, listed.
use Rattle.std.proofs.Common.{◌≡◌, ℕ, suc, ◌+◌, ◌<◌, ◌≤◌, Bool, true, false, cond, nat_lt, IsTrue, List, [], ◌∷◌, ◌++◌, map, length, get_or, take, refl, sym, ap, ◌∙◌, subst, arith}
use Rattle.std.specs.List.{list_any, filter, flat_map, fold, All, enumerate_from, range_with_len}
use Rattle.std.specs.Ordering.{nat_cmp, is_lt}
use Rattle.std.specs.Cmp.Lexicographic.{slice_cmp}
use Rattle.std.proofs.lemmas.List.Sums.{length-filter, count_by-le-length}
use Rattle.std.proofs.lemmas.Bool.{and_parts, cond-true, cond-false, ltb-true}
use Rattle.std.proofs.lemmas.List.{append-nil, map-append, length-map}
use Rattle.std.proofs.lemmas.List.Concat.{flat_map-append}
use Rattle.std.proofs.lemmas.List.FromFn.{length-enumerate_from, get_or-enumerate_from}
use Rattle.std.proofs.lemmas.List.Elements.{filter_more, filter-append, All-head, All-tail}
use Rattle.layout_roles.specs.declared.role.Role.{Role}
use Rattle.layout_roles.specs.Zones.{Name, name_of, ascend_from, nodes_ascend, is_storage, storage_nodes, put_in_order, same_name, with_name, zone_names, nodes_in, zones}
use Rattle.layout_roles.specs.Network.{vertices_of, partition_vertices}
use Rattle.layout_flow.specs.Closed.{zone_is_held, held, held_zones, held_in, held_in_all, held_list}
use Rattle.layout_flow.proofs.Printed.{all_parts, zone_at, held_here}
use Rattle.layout_roles.specs.declared.vertex.Vertex.{Vertex}
use Rattle.layout_roles.specs.declared.vertex.Vertex.TheVariants.{Source, Up, Down, Zone, Node, Sink}
use Rattle.crdt_core.proofs.Ranges.{range_more}

pub held_in_more : (down : Bool) (numbers : List ℕ) (p : ℕ) →
    flat_map (held_in down numbers) (range_with_len 0 (p + 1)) ≡ flat_map (held_in down numbers) (range_with_len 0 p) ++ held_in down numbers p
held_in_more down numbers p =
    let one : p + 1 ≡ suc p = omega arith in
    let e : 0 + p ≡ p = omega arith in
    ap (λ m. flat_map (held_in down numbers) (range_with_len 0 m)) one
    ∙ ap (flat_map (held_in down numbers)) (range_more 0 p ∙ ap (λ m. range_with_len 0 p ++ m ∷ []) e)
    ∙ flat_map-append (held_in down numbers) (range_with_len 0 p) (p ∷ [])
    ∙ ap (λ xs. flat_map (held_in down numbers) (range_with_len 0 p) ++ xs) (append-nil (held_in down numbers p))

-- one zone more, with its number
at_place : (groups : List (List Role)) (i : ℕ) (zone : List Role) → i < length groups → zone ≡ get_or groups i zone → get_or (enumerate_from 0 groups) i (i, zone) ≡ (i, zone)
at_place groups i zone h e =
    let n : 0 + i ≡ i = omega arith in
    get_or-enumerate_from 0 groups i (i, zone) h ∙ (λ j. (n j, sym e j))

pub zone_more_yes : (n size each : ℕ) (groups : List (List Role)) (i : ℕ) (zone : List Role) → i < length groups → zone ≡ get_or groups i zone → zone_is_held n size each zone ≡ true →
    map (λ z. z.0) (filter (λ z. zone_is_held n size each z.1) (take (i + 1) (enumerate_from 0 groups)))
    ≡ map (λ z. z.0) (filter (λ z. zone_is_held n size each z.1) (take i (enumerate_from 0 groups))) ++ i ∷ []
zone_more_yes n size each groups i zone h e t =
    let test : ℕ × List Role → Bool = λ z. zone_is_held n size each z.1 in
    let xs = enumerate_from 0 groups in
    let more = filter_more test xs i (i, zone) (omega (arith, length-enumerate_from 0 groups)) in
    let at : cond (test (get_or xs i (i, zone))) (get_or xs i (i, zone) ∷ []) [] ≡ (i, zone) ∷ [] =
    ap (λ (x : ℕ × List Role). cond (test x) (x ∷ []) []) (at_place groups i zone h e) ∙ cond-true (zone_is_held n size each zone) ((i, zone) ∷ []) [] t in
    ap (map (λ (z : ℕ × List Role). z.0)) (more ∙ ap (λ ys. filter test (take i xs) ++ ys) at) ∙ map-append (λ (z : ℕ × List Role). z.0) (filter test (take i xs)) ((i, zone) ∷ [])

pub zone_more_no : (n size each : ℕ) (groups : List (List Role)) (i : ℕ) (zone : List Role) → i < length groups → zone ≡ get_or groups i zone → zone_is_held n size each zone ≡ false →
    map (λ z. z.0) (filter (λ z. zone_is_held n size each z.1) (take (i + 1) (enumerate_from 0 groups)))
    ≡ map (λ z. z.0) (filter (λ z. zone_is_held n size each z.1) (take i (enumerate_from 0 groups)))
zone_more_no n size each groups i zone h e t =
    let test : ℕ × List Role → Bool = λ z. zone_is_held n size each z.1 in
    let xs = enumerate_from 0 groups in
    let more = filter_more test xs i (i, zone) (omega (arith, length-enumerate_from 0 groups)) in
    let at : cond (test (get_or xs i (i, zone))) (get_or xs i (i, zone) ∷ []) [] ≡ [] =
    ap (λ (x : ℕ × List Role). cond (test x) (x ∷ []) []) (at_place groups i zone h e) ∙ cond-false (zone_is_held n size each zone) ((i, zone) ∷ []) [] t in
    ap (map (λ (z : ℕ × List Role). z.0)) (more ∙ ap (λ ys. filter test (take i xs) ++ ys) at ∙ append-nil (filter test (take i xs)))

-- ---- the filter of all vertices is that list

filter-flat_map : {X Y : Type 0} (p : Y → Bool) (f : X → List Y) (xs : List X) → filter p (flat_map f xs) ≡ flat_map (λ x. filter p (f x)) xs
filter-flat_map p f [] = refl
filter-flat_map p f (x ∷ xs) = filter-append p (f x) (flat_map f xs) ∙ ap (λ ys. filter p (f x) ++ ys) (filter-flat_map p f xs)

flat_map-agree : {X Y : Type 0} (f g : X → List Y) (xs : List X) → All (λ x. f x ≡ g x) xs → flat_map f xs ≡ flat_map g xs
flat_map-agree f g [] same = refl
flat_map-agree f g (x ∷ xs) same =
    ap (λ ys. ys ++ flat_map f xs) (All-head (λ x. f x ≡ g x) x xs same) ∙ ap (λ ys. g x ++ ys) (flat_map-agree f g xs (All-tail (λ x. f x ≡ g x) x xs same))

filter-map : {X Y : Type 0} (p : Y → Bool) (g : X → Y) (t : X → Bool) (xs : List X) → All (λ x. p (g x) ≡ t x) xs → filter p (map g xs) ≡ map g (filter t xs)
filter-map p g t [] same = refl
filter-map {X} {Y} p g t (x ∷ xs) same =
    let first = All-head (λ x. p (g x) ≡ t x) x xs same in
    let rest = filter-map p g t xs (All-tail (λ x. p (g x) ≡ t x) x xs same) in
    ap (λ b. cond b (g x ∷ filter p (map g xs)) (filter p (map g xs))) first ∙ by (t x) rest
  where
    by : (b : Bool) → filter p (map g xs) ≡ map g (filter t xs) → cond b (g x ∷ filter p (map g xs)) (filter p (map g xs)) ≡ map g (cond b (x ∷ filter t xs) (filter t xs))
    by true e = ap (λ ys. g x ∷ ys) e
    by false e = e

map-map : {X Y Z : Type 0} (h : Y → Z) (g : X → Y) (xs : List X) → map (λ x. h (g x)) xs ≡ map h (map g xs)
map-map h g [] = refl
map-map h g (x ∷ xs) = ap (λ ys. h (g x) ∷ ys) (map-map h g xs)

partition_listed : (n : ℕ) (roles : List Role) (r size each : ℕ) (down : Bool) (p : ℕ) → p < n →
    filter (held n roles r size each down) (partition_vertices roles p) ≡ held_in down (held_zones n size each (zones roles)) p
partition_listed n roles r size each down p less =
    let test : Vertex → Bool = held n roles r size each down in
    let here = held_here n roles r size each down p less in
    let places = enumerate_from 0 (zones roles) in
    let zone : ℕ × List Role → Vertex = λ z. Zone p z.0 in
    let t : ℕ × List Role → Bool = λ z. zone_is_held n size each z.1 in
    let rest = filter test (map zone places) in
    let zones_listed : rest ≡ map (Zone p) (held_zones n size each (zones roles)) =
    filter-map test zone t places
    (λ k d h.
    let inside : k < length (zones roles) = omega (arith, length-enumerate_from 0 (zones roles)) in
    subst (λ z. test (zone z) ≡ t z) (sym (zone_at roles k d inside)) (here.zone_is k inside))
    ∙ map-map (Zone p) (λ (z : ℕ × List Role). z.0) (filter t places) in
    cond-true (test (Up p)) (Up p ∷ cond (test (Down p)) (Down p ∷ rest) rest) (cond (test (Down p)) (Down p ∷ rest) rest) here.up
    ∙ ap (λ b. Up p ∷ cond b (Down p ∷ rest) rest) here.down_is
    ∙ ap (λ xs. Up p ∷ xs) (split down rest ∙ ap (λ xs. cond down (Down p ∷ []) [] ++ xs) zones_listed)
  where
    split : (b : Bool) (xs : List Vertex) → cond b (Down p ∷ xs) xs ≡ cond b (Down p ∷ []) [] ++ xs
    split true xs = refl
    split false xs = refl

pub listed : (n : ℕ) (roles : List Role) (r size each : ℕ) (down : Bool) →
    filter (held n roles r size each down) (vertices_of n roles) ≡ held_list n size each down (zones roles) roles
unfolding vertices_of held_in_all
listed n roles r size each down =
    let test : Vertex → Bool = held n roles r size each down in
    let nodes = storage_nodes roles in
    let node : Role → Vertex = λ role. Node role.node in
    let front : List Vertex = Source ∷ flat_map (partition_vertices roles) (range_with_len 0 n) in
    let parts = filter-flat_map test (partition_vertices roles) (range_with_len 0 n)
    ∙ flat_map-agree (λ p. filter test (partition_vertices roles p)) (held_in down (held_zones n size each (zones roles))) (range_with_len 0 n)
    (all_parts n (λ p. filter test (partition_vertices roles p) ≡ held_in down (held_zones n size each (zones roles)) p) (λ p less. partition_listed n roles r size each down p less)) in
    let back = filter-append test (map node nodes) (Sink ∷ []) ∙ append-nil (filter test (map node nodes))
    ∙ filter-map test node (λ role. test (node role)) nodes (λ k d h. refl) in
    filter-append test front (map node nodes ++ Sink ∷ []) ∙ (λ i. (Source ∷ parts i) ++ back i)

-- ---- there are no more zones than nodes

put_length : (names : List Name) (name : Name) → length (with_name names name) ≤ suc (length names)
put_length names name = elim (list_any (same_name name) names) as (λ t. length (cond t names (put_in_order names name)) ≤ suc (length names)) [
  | true ↦ omega arith
  | false ↦ omega (arith, in_order names)
]
  where
    in_order : (xs : List Name) → length (put_in_order xs name) ≡ suc (length xs)
    in_order [] = refl
    in_order (x ∷ xs) = elim (is_lt (slice_cmp nat_cmp name x)) as (λ t. length (cond t (name ∷ x ∷ xs) (x ∷ put_in_order xs name)) ≡ suc (suc (length xs))) [
      | true ↦ refl
      | false ↦ ap suc (in_order xs)
    ]

fold_length : (acc xs : List Name) → length (fold with_name acc xs) ≤ length acc + length xs
fold_length acc [] = omega arith
fold_length acc (x ∷ xs) = let a = put_length acc x in let b = fold_length (with_name acc x) xs in omega arith

pub zones_length : (roles : List Role) → length (zones roles) ≤ length roles
zones_length roles =
    let nodes = storage_nodes roles in
    let a = fold_length [] (map name_of nodes) in
    let b = length-map nodes name_of in
    let c = length-map (zone_names roles) (nodes_in roles) in
    let d = length-filter is_storage roles in
    let e = count_by-le-length is_storage roles in
    omega arith

-- nodes that ascend and are at most a number are no more than it
ascend_length : (most before : ℕ) (roles : List Role) → before ≤ most → IsTrue (ascend_from before roles) → All (λ role. role.node ≤ most) roles → length roles + before ≤ most
ascend_length most before [] low ascend below = omega arith
ascend_length most before (role ∷ roles) low ascend below =
    let parts = and_parts (nat_lt before role.node) (ascend_from role.node roles) ascend in
    let less = ltb-true before role.node parts.0 in
    let first = All-head (λ role. role.node ≤ most) role roles below in
    let rest = ascend_length most role.node roles first parts.1 (All-tail (λ role. role.node ≤ most) role roles below) in
    omega arith

pub nodes_below : (most : ℕ) (roles : List Role) → IsTrue (nodes_ascend roles) → All (λ role. role.node ≤ most) roles → length roles ≤ most
nodes_below most roles ascend below = let h = ascend_length most 0 roles (omega arith) ascend below in omega arith
