-- A layout that is computed from roles of a schedule is in order: its numbers, its names, and the side of its cut.
use Rattle.std.proofs.Common.{◌≡◌, ℕ, zero, suc, ◌+◌, ◌/◌, ◌^◌, ◌<◌, ◌≤◌, Bool, true, false, ◌&&◌, ◌||◌, ◌==◌, nat_eq, cond, IsTrue, List, [], ◌∷◌, ◌++◌, length, map, get_or, refl, sym, ap, ◌∙◌, subst, arith, append-nil, inl, inr, eq-eqb, ne_eqb, eqb-true, leb-true}
use Rattle.std.specs.Prelude.{flat_map}
use Rattle.std.specs.List.{AllByRecursion, All, filter, fold, list_all, list_any, range_with_len, enumerate_from}
use Rattle.std.specs.Ordering.{nat_cmp, is_lt}
use Rattle.std.specs.Cmp.Lexicographic.{slice_cmp}
use Rattle.std.proofs.Math.Nat.{mul-le-mul_right, div-mul-le_self}
use Rattle.std.proofs.lemmas.Bool.{and_parts, and_from, or_cases, cases_lt}
use Rattle.std.proofs.lemmas.List.{length-map}
use Rattle.std.proofs.lemmas.List.Sums.{count_by-le-length}
use Rattle.std.proofs.lemmas.List.Elements.{filter-append, recursion_from_All}
use Rattle.std.proofs.lemmas.Grind.{flat_map-append}
use Rattle.layout_roles.specs.declared.role.Role.{Role}
use Rattle.layout_roles.specs.declared.role.Kind.{Kind}
use Rattle.layout_roles.specs.declared.role.Kind.TheVariants.{Storage, Gateway}
use Rattle.layout_roles.specs.declared.redundancy.Redundancy.{Redundancy}
use Rattle.layout_roles.specs.declared.layout.Layout.{Layout}
use Rattle.layout_roles.specs.declared.vertex.Vertex.{Vertex}
use Rattle.layout_roles.specs.declared.vertex.Vertex.TheVariants.{Source, Up, Down, Zone, Node, Sink}
use Rattle.layout_roles.specs.Names.{is_zone_name}
use Rattle.layout_roles.specs.Zones.{Name, name_of, is_numbered, is_storage, bytes_of, capacity_of, storage_nodes, put_in_order, same_name, with_name, zone_names, nodes_in, zones}
use Rattle.layout_roles.specs.Fits.{NodeSet, partitions, has_node, is_storage_node, IsThree, load, room, Fits}
use Rattle.layout_roles.specs.Network.{partition_vertices, vertices_of, vertices}
use Rattle.layout_roles.specs.Cuts.{Side}
use Rattle.layout_roles.specs.Certificates.{IsRedundancy, zones_wanted, AreEnough, IsCertified}
use Rattle.layout_roles.specs.Text.{is_in_partition}
use Rattle.layout_flow.proofs.Zones.{count_at, zone_once}
use Rattle.cluster_machine.specs.declared.applied.Applied.{Applied}
use Rattle.cluster_machine.specs.Choices.{IsBest}
use Rattle.text_model.specs.Grammar.{IsIn, capacity_range}
use Rattle.audit_model.specs.Lines.{IsNumber}
use Rattle.audit_model.specs.Printed.{where_is}
use Rattle.audit_sheets.specs.Sheets.{part, node_of, nodes_on, IsSet, in_part, IsPart, IsOrderly, parts, IsRanked, AreInRange}
use Rattle.audit_sheets.proofs.Runs.{all_weaker}
use Rattle.audit_sheets.proofs.Back.{flat_alike}

-- ---- names

module _ (p : Name → Bool) where
  put_all : (names : List Name) (name : Name) → p name ≡ true → list_all p names ≡ true → list_all p (put_in_order names name) ≡ true
  put_all [] name h k = and_from (p name) true h refl
  put_all (first ∷ names) name h k =
      let both = and_parts (p first) (list_all p names) k in
      elim (is_lt (slice_cmp nat_cmp name first)) as (λ t. list_all p (cond t (name ∷ first ∷ names) (first ∷ put_in_order names name)) ≡ true) [
        | true ↦ and_from (p name) (p first && list_all p names) h k
        | false ↦ and_from (p first) (list_all p (put_in_order names name)) both.0 (put_all names name h both.1)
      ]

  with_all : (names : List Name) (name : Name) → p name ≡ true → list_all p names ≡ true → list_all p (with_name names name) ≡ true
  with_all names name h k = elim (list_any (same_name name) names) as (λ t. list_all p (cond t names (put_in_order names name)) ≡ true) [
    | true ↦ k
    | false ↦ put_all names name h k
  ]

  fold_all : (acc : List Name) (roles : List Role) → list_all p acc ≡ true → AllByRecursion (λ role. p (name_of role) ≡ true) roles → list_all p (fold with_name acc (map name_of roles)) ≡ true
  fold_all acc [] h k = h
  fold_all acc (role ∷ roles) h k = fold_all (with_name acc (name_of role)) roles (with_all acc (name_of role) k.0 h) k.1

-- ---- storage nodes

-- what holds of each role holds of each storage node
kept : (P : Role → Type 0) (roles : List Role) → AllByRecursion P roles → AllByRecursion P (storage_nodes roles)
kept P [] h = tt
kept P (role ∷ roles) h = elim (is_storage role) as (λ b. AllByRecursion P (cond b (role ∷ storage_nodes roles) (storage_nodes roles))) [
  | true ↦ (h.0, kept P roles h.1)
  | false ↦ kept P roles h.1
]

found : (P : Role → Type 0) (node : ℕ) (roles : List Role) → list_any (λ role. role.node == node) roles ≡ true → AllByRecursion P roles → (role : Role) × (role.node ≡ node) × P role
found P node [] e h = cc
found P node (role ∷ roles) e h = elim (or_cases (role.node == node) (list_any (λ r. r.node == node) roles) e) [
  | inl here ↦ (role, eqb-true role.node node here, h.0)
  | inr there ↦ found P node roles there h.1
]

low_nodes : (roles : List Role) → list_all is_numbered roles ≡ true → AllByRecursion (λ role. role.node ≤ 64) roles
low_nodes [] h = tt
low_nodes (role ∷ roles) h = let both = and_parts (is_numbered role) (list_all is_numbered roles) h in (leb-true role.node 64 both.0, low_nodes roles both.1)

kind_bound : (k : Kind) → IsIn (capacity_range k) → bytes_of k ≤ 1125899906842624
kind_bound (Storage capacity) h = h.1
kind_bound Gateway h = omega arith

-- ---- sets and size

module _ (roles : List Role) (low : AllByRecursion (λ role. role.node ≤ 64) roles) where
  stored_low : (node : ℕ) → is_storage_node roles node ≡ true → node < 2 ^ 64
  stored_low node h =
      let one = found (λ role. role.node ≤ 64) node (storage_nodes roles) h (kept (λ role. role.node ≤ 64) roles low) in
      let same : one.0.node ≡ node = one.1 in
      let few : one.0.node ≤ 64 = one.2 in
      omega arith

  three_is_set : (set : NodeSet) → IsThree roles set → IsSet set
  three_is_set set h =
      (h.three, all_weaker (λ node. IsTrue (is_storage_node roles node)) IsNumber stored_low set (recursion_from_All (λ node. IsTrue (is_storage_node roles node)) set h.stored))

  sets_are : (sets : List NodeSet) → All (IsThree roles) sets → AllByRecursion IsSet sets
  sets_are sets h = all_weaker (IsThree roles) IsSet three_is_set sets (recursion_from_All (IsThree roles) sets h)

-- the first of three nodes is one of them
first_in : (set : NodeSet) → length set ≡ 3 → has_node (get_or set 0 0) set ≡ true
first_in [] h = absurd (omega arith)
first_in (a ∷ rest) h = ap (λ b. b || list_any (nat_eq a) rest) (eq-eqb a a refl)

-- what has room for one partition is as large
room_for_one : (capacity size : ℕ) → 1 ≤ capacity / size → size ≤ capacity
room_for_one capacity size h = let a = div-mul-le_self capacity size in let b = mul-le-mul_right size h in omega arith

size_low : (roles : List Role) (r size : ℕ) (sets : List NodeSet) → Fits roles r size sets → AllByRecursion (λ role. capacity_of role ≤ 1125899906842624) roles → size ≤ 1125899906842624
unfolding partitions
size_low roles r size sets fits low =
    let whole : length sets ≡ 256 = fits.whole in
    let set : NodeSet = get_or sets 0 [] in
    let three : IsThree roles set = fits.threes 0 [] (omega arith) in
    let many : length set ≡ 3 = three.three in
    let node : ℕ = get_or set 0 0 in
    let some : 1 ≤ load sets node = count_at (has_node node) sets 0 [] (omega arith) (first_in set many) in
    let one =
    found (λ role. (load sets role.node ≤ room size role) × (capacity_of role ≤ 1125899906842624)) node (storage_nodes roles) (three.stored 0 0 (omega arith))
    (together (storage_nodes roles) (recursion_from_All (λ role. load sets role.node ≤ room size role) (storage_nodes roles) fits.within) (kept (λ role. capacity_of role ≤ 1125899906842624) roles low)) in
    let role : Role = one.0 in
    let same : role.node ≡ node = one.1 in
    let here : load sets role.node ≡ load sets node = ap (load sets) same in
    let within : load sets role.node ≤ room size role = one.2.0 in
    let below : capacity_of role ≤ 1125899906842624 = one.2.1 in
    let at_most : size ≤ capacity_of role = room_for_one (capacity_of role) size (omega arith) in
    omega arith
  where
    together : (rs : List Role) → AllByRecursion (λ role. load sets role.node ≤ room size role) rs → AllByRecursion (λ role. capacity_of role ≤ 1125899906842624) rs →
        AllByRecursion (λ role. (load sets role.node ≤ room size role) × (capacity_of role ≤ 1125899906842624)) rs
    together [] h k = tt
    together (role ∷ rs) h k = ((h.0, k.0), together rs h.1 k.1)

-- ---- redundancy

some_zone : (roles : List Role) → 3 ≤ length (storage_nodes roles) → 1 ≤ length (zone_names roles)
some_zone roles h =
    let any : Role = record { node = 0; zone = record { 0 = [] }; kind = Gateway } in
    let once = zone_once roles 0 any (omega arith) in
    let few = count_by-le-length (same_name (name_of (get_or (storage_nodes roles) 0 any))) (zone_names roles) in
    omega arith

wanted_in : (wanted : Redundancy) (roles : List Role) → IsRedundancy wanted → 1 ≤ length (zone_names roles) → (1 ≤ zones_wanted wanted roles) × (zones_wanted wanted roles ≤ 3)
wanted_in (Redundancy.AtLeast r) roles h some = h
wanted_in Redundancy.Maximum roles h some = (omega arith, omega arith)

-- ---- the side of a cut

-- an element of a filtered list, by whether it passes
kept_if : (b : Bool) (v : Vertex) (xs ys : List Vertex) → xs ≡ cond b ys [] → cond b (v ∷ xs) xs ≡ cond b (v ∷ ys) []
kept_if true v xs ys e = ap (λ zs. v ∷ zs) e
kept_if false v xs ys e = e

neither : (b : Bool) → map (Zone 0) [] ≡ cond b (map (Zone 0) []) []
neither true = refl
neither false = refl

module _ (p q : ℕ) where
  zones_of_part : (zs : List ℕ) → filter (is_in_partition p) (map (Zone q) zs) ≡ cond (q == p) (map (Zone q) zs) []
  zones_of_part [] = neither (q == p)
  zones_of_part (z ∷ zs) = kept_if (q == p) (Zone q z) (filter (is_in_partition p) (map (Zone q) zs)) (map (Zone q) zs) (zones_of_part zs)

  of_part : (up down : Bool) (zs : List ℕ) → filter (is_in_partition p) (in_part q up down zs) ≡ cond (q == p) (in_part q up down zs) []
  of_part true true zs =
      let zones = map (Zone q) zs in
      kept_if (q == p) (Up q) (filter (is_in_partition p) (Down q ∷ zones)) (Down q ∷ zones) (kept_if (q == p) (Down q) (filter (is_in_partition p) zones) zones (zones_of_part zs))
  of_part true false zs = let zones = map (Zone q) zs in kept_if (q == p) (Up q) (filter (is_in_partition p) zones) zones (zones_of_part zs)
  of_part false true zs = let zones = map (Zone q) zs in kept_if (q == p) (Down q) (filter (is_in_partition p) zones) zones (zones_of_part zs)
  of_part false false zs = zones_of_part zs

no_node_in_zones : (p : ℕ) (zs : List ℕ) → nodes_on (map (Zone p) zs) ≡ []
no_node_in_zones p [] = refl
no_node_in_zones p (z ∷ zs) = no_node_in_zones p zs

no_node_in_part : (p : ℕ) (up down : Bool) (zs : List ℕ) → nodes_on (in_part p up down zs) ≡ []
no_node_in_part p true true zs = no_node_in_zones p zs
no_node_in_part p true false zs = no_node_in_zones p zs
no_node_in_part p false true zs = no_node_in_zones p zs
no_node_in_part p false false zs = no_node_in_zones p zs

no_part_of_nodes : (p : ℕ) (ns : List ℕ) → filter (is_in_partition p) (map Node ns) ≡ []
no_part_of_nodes p [] = refl
no_part_of_nodes p (n ∷ ns) = no_part_of_nodes p ns

nodes_alone : (ns : List ℕ) → nodes_on (map Node ns) ≡ ns
nodes_alone [] = refl
nodes_alone (n ∷ ns) = ap (λ xs. n ∷ xs) (nodes_alone ns)

filter_flat : (t : Vertex → Bool) (f : ℕ → List Vertex) (ps : List ℕ) → filter t (flat_map f ps) ≡ flat_map (λ p. filter t (f p)) ps
filter_flat t f [] = refl
filter_flat t f (p ∷ ps) = filter-append t (f p) (flat_map f ps) ∙ ap (λ xs. filter t (f p) ++ xs) (filter_flat t f ps)

flat_same : (f g : ℕ → List Vertex) → ((p : ℕ) → f p ≡ g p) → (ps : List ℕ) → flat_map f ps ≡ flat_map g ps
flat_same f g e [] = refl
flat_same f g e (p ∷ ps) = λ i. e p i ++ flat_same f g e ps i

module _ (set : Side) (roles : List Role) where
  -- the zones of partition p in the set, numbered from k on
  abbrev chosen : ℕ → ℕ → List (List Role) → List ℕ
  chosen p k [] = []
  chosen p k (z ∷ zs) = cond (set (Zone p k)) (k ∷ chosen p (k + 1) zs) (chosen p (k + 1) zs)

  chosen_zones : (p k : ℕ) (zs : List (List Role)) → filter set (map (λ zone. Zone p zone.0) (enumerate_from k zs)) ≡ map (Zone p) (chosen p k zs)
  chosen_zones p k [] = refl
  chosen_zones p k (z ∷ zs) =
      let rest : List Vertex = filter set (map (λ (zone : ℕ × List Role). Zone p zone.0) (enumerate_from (k + 1) zs)) in
      elim (set (Zone p k)) as (λ b. cond b (Zone p k ∷ rest) rest ≡ map (Zone p) (cond b (k ∷ chosen p (k + 1) zs) (chosen p (k + 1) zs))) [
        | true ↦ ap (λ xs. Zone p k ∷ xs) (chosen_zones p (k + 1) zs)
        | false ↦ chosen_zones p (k + 1) zs
      ]

  chosen_low : (count p k : ℕ) (zs : List (List Role)) → k + length zs ≤ count → AllByRecursion (λ i. i < count) (chosen p k zs)
  chosen_low count p k [] h = tt
  chosen_low count p k (z ∷ zs) h =
      let rest = chosen_low count p (k + 1) zs (omega arith) in
      elim (set (Zone p k)) as (λ b. AllByRecursion (λ i. i < count) (cond b (k ∷ chosen p (k + 1) zs) (chosen p (k + 1) zs))) [
        | true ↦ (omega arith, rest)
        | false ↦ rest
      ]

  -- the vertices of partition p in the set
  abbrev the_part : ℕ → List Vertex
  the_part p = in_part p (set (Up p)) (set (Down p)) (chosen p 0 (zones roles))

  two : (a b : Bool) (u d : Vertex) (xs : List Vertex) → cond a (u ∷ cond b (d ∷ xs) xs) (cond b (d ∷ xs) xs) ≡ where_is a u ++ where_is b d ++ xs
  two true true u d xs = refl
  two true false u d xs = refl
  two false true u d xs = refl
  two false false u d xs = refl

  part_listed : (p : ℕ) → filter set (partition_vertices roles p) ≡ the_part p
  part_listed p =
      two (set (Up p)) (set (Down p)) (Up p) (Down p) (filter set (map (λ (zone : ℕ × List Role). Zone p zone.0) (enumerate_from 0 (zones roles))))
      ∙ ap (λ xs. where_is (set (Up p)) (Up p) ++ where_is (set (Down p)) (Down p) ++ xs) (chosen_zones p 0 (zones roles))

  the_part_is : (p : ℕ) → IsPart (length (zone_names roles)) p (the_part p)
  the_part_is p =
      let count : length (zones roles) ≡ length (zone_names roles) = length-map (zone_names roles) (nodes_in roles) in
      record { up = set (Up p); down = set (Down p); zones = chosen p 0 (zones roles); whole = refl; named = chosen_low (length (zone_names roles)) p 0 (zones roles) (omega arith) }

  -- the numbers of the nodes in the set
  abbrev chosen_nodes : List Role → List ℕ
  chosen_nodes [] = []
  chosen_nodes (role ∷ rs) = cond (set (Node role.node)) (role.node ∷ chosen_nodes rs) (chosen_nodes rs)

  nodes_listed : (rs : List Role) → filter set (map (λ role. Node role.node) rs) ≡ map Node (chosen_nodes rs)
  nodes_listed [] = refl
  nodes_listed (role ∷ rs) =
      let rest : List Vertex = filter set (map (λ (r : Role). Node r.node) rs) in
      elim (set (Node role.node)) as (λ b. cond b (Node role.node ∷ rest) rest ≡ map Node (cond b (role.node ∷ chosen_nodes rs) (chosen_nodes rs))) [
        | true ↦ ap (λ xs. Node role.node ∷ xs) (nodes_listed rs)
        | false ↦ nodes_listed rs
      ]

  nodes_low : (rs : List Role) → AllByRecursion (λ role. role.node ≤ 64) rs → AllByRecursion (λ n. n ≤ 64) (chosen_nodes rs)
  nodes_low [] h = tt
  nodes_low (role ∷ rs) h =
      elim (set (Node role.node)) as (λ b. AllByRecursion (λ n. n ≤ 64) (cond b (role.node ∷ chosen_nodes rs) (chosen_nodes rs))) [
        | true ↦ (h.0, nodes_low rs h.1)
        | false ↦ nodes_low rs h.1
      ]

  -- the set's vertices, listed
  abbrev the_side : ℕ → List Vertex
  the_side n = Source ∷ flat_map the_part (range_with_len 0 n) ++ map Node (chosen_nodes (storage_nodes roles))

  side_listed : set Source ≡ true → set Sink ≡ false → (n : ℕ) → filter set (vertices_of n roles) ≡ the_side n
  unfolding vertices_of
  side_listed source sink n =
      let nodes : List Vertex = map (λ (role : Role). Node role.node) (storage_nodes roles) in
      let range : List ℕ = range_with_len 0 n in
      let all : List Vertex = flat_map (partition_vertices roles) range in
      let front : filter set (Source ∷ all) ≡ Source ∷ flat_map the_part range =
      ap (λ b. cond b (Source ∷ filter set all) (filter set all)) source
      ∙ ap (λ xs. Source ∷ xs) (filter_flat set (partition_vertices roles) range ∙ flat_same (λ p. filter set (partition_vertices roles p)) the_part part_listed range) in
      let back : filter set (nodes ++ Sink ∷ []) ≡ map Node (chosen_nodes (storage_nodes roles)) =
      filter-append set nodes (Sink ∷ []) ∙ ap (λ b. filter set nodes ++ cond b (Sink ∷ []) []) sink ∙ append-nil (filter set nodes) ∙ nodes_listed (storage_nodes roles) in
      filter-append set (Source ∷ all) (nodes ++ Sink ∷ []) ∙ (λ i. front i ++ back i)

  -- a partition's vertices among those of all
  none_below : (p a n : ℕ) → p < a → filter (is_in_partition p) (flat_map the_part (range_with_len a n)) ≡ []
  none_below p a zero h = refl
  none_below p a (suc n) h =
      let here : filter (is_in_partition p) (the_part a) ≡ [] =
      of_part p a (set (Up a)) (set (Down a)) (chosen a 0 (zones roles)) ∙ ap (λ b. cond b (the_part a) []) (ne_eqb a p (λ e. omega arith)) in
      filter-append (is_in_partition p) (the_part a) (flat_map the_part (range_with_len (a + 1) n)) ∙ (λ i. here i ++ none_below p (a + 1) n (omega arith) i)

  one_within : (p a n : ℕ) → a ≤ p → p < a + n → filter (is_in_partition p) (flat_map the_part (range_with_len a n)) ≡ the_part p
  one_within p a zero low high = absurd (omega arith)
  one_within p a (suc n) low high =
      let split = filter-append (is_in_partition p) (the_part a) (flat_map the_part (range_with_len (a + 1) n)) in
      let first = of_part p a (set (Up a)) (set (Down a)) (chosen a 0 (zones roles)) in
      elim (cases_lt a p) [
        | inl below ↦
            let none : filter (is_in_partition p) (the_part a) ≡ [] = first ∙ ap (λ b. cond b (the_part a) []) (ne_eqb a p (λ e. omega arith)) in
            split ∙ (λ i. none i ++ one_within p (a + 1) n (omega arith) (omega arith) i)
        | inr above ↦
            let same : a ≡ p = omega arith in
            let here : filter (is_in_partition p) (the_part a) ≡ the_part a = first ∙ ap (λ b. cond b (the_part a) []) (eq-eqb a p same) in
            split ∙ (λ i. here i ++ none_below p (a + 1) n (omega arith) i) ∙ append-nil (the_part a) ∙ ap the_part same
      ]

  part_is : (n p : ℕ) → p < n → part (the_side n) p ≡ the_part p
  part_is n p h =
      let ns : List ℕ = chosen_nodes (storage_nodes roles) in
      let all : List Vertex = flat_map the_part (range_with_len 0 n) in
      filter-append (is_in_partition p) all (map Node ns)
      ∙ (λ i. one_within p 0 n (omega arith) (omega arith) i ++ no_part_of_nodes p ns i) ∙ append-nil (the_part p)

  no_node_in_parts : (ps : List ℕ) → nodes_on (flat_map the_part ps) ≡ []
  no_node_in_parts [] = refl
  no_node_in_parts (p ∷ ps) =
      flat_map-append node_of (the_part p) (flat_map the_part ps)
      ∙ (λ i. no_node_in_part p (set (Up p)) (set (Down p)) (chosen p 0 (zones roles)) i ++ no_node_in_parts ps i)

  nodes_are : (n : ℕ) → nodes_on (the_side n) ≡ chosen_nodes (storage_nodes roles)
  nodes_are n =
      let ns : List ℕ = chosen_nodes (storage_nodes roles) in
      let range : List ℕ = range_with_len 0 n in
      flat_map-append node_of (flat_map the_part range) (map Node ns) ∙ (λ i. no_node_in_parts range i ++ nodes_alone ns i)

  side_ordered : (n : ℕ) → the_side n ≡ Source ∷ flat_map (part (the_side n)) (range_with_len 0 n) ++ map Node (nodes_on (the_side n))
  side_ordered n =
      let same = flat_alike the_part (part (the_side n)) 0 n (λ q low high. sym (part_is n q (omega arith))) in
      λ i. Source ∷ same i ++ map Node (sym (nodes_are n) i)

  -- the listed side of any cut is in order
  module _ (side : List Vertex) (source : set Source ≡ true) (sink : set Sink ≡ false) (listed : side ≡ filter set (vertices roles)) where
    side_is : side ≡ the_side 256
    unfolding partitions
    side_is = listed ∙ side_listed source sink 256

    pub parts_in_order : (p : ℕ) → p < 256 → IsPart (length (zone_names roles)) p (part side p)
    parts_in_order p h = subst (IsPart (length (zone_names roles)) p) (sym (ap (λ xs. part xs p) side_is ∙ part_is 256 p h)) (the_part_is p)

    pub ranked : AllByRecursion (λ role. role.node ≤ 64) roles → IsRanked side
    unfolding parts
    ranked low =
        let Ordered : List Vertex → Type 0 = λ xs. xs ≡ Source ∷ flat_map (part xs) (range_with_len 0 256) ++ map Node (nodes_on xs) in
        let few = nodes_low (storage_nodes roles) (kept (λ role. role.node ≤ 64) roles low) in
        record {
          order = subst Ordered (sym side_is) (side_ordered 256);
          few = subst (λ xs. AllByRecursion (λ n. n ≤ 64) xs) (sym (ap nodes_on side_is ∙ nodes_are 256)) few;
        }

-- ---- all of it

pub best_is_orderly : (roles : List Role) (wanted : Redundancy) (version : ℕ) (l : Layout) (shown : Applied) → IsRedundancy wanted → IsBest roles wanted version l shown →
    AreInRange shown.roles.list → IsOrderly shown × IsRanked shown.certified.cut.side
best_is_orderly roles wanted version l shown lawful b in_range =
    let mine : List Role = shown.roles.list in
    let c = shown.certified in
    let certified : IsCertified mine wanted c = subst (λ rs. IsCertified rs wanted c) (sym b.shown_roles) b.certified in
    let enough : AreEnough mine wanted = subst (λ rs. AreEnough rs wanted) (sym b.shown_roles) b.enough in
    let low = low_nodes mine shown.roles.numbered in
    let capacities = all_weaker (λ (role : Role). IsTrue (is_zone_name (name_of role)) × IsIn (capacity_range role.kind)) (λ role. capacity_of role ≤ 1125899906842624) (λ role h. kind_bound role.kind h.1) mine in_range in
    let names = all_weaker (λ (role : Role). IsTrue (is_zone_name (name_of role)) × IsIn (capacity_range role.kind)) (λ role. is_zone_name (name_of role) ≡ true) (λ role h. h.0) mine in_range in
    let size : c.size ≤ 1125899906842624 = size_low mine c.r c.size c.sets.sets certified.greatest.fits capacities in
    let some = wanted_in wanted mine lawful (some_zone mine enough.nodes) in
    let r : c.r ≡ zones_wanted wanted mine = certified.redundancy in
    let cut = certified.cut in
    let sized : c.cut.size ≡ c.size + 1 = cut.sized in
    let light : c.cut.weight < 768 = certified.light in
    let ordered : IsRanked c.cut.side = ranked cut.set mine c.cut.side cut.printed.cut.source cut.printed.cut.sink cut.listed low in (
      record {
        size = omega arith;
        redundancy = subst (λ n. (1 ≤ n) × (n ≤ 3)) (sym r) some;
        sets = sets_are mine low c.sets.sets certified.greatest.fits.threes;
        cut = (omega arith, (omega arith, tt));
        parts = parts_in_order cut.set mine c.cut.side cut.printed.cut.source cut.printed.cut.sink cut.listed;
        nodes = all_weaker (λ n. n ≤ 64) IsNumber (λ n h. omega arith) (nodes_on c.cut.side) ordered.few;
        names = fold_all is_zone_name [] (storage_nodes mine) refl (kept (λ role. is_zone_name (name_of role) ≡ true) mine names);
      },
      ordered,
    )
