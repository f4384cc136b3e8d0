-- What a list of potentials says of each vertex of the network.
use Rattle.std.proofs.Common.{◌≡◌, ℕ, ◌<◌, Bool, true, false, ◌||◌, ◌==◌, List, [], ◌∷◌, ◌++◌, map, length, get_or, refl, sym, ap, ◌∙◌, subst, inl, inr, arith}
use Rattle.std.specs.Prelude.{ℤ, pos}
use Rattle.std.specs.List.{flat_map, list_any, All, range_with_len, enumerate_from}
use Rattle.std.proofs.lemmas.Bool.{cases_Bool, and_from, eq-eqb, cond-true, cond-false, or_cases}
use Rattle.std.proofs.lemmas.List.Folds.{list_any-append, list_any_at}
use Rattle.std.proofs.lemmas.List.{length-map, get_or-map}
use Rattle.std.proofs.lemmas.List.FromFn.{length-range_with_len, get_or-range_with_len, length-enumerate_from}
use Rattle.std.proofs.lemmas.List.Elements.{All-nil, All-cons, All-append, All-map, All-head, All-tail}
use Rattle.layout_roles.specs.declared.role.Role.{Role}
use Rattle.layout_roles.specs.Zones.{storage_nodes, zones}
use Rattle.layout_flow.specs.Flows.{same_vertex}
use Rattle.layout_roles.specs.declared.vertex.Vertex.{Vertex}
use Rattle.layout_roles.specs.declared.vertex.Vertex.TheVariants.{Source, Up, Down, Zone, Node, Sink}
use Rattle.layout_flow.proofs.Bounds.{same_true}
use Rattle.layout_flow.proofs.Lies.{All-flat_map, any_flat}
use Rattle.layout_flow.proofs.Printed.{zone_at}
use Rattle.layout_moves.specs.Moves.{Potentials, listed, potentials}
use Rattle.layout_moves.specs.Listing.{with_potential, partition_listing, node_listing, listing}
use Rattle.layout_moves.proofs.Near.{or_left, or_right, zone_stored}
use Rattle.layout_moves.proofs.Certificate.{Agrees}

abbrev test_of : Vertex → Vertex × ℤ → Bool
test_of vertex entry = same_vertex entry.0 vertex

-- where each entry is true, what is listed of a vertex that stands there is true
listed_true : (potential : Potentials) (list : List (Vertex × ℤ)) (vertex : Vertex) → All (λ entry. entry.1 ≡ potential entry.0) list → list_any (test_of vertex) list ≡ true → listed list vertex ≡ potential vertex
listed_true potential [] vertex all t = cc
listed_true potential (first ∷ rest) vertex all t =
    elim (cases_Bool (same_vertex first.0 vertex)) [
      | inl same ↦
          cond-true (same_vertex first.0 vertex) first.1 (listed rest vertex) same ∙ All-head (λ entry. entry.1 ≡ potential entry.0) first rest all ∙ ap potential (same_true first.0 vertex same)
      | inr apart ↦
          cond-false (same_vertex first.0 vertex) first.1 (listed rest vertex) apart
          ∙ listed_true potential rest vertex (All-tail (λ entry. entry.1 ≡ potential entry.0) first rest all) (later (same_vertex first.0 vertex) (list_any (test_of vertex) rest) apart t)
    ]
  where
    later : (a b : Bool) → a ≡ false → (a || b) ≡ true → b ≡ true
    later true b e t = cc
    later false b e t = t

all_true : (n : ℕ) (potential : Potentials) (roles : List Role) → All (λ entry. entry.1 ≡ potential entry.0) (listing n potential roles)
unfolding listing
all_true n potential roles =
    let P : Vertex × ℤ → Type 0 = λ entry. entry.1 ≡ potential entry.0 in
    All-append P (flat_map (partition_listing potential roles) (range_with_len 0 n)) (node_listing potential roles ++ with_potential potential Sink ∷ [])
    (All-flat_map P (partition_listing potential roles) (range_with_len 0 n) (λ k d h. part (get_or (range_with_len 0 n) k d)))
    (All-append P (node_listing potential roles) (with_potential potential Sink ∷ [])
    (All-map P (λ role. with_potential potential (Node role.node)) (storage_nodes roles) (λ k d h. refl))
    (All-cons P (with_potential potential Sink) [] refl (All-nil P)))
  where
    part : (p : ℕ) → All (λ (entry : Vertex × ℤ). entry.1 ≡ potential entry.0) (partition_listing potential roles p)
    part p =
        let P : Vertex × ℤ → Type 0 = λ entry. entry.1 ≡ potential entry.0 in
        let zs = map (λ (zone : ℕ × List Role). with_potential potential (Zone p zone.0)) (enumerate_from 0 (zones roles)) in
        All-cons P (with_potential potential (Up p)) (with_potential potential (Down p) ∷ zs) refl
        (All-cons P (with_potential potential (Down p)) zs refl (All-map P (λ (zone : ℕ × List Role). with_potential potential (Zone p zone.0)) (enumerate_from 0 (zones roles)) (λ k d h. refl)))

in_partition : (n : ℕ) (potential : Potentials) (roles : List Role) (vertex : Vertex) (p : ℕ) → p < n → list_any (test_of vertex) (partition_listing potential roles p) ≡ true → list_any (test_of vertex) (listing n potential roles) ≡ true
unfolding listing
in_partition n potential roles vertex p less t =
    let ps = range_with_len 0 n in
    let parts = flat_map (partition_listing potential roles) ps in
    let rest = node_listing potential roles ++ with_potential potential Sink ∷ [] in
    let at : get_or ps p 0 ≡ p = get_or-range_with_len 0 n p 0 less ∙ (omega arith) in
    let some = list_any_at (λ q. list_any (test_of vertex) (partition_listing potential roles q)) ps p 0 (omega (arith, length-range_with_len 0 n)) (subst (λ q. list_any (test_of vertex) (partition_listing potential roles q) ≡ true) (sym at) t) in
    list_any-append (test_of vertex) parts rest
    ∙ or_left (list_any (test_of vertex) parts) (list_any (test_of vertex) rest) (any_flat (test_of vertex) (partition_listing potential roles) ps ∙ some)

in_nodes : (n : ℕ) (potential : Potentials) (roles : List Role) (node : ℕ) → list_any (λ role. role.node == node) (storage_nodes roles) ≡ true → list_any (test_of (Node node)) (listing n potential roles) ≡ true
unfolding listing
in_nodes n potential roles node t =
    let parts = flat_map (partition_listing potential roles) (range_with_len 0 n) in
    let nodes = node_listing potential roles in
    let rest = nodes ++ with_potential potential Sink ∷ [] in
    list_any-append (test_of (Node node)) parts rest
    ∙ or_right (list_any (test_of (Node node)) parts) (list_any (test_of (Node node)) rest)
    (list_any-append (test_of (Node node)) nodes (with_potential potential Sink ∷ [])
    ∙ or_left (list_any (test_of (Node node)) nodes) (list_any (test_of (Node node)) (with_potential potential Sink ∷ [])) (mapped (storage_nodes roles) t))
  where
    mapped : (rs : List Role) → list_any (λ role. role.node == node) rs ≡ true → list_any (test_of (Node node)) (map (λ role. with_potential potential (Node role.node)) rs) ≡ true
    mapped [] t = cc
    mapped (role ∷ rs) t =
        elim (or_cases (role.node == node) (list_any (λ role. role.node == node) rs) t) [
          | inl first ↦ or_left (role.node == node) (list_any (test_of (Node node)) (map (λ role. with_potential potential (Node role.node)) rs)) first
          | inr more ↦ or_right (role.node == node) (list_any (test_of (Node node)) (map (λ role. with_potential potential (Node role.node)) rs)) (mapped rs more)
        ]

in_sink : (n : ℕ) (potential : Potentials) (roles : List Role) → list_any (test_of Sink) (listing n potential roles) ≡ true
unfolding listing
in_sink n potential roles =
    let parts = flat_map (partition_listing potential roles) (range_with_len 0 n) in
    let nodes = node_listing potential roles in
    let rest = nodes ++ with_potential potential Sink ∷ [] in
    list_any-append (test_of Sink) parts rest
    ∙ or_right (list_any (test_of Sink) parts) (list_any (test_of Sink) rest)
    (list_any-append (test_of Sink) nodes (with_potential potential Sink ∷ [])
    ∙ or_right (list_any (test_of Sink) nodes) true refl)

in_zone : (n : ℕ) (potential : Potentials) (roles : List Role) (p i : ℕ) → p < n → i < length (zones roles) → list_any (test_of (Zone p i)) (listing n potential roles) ≡ true
in_zone n potential roles p i less inside =
    let zs = enumerate_from 0 (zones roles) in
    let entry : ℕ × List Role → Vertex × ℤ = λ zone. with_potential potential (Zone p zone.0) in
    let long : i < length zs = omega (arith, length-enumerate_from 0 (zones roles)) in
    let at : get_or (map entry zs) i (entry (0, [])) ≡ entry (i, get_or (zones roles) i []) = get_or-map entry zs i (0, []) (entry (0, [])) long ∙ ap entry (zone_at roles i (0, []) inside) in
    let same : same_vertex (Zone p i) (Zone p i) ≡ true = and_from (p == p) (i == i) (eq-eqb p p refl) (eq-eqb i i refl) in
    in_partition n potential roles (Zone p i) p less
    (list_any_at (test_of (Zone p i)) (map entry zs) i (entry (0, [])) (omega (arith, length-map zs entry)) (subst (λ e. test_of (Zone p i) e ≡ true) (sym at) same))

-- the potentials of the list are those that it was made of
pub agrees : (n : ℕ) (potential : Potentials) (roles : List Role) → potential Source ≡ pos 0 → Agrees n roles (potentials (listing n potential roles)) potential
agrees n potential roles source = record {
  source = sym source;
  up = λ p less. listed_true potential (listing n potential roles) (Up p) (all_true n potential roles) (in_partition n potential roles (Up p) p less (or_left (p == p) (list_any (test_of (Up p)) (with_potential potential (Down p) ∷ map (λ zone. with_potential potential (Zone p zone.0)) (enumerate_from 0 (zones roles)))) (eq-eqb p p refl)));
  down = λ p less. listed_true potential (listing n potential roles) (Down p) (all_true n potential roles) (in_partition n potential roles (Down p) p less (or_left (p == p) (list_any (test_of (Down p)) (map (λ zone. with_potential potential (Zone p zone.0)) (enumerate_from 0 (zones roles)))) (eq-eqb p p refl)));
  zone = λ p i less inside. listed_true potential (listing n potential roles) (Zone p i) (all_true n potential roles) (in_zone n potential roles p i less inside);
  node = λ k d h.
      let role = get_or (storage_nodes roles) k d in
      listed_true potential (listing n potential roles) (Node role.node) (all_true n potential roles)
      (in_nodes n potential roles role.node (list_any_at (λ other. other.node == role.node) (storage_nodes roles) k d h (eq-eqb role.node role.node refl)));
  zone_node = λ i inside k d h.
      let role = get_or (get_or (zones roles) i []) k d in
      listed_true potential (listing n potential roles) (Node role.node) (all_true n potential roles)
      (in_nodes n potential roles role.node (zone_stored roles i role.node inside (list_any_at (λ other. other.node == role.node) (get_or (zones roles) i []) k d h (eq-eqb role.node role.node refl))));
  sink = listed_true potential (listing n potential roles) Sink (all_true n potential roles) (in_sink n potential roles);
}
