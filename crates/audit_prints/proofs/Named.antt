-- The vertices that a line names, by numbers of zones in place of names.
use Rattle.std.proofs.Common.{◌≡◌, ◌≤◌, ◌+◌, ◌-◌, ℕ, zero, suc, if◌then◌else◌, Bool, map, Option, Some, None, List, [], ◌∷◌, ◌++◌, length, refl, sym, ap, ◌∙◌, arith}
use Rattle.std.specs.Prelude.{IsTrue}
use Rattle.std.specs.List.{flat_map, list_all, range_with_len}
use Rattle.std.proofs.lemmas.Bool.{le-leb}
use Rattle.std.proofs.lemmas.List.{length-map, flat_map_more}
use Rattle.layout_roles.specs.declared.role.Role.{Role}
use Rattle.layout_roles.specs.declared.vertex.Vertex.{Vertex}
use Rattle.layout_roles.specs.declared.vertex.Vertex.TheVariants.{Up, Down, Zone}
use Rattle.layout_roles.specs.Zones.{Name, zone_names, nodes_in, nodes_ascend, is_numbered}
use Rattle.layout_flow.proofs.Whole.{few_zones}
use Rattle.audit_model.specs.Printed.{where_is, zone_at, zone_vertex, named_vertices, partitions_to}
use Rattle.audit_prints.specs.Sides.{one_or_none, zone_numbers, partition_part}

module _ (names : List Name) where
  zones_named : (p : ℕ) (wanted : List Name) → flat_map (zone_vertex names p) wanted ≡ map (Zone p) (zone_numbers names wanted)
  zones_named p [] = refl
  zones_named p (name ∷ wanted) =
      elim (zone_at names name) as (λ o. (elim o as (λ (o : Option ℕ). List Vertex) [ None ↦ [] | Some i ↦ Zone p i ∷ [] ]) ++ flat_map (zone_vertex names p) wanted ≡ map (Zone p) (one_or_none o ++ zone_numbers names wanted)) [
        | None ↦ zones_named p wanted
        | Some i ↦ ap (λ vs. Zone p i ∷ vs) (zones_named p wanted)
      ]

  -- what is named in a partition
  named_part : (up down : Bool) (wanted : List Name) (p : ℕ) → named_vertices names up down wanted p ≡ partition_part up down (zone_numbers names wanted) p
  named_part up down wanted p = ap (λ vs. where_is up (Up p) ++ where_is down (Down p) ++ vs) (zones_named p wanted)

  -- and in each of these
  pub named_parts : (up down : Bool) (wanted : List Name) (ps : List ℕ) → flat_map (named_vertices names up down wanted) ps ≡ flat_map (partition_part up down (zone_numbers names wanted)) ps
  named_parts up down wanted ps = λ i. flat_map (λ p. named_part up down wanted p i) ps

-- zones are few enough to be numbered by a byte
pub few_names : (roles : List Role) → IsTrue (nodes_ascend roles) → IsTrue (list_all is_numbered roles) → length (zone_names roles) ≤ 256
few_names roles ascend numbered = let few = few_zones roles ascend numbered in let same = length-map (zone_names roles) (nodes_in roles) in omega arith

-- ---- partitions

range_more : (a k : ℕ) → range_with_len a k ++ (a + k) ∷ [] ≡ range_with_len a (k + 1)
range_more a zero = let none : a + 0 ≡ a = omega arith in ap (λ n. n ∷ []) none
range_more a (suc k) =
    let next : a + suc k ≡ a + 1 + k = omega arith in
    let long : suc (k + 1) ≡ suc k + 1 = omega arith in
    ap (λ ns. a ∷ ns) (ap (λ n. range_with_len (a + 1) k ++ n ∷ []) next ∙ range_more (a + 1) k) ∙ ap (range_with_len a) long

-- a partition more
pub parts_more : (f : ℕ → List Vertex) (old now new : List Vertex) (a k : ℕ) → now ≡ old ++ flat_map f (range_with_len a k) → new ≡ now ++ f (a + k) → new ≡ old ++ flat_map f (range_with_len a (k + 1))
parts_more f old now new a k before more =
    more ∙ ap (λ vs. vs ++ f (a + k)) before ∙ flat_map_more f old (range_with_len a k) (a + k) ∙ ap (λ ns. old ++ flat_map f ns) (range_more a k)

-- the partitions of a line
pub parts_to : (first last : ℕ) → last ≤ 255 → partitions_to first last ≡ range_with_len first (last + 1 - first)
parts_to first last low =
    let same : suc last - first ≡ last + 1 - first = omega arith in
    ap (λ b. if b then range_with_len first (suc last - first) else []) (le-leb last 255 low) ∙ ap (range_with_len first) same

-- the vertices of a line, by numbers of zones
pub line_named : (names : List Name) (up down : Bool) (wanted : List Name) (numbers : List ℕ) (first last : ℕ) → last ≤ 255 → numbers ≡ zone_numbers names wanted →
    flat_map (partition_part up down numbers) (range_with_len first (last + 1 - first)) ≡ flat_map (named_vertices names up down wanted) (partitions_to first last)
line_named names up down wanted numbers first last low is =
    (λ i. flat_map (partition_part up down (is i)) (sym (parts_to first last low) i)) ∙ sym (named_parts names up down wanted (partitions_to first last))
