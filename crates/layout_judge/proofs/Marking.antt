-- A mark more in a table.
use Rattle.std.proofs.Common.{◌≡◌, ℕ, ◌<◌, Bool, true, false, ◌&&◌, ◌||◌, ◌==◌, List, [], length, get_or, set, replicate, refl, sym, ap, ◌∙◌, inl, inr, eqb-true}
use Rattle.std.proofs.lemmas.Bool.{cases_Bool, eq-eqb}
use Rattle.std.proofs.lemmas.List.{get_or-set_same, get_or-set_other, get_or-replicate}
use Rattle.std.proofs.Math.Bool.{or-false}
use Rattle.layout_roles.specs.declared.vertex.Vertex.{Vertex}
use Rattle.layout_roles.specs.declared.vertex.Vertex.TheVariants.{Source, Up, Down, Zone, Node, Sink}
use Rattle.layout_flow.specs.Flows.{same_vertex}
use Rattle.layout_judge.specs.declared.marks.Table.{Table}
use Rattle.layout_judge.specs.Marks.{IsSmall, is_marked}

same_yes : (q p : ℕ) (b : Bool) → (q == p) ≡ true → ((q == p) && b) ≡ b
same_yes q p b e = ap (λ t. t && b) e

same_no : (q p : ℕ) (b : Bool) → (q == p) ≡ false → ((q == p) && b) ≡ false
same_no q p b e = ap (λ t. t && b) e

-- a row with a mark more, at its place
pub row_marked : (zones : List (List Bool)) (row : List Bool) (p z : ℕ) → p < length zones → ((k : ℕ) → k < 256 → get_or row k false ≡ (get_or (get_or zones p []) k false || (k == z))) →
    (q y : ℕ) → y < 256 → get_or (get_or (set zones p row) q []) y false ≡ (get_or (get_or zones q []) y false || ((q == p) && (y == z)))
row_marked zones row p z inside marked q y small =
    elim (cases_Bool (q == p)) [
      | inl t ↦
          let same : q ≡ p = eqb-true q p t in
          let at : get_or (set zones p row) q [] ≡ row = ap (λ k. get_or (set zones p row) k []) same ∙ get_or-set_same zones p row [] inside in
          let was : get_or (get_or zones p []) y false ≡ get_or (get_or zones q []) y false = ap (λ k. get_or (get_or zones k []) y false) (sym same) in
          ap (λ r. get_or r y false) at ∙ (marked y small ∙ (λ i. was i || sym (same_yes q p (y == z) t) i))
      | inr f ↦
          let other : (q ≡ p → ⊥) = (λ e. let yes : (q == p) ≡ true = ap (λ k. q == k) (sym e) ∙ itself q in let no : true ≡ false = sym yes ∙ f in cc) in
          ap (λ r. get_or r y false) (get_or-set_other zones p q row [] other) ∙ (sym (or-false (get_or (get_or zones q []) y false)) ∙ ap (λ t. get_or (get_or zones q []) y false || t) (sym (same_no q p (y == z) f)))
    ]
  where
    itself : (n : ℕ) → (n == n) ≡ true
    itself n = eq-eqb n n refl

-- a zone of a partition marked
pub zone_marked : (t : Table) (row : List Bool) (p z : ℕ) → p < length t.zones → ((k : ℕ) → k < 256 → get_or row k false ≡ (get_or (get_or t.zones p []) k false || (k == z))) →
    (other : Vertex) → IsSmall other → is_marked (record t { zones = set t.zones p row }) other ≡ (is_marked t other || same_vertex other (Zone p z))
zone_marked t row p z inside marked Source small = sym (or-false t.source)
zone_marked t row p z inside marked (Up q) small = sym (or-false (get_or t.up q false))
zone_marked t row p z inside marked (Down q) small = sym (or-false (get_or t.down q false))
zone_marked t row p z inside marked (Zone q y) small = row_marked t.zones row p z inside marked q y small.1
zone_marked t row p z inside marked (Node n) small = sym (or-false (get_or t.nodes n false))
zone_marked t row p z inside marked Sink small = sym (or-false t.sink)

-- a table without marks
abbrev pub unmarked : Table
unmarked = record {
  source = false;
  sink = false;
  up = replicate 256 false;
  down = replicate 256 false;
  zones = replicate 256 (replicate 256 false);
  nodes = replicate 256 false;
}

pub none_marked : (vertex : Vertex) → IsSmall vertex → is_marked unmarked vertex ≡ false
none_marked Source small = refl
none_marked (Up p) small = get_or-replicate 256 p false false small
none_marked (Down p) small = get_or-replicate 256 p false false small
none_marked (Zone p zone) small = ap (λ row. get_or row zone false) (get_or-replicate 256 p (replicate 256 false) [] small.0) ∙ get_or-replicate 256 zone false false small.1
none_marked (Node n) small = get_or-replicate 256 n false false small
none_marked Sink small = refl
