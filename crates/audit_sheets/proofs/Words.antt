-- The text of a layout is the words of what its lines say, these are in their ranges, and none of them is heard.
use Rattle.std.proofs.Common.{◌≡◌, ℕ, ◌<◌, ◌≤◌, Bool, nat_eq, get_or, Some, List, [], ◌∷◌, ◌++◌, length, map, refl, sym, ap, ◌∙◌, arith, append_assoc, append-nil}
use Rattle.std.specs.Prelude.{⊤, codes, decimal, flat_map}
use Rattle.std.specs.Cmp.Lexicographic.{pointwise}
use Rattle.std.specs.List.{AllByRecursion, list_any, range_with_len}
use Rattle.std.proofs.lemmas.Grind.{flat_map-append}
use Rattle.layout_roles.specs.declared.vertex.Vertex.{Vertex}
use Rattle.layout_roles.specs.declared.vertex.Vertex.TheVariants.{Source, Up, Down, Zone, Node, Sink}
use Rattle.layout_roles.specs.Zones.{Name, zone_names}
use Rattle.layout_roles.specs.Fits.{NodeSet}
use Rattle.layout_roles.specs.Runs.{Run, runs, run_lines}
use Rattle.layout_roles.specs.Text.{word, number, set_line, set_lines, side_words, side_line, side_lines, node_word, cut_line, nodes_line, size_line, redundancy_line, layout_text}
use Rattle.cluster_machine.specs.declared.applied.Applied.{Applied}
use Rattle.store_model.specs.declared.event.Numbered.{Numbered}
use Rattle.audit_model.specs.declared.said.Said.{Said}
use Rattle.audit_model.specs.declared.said.Said.TheVariants as said
use Rattle.audit_model.specs.Heard.{Heard, heard}
use Rattle.audit_model.specs.Lines.{IsInRange}
use Rattle.audit_laws.specs.Told.{said_text, saids_text}
use Rattle.audit_sheets.specs.Sheets.{runs_said, set_said, sets_said, part, is_up, is_down, zone_named, part_said, side_said, same_words, sides_said, nodes_on, more_said, sheet_said, IsSet, IsPart, IsOrderly}
use Rattle.audit_sheets.proofs.Runs.{all_both, all_weaker, all_in_range, range_length, total, runs_total, IsRunOf, runs_are, runs_text, runs_say, runs_under, lines_under}
use Rattle.audit_sheets.proofs.Parts.{joined, two_then, vertex_words, said_of, spelled, said_in_range}

-- ---- each line's text

one_line : (s : Said) → said_text s ≡ saids_text (s ∷ [])
one_line s = sym (append-nil (said_text s))

set_text : (first last : ℕ) (set : NodeSet) → IsSet set → set_line first last set ≡ saids_text (set_said first last set)
set_text first last [] h = absurd (omega (arith, h.0))
set_text first last (a ∷ []) h = absurd (omega (arith, h.0))
set_text first last (a ∷ b ∷ []) h = absurd (omega (arith, h.0))
set_text first last (a ∷ b ∷ c ∷ []) h = ap (λ t. t ++ 10 ∷ []) (two_then (codes "p") first last (decimal a ∷ decimal b ∷ decimal c ∷ [])) ∙ one_line (said.Sets first last (a, b, c))
set_text first last (a ∷ b ∷ c ∷ d ∷ rest) h = absurd (omega (arith, h.0))

sets_text : (sets : List NodeSet) → AllByRecursion IsSet sets → set_lines sets ≡ saids_text (sets_said sets)
unfolding set_lines
sets_text sets h =
    let rs : List (Run NodeSet) = runs (pointwise nat_eq) sets in
    runs_text set_said set_line 0 rs
    (all_weaker (IsRunOf (pointwise nat_eq) IsSet) (λ (r : Run NodeSet). (first last : ℕ) → set_line first last r.value ≡ saids_text (set_said first last r.value))
    (λ r k first last. set_text first last r.value k.1) rs (runs_are (pointwise nat_eq) IsSet sets h))

part_text : (names : List Name) (p first last : ℕ) (vs : List Vertex) → IsPart (length names) p vs → side_line first last (vertex_words names vs) ≡ saids_text (part_said names first last vs)
part_text names p first last [] h = refl
part_text names p first last (v ∷ vs) h = ap (λ t. t ++ 10 ∷ []) (spelled names p (length names) (v ∷ vs) h first last) ∙ one_line (said_of names first last (v ∷ vs))

module _ (names : List Name) (side : List Vertex) where
  -- partition p's vertices are in order
  abbrev pub HasPart : ℕ → Type 0
  HasPart p = IsPart (length names) p (part side p)

  parts_text : (ps : List ℕ) → AllByRecursion HasPart ps →
      run_lines side_line 0 (runs (pointwise nat_eq) (map (side_words names side) ps)) ≡ saids_text (runs_said (side_said names side) 0 (runs (same_words names side) ps))
  parts_text ps h =
      let rs : List (Run ℕ) = runs (same_words names side) ps in
      ap (run_lines side_line 0) (runs_under (side_words names side) (pointwise nat_eq) ps)
      ∙ lines_under (side_words names side) (pointwise nat_eq) side_line 0 rs
      ∙ runs_text (side_said names side) (λ first last p. side_line first last (side_words names side p)) 0 rs
      (all_weaker (IsRunOf (same_words names side) HasPart) (λ (r : Run ℕ). (first last : ℕ) → side_line first last (side_words names side r.value) ≡ saids_text (side_said names side first last r.value))
      (λ r k first last. part_text names r.value first last (part side r.value) k.1) rs (runs_are (same_words names side) HasPart ps h))

  pub sides_text : AllByRecursion HasPart (range_with_len 0 256) → side_lines names side ≡ saids_text (sides_said names side)
  unfolding side_lines sides_said
  sides_text h = parts_text (range_with_len 0 256) h

nodes_words : (side : List Vertex) → flat_map node_word side ≡ flat_map word (map decimal (nodes_on side))
nodes_words [] = refl
nodes_words (Node n ∷ vs) = ap (λ t. number n ++ t) (nodes_words vs)
nodes_words (Source ∷ vs) = nodes_words vs
nodes_words (Up p ∷ vs) = nodes_words vs
nodes_words (Down p ∷ vs) = nodes_words vs
nodes_words (Zone p i ∷ vs) = nodes_words vs
nodes_words (Sink ∷ vs) = nodes_words vs

nodes_text : (side : List Vertex) → nodes_line side ≡ said_text (said.Nodes (nodes_on side))
unfolding nodes_line
nodes_text side = ap (λ t. t ++ 10 ∷ []) (ap (λ t. codes "cn" ++ t) (nodes_words side) ∙ sym (joined (codes "cn") (map decimal (nodes_on side))))

cut_is : (size weight : ℕ) → cut_line size weight ≡ said_text (said.Cut size weight)
unfolding cut_line
cut_is size weight = refl

size_is : (size : ℕ) → size_line size ≡ said_text (said.Size size)
unfolding size_line
size_is size = refl

redundancy_is : (r : ℕ) → redundancy_line r ≡ said_text (said.Redundancy r)
unfolding redundancy_line
redundancy_is r = refl

-- ---- the whole text

regrouped : (s r p c d n : List ℕ) → s ++ r ++ p ++ (c ++ d ++ n) ≡ s ++ (r ++ ((p ++ (c ++ d)) ++ (n ++ [])))
regrouped s r p c d n =
    append_assoc (s ++ r) p (c ++ d ++ n) ∙ append_assoc s r (p ++ (c ++ d ++ n))
    ∙ ap (λ t. s ++ (r ++ t)) (sym (append_assoc p (c ++ d) n) ∙ ap (λ t. (p ++ (c ++ d)) ++ t) (sym (append-nil n)))

said_parts : (sets sides : List Said) (cut nodes : Said) →
    (saids_text sets ++ (said_text cut ++ saids_text sides)) ++ (said_text nodes ++ []) ≡ saids_text (sets ++ cut ∷ sides ++ nodes ∷ [])
said_parts sets sides cut nodes =
    sym (flat_map-append said_text (sets ++ cut ∷ sides) (nodes ∷ []) ∙ ap (λ t. t ++ (said_text nodes ++ [])) (flat_map-append said_text sets (cut ∷ sides)))

module _ (shown : Applied) (h : IsOrderly shown) where
  have_parts : AllByRecursion (HasPart (zone_names shown.roles.list) shown.certified.cut.side) (range_with_len 0 256)
  have_parts = all_in_range (HasPart (zone_names shown.roles.list) shown.certified.cut.side) 0 256 (λ p low high. h.parts p (omega arith))

  pub text_says : layout_text shown.roles.list shown.certified ≡ saids_text (sheet_said shown)
  text_says =
      let c = shown.certified in
      let names : List Name = zone_names shown.roles.list in
      let side : List Vertex = c.cut.side in
      let sets : List Said = sets_said c.sets.sets in
      let sides : List Said = sides_said names side in
      (λ i.
      size_is c.size i ++ redundancy_is c.r i ++ sets_text c.sets.sets h.sets i ++ (cut_is c.cut.size c.cut.weight i ++ sides_text names side have_parts i ++ nodes_text side i))
      ∙ regrouped (said_text (said.Size c.size)) (said_text (said.Redundancy c.r)) (saids_text sets) (said_text (said.Cut c.cut.size c.cut.weight)) (saids_text sides) (said_text (said.Nodes (nodes_on side)))
      ∙ ap (λ t. said_text (said.Size c.size) ++ (said_text (said.Redundancy c.r) ++ t)) (said_parts sets sides (said.Cut c.cut.size c.cut.weight) (said.Nodes (nodes_on side)))

-- ---- of each line

-- what holds of each of these holds of all that the lines behind the size say
pub of_each : (P : Said → Type 0) (shown : Applied) → P (said.Redundancy shown.certified.r) → AllByRecursion P (sets_said shown.certified.sets.sets) →
    P (said.Cut shown.certified.cut.size shown.certified.cut.weight) → AllByRecursion P (sides_said (zone_names shown.roles.list) shown.certified.cut.side) → P (said.Nodes (nodes_on shown.certified.cut.side)) →
    AllByRecursion P (more_said shown)
of_each P shown redundancy sets cut sides nodes =
    let c = shown.certified in
    let the_sets : List Said = sets_said c.sets.sets in
    let the_sides : List Said = sides_said (zone_names shown.roles.list) c.cut.side in
    let the_cut : Said = said.Cut c.cut.size c.cut.weight in
    (redundancy, all_both P (the_sets ++ the_cut ∷ the_sides) (said.Nodes (nodes_on c.cut.side) ∷ []) (all_both P the_sets (the_cut ∷ the_sides) sets (cut, sides)) (nodes, tt))

-- what holds of what is said of vertices, even where there are none, holds of what is said of them
pub of_part : (P : Said → Type 0) (names : List Name) (first last : ℕ) (vs : List Vertex) → P (said_of names first last vs) → AllByRecursion P (part_said names first last vs)
of_part P names first last [] h = tt
of_part P names first last (v ∷ vs) h = (h, tt)

-- what holds of all that is said of each partition's vertices
pub of_sides : (P : Said → Type 0) (names : List Name) (side : List Vertex) → ((first last p : ℕ) → first ≤ 256 → last ≤ 256 → p < 256 → AllByRecursion P (side_said names side first last p)) → AllByRecursion P (sides_said names side)
unfolding sides_said
of_sides P names side each =
    let ps : List ℕ = range_with_len 0 256 in
    let rs : List (Run ℕ) = runs (same_words names side) ps in
    let all : total rs ≡ 256 = runs_total (same_words names side) ps ∙ range_length 0 256 in
    let inside : AllByRecursion (λ p. p < 256) ps = all_in_range (λ p. p < 256) 0 256 (λ p low high. omega arith) in
    runs_say (side_said names side) P 256 0 rs (omega arith)
    (all_weaker (IsRunOf (same_words names side) (λ p. p < 256)) (λ (r : Run ℕ). (first last : ℕ) → first ≤ 256 → last ≤ 256 → AllByRecursion P (side_said names side first last r.value))
    (λ r k first last low high. each first last r.value low high k.1) rs (runs_are (same_words names side) (λ p. p < 256) ps inside))

-- what holds of what is said of each set
pub of_sets : (P : Said → Type 0) (Q : NodeSet → Type 0) (sets : List NodeSet) → length sets ≡ 256 → AllByRecursion Q sets →
    ((first last : ℕ) (set : NodeSet) → first ≤ 256 → last ≤ 256 → Q set → AllByRecursion P (set_said first last set)) → AllByRecursion P (sets_said sets)
of_sets P Q sets whole h each =
    let rs : List (Run NodeSet) = runs (pointwise nat_eq) sets in
    let all : total rs ≡ 256 = runs_total (pointwise nat_eq) sets ∙ whole in
    runs_say set_said P 256 0 rs (omega arith)
    (all_weaker (IsRunOf (pointwise nat_eq) Q) (λ (r : Run NodeSet). (first last : ℕ) → first ≤ 256 → last ≤ 256 → AllByRecursion P (set_said first last r.value))
    (λ r k first last low high. each first last r.value low high k.1) rs (runs_are (pointwise nat_eq) Q sets h))

-- ---- ranges

set_range : (first last : ℕ) (set : NodeSet) → first ≤ 256 → last ≤ 256 → IsSet set → AllByRecursion IsInRange (set_said first last set)
set_range first last [] low high h = absurd (omega (arith, h.0))
set_range first last (a ∷ []) low high h = absurd (omega (arith, h.0))
set_range first last (a ∷ b ∷ []) low high h = absurd (omega (arith, h.0))
set_range first last (a ∷ b ∷ c ∷ []) low high h = ((omega arith, (omega arith, h.1)), tt)
set_range first last (a ∷ b ∷ c ∷ d ∷ rest) low high h = absurd (omega (arith, h.0))

pub said_in_ranges : (shown : Applied) → IsOrderly shown → AllByRecursion IsInRange (sheet_said shown)
said_in_ranges shown h =
    let c = shown.certified in
    let names : List Name = zone_names shown.roles.list in
    let rest = of_each IsInRange shown h.redundancy (of_sets IsInRange IsSet c.sets.sets c.sets.whole h.sets set_range) h.cut
    (of_sides IsInRange names c.cut.side
    (λ first last p low high inside. of_part IsInRange names first last (part c.cut.side p) (said_in_range names h.names first last p (part c.cut.side p) (omega arith) (omega arith) (h.parts p inside))))
    h.nodes in
    (h.size, rest)

-- ---- nothing is heard

-- what holds of any line of a layout behind its size, by its kind
pub of_kinds : (P : Said → Type 0) (shown : Applied) → P (said.Redundancy shown.certified.r) → ((first last : ℕ) (set : ℕ × ℕ × ℕ) → P (said.Sets first last set)) → P (said.Cut shown.certified.cut.size shown.certified.cut.weight) →
    ((first last : ℕ) (up down : Bool) (zones : List Name) → P (said.Side first last up down zones)) → P (said.Nodes (nodes_on shown.certified.cut.side)) → AllByRecursion P (more_said shown)
of_kinds P shown redundancy sets cut sides nodes =
    let c = shown.certified in
    let names : List Name = zone_names shown.roles.list in
    of_each P shown redundancy
    (of_sets P (λ set. ⊤) c.sets.sets c.sets.whole (any c.sets.sets) (λ first last set low high k. (sets first last (get_or set 0 0, get_or set 1 0, get_or set 2 0), tt))) cut
    (of_sides P names c.cut.side
    (λ first last p low high inside.
    let vs : List Vertex = part c.cut.side p in of_part P names first last vs (sides first last (list_any is_up vs) (list_any is_down vs) (flat_map (zone_named names) vs))))
    nodes
  where
    any : (sets : List NodeSet) → AllByRecursion (λ (set : NodeSet). ⊤) sets
    any [] = tt
    any (s ∷ ss) = (tt, any ss)

pub none_heard : (events : List Numbered) (h : Heard) (shown : Applied) → AllByRecursion (λ s. heard events h s ≡ Some h) (sheet_said shown)
none_heard events h shown =
    let rest = of_kinds (λ s. heard events h s ≡ Some h) shown refl (λ first last set. refl) refl (λ first last up down zones. refl) refl in
    (refl, rest)
