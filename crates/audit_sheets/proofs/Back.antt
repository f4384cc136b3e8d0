-- What the lines of a layout say prints the layout.
use Rattle.std.proofs.Common.{◌≡◌, ℕ, zero, suc, ◌+◌, ◌-◌, ◌<◌, ◌≤◌, true, ◌&&◌, ◌==◌, nat_lt, nat_le, nat_eq, cond, if◌then◌else◌, List, [], ◌∷◌, ◌++◌, length, map, replicate, get_or, refl, sym, ap, ◌∙◌, arith, append_assoc, le-leb, le-ltb, eq-eqb, ltb-true}
use Rattle.std.specs.Prelude.{flat_map}
use Rattle.std.specs.Cmp.Lexicographic.{pointwise}
use Rattle.std.specs.List.{AllByRecursion, list_all, list_any, range_with_len}
use Rattle.std.proofs.lemmas.Bool.{and_parts, and_from}
use Rattle.std.proofs.lemmas.Grind.{flat_map-append}
use Rattle.layout_roles.specs.declared.vertex.Vertex.{Vertex}
use Rattle.layout_roles.specs.declared.vertex.Vertex.TheVariants.{Source, Node}
use Rattle.layout_roles.specs.Zones.{Name, zone_names, set_ascends}
use Rattle.layout_roles.specs.Sets.{in_order, put_node}
use Rattle.layout_roles.specs.Fits.{NodeSet}
use Rattle.layout_roles.specs.Runs.{Run, runs, written_out}
use Rattle.layout_roles.specs.Text.{side_words}
use Rattle.layout_roles.proofs.ZoneNames.{same_true}
use Rattle.layout_flow.proofs.Zones.{names_once}
use Rattle.cluster_machine.specs.declared.applied.Applied.{Applied}
use Rattle.audit_model.specs.declared.said.Said.{Said}
use Rattle.audit_model.specs.declared.said.Said.TheVariants as said
use Rattle.audit_model.specs.Lines.{Says}
use Rattle.audit_model.specs.Printed.{sets_from, named_vertices, nodes_among, side_in, is_more, more_lines, printed}
use Rattle.audit_sheets.specs.Sheets.{runs_said, set_said, sets_said, part, part_said, is_up, is_down, zone_named, side_said, same_words, sides_said, nodes_on, more_said, IsSet, IsOrderly, parts, IsRanked}
use Rattle.audit_sheets.proofs.Runs.{range_length, total, runs_total, IsRunOf, runs_are, runs_whole, Cover, runs_cover}
use Rattle.audit_sheets.proofs.Parts.{said_of, same_said, own_back}
use Rattle.audit_sheets.proofs.Words.{of_kinds}

-- ---- sets

-- a set that ascends is in order
in_order_is : (a b c : ℕ) → set_ascends (a ∷ b ∷ c ∷ []) ≡ true → in_order a b c ≡ a ∷ b ∷ c ∷ []
in_order_is a b c h =
    let first = and_parts (nat_lt a b && (nat_lt a c && true)) ((nat_lt b c && true) && true) h in
    let from_a = and_parts (nat_lt a b) (nat_lt a c && true) first.0 in
    let to_c = and_parts (nat_lt a c) true from_a.1 in
    let from_b = and_parts (nat_lt b c && true) true first.1 in
    let ab = ltb-true a b from_a.0 in
    let ac = ltb-true a c to_c.0 in
    let bc = ltb-true b c (and_parts (nat_lt b c) true from_b.0).0 in
    ap (λ t. put_node c (cond t (b ∷ a ∷ []) (a ∷ b ∷ []))) (le-ltb b a (omega arith))
    ∙ ap (λ t. cond t (c ∷ a ∷ b ∷ []) (a ∷ cond (nat_lt c b) (c ∷ b ∷ []) (b ∷ c ∷ []))) (le-ltb c a (omega arith))
    ∙ ap (λ t. a ∷ cond t (c ∷ b ∷ []) (b ∷ c ∷ [])) (le-ltb c b (omega arith))

-- a set of three that ascends
abbrev IsOurs : NodeSet → Type 0
IsOurs set = (length set ≡ 3) × (set_ascends set ≡ true)

three_back : (set : NodeSet) → IsOurs set → in_order (get_or set 0 0) (get_or set 1 0) (get_or set 2 0) ≡ set
three_back [] h = absurd (omega (arith, h.0))
three_back (a ∷ []) h = absurd (omega (arith, h.0))
three_back (a ∷ b ∷ []) h = absurd (omega (arith, h.0))
three_back (a ∷ b ∷ c ∷ []) h = in_order_is a b c h.1
three_back (a ∷ b ∷ c ∷ d ∷ rest) h = absurd (omega (arith, h.0))

one_set : (place count : ℕ) (set : NodeSet) (later : List Said) → 0 < count → place + count ≤ 256 → IsOurs set →
    sets_from place (set_said place (place + count - 1) set ++ later) ≡ replicate count set ++ sets_from (place + count) later
one_set place count set later some low h =
    let last : ℕ = place + count - 1 in
    let next : suc last ≡ place + count = omega arith in
    let many : suc last - place ≡ count = omega arith in
    let test : ((place == place) && (nat_le place last && nat_le last 255)) ≡ true =
    and_from (place == place) (nat_le place last && nat_le last 255) (eq-eqb place place refl)
    (and_from (nat_le place last) (nat_le last 255) (le-leb place last (omega arith)) (le-leb last 255 (omega arith))) in
    ap (λ t. if t then replicate (suc last - place) (in_order (get_or set 0 0) (get_or set 1 0) (get_or set 2 0)) ++ sets_from (suc last) later else []) test
    ∙ (λ i. replicate (many i) (three_back set h i) ++ sets_from (next i) later)

sets_back : (place : ℕ) (rs : List (Run NodeSet)) (tail : List Said) → AllByRecursion (IsRunOf (pointwise nat_eq) IsOurs) rs → place + total rs ≤ 256 → ((n : ℕ) → sets_from n tail ≡ []) →
    sets_from place (runs_said set_said place rs ++ tail) ≡ written_out rs
sets_back place [] tail h low none = none place
sets_back place (r ∷ rs) tail h low none =
    one_set place r.count r.value (runs_said set_said (place + r.count) rs ++ tail) h.0.0 (omega arith) h.0.1
    ∙ ap (λ xs. replicate r.count r.value ++ xs) (sets_back (place + r.count) rs tail h.1 (omega arith) none)

-- the side isn't told by sets
past_sets : (names : List Name) (place : ℕ) (rs : List (Run NodeSet)) (tail : List Said) → side_in names (runs_said set_said place rs ++ tail) ≡ side_in names tail
past_sets names place [] tail = refl
past_sets names place (r ∷ rs) tail = past_sets names (place + r.count) rs tail

ours : (sets : List NodeSet) → AllByRecursion IsSet sets → list_all set_ascends sets ≡ true → AllByRecursion IsOurs sets
ours [] h e = tt
ours (s ∷ ss) h e = let both = and_parts (set_ascends s) (list_all set_ascends ss) e in ((h.0.0, both.0), ours ss h.1 both.1)

-- ---- ranges of partitions

range_both : (a n m : ℕ) → range_with_len a (n + m) ≡ range_with_len a n ++ range_with_len (a + n) m
range_both a zero m =
    let d : zero + m ≡ m = omega arith in
    let e : a ≡ a + zero = omega arith in
    λ i. range_with_len (e i) (d i)
range_both a (suc n) m =
    let d : suc n + m ≡ suc (n + m) = omega arith in
    let e : a + 1 + n ≡ a + suc n = omega arith in
    ap (range_with_len a) d ∙ ap (λ xs. a ∷ xs) (range_both (a + 1) n m ∙ ap (λ b. range_with_len (a + 1) n ++ range_with_len b m) e)

pub flat_alike : (f g : ℕ → List Vertex) (a n : ℕ) → ((q : ℕ) → a ≤ q → q < a + n → f q ≡ g q) → flat_map f (range_with_len a n) ≡ flat_map g (range_with_len a n)
flat_alike f g a zero h = refl
flat_alike f g a (suc n) h = λ i. h a (omega arith) (omega arith) i ++ flat_alike f g (a + 1) n (λ q low high. h q (omega arith) (omega arith)) i

-- no vertices of any partition
abbrev nothing : ℕ → List Vertex
nothing q = []

flat_none : (ns : List ℕ) → flat_map nothing ns ≡ []
flat_none [] = refl
flat_none (n ∷ ns) = flat_none ns

-- ---- sides

module _ (names : List Name) (side : List Vertex) where
  -- what is said of these vertices names those of partition q
  abbrev Names : List Vertex → ℕ → Type 0
  Names vs q = named_vertices names (list_any is_up vs) (list_any is_down vs) (flat_map (zone_named names) vs) q ≡ part side q

  one_side : (place count : ℕ) (vs : List Vertex) (later : List Said) → 0 < count → place + count ≤ 256 → ((q : ℕ) → place ≤ q → q < place + count → Names vs q) →
      side_in names (part_said names place (place + count - 1) vs ++ later) ≡ flat_map (part side) (range_with_len place count) ++ side_in names later
  one_side place count [] later some low h =
      ap (λ xs. xs ++ side_in names later) (sym (flat_none (range_with_len place count)) ∙ flat_alike nothing (part side) place count h)
  one_side place count (v ∷ vs) later some low h =
      let last : ℕ = place + count - 1 in
      let many : suc last - place ≡ count = omega arith in
      let f : ℕ → List Vertex = named_vertices names (list_any is_up (v ∷ vs)) (list_any is_down (v ∷ vs)) (flat_map (zone_named names) (v ∷ vs)) in
      ap (λ xs. xs ++ side_in names later)
      (ap (λ t. flat_map f (if t then range_with_len place (suc last - place) else [])) (le-leb last 255 (omega arith))
      ∙ ap (λ n. flat_map f (range_with_len place n)) many
      ∙ flat_alike f (part side) place count h)

  sides_back : ((v q : ℕ) → v < 256 → q < 256 → side_words names side v ≡ side_words names side q → Names (part side v) q) →
      (place : ℕ) (rs : List (Run ℕ)) (tail : List Said) → Cover (side_words names side) place rs → place + total rs ≤ 256 →
      side_in names (runs_said (side_said names side) place rs ++ tail) ≡ flat_map (part side) (range_with_len place (total rs)) ++ side_in names tail
  sides_back each place [] tail h low = refl
  sides_back each place (r ∷ rs) tail h low =
      let more : List Said = runs_said (side_said names side) (place + r.count) rs in
      let value : r.value ≡ place = h.0.1 in
      let some : 0 < r.count = h.0.0 in
      let first : List Said = part_said names place (place + r.count - 1) (part side r.value) in
      let rest = sides_back each (place + r.count) rs tail h.2 (omega arith) in
      ap (side_in names) (append_assoc first more tail)
      ∙ one_side place r.count (part side r.value) (more ++ tail) some (omega arith) (λ q from to. each r.value q (omega arith) (omega arith) (h.1 q from to))
      ∙ ap (λ xs. flat_map (part side) (range_with_len place r.count) ++ xs) rest
      ∙ sym (append_assoc (flat_map (part side) (range_with_len place r.count)) (flat_map (part side) (range_with_len (place + r.count) (total rs))) (side_in names tail))
      ∙ ap (λ xs. xs ++ side_in names tail)
      (sym (flat_map-append (part side) (range_with_len place r.count) (range_with_len (place + r.count) (total rs))) ∙ ap (flat_map (part side)) (sym (range_both place r.count (total rs))))

  range_back : (n : ℕ) (tail : List Said) → n ≤ 256 → ((v q : ℕ) → v < 256 → q < 256 → side_words names side v ≡ side_words names side q → Names (part side v) q) →
      side_in names (runs_said (side_said names side) 0 (runs (same_words names side) (range_with_len 0 n)) ++ tail) ≡ flat_map (part side) (range_with_len 0 n) ++ side_in names tail
  range_back n tail low each =
      let rs : List (Run ℕ) = runs (same_words names side) (range_with_len 0 n) in
      let all : total rs ≡ n = runs_total (same_words names side) (range_with_len 0 n) ∙ range_length 0 n in
      sides_back each 0 rs tail (runs_cover (side_words names side) 0 n) (omega arith) ∙ ap (λ m. flat_map (part side) (range_with_len 0 m) ++ side_in names tail) all

  whole_back : (tail : List Said) → ((v q : ℕ) → v < 256 → q < 256 → side_words names side v ≡ side_words names side q → Names (part side v) q) →
      side_in names (sides_said names side ++ tail) ≡ parts side ++ side_in names tail
  unfolding sides_said parts
  whole_back tail each = range_back 256 tail (omega arith) each

few_back : (ns : List ℕ) → AllByRecursion (λ n. n ≤ 64) ns → nodes_among ns ≡ ns
few_back [] h = refl
few_back (n ∷ ns) h = ap (λ t. cond t (n ∷ nodes_among ns) (nodes_among ns)) (le-leb n 64 h.0) ∙ ap (λ xs. n ∷ xs) (few_back ns h.1)

-- ---- the lines of a layout

more_both : (a b : List Said) → AllByRecursion (λ s. is_more s ≡ true) a → more_lines (a ++ b) ≡ a ++ more_lines b
more_both [] b h = refl
more_both (s ∷ a) b h = ap (λ t. if t then s ∷ more_lines (a ++ b) else []) h.0 ∙ ap (λ xs. s ∷ xs) (more_both a b h.1)

all_more : (shown : Applied) → AllByRecursion (λ s. is_more s ≡ true) (more_said shown)
all_more shown = of_kinds (λ s. is_more s ≡ true) shown refl (λ first last set. refl) refl (λ first last up down zones. refl) refl

module _ (one : (line : List ℕ) (s other : Said) → Says line s → Says line other → s ≡ other) (shown : Applied) (h : IsOrderly shown) (ranked : IsRanked shown.certified.cut.side) where
  abbrev names : List Name
  names = zone_names shown.roles.list

  abbrev side : List Vertex
  side = shown.certified.cut.side

  abbrev sets : List NodeSet
  sets = shown.certified.sets.sets

  each_names : (v q : ℕ) → v < 256 → q < 256 → side_words names side v ≡ side_words names side q → Names names side (part side v) q
  each_names v q v_in q_in e =
      let same : said_of names 0 0 (part side v) ≡ said_of names 0 0 (part side q) = same_said names h.names one v q (part side v) (part side q) (h.parts v v_in) (h.parts q q_in) e in
      ap (λ s. named_by s q) same ∙ own_back names (names_once shown.roles.list) q (part side q) (h.parts q q_in)
    where
      named_by : Said → ℕ → List Vertex
      named_by (said.Side first last up down zones) p = named_vertices names up down zones p
      named_by s p = []

  module _ (rest : List Said) where
    -- the lines from the cut on
    abbrev tail : List Said
    tail = said.Cut shown.certified.cut.size shown.certified.cut.weight ∷ (sides_said names side ++ said.Nodes (nodes_on side) ∷ rest)

    abbrev lines : List Said
    lines = said.Redundancy shown.certified.r ∷ (sets_said sets ++ tail)

    lines_are : more_lines (more_said shown ++ rest) ≡ said.Redundancy shown.certified.r ∷ (sets_said sets ++ (said.Cut shown.certified.cut.size shown.certified.cut.weight ∷ (sides_said names side ++ said.Nodes (nodes_on side) ∷ more_lines rest)))
    lines_are =
        let cut : Said = said.Cut shown.certified.cut.size shown.certified.cut.weight in
        let nodes : Said = said.Nodes (nodes_on side) in
        more_both (more_said shown) rest (all_more shown)
        ∙ ap (λ xs. said.Redundancy shown.certified.r ∷ xs)
        (append_assoc (sets_said sets ++ cut ∷ sides_said names side) (nodes ∷ []) (more_lines rest)
        ∙ append_assoc (sets_said sets) (cut ∷ sides_said names side) (nodes ∷ more_lines rest))

    sets_are : sets_from 0 lines ≡ sets
    sets_are =
        let rs : List (Run NodeSet) = runs (pointwise nat_eq) sets in
        let all : total rs ≡ 256 = runs_total (pointwise nat_eq) sets ∙ shown.certified.sets.whole in
        sets_back 0 rs tail (runs_are (pointwise nat_eq) IsOurs sets (ours sets h.sets shown.certified.sets.ascending)) (omega arith) (λ n. refl)
        ∙ runs_whole (pointwise nat_eq) same_true sets

    side_is : Source ∷ side_in names lines ≡ side
    side_is =
        ap (λ xs. Source ∷ xs)
        (past_sets names 0 (runs (pointwise nat_eq) sets) tail
        ∙ whole_back names side (said.Nodes (nodes_on side) ∷ rest) each_names
        ∙ ap (λ ns. parts side ++ map Node ns) (few_back (nodes_on side) ranked.few))
        ∙ sym ranked.order

  pub prints : (rest : List Said) → printed shown.roles.list shown.certified.size (more_said shown ++ rest) ≡ record { size = shown.certified.size; sets = sets; side = side }
  prints rest =
      ap (λ (xs : List Said). record { size = shown.certified.size; sets = sets_from 0 xs; side = Source ∷ side_in names xs }) (lines_are rest)
      ∙ (λ i. record { size = shown.certified.size; sets = sets_are (more_lines rest) i; side = side_is (more_lines rest) i })
