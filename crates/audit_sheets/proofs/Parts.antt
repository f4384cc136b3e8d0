-- The vertices of a partition in order: their words, what is said of them, and which vertices that names.
use Rattle.std.proofs.Common.{◌≡◌, ℕ, zero, suc, ◌+◌, ◌^◌, ◌<◌, ◌≤◌, Bool, true, false, not, cond, IsTrue, Some, None, List, [], ◌∷◌, ◌++◌, length, map, get_or, refl, sym, ap, ◌∙◌, subst, arith, append_assoc, append-nil, inl, inr, lt-ltb, nat_lt}
use Rattle.std.specs.Prelude.{codes, decimal, flat_map}
use Rattle.std.specs.List.{AllByRecursion, list_all, list_any, join_with_byte, prefix_len, count_by}
use Rattle.std.proofs.lemmas.Bool.{cases_Bool, cond-true, and_from}
use Rattle.std.proofs.lemmas.List.Sums.{AllPass-from_list_all}
use Rattle.layout_roles.specs.declared.vertex.Vertex.{Vertex}
use Rattle.layout_roles.specs.declared.vertex.Vertex.TheVariants.{Up, Down, Zone}
use Rattle.layout_roles.specs.Names.{is_zone_name}
use Rattle.layout_roles.specs.Zones.{Name, same_name}
use Rattle.layout_roles.specs.Text.{word, number, vertex_word}
use Rattle.layout_flow.proofs.Zones.{count-cons, count_at, same_itself}
use Rattle.layout_flow.proofs.Sums.{yes}
use Rattle.audit_model.specs.declared.said.Said.{Said}
use Rattle.audit_model.specs.declared.said.Said.TheVariants as said
use Rattle.audit_model.specs.Lines.{word_where, zone_word, words_of, IsInRange, Says}
use Rattle.audit_model.specs.Printed.{where_is, zone_at, zone_vertex, named_vertices}
use Rattle.audit_sheets.specs.Sheets.{is_up, is_down, zone_named, in_part, IsPart}

-- ---- words of a line

pub joined : (w : List ℕ) (ws : List (List ℕ)) → join_with_byte 32 (w ∷ ws) ≡ w ++ flat_map word ws
joined w [] = sym (append-nil w)
joined w (v ∷ vs) = ap (λ t. w ++ 32 ∷ t) (joined v vs)

-- a word, two numbers, and more words
pub two_then : (w : List ℕ) (a b : ℕ) (ws : List (List ℕ)) → w ++ number a ++ number b ++ flat_map word ws ≡ join_with_byte 32 (w ∷ decimal a ∷ decimal b ∷ ws)
two_then w a b ws =
    append_assoc (w ++ number a) (number b) (flat_map word ws) ∙ append_assoc w (number a) (number b ++ flat_map word ws) ∙ sym (joined w (decimal a ∷ decimal b ∷ ws))

-- ---- vertices in order

-- the words of vertices
abbrev pub vertex_words : List Name → List Vertex → List ℕ
vertex_words names vs = flat_map (λ vertex. word (vertex_word names vertex)) vs

-- what is said of vertices, even where there are none
abbrev pub said_of : List Name → ℕ → ℕ → List Vertex → Said
said_of names first last vs = said.Side first last (list_any is_up vs) (list_any is_down vs) (flat_map (zone_named names) vs)

-- the words of what is said of them
abbrev said_words : List Name → List Vertex → List ℕ
said_words names vs = flat_map word (word_where (list_any is_up vs) (codes "up") ++ word_where (list_any is_down vs) (codes "down") ++ map zone_word (flat_map (zone_named names) vs))

-- the names of zones
abbrev names_of : List Name → List ℕ → List Name
names_of names zones = map (λ i. get_or names i []) zones

module _ (names : List Name) (p : ℕ) where
  zones_not_up : (zones : List ℕ) → list_any is_up (map (Zone p) zones) ≡ false
  zones_not_up [] = refl
  zones_not_up (z ∷ zs) = zones_not_up zs

  zones_not_down : (zones : List ℕ) → list_any is_down (map (Zone p) zones) ≡ false
  zones_not_down [] = refl
  zones_not_down (z ∷ zs) = zones_not_down zs

  zones_named : (zones : List ℕ) → flat_map (zone_named names) (map (Zone p) zones) ≡ names_of names zones
  zones_named [] = refl
  zones_named (z ∷ zs) = ap (λ ns. get_or names z [] ∷ ns) (zones_named zs)

  zones_words : (zones : List ℕ) → vertex_words names (map (Zone p) zones) ≡ flat_map word (map zone_word (names_of names zones))
  zones_words [] = refl
  zones_words (z ∷ zs) = ap (λ t. word (zone_word (get_or names z [])) ++ t) (zones_words zs)

  up_is : (up down : Bool) (zones : List ℕ) → list_any is_up (in_part p up down zones) ≡ up
  up_is true down zones = refl
  up_is false true zones = zones_not_up zones
  up_is false false zones = zones_not_up zones

  down_is : (up down : Bool) (zones : List ℕ) → list_any is_down (in_part p up down zones) ≡ down
  down_is true true zones = refl
  down_is true false zones = zones_not_down zones
  down_is false true zones = refl
  down_is false false zones = zones_not_down zones

  named_are : (up down : Bool) (zones : List ℕ) → flat_map (zone_named names) (in_part p up down zones) ≡ names_of names zones
  named_are true true zones = zones_named zones
  named_are true false zones = zones_named zones
  named_are false true zones = zones_named zones
  named_are false false zones = zones_named zones

  words_are : (up down : Bool) (zones : List ℕ) →
      vertex_words names (in_part p up down zones) ≡ flat_map word (word_where up (codes "up") ++ word_where down (codes "down") ++ map zone_word (names_of names zones))
  words_are true true zones = ap (λ t. word (codes "up") ++ (word (codes "down") ++ t)) (zones_words zones)
  words_are true false zones = ap (λ t. word (codes "up") ++ t) (zones_words zones)
  words_are false true zones = ap (λ t. word (codes "down") ++ t) (zones_words zones)
  words_are false false zones = zones_words zones

  in_order : (up down : Bool) (zones : List ℕ) → vertex_words names (in_part p up down zones) ≡ said_words names (in_part p up down zones)
  in_order up down zones =
      words_are up down zones
      ∙ sym (λ i. flat_map word (word_where (up_is up down zones i) (codes "up") ++ word_where (down_is up down zones i) (codes "down") ++ map zone_word (named_are up down zones i)))

  module _ (count : ℕ) (vs : List Vertex) (h : IsPart count p vs) where
    -- the words are those of what is said
    pub words_say : vertex_words names vs ≡ said_words names vs
    words_say = subst (λ us. vertex_words names us ≡ said_words names us) (sym h.whole) (in_order h.up h.down h.zones)

    pub spelled : (first last : ℕ) → codes "c" ++ number first ++ number last ++ vertex_words names vs ≡ join_with_byte 32 (words_of (said_of names first last vs))
    spelled first last =
        ap (λ t. codes "c" ++ number first ++ number last ++ t) words_say
        ∙ two_then (codes "c") first last (word_where (list_any is_up vs) (codes "up") ++ word_where (list_any is_down vs) (codes "down") ++ map zone_word (flat_map (zone_named names) vs))

-- ---- their range

all_named : (names : List Name) → list_all is_zone_name names ≡ true → (zones : List ℕ) → AllByRecursion (λ i. i < length names) zones → list_all is_zone_name (names_of names zones) ≡ true
all_named names h [] k = refl
all_named names h (z ∷ zs) k =
    and_from (is_zone_name (get_or names z [])) (list_all is_zone_name (names_of names zs)) (AllPass-from_list_all is_zone_name names h z [] k.0) (all_named names h zs k.1)

module _ (names : List Name) (in_grammar : IsTrue (list_all is_zone_name names)) where
  pub said_in_range : (first last p : ℕ) (vs : List Vertex) → first < 2 ^ 64 → last < 2 ^ 64 → IsPart (length names) p vs → IsInRange (said_of names first last vs)
  said_in_range first last p vs low high h =
      let zones : list_all is_zone_name (flat_map (zone_named names) vs) ≡ true =
      ap (λ us. list_all is_zone_name (flat_map (zone_named names) us)) h.whole
      ∙ ap (λ ns. list_all is_zone_name ns) (named_are names p h.up h.down h.zones)
      ∙ all_named names in_grammar h.zones h.named in
      ((low, (high, tt)), zones)

  -- vertices of two partitions that have the same words are the same but for the partition
  module _ (one : (line : List ℕ) (s other : Said) → Says line s → Says line other → s ≡ other) where
    pub same_said : (p q : ℕ) (vs us : List Vertex) → IsPart (length names) p vs → IsPart (length names) q us → vertex_words names vs ≡ vertex_words names us → said_of names 0 0 vs ≡ said_of names 0 0 us
    same_said p q vs us h k e =
        one (join_with_byte 32 (words_of (said_of names 0 0 vs))) (said_of names 0 0 vs) (said_of names 0 0 us)
        (record { spelled = refl; in_range = said_in_range 0 0 p vs (omega arith) (omega arith) h })
        (record {
          spelled = sym (spelled names p (length names) vs h 0 0) ∙ (ap (λ t. codes "c" ++ number 0 ++ number 0 ++ t) e ∙ spelled names q (length names) us k 0 0);
          in_range = said_in_range 0 0 q us (omega arith) (omega arith) k;
        })

-- ---- which vertices it names

-- a name's first place is its own, where it is there once
first_place : (name : Name) (names : List Name) (z : ℕ) → z < length names → same_name name (get_or names z []) ≡ true → count_by (same_name name) names ≤ 1 → prefix_len (λ x. not (same_name name x)) names ≡ z
first_place name [] z h e once = absurd (omega arith)
first_place name (x ∷ xs) zero h e once = ap (λ b. cond (not b) (1 + prefix_len (λ x. not (same_name name x)) xs) 0) e
first_place name (x ∷ xs) (suc z) h e once =
    let more = count-cons (same_name name) x xs in
    elim (cases_Bool (same_name name x)) [
      | inl here ↦
          let there = count_at (same_name name) xs z [] (omega arith) e in
          let one = yes (same_name name x) 1 here in
          absurd (omega arith)
      | inr other ↦
          let rest = first_place name xs z (omega arith) e (omega arith) in
          ap (λ b. cond (not b) (1 + prefix_len (λ x. not (same_name name x)) xs) 0) other ∙ omega arith
    ]

module _ (names : List Name) (once : (name : Name) → count_by (same_name name) names ≤ 1) where
  own_place : (z : ℕ) → z < length names → zone_at names (get_or names z []) ≡ Some z
  own_place z h =
      let name : Name = get_or names z [] in
      ap (λ n. cond (nat_lt n (length names)) (Some n) None) (first_place name names z h (same_itself name) (once name))
      ∙ cond-true (nat_lt z (length names)) (Some z) None (lt-ltb z (length names) h)

  module _ (q : ℕ) where
    zones_back : (zones : List ℕ) → AllByRecursion (λ i. i < length names) zones → flat_map (zone_vertex names q) (names_of names zones) ≡ map (Zone q) zones
    zones_back [] h = refl
    zones_back (z ∷ zs) h = λ i. (elim (own_place z h.0 i) as (λ o. List Vertex) [ None ↦ [] | Some i ↦ Zone q i ∷ [] ]) ++ zones_back zs h.1 i

    -- what is said of vertices names them
    pub own_back : (vs : List Vertex) → IsPart (length names) q vs → named_vertices names (list_any is_up vs) (list_any is_down vs) (flat_map (zone_named names) vs) q ≡ vs
    own_back vs h =
        let Goal : List Vertex → Type 0 = λ us. named_vertices names (list_any is_up us) (list_any is_down us) (flat_map (zone_named names) us) q ≡ us in
        subst Goal (sym h.whole)
        ((λ i. named_vertices names (up_is names q h.up h.down h.zones i) (down_is names q h.up h.down h.zones i) (named_are names q h.up h.down h.zones i) q)
        ∙ ap (λ us. where_is h.up (Up q) ++ where_is h.down (Down q) ++ us) (zones_back h.zones h.named))
