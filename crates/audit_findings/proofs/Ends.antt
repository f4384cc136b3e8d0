-- The text of turns is whole lines.
use Rattle.std.proofs.Common.{◌≡◌, ℕ, ◌+◌, ◌-◌, true, false, ◌==◌, if◌then◌else◌, nat_eq, Some, List, [], ◌∷◌, ◌++◌, length, map, refl, sym, ap, ◌∙◌, append_assoc}
use Rattle.std.specs.Prelude.{codes, decimal, flat_map}
use Rattle.std.specs.Cmp.Lexicographic.{pointwise}
use Rattle.std.specs.List.{range_with_len}
use Rattle.layout_roles.specs.declared.vertex.Vertex.{Vertex}
use Rattle.layout_roles.specs.declared.certified.Certified.{Certified}
use Rattle.layout_roles.specs.declared.cut.Cut.{Cut}
use Rattle.layout_roles.specs.declared.role.Role.{Role}
use Rattle.layout_roles.specs.Zones.{Name, zone_names}
use Rattle.layout_roles.specs.Fits.{NodeSet}
use Rattle.layout_roles.specs.Runs.{Run, runs, run_lines}
use Rattle.layout_roles.specs.Text.{word, number, set_line, set_lines, side_words, side_line, side_lines, node_word, cut_line, nodes_line, cut_text, size_line, redundancy_line, layout_text}
use Rattle.cluster_machine.specs.declared.applied.Applied.{Applied}
use Rattle.cluster_machine.specs.declared.line.Line.{Line}
use Rattle.cluster_machine.specs.declared.line.Line.TheVariants as line
use Rattle.store_model.specs.declared.event.Numbered.{Numbered}
use Rattle.store_model.specs.Run.{State, Outcome}
use Rattle.store_model.specs.Events.{Turn, outcome_of}
use Rattle.text_model.specs.Grammar.{lines_of, name_of, onto_first}
use Rattle.text_model.specs.Transcript.{kind_text, done_text, end_word, version_text, size_text, digest_text, key_line, line_text, answer_text, event_text, turns_text}
use Rattle.audit_findings.specs.Alone.{IsWhole}

onto_some : (b : ℕ) (ls : List (List ℕ)) → onto_first b ls ≡ [] → ⊥
onto_some b [] e = cc
onto_some b (l ∷ ls) e = cc

-- a line feed ends a line
some_line : (w : List ℕ) → lines_of (w ++ 10 ∷ []) ≡ [] → ⊥
some_line [] e = cc
some_line (b ∷ bs) e =
    let later : List (List ℕ) = lines_of (bs ++ 10 ∷ []) in
    elim (b == 10) as (λ t. (if t then [] ∷ later else onto_first b later) ≡ [] → ⊥) [
      | true ↦ λ no. cc
      | false ↦ λ no. onto_some b later no
    ] e

onto_both : (b : ℕ) (ls ms : List (List ℕ)) → (ls ≡ [] → ⊥) → onto_first b (ls ++ ms) ≡ onto_first b ls ++ ms
onto_both b [] ms some = absurd (some refl)
onto_both b (l ∷ ls) ms some = refl

pub line_whole : (w : List ℕ) → IsWhole (w ++ 10 ∷ [])
line_whole [] rest = refl
line_whole (b ∷ bs) rest =
    let all : List (List ℕ) = lines_of ((bs ++ 10 ∷ []) ++ rest) in
    let later : List (List ℕ) = lines_of (bs ++ 10 ∷ []) in
    elim (b == 10) as (λ t. (if t then [] ∷ all else onto_first b all) ≡ (if t then [] ∷ later else onto_first b later) ++ lines_of rest) [
      | true ↦ ap (λ ls. [] ∷ ls) (line_whole bs rest)
      | false ↦ ap (onto_first b) (line_whole bs rest) ∙ onto_both b later (lines_of rest) (some_line bs)
    ]

none_whole : IsWhole []
none_whole rest = refl

pub both_whole : (a b : List ℕ) → IsWhole a → IsWhole b → IsWhole (a ++ b)
both_whole a b h k rest =
    ap lines_of (append_assoc a b rest)
    ∙ (h (b ++ rest) ∙ (ap (λ ls. lines_of a ++ ls) (k rest) ∙ (sym (append_assoc (lines_of a) (lines_of b) (lines_of rest)) ∙ ap (λ ls. ls ++ lines_of rest) (sym (h b)))))

each_whole : {A : Type 0} (f : A → List ℕ) → ((x : A) → IsWhole (f x)) → (xs : List A) → IsWhole (flat_map f xs)
each_whole f h [] = none_whole
each_whole f h (x ∷ xs) = both_whole (f x) (flat_map f xs) (h x) (each_whole f h xs)

runs_whole : {A : Type 0} (f : ℕ → ℕ → A → List ℕ) → ((first last : ℕ) (x : A) → IsWhole (f first last x)) → (place : ℕ) (rs : List (Run A)) → IsWhole (run_lines f place rs)
runs_whole f h place [] = none_whole
runs_whole f h place (r ∷ rs) =
    both_whole (f place (place + r.count - 1) r.value) (run_lines f (place + r.count) rs) (h place (place + r.count - 1) r.value) (runs_whole f h (place + r.count) rs)

-- ---- layouts

set_whole : (first last : ℕ) (set : NodeSet) → IsWhole (set_line first last set)
set_whole first last set = line_whole (codes "p" ++ number first ++ number last ++ flat_map number set)

sets_whole : (sets : List NodeSet) → IsWhole (set_lines sets)
unfolding set_lines
sets_whole sets = runs_whole set_line set_whole 0 (runs (pointwise nat_eq) sets)

side_whole : (first last : ℕ) (w : List ℕ) → IsWhole (side_line first last w)
side_whole first last [] = none_whole
side_whole first last (b ∷ w) = line_whole (codes "c" ++ number first ++ number last ++ (b ∷ w))

sides_whole : (names : List Name) (side : List Vertex) → IsWhole (side_lines names side)
unfolding side_lines
sides_whole names side = runs_whole side_line side_whole 0 (runs (pointwise nat_eq) (map (side_words names side) (range_with_len 0 256)))

nodes_whole : (side : List Vertex) → IsWhole (nodes_line side)
unfolding nodes_line
nodes_whole side = line_whole (codes "cn" ++ flat_map node_word side)

weight_whole : (size weight : ℕ) → IsWhole (cut_line size weight)
unfolding cut_line
weight_whole size weight = line_whole (codes "cut" ++ number size ++ number weight)

cut_whole : (names : List Name) (cut : Cut) → IsWhole (cut_text names cut)
cut_whole names cut =
    both_whole (cut_line cut.size cut.weight ++ side_lines names cut.side) (nodes_line cut.side)
    (both_whole (cut_line cut.size cut.weight) (side_lines names cut.side) (weight_whole cut.size cut.weight) (sides_whole names cut.side)) (nodes_whole cut.side)

pub size_whole : (size : ℕ) → IsWhole (size_line size)
unfolding size_line
size_whole size = line_whole (codes "size" ++ number size)

redundancy_whole : (r : ℕ) → IsWhole (redundancy_line r)
unfolding redundancy_line
redundancy_whole r = line_whole (codes "redundancy" ++ number r)

layout_whole : (roles : List Role) (c : Certified) → IsWhole (layout_text roles c)
layout_whole roles c =
    both_whole (size_line c.size ++ redundancy_line c.r ++ set_lines c.sets.sets) (cut_text (zone_names roles) c.cut)
    (both_whole (size_line c.size ++ redundancy_line c.r) (set_lines c.sets.sets) (both_whole (size_line c.size) (redundancy_line c.r) (size_whole c.size) (redundancy_whole c.r)) (sets_whole c.sets.sets))
    (cut_whole (zone_names roles) c.cut)

-- ---- all lines

key_whole : (k : List ℕ × ℕ × ℕ × ℕ) → IsWhole (key_line k)
key_whole k = line_whole (codes "key" ++ word k.0 ++ word (decimal k.1 ++ 47 ∷ decimal k.2) ++ number k.3)

told_whole : (l : Line Applied) → IsWhole (line_text l)
told_whole (line.Layout shown) = layout_whole shown.roles.list shown.certified
told_whole (line.Got m) = line_whole (codes "got" ++ number m)
told_whole (line.Sent m k a b) = line_whole (codes "sent" ++ number m ++ word (kind_text k) ++ number a ++ number b)
told_whole (line.Synced n v) = line_whole (codes "synced" ++ number n ++ number v)
told_whole (line.Dropped n ts id) = line_whole (codes "dropped" ++ number n ++ word (version_text (Some (ts, id))))
told_whole (line.Done q w version size md5) = line_whole (codes "done" ++ number q ++ word (done_text w) ++ word (version_text version) ++ size_text size ++ digest_text md5)
told_whole (line.Listed q keys) =
    both_whole (codes "done" ++ number q ++ word (codes "list") ++ number (length keys) ++ 10 ∷ []) (flat_map key_line keys)
    (line_whole (codes "done" ++ number q ++ word (codes "list") ++ number (length keys))) (each_whole key_line key_whole keys)
told_whole (line.Ended q w) = line_whole (codes "ended" ++ number q ++ word (end_word w))

pub event_whole : (e : Numbered) (o : Outcome) → IsWhole (event_text e o)
event_whole e o =
    both_whole (decimal e.line ++ word (name_of e.event) ++ word (answer_text o.refused o.words) ++ 10 ∷ []) (flat_map line_text o.lines)
    (line_whole (decimal e.line ++ word (name_of e.event) ++ word (answer_text o.refused o.words))) (each_whole line_text told_whole o.lines)

pub turns_whole : (s : State) (ts : List Turn) → IsWhole (turns_text s ts)
turns_whole s [] = none_whole
turns_whole s (t ∷ ts) = both_whole (event_text t.numbered (outcome_of s t)) (turns_text (outcome_of s t).state ts) (event_whole t.numbered (outcome_of s t)) (turns_whole (outcome_of s t).state ts)
