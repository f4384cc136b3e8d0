-- What the marks of all partitions say: whether each has two, and which nodes are waited for.
use Rattle.std.proofs.Common.{◌≡◌, ℕ, suc, ◌+◌, Bool, true, false, cond, ◌&&◌, ◌==◌, List, [], ◌∷◌, map, not, length, refl, ap, ◌∙◌, zero-add, arith}
use Rattle.std.specs.Prelude.{if◌then◌else◌}
use Rattle.std.specs.List.{filter}
use Rattle.std.specs.Map.{values_of}
use Rattle.std.proofs.Math.Dec.{eqb-suc-zero}
use Rattle.std.proofs.lemmas.List.Sums.{sum_by-append}
use Rattle.quorum_model.specs.Quorum.{is_among}
use Rattle.sync_round.specs.Round.{missing, confirmed, is_complete, open_parts}
use Rattle.quorum_tally.specs.Marks.{three, nodes_of, has_two, IsRight}
use Rattle.sync_round.specs.Parts.{Entries, missing_of, lacking_of}
use Rattle.quorum_tally.specs.declared.marks.Marks.{Marks}
use Rattle.quorum_tally.specs.declared.marks.Mark.{Mark}
use Rattle.quorum_tally.proofs.Confirming.{two_shown}
use Rattle.sync_round.proofs.Ordering.{shown}
use Rattle.sync_round.proofs.Confirming.{Told}

none_and_rest : (b : Bool) (n : ℕ) → (cond (not b) 1 0 + n == 0) ≡ (b && (n == 0))
none_and_rest true n = rw (zero-add n) refl
none_and_rest false n = let e : 1 + n ≡ suc n = omega arith in rw e (eqb-suc-zero n)

lacking_more : (e : ℕ × Marks) (es : Entries) → lacking_of (e ∷ es) ≡ cond (not (has_two e.1)) 1 0 + lacking_of es
lacking_more e es = sum_by-append (λ s. cond (not (has_two s)) 1 0) (e.1 ∷ []) (values_of es) ∙ rw (zero-add (cond (not (has_two e.1)) 1 0)) refl

pub none_lacks : (own : ℕ) (told : List (ℕ × ℕ)) (es : Entries) → Told own told es → (lacking_of es == 0) ≡ is_complete (map shown es) own told
none_lacks own told [] a = refl
none_lacks own told (e ∷ es) a =
    ap (λ n. n == 0) (lacking_more e es)
    ∙ none_and_rest (has_two e.1) (lacking_of es)
    ∙ λ i. two_shown (confirmed own told e.0) e.1 a.0 i && none_lacks own told es a.1 i

-- the nodes that have no mark
abbrev picks : List ℕ → List Bool → List ℕ
picks [] bs = []
picks (n ∷ ns) [] = []
picks (n ∷ ns) (b ∷ bs) = cond (not b) (n ∷ picks ns bs) (picks ns bs)

picks_unmarked : (ms : List Mark) → map (λ m. m.node) (filter (λ m. not m.is_confirmed) ms) ≡ picks (map (λ m. m.node) ms) (map (λ m. m.is_confirmed) ms)
picks_unmarked [] = refl
picks_unmarked (m ∷ ms) =
    elim m.is_confirmed as (λ b. map (λ m. m.node) (cond (not b) (m ∷ filter (λ m. not m.is_confirmed) ms) (filter (λ m. not m.is_confirmed) ms)) ≡ cond (not b) (m.node ∷ picks (map (λ m. m.node) ms) (map (λ m. m.is_confirmed) ms)) (picks (map (λ m. m.node) ms) (map (λ m. m.is_confirmed) ms))) [
      | true ↦ picks_unmarked ms
      | false ↦ ap (λ ns. m.node ∷ ns) (picks_unmarked ms)
    ]

picks_missing : (nodes set : List ℕ) → picks set (map (λ n. is_among n nodes) set) ≡ missing set nodes
picks_missing nodes [] = refl
picks_missing nodes (n ∷ set) =
    elim (is_among n nodes) as (λ b. cond (not b) (n ∷ picks set (map (λ n. is_among n nodes) set)) (picks set (map (λ n. is_among n nodes) set)) ≡ cond (not b) (n ∷ missing set nodes) (missing set nodes)) [
      | true ↦ picks_missing nodes set
      | false ↦ ap (λ ns. n ∷ ns) (picks_missing nodes set)
    ]

missing_shown : (nodes : List ℕ) (s : Marks) → IsRight nodes s → missing_of s ≡ missing (nodes_of s) nodes
missing_shown nodes s r =
    picks_unmarked (three s) ∙ ap (picks (nodes_of s)) r ∙ picks_missing nodes (nodes_of s)

-- the entries of which some node is waited for, with these nodes
abbrev pub open_of : Entries → List (ℕ × List ℕ)
open_of [] = []
open_of (e ∷ es) = if length (missing_of e.1) == 0 then open_of es else (e.0, missing_of e.1) ∷ open_of es

pub open_shown : (own : ℕ) (told : List (ℕ × ℕ)) (es : Entries) → Told own told es → open_of es ≡ open_parts (map shown es) own told
open_shown own told [] a = refl
open_shown own told (e ∷ es) a =
    let first = missing_shown (confirmed own told e.0) e.1 a.0 in
    let rest = open_shown own told es a.1 in
    λ i. if length (first i) == 0 then rest i else (e.0, first i) ∷ rest i
