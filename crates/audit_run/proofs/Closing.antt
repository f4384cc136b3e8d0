-- A line feed at a text's end adds no line, where there was none.
use Rattle.std.proofs.Common.{◌≡◌, ℕ, suc, ◌-◌, ◌≤◌, Bool, true, false, not, IsTrue, slice_index_or, ◌==◌, if◌then◌else◌, List, [], ◌∷◌, ◌++◌, length, refl, ap, subst, arith}
use Rattle.text_model.specs.Grammar.{lines_of, onto_first}
use Rattle.audit_play.proofs.Whole.{ends}

pub closed_same : (b : ℕ) (bs : List ℕ) → ends (b == 10) bs ≡ false → lines_of ((b ∷ bs) ++ 10 ∷ []) ≡ lines_of (b ∷ bs)
closed_same b [] h = rw h refl
closed_same b (c ∷ cs) h =
    elim (b == 10) as (λ t. (if t then [] ∷ lines_of ((c ∷ cs) ++ 10 ∷ []) else onto_first b (lines_of ((c ∷ cs) ++ 10 ∷ []))) ≡ (if t then [] ∷ lines_of (c ∷ cs) else onto_first b (lines_of (c ∷ cs)))) [
      | true ↦ ap (λ ls. [] ∷ ls) (closed_same c cs h)
      | false ↦ ap (onto_first b) (closed_same c cs h)
    ]

is_false : (t : Bool) → IsTrue (not t) → t ≡ false
is_false true h = let no : false ≡ true = h in cc
is_false false h = refl

open_at_end : (b : ℕ) (bs : List ℕ) → IsTrue (not (slice_index_or (b ∷ bs) (length bs) 0 == 10)) → ends (b == 10) bs ≡ false
open_at_end b [] h = is_false (b == 10) h
open_at_end b (c ∷ cs) h = open_at_end c cs h

-- where the last byte is no line feed
pub closed_lines : (text : List ℕ) → 1 ≤ length text → IsTrue (not (slice_index_or text (length text - 1) 0 == 10)) → lines_of (text ++ 10 ∷ []) ≡ lines_of text
closed_lines [] some h = absurd (omega arith)
closed_lines (b ∷ bs) some h = let last : suc (length bs) - 1 ≡ length bs = omega arith in closed_same b bs (open_at_end b bs (subst (λ n. IsTrue (not (slice_index_or (b ∷ bs) n 0 == 10))) last h))
