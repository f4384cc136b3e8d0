-- A text that goes on as it was told, or parts from it in a line.
use Rattle.std.proofs.Common.{◌≡◌, ℕ, suc, ◌+◌, ◌<◌, ◌≤◌, ◌⊎◌, inl, inr, true, false, ◌==◌, ◌&&◌, if◌then◌else◌, Some, None, List, ◌∷◌, ◌++◌, length, take, drop, get_or, refl, sym, ap, ◌∙◌, subst, append_assoc, append-nil, length-append, take-append-drop, arith}
use Rattle.std.specs.Prelude.{nat_eq, count_by}
use Rattle.std.proofs.Math.Seq.{take-append-add, drop-append-add}
use Rattle.std.proofs.lemmas.Bool.{eqb-true, eq-eqb}
use Rattle.std.proofs.lemmas.List.{drop_more, drop_all, length-take-le}
use Rattle.std.proofs.lemmas.List.Sums.{common_prefix_len-le}
use Rattle.text_model.specs.Grammar.{lines_of}
use Rattle.audit_model.specs.Audit.{DifferFirst}
use Rattle.audit_play.specs.Parting.{line_at, same_from, differs_in, ends_in}
use Rattle.audit_play.proofs.Whole.{whole, feeds, feeds_counted}
use Rattle.audit_play.proofs.Parts.{Part, part_differ, part_within}
use Rattle.audit_play.proofs.Common.{so_far, begins, parts_before, parts_behind}

-- ---- what the code answers

is_less : (n m : ℕ) → n ≤ m → (n == m) ≡ false → n < m
is_less n m le other = omega (arith, λ (e : n ≡ m). clash e)
  where
    clash : n ≡ m → ⊥
    clash e = let tie : true ≡ false = sym (eq-eqb n m e) ∙ other in cc

module _ (text : List ℕ) (place : ℕ) (told : List ℕ) where
  all_told : same_from text place told ≤ length told
  all_told = (common_prefix_len-le nat_eq (drop place text) told).1

  pub none_differs : None ≡ differs_in text place told → same_from text place told ≡ length told
  none_differs h =
      let n = same_from text place told in
      elim (n == length told) as (λ t. (n == length told) ≡ t → None ≡ (if t then None else Some (line_at text (place + n))) → n ≡ length told) [
        | true ↦ λ e k. eqb-true n (length told) e
        | false ↦ λ e k. cc
      ] refl h

  pub some_differs : (k : ℕ) → Some k ≡ differs_in text place told → (same_from text place told < length told) × (k ≡ line_at text (place + same_from text place told))
  some_differs k h =
      let n = same_from text place told in
      elim (n == length told) as (λ t. (n == length told) ≡ t → Some k ≡ (if t then None else Some (line_at text (place + n))) → (n < length told) × (k ≡ line_at text (place + n))) [
        | true ↦ λ e x. cc
        | false ↦ λ e x. (is_less n (length told) all_told e, cc)
      ] refl h

  pub none_ends : None ≡ ends_in text place told → (same_from text place told ≡ length told) × (place + same_from text place told ≡ length text)
  none_ends h =
      let n = same_from text place told in
      elim (n == length told) as
      (λ t. (n == length told) ≡ t → None ≡ (if t && (place + n == length text) then None else Some (line_at text (place + n))) → (n ≡ length told) × (place + n ≡ length text)) [
        | true ↦ λ e.
            elim (place + n == length text) as (λ u. (place + n == length text) ≡ u → None ≡ (if u then None else Some (line_at text (place + n))) → (n ≡ length told) × (place + n ≡ length text)) [
              | true ↦ λ f x. (eqb-true n (length told) e, eqb-true (place + n) (length text) f)
              | false ↦ λ f x. cc
            ] refl
        | false ↦ λ e x. cc
      ] refl h

  -- the text parts from what was told, or goes on behind all of it
  pub some_ends : place ≤ length text → (k : ℕ) → Some k ≡ ends_in text place told →
      ((same_from text place told < length told) ⊎ (same_from text place told < length (drop place text))) × (k ≡ line_at text (place + same_from text place told))
  some_ends within k h =
      let n = same_from text place told in
      elim (n == length told) as
      (λ t. (n == length told) ≡ t → Some k ≡ (if t && (place + n == length text) then None else Some (line_at text (place + n))) →
      ((n < length told) ⊎ (n < length (drop place text))) × (k ≡ line_at text (place + n))) [
        | true ↦ λ e.
            elim (place + n == length text) as
            (λ u. (place + n == length text) ≡ u → Some k ≡ (if u then None else Some (line_at text (place + n))) → ((n < length told) ⊎ (n < length (drop place text))) × (k ≡ line_at text (place + n))) [
              | true ↦ λ f x. cc
              | false ↦ λ f x. (inr (goes_on f), cc)
            ] refl
        | false ↦ λ e x. (inl (is_less n (length told) all_told e), cc)
      ] refl h
    where
      goes_on : (place + same_from text place told == length text) ≡ false → same_from text place told < length (drop place text)
      goes_on f =
          let le = (common_prefix_len-le nat_eq (drop place text) told).0 in
          let both : length (take place text ++ drop place text) ≡ length (take place text) + length (drop place text) = length-append (take place text) (drop place text) in
          let all : length (take place text ++ drop place text) ≡ length text = ap (λ (l : List ℕ). length l) (take-append-drop place text) in
          let first : length (take place text) ≡ place = length-take-le place text within in
          let less = is_less (place + same_from text place told) (length text) (omega arith) f in
          omega arith

-- ---- where text and run part

module _ (T told text : List ℕ) (place : ℕ) (text_is : text ≡ T ++ drop place text) (place_is : place ≡ length T) where
  rest : List ℕ
  rest = drop place text

  -- after so many bytes that are the same
  module _ (n : ℕ) (is : n ≡ same_from text place told) where
    shared : List ℕ
    shared = T ++ take n (drop place text)

    text_parts : text ≡ shared ++ drop n (drop place text)
    unfolding shared
    text_parts = text_is ∙ ap (λ l. T ++ l) (sym (take-append-drop n (drop place text))) ∙ sym (append_assoc T (take n (drop place text)) (drop n (drop place text)))

    run_parts : T ++ told ≡ shared ++ drop n told
    unfolding shared
    run_parts =
        ap (λ l. T ++ l) (sym (take-append-drop n told)) ∙ sym (append_assoc T (take n told) (drop n told)) ∙ ap (λ l. (T ++ l) ++ drop n told) (sym (so_far (drop place text) told n is))

    taken : take (place + n) text ≡ shared
    unfolding shared
    taken = ap (λ m. take (m + n) text) place_is ∙ ap (take (length T + n)) text_is ∙ take-append-add T (drop place text) n

    line_is : line_at text (place + n) ≡ suc (feeds shared)
    line_is =
        let count : count_by (λ b. b == 10) (take (place + n) text) ≡ feeds shared = ap (count_by (λ b. b == 10)) taken ∙ sym (feeds_counted shared) in
        omega arith

    module _ (text_whole : whole text ≡ true) (run_whole : whole (T ++ told) ≡ true) where
      differ_so : Part (drop n (drop place text)) (drop n told) → DifferFirst (lines_of text) (lines_of (T ++ told)) (line_at text (place + n))
      differ_so part =
          let h =
          part_differ shared (drop n (drop place text)) (drop n told) (subst (λ l. whole l ≡ true) text_parts text_whole) (subst (λ l. whole l ≡ true) run_parts run_whole) part in
          subst (λ k. DifferFirst (lines_of text) (lines_of (T ++ told)) k) (sym line_is)
          (subst (λ l. DifferFirst (lines_of l) (lines_of (T ++ told)) (suc (feeds shared))) (sym text_parts)
          (subst (λ l. DifferFirst (lines_of (shared ++ drop n (drop place text))) (lines_of l) (suc (feeds shared))) (sym run_parts) h))

      -- within what was told
      pub differ_before : n < length told → DifferFirst (lines_of text) (lines_of (T ++ told)) (line_at text (place + n))
      differ_before lt = differ_so (parts_before (drop place text) told n is lt)

      -- behind all of it
      pub differ_behind : n < length (drop place text) → DifferFirst (lines_of text) (lines_of (T ++ told)) (line_at text (place + n))
      differ_behind lt = differ_so (parts_behind (drop place text) told n is lt)

      pub differ_within : n < length told → line_at text (place + n) ≤ length (lines_of (T ++ told))
      differ_within lt =
          let b : ℕ = get_or told n 0 in
          let more : drop n told ≡ b ∷ drop (n + 1) told = drop_more told n 0 lt in
          let parts : T ++ told ≡ shared ++ b ∷ drop (n + 1) told = run_parts ∙ ap (λ l. shared ++ l) more in
          let within = part_within shared (drop (n + 1) told) b (subst (λ l. whole l ≡ true) parts run_whole) in
          subst (λ k. k ≤ length (lines_of (T ++ told))) (sym line_is) (subst (λ l. suc (feeds shared) ≤ length (lines_of l)) (sym parts) within)

  -- all that was told stands in the text
  module _ (all : same_from text place told ≡ length told) where
    goes_on_with : drop place text ≡ told ++ drop (length told) (drop place text)
    goes_on_with = begins (drop place text) told (length told) (sym all) (omega arith)

    left : drop (place + length told) text ≡ drop (length told) (drop place text)
    left = ap (λ m. drop (m + length told) text) place_is ∙ ap (drop (length T + length told)) text_is ∙ drop-append-add T (drop place text) (length told)

    pub text_goes_on : text ≡ (T ++ told) ++ drop (place + length told) text
    text_goes_on = text_is ∙ ap (λ l. T ++ l) goes_on_with ∙ sym (append_assoc T told (drop (length told) (drop place text))) ∙ ap (λ l. (T ++ told) ++ l) (sym left)

    -- and nothing behind it
    pub text_ends : place + length told ≡ length text → text ≡ T ++ told
    text_ends ends = text_goes_on ∙ ap (λ l. (T ++ told) ++ l) (drop_all (place + length told) text (omega arith)) ∙ append-nil (T ++ told)
