-- What later answers change: nothing, once two different nodes have answered.
use Rattle.std.proofs.Common.{◌≡◌, ℕ, true, false, cond, ◌==◌, Some, None, List, [], ◌∷◌, ◌++◌, refl}
use Rattle.std.specs.Prelude.{option_map}
use Rattle.std.proofs.lemmas.Bool.{eq-eqb}
use Rattle.quorum_model.specs.Answers.{answer_of_other, first_two}

module _ {A : Type 0} where
  pub other_later : (node : ℕ) (answers more : List (ℕ × A)) (b : A) → answer_of_other node answers ≡ Some b → answer_of_other node (answers ++ more) ≡ Some b
  other_later node [] more b e = cc
  other_later node (a ∷ rest) more b e =
      elim (a.0 == node) as (λ t. cond t (answer_of_other node rest) (Some a.1) ≡ Some b → cond t (answer_of_other node (rest ++ more)) (Some a.1) ≡ Some b) [
        | true ↦ other_later node rest more b
        | false ↦ λ h. h
      ] e

  pub two_later : (answers more : List (ℕ × A)) (two : A × A) → first_two answers ≡ Some two → first_two (answers ++ more) ≡ Some two
  two_later [] more two e = cc
  two_later (a ∷ rest) more two e =
      elim (answer_of_other a.0 rest) as (λ o. answer_of_other a.0 rest ≡ o → option_map (λ b. (a.1, b)) o ≡ Some two → option_map (λ b. (a.1, b)) (answer_of_other a.0 (rest ++ more)) ≡ Some two) [
        | None ↦ λ _ h. cc
        | Some b ↦ λ is h. rw (other_later a.0 rest more b is) h
      ] refl e

  pub two_again : (node : ℕ) (a b : A) (answers : List (ℕ × A)) → first_two ((node, a) ∷ (node, b) ∷ answers) ≡ first_two ((node, a) ∷ answers)
  two_again node a b answers = rw (eq-eqb node node refl) refl
