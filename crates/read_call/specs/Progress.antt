-- How far answers have brought a call.
use Rattle.std.specs.Prelude.{ℕ, Option, Some, None, List, [], ◌∷◌}
use Rattle.quorum_model.specs.Answers.{answer_of_other}
use Rattle.read_call.specs.declared.progress.Progress.{Progress}
use Rattle.read_call.specs.declared.progress.Progress.TheVariants.{Asked, Answered, Over}

-- after a first answer, where another node has answered or none
abbrev pub progress_from : {A : Type 0} → ℕ × A → Option A → Progress A
progress_from first None = Answered first.0 first.1
progress_from first (Some other) = Over

-- how far all answers together have brought it
abbrev pub progress_of : {A : Type 0} → List (ℕ × A) → Progress A
progress_of [] = Asked
progress_of (first ∷ rest) = progress_from first (answer_of_other first.0 rest)
