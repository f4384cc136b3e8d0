-- What a call stands for: the nodes that it asks, and all answers so far, in order.
use Rattle.std.specs.Prelude.{◌≡◌, ℕ, Option, List}
use Rattle.std.specs.declared.vec.Vec.{Vec}
use Rattle.quorum_model.specs.declared.range.RangeAnswer.{RangeAnswer}
use Rattle.quorum_model.specs.Answers.{heard}
use Rattle.quorum_model.specs.Window.{Window}
use Rattle.read_call.specs.declared.progress.Progress.{Progress}
use Rattle.read_call.specs.declared.read.ReadCall.{ReadCall}
use Rattle.read_call.specs.declared.range.RangeCall.{RangeCall}
use Rattle.read_call.specs.Progress.{progress_of}

-- a call that asks the nodes `asked` and has come so far stands for these nodes and these answers
pub record Waits {A : Type 0} (asked : List ℕ) (progress : Progress A) (nodes : List ℕ) (answers : List (ℕ × A)) : Type 0 where
  pub same_nodes : asked ≡ nodes
  pub so_far : progress ≡ progress_of (heard nodes answers)

-- the call asks these nodes for a row, and has these answers
abbrev pub ReadStands : {R : Type 0} → ReadCall R → List ℕ → List (ℕ × Option R) → Type 0
ReadStands call nodes answers = Waits call.nodes call.progress nodes answers

-- the call asks these nodes for rows, and has these answers
abbrev pub RangeStands : {S R : Type 0} → RangeCall S R → List ℕ → List (ℕ × RangeAnswer R) → Type 0
RangeStands call nodes answers = Waits call.nodes call.progress nodes answers

-- the rows and the end that a range call gives
abbrev pub shown : {R A : Type 0} → Vec R A × Option (List ℕ) → Window R
shown given = record { rows = given.0.items; end = given.1 }
