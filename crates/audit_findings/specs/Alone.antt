-- What leaves an audit one thing to find.
use Rattle.std.specs.Prelude.{◌≡◌, ℕ, List, ◌++◌}
use Rattle.cluster_machine.specs.Choices.{Decision}
use Rattle.cluster_machine.specs.Step.{given, none_given}
use Rattle.text_model.specs.Grammar.{lines_of}
use Rattle.text_model.specs.Transcript.{refusal_text}

-- a layout of one size each time, or a refusal of the same words
abbrev pub AreOneAnswer : Decision → Decision → Type 0
AreOneAnswer (given l shown) (given m other) = shown.certified.size ≡ other.certified.size
AreOneAnswer (none_given refusal) (none_given other) = refusal_text refusal ≡ refusal_text other
AreOneAnswer choice other = ⊥

-- the text is whole lines: what follows it begins a line of its own
abbrev pub IsWhole : List ℕ → Type 0
IsWhole text = (rest : List ℕ) → lines_of (text ++ rest) ≡ lines_of text ++ lines_of rest
