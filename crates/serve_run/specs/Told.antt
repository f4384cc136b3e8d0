-- What clock and link tell, before and after.
use Rattle.std.specs.Prelude.{ℕ, List, Option, IfSome}
use Rattle.lab_outside.specs.Connection.{Connection}

-- what clock and link tell before and after: times to be given, connections to come, and connections that came
pub record Told : Type 0 where
  pub times : Option (List ℕ)
  pub times_after : Option (List ℕ)
  pub coming : Option (List (List ℕ))
  pub coming_after : Option (List (List ℕ))
  pub past : List Connection
  pub past_after : List Connection

-- clock and link tell this
abbrev pub told : Option (List ℕ) → Option (List ℕ) → Option (List (List ℕ)) → Option (List (List ℕ)) → List Connection → List Connection → Told
told times times' coming coming' past past' = record { times = times; times_after = times'; coming = coming; coming_after = coming'; past = past; past_after = past' }

-- so it is of the times and the connections to come, where both are told
abbrev pub WhereTold : Told → (List ℕ → List (List ℕ) → Type 0) → Type 0
WhereTold t P = IfSome t.times (λ times. IfSome t.coming (λ coming. P times coming))
