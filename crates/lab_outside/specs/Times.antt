-- The times that a clock gives, where they are told.
use Rattle.std.specs.Prelude.{◌≡◌, ℕ, List, [], ◌∷◌, Option, Some, None, ⊤}

-- the first of the times is given, and the last one repeats; a clock that tells its times has one
abbrev pub GivesTime : Option (List ℕ) → ℕ → Option (List ℕ) → Type 0
GivesTime None time new = ⊤
GivesTime (Some []) time new = ⊥
GivesTime (Some (t ∷ [])) time new = (time ≡ t) × (new ≡ Some (t ∷ []))
GivesTime (Some (t ∷ u ∷ us)) time new = (time ≡ t) × (new ≡ Some (u ∷ us))
