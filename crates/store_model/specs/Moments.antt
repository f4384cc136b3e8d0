-- The moments of a run: after each act, and within a drain after each delivery.
use Rattle.std.specs.Prelude.{◌≡◌, ◌≤◌, ℕ, List, [], ◌∷◌, ◌++◌}
use Rattle.store_model.specs.Acts.{Act, drain}

-- these acts lead to a moment of a run: they are its first ones, and if a drain follows, some of its deliveries may have been made
pub data IsMoment (acts : List Act) : List Act → Type 0 where
  between : (before after : List Act) → acts ≡ before ++ after → IsMoment acts before
  within : (before after : List Act) (n k : ℕ) → acts ≡ before ++ drain n ∷ after → k ≤ n → IsMoment acts (before ++ drain k ∷ [])

-- this is so at each moment
abbrev pub AtEachMoment : (List Act → Type 0) → List Act → Type 0
AtEachMoment P acts = (moment : List Act) → IsMoment acts moment → P moment
