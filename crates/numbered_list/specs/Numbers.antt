-- Lists of items whose numbers ascend.
use Rattle.std.specs.Prelude.{◌≡◌, ◌<◌, ◌≤◌, ℕ, ◌+◌, ◌^◌, List, [], ◌∷◌, map}
use Rattle.std.specs.List.{AllByRecursion}
use Rattle.crdt_core.specs.declared.memory.Memory.{Memory}
use Rattle.crdt_core.specs.declared.memory.Memory.TheVariants.{Want, Full}

-- each of these is above the one before it, and the first above `low`
abbrev pub Rises : ℕ → List ℕ → Type 0
Rises low [] = Unit {0}
Rises low (n ∷ ns) = (low < n) × Rises n ns

-- the numbers of the items ascend from 1, and none is above the last that was given
pub record AreNumbered {T : Type 0} (number_of : T → ℕ) (last : ℕ) (items : List T) : Type 0 where
  pub rises : Rises 0 (map number_of items)
  pub given : AllByRecursion (λ n. n ≤ last) (map number_of items)

-- why no next number is given: for want of memory, or because it would be 2 ^ 64
abbrev pub RefusesNumber : ℕ → Memory → Type 0
RefusesNumber last Want = last + 1 < 2 ^ 64
RefusesNumber last Full = last + 1 ≡ 2 ^ 64
