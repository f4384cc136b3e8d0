-- A test that all values of entries pass.
use Rattle.std.specs.List.{list_all}
use Rattle.std.specs.Prelude.{Bool, List}

-- each value passes
abbrev pub passes : {K V : Type 0} → (V → Bool) → List (K × V) → Bool
passes test = list_all (λ e. test e.1)
