-- What an order says of two values that it does not tell apart.
use Rattle.std.specs.Prelude.{◌≡◌}
use Rattle.std.specs.declared.cmp.Ordering.{Ordering}
use Rattle.std.specs.declared.cmp.Ordering.TheVariants.{Equal}

-- the order tells any two values apart
abbrev pub Identifies : {K : Type 0} → (K → K → Ordering) → Type 0
Identifies {K} R = (x y : K) → R x y ≡ Equal → x ≡ y
