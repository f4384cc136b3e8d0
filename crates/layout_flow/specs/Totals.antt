-- How many copies the nodes have room for, at most one of a partition at each, and so many of a partition in each zone.
use Rattle.std.specs.Prelude.{ℕ, ◌*◌, min, List}
use Rattle.std.specs.List.{sum_by}
use Rattle.layout_roles.specs.declared.role.Role.{Role}
use Rattle.layout_roles.specs.Fits.{room}

-- the sum of what each zone has room for, where it gets so many copies of each partition at most
abbrev pub total : {X : Type 0} → ℕ → (X → ℕ) → ℕ → List X → ℕ
total count copies each zones = sum_by (λ zone. min (each * count) (copies zone)) zones

-- what the nodes of a zone have room for, one copy of each of so many partitions at most
abbrev pub copies_in : ℕ → ℕ → List Role → ℕ
copies_in count size zone = sum_by (λ role. min count (room size role)) zone
