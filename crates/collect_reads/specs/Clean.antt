-- What phases give that has no version below a collected marker.
use Rattle.std.specs.Prelude.{◌≡◌, ℕ, false, List, Some, None, ⊤}
use Rattle.std.specs.List.{AllByRecursion}
use Rattle.table_schema.specs.Words.{Words}
use Rattle.cluster_machine.specs.Node.{Reading, read, scanned}
use Rattle.machine_collects.specs.Versions.{Version, Versions}

module _ {R : Type 0} (s : Words R) (v : Versions R) (key : List ℕ) (u : Version) where
  -- an object row of the key has no version below this one
  abbrev pub IsNotBelow : R → Type 0
  IsNotBelow r = s.table r ≡ 1 → s.key r ≡ key → v.below r u ≡ false

  -- and so has no row that a phase gave
  abbrev pub GaveNotBelow : Reading R → Type 0
  GaveNotBelow (read q None) = ⊤
  GaveNotBelow (read q (Some r)) = IsNotBelow r
  GaveNotBelow (scanned q rows end) = AllByRecursion IsNotBelow rows
