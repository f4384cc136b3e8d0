-- How many keys are past one, and rows whose keys are among these.
use Rattle.std.specs.Prelude.{◌≡◌, ℕ, List, length, filter}
use Rattle.std.specs.List.{AllByRecursion}
use Rattle.std.specs.Ordering.{is_lt}
use Rattle.crdt_core.specs.Members.{Has}
use Rattle.table_schema.specs.Words.{Words}
use Rattle.quorum_model.specs.Window.{key_cmp}

-- how many of these keys are greater
abbrev pub past : List ℕ → List (List ℕ) → ℕ
past start keys = length (filter (λ key. is_lt (key_cmp start key)) keys)

-- the rows of the object table have keys among these
abbrev pub HasKeys : {R : Type 0} → Words R → List (List ℕ) → List R → Type 0
HasKeys s keys rows = AllByRecursion (λ r. s.table r ≡ 1 → Has keys (s.key r)) rows
