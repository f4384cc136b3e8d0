-- The walk over two answers, row by row.
use Rattle.std.specs.Prelude.{ℕ, Bool, true, false, List, [], ◌∷◌}
use Rattle.crdt_core.specs.Entries.{merged}
use Rattle.table_schema.specs.Words.{Words}
use Rattle.quorum_model.specs.Window.{key_cmp, keyed}

-- a row of the second answer under this key comes next. Those before it in the first answer are passed, and the next
-- one of the first, where it is met, has the same key
abbrev pub from_next : {R : Type 0} → (R → R → R) → Words R → Bool → List R → List ℕ → R → List (List ℕ × R) → List (List ℕ × R)
from_next join s false xs key y ys = (key, y) ∷ merged key_cmp join (keyed s xs) ys
from_next join s true [] key y ys = (key, y) ∷ ys
from_next join s true (x ∷ xs) key y ys = (key, join x y) ∷ merged key_cmp join (keyed s xs) ys
