-- Which versions a view stores for sure.
use Rattle.std.proofs.Common.{◌≡◌, ◌≤◌, ℕ, suc, true, List, [], ◌∷◌, Some, arith}
use Rattle.layout_roles.specs.declared.layout.Layout.{Layout}
use Rattle.view_model.specs.Layouts.{reading}
use Rattle.view_model.specs.View.{View, newest, layout_at, is_gapless, read_version, first_version, last_version}
use Rattle.view_model.proofs.Gapless.{inside, led, oldest_least}
use Rattle.view_model.proofs.ReadVersions.{read_stored, read_known}

abbrev pub IsThere : View Layout → ℕ → Type 0
IsThere v i = (l : Layout) × (layout_at reading v i ≡ Some l)

from_one : (ls : List Layout) → is_gapless reading ls ≡ true → 1 ≤ last_version reading 0 ls → 1 ≤ first_version reading ls
from_one [] g h = h
from_one (l ∷ ls) g h = (led reading l ls g).0

pub newest_is_there : (v : View Layout) → is_gapless reading v.layouts ≡ true → 1 ≤ newest reading v → IsThere v (newest reading v)
newest_is_there v g h = inside reading v.layouts (newest reading v) g h (oldest_least reading v.layouts g) (omega arith)

pub read_is_there : (v : View Layout) → is_gapless reading v.layouts ≡ true → 1 ≤ newest reading v → IsThere v (read_version reading v)
read_is_there v g h =
    let one = from_one v.layouts g h in
    let low = read_stored reading v g in
    inside reading v.layouts (read_version reading v) g (omega arith) low (read_known reading v)

pub next_is_there : (v : View Layout) → is_gapless reading v.layouts ≡ true → suc (read_version reading v) ≤ newest reading v → IsThere v (suc (read_version reading v))
next_is_there v g h =
    let low = read_stored reading v g in
    inside reading v.layouts (suc (read_version reading v)) g (omega arith) (omega arith) h
