-- The set that a phase asks is stored.
use Rattle.std.proofs.Common.{◌≡◌, ◌≤◌, ℕ, true, Some, None, List, [], ◌∷◌, sym, ap, ◌∙◌, arith}
use Rattle.std.specs.Prelude.{leb, slice_get, IsTrue}
use Rattle.std.specs.Option.{unwrap_or}
use Rattle.std.proofs.lemmas.Bool.{leb-true}
use Rattle.layout_roles.specs.declared.layout.Layout.{Layout}
use Rattle.layout_history.specs.declared.view.View.{View}
use Rattle.view_model.specs.Layouts.{reading}
use Rattle.layout_history.specs.Views.{known}
use Rattle.view_model.specs.View.{newest, oldest, layout_at, read_version, is_gapless, first_version, last_version}
use Rattle.view_model.proofs.Gapless.{Stored, led, inside, none_is_not}
use Rattle.view_model.proofs.ReadVersions.{read_known, read_stored}
use Rattle.cluster_machine.specs.Layouts.{set_in, set_at, layouts}

first_above : (ls : List Layout) → is_gapless reading ls ≡ true → 1 ≤ last_version reading 0 ls → 1 ≤ first_version reading ls
first_above [] g some = let never : ⊥ = omega arith in absurd never
first_above (l ∷ ls) g some = (led reading l ls g).0

-- where a version is stored, so is the version that is read
pub read_is_stored : (v : View) (n : ℕ) → n ≡ read_version reading (known v) → None ≡ layout_at reading (known v) n → IsTrue (leb 1 (newest reading (known v))) → ⊥
read_is_stored v n n_is none some =
    let at = read_version reading (known v) in
    let low : oldest reading (known v) ≤ at = read_stored reading (known v) v.gapless in
    let first : 1 ≤ oldest reading (known v) = first_above v.layouts v.gapless (leb-true 1 (newest reading (known v)) some) in
    let stored : Stored reading v.layouts at = inside reading v.layouts at v.gapless (omega arith) low (read_known reading (known v)) in
    none_is_not reading stored.0 (none ∙ ap (layout_at reading (known v)) n_is ∙ stored.1)

-- the nodes of a partition in a layout that is stored
pub set_is : (v : View) (n p : ℕ) (l : Layout) (nodes : List ℕ) → n ≡ read_version reading (known v) → Some l ≡ layout_at reading (known v) n → slice_get l.sets.sets p ≡ Some nodes →
    nodes ≡ set_at layouts (known v) (read_version reading (known v)) p
set_is v n p l nodes n_is stored given =
    ap (λ o. unwrap_or o []) (sym given) ∙ ap (λ o. set_in layouts o p) stored ∙ ap (λ i. set_at layouts (known v) i p) n_is
