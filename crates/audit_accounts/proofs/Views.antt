-- Each view of a sound world has layouts of few versions, whose sets name nodes that are numbers of the code.
use Rattle.std.proofs.Common.{◌≡◌, ◌≤◌, ◌<◌, ◌^◌, ℕ, suc, true, false, ◌||◌, ◌==◌, leb, cond, List, [], ◌∷◌, refl, arith}
use Rattle.std.specs.Prelude.{IsTrue}
use Rattle.std.specs.List.{AllByRecursion, filter, list_all, list_any}
use Rattle.std.proofs.lemmas.Bool.{and_parts, eqb-true, leb-true}
use Rattle.std.proofs.lemmas.List.Elements.{recursion_from_All}
use Rattle.crdt_core.proofs.Each.{all_weaker}
use Rattle.layout_roles.specs.declared.layout.Layout.{Layout}
use Rattle.layout_roles.specs.declared.role.Role.{Role}
use Rattle.layout_roles.specs.Zones.{is_numbered, is_storage}
use Rattle.layout_roles.specs.Fits.{IsThree, is_storage_node}
use Rattle.view_model.specs.Layouts.{reading}
use Rattle.view_model.specs.View.{follow, is_gapless, last_version}
use Rattle.cluster_machine.specs.Choices.{HasGreatest}
use Rattle.cluster_machine.specs.Worlds.{IsSound}
use Rattle.store_model.specs.Run.{World}
use Rattle.audit_model.specs.Lines.{IsNumber, AreNumbers}
use Rattle.audit_accounts.proofs.Nodes.{LayoutNamed, ViewNamed}
use Rattle.audit_accounts.proofs.Worlds.{WorldNamed}

-- ---- versions

-- what is known of layouts up to the last version
record AreUpTo (before last : ℕ) (ls : List Layout) : Type 0 where
  first : before ≤ last
  all : AllByRecursion (λ (l : Layout). l.version ≤ last) ls

follow_low : (before : ℕ) (ls : List Layout) → follow reading before ls ≡ true → AreUpTo before (last_version reading before ls) ls
follow_low before [] h = record { first = omega arith; all = tt }
follow_low before (l ∷ ls) h =
    let parts = and_parts (l.version == suc before) (follow reading l.version ls) h in
    let is : l.version ≡ suc before = eqb-true l.version (suc before) parts.0 in
    let rest = follow_low l.version ls parts.1 in
    let up = rest.first in
    record { first = omega arith; all = (up, rest.all) }

gapless_low : (ls : List Layout) → is_gapless reading ls ≡ true → AllByRecursion (λ (l : Layout). l.version ≤ last_version reading 0 ls) ls
gapless_low [] h = tt
gapless_low (l ∷ ls) h =
    let parts = and_parts (leb 1 l.version) (follow reading l.version ls) h in
    let rest = follow_low l.version ls parts.1 in
    (rest.first, rest.all)

-- ---- sets

any_low : (node : ℕ) (roles : List Role) → list_all is_numbered roles ≡ true → list_any (λ (role : Role). role.node == node) (filter is_storage roles) ≡ true → node < 2 ^ 64
any_low node [] h any = cc
any_low node (r ∷ rs) h any =
    let parts = and_parts (is_numbered r) (list_all is_numbered rs) h in
    let low : r.node ≤ 64 = leb-true r.node 64 parts.0 in
    elim (is_storage r) as (λ b. list_any (λ (role : Role). role.node == node) (cond b (r ∷ filter is_storage rs) (filter is_storage rs)) ≡ true → node < 2 ^ 64) [
      | true ↦ (λ e. elim (r.node == node) as (λ c. (r.node == node) ≡ c → (c || list_any (λ (role : Role). role.node == node) (filter is_storage rs)) ≡ true → node < 2 ^ 64) [
        | true ↦ (λ same f. let is : r.node ≡ node = eqb-true r.node node same in omega (arith, low, is))
        | false ↦ (λ same f. any_low node rs parts.1 f)
      ] refl e)
      | false ↦ (λ e. any_low node rs parts.1 e)
    ] any

set_low : (roles : List Role) → list_all is_numbered roles ≡ true → (set : List ℕ) → IsThree roles set → AreNumbers set
set_low roles h set three =
    all_weaker (λ node. IsTrue (is_storage_node roles node)) IsNumber (λ node is. any_low node roles h is) set (recursion_from_All (λ node. IsTrue (is_storage_node roles node)) set three.stored)

sets_low : (l : Layout) → HasGreatest l → AllByRecursion AreNumbers l.sets.sets
sets_low l h = all_weaker (IsThree l.roles.list) AreNumbers (set_low l.roles.list l.roles.numbered) l.sets.sets (recursion_from_All (IsThree l.roles.list) l.sets.sets h.fits.threes)

layouts_named : (top : ℕ) (ls : List Layout) → top ≤ 100 → AllByRecursion (λ (l : Layout). l.version ≤ top) ls → AllByRecursion HasGreatest ls → AllByRecursion LayoutNamed ls
layouts_named top [] low h k = tt
layouts_named top (l ∷ ls) low h k = let version = h.0 in (record { version = omega arith; sets = sets_low l k.0 }, layouts_named top ls low h.1 k.1)

pub views_named : (k : ℕ) (w : World) → IsSound w → w.applied ≤ 100 → WorldNamed k w → (n : ℕ) → ViewNamed (w.nodes n).view
views_named k w sound low named n =
    let up = sound.versions n in
    let top : last_version reading 0 (w.nodes n).view.layouts ≤ 100 = omega arith in
    record {
      entries = (named.nodes n).entries;
      newest = top;
      layouts = layouts_named (last_version reading 0 (w.nodes n).view.layouts) (w.nodes n).view.layouts top (gapless_low (w.nodes n).view.layouts (sound.gapless n)) (sound.greatest n);
    }
