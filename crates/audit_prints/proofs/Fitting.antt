-- What is known of sets that lines give where they fit: no node is high, and each set ascends.
use Rattle.std.proofs.Common.{◌≡◌, ◌≤◌, ℕ, zero, suc, ◌-◌, Bool, true, false, cond, nat_lt, nat_le, nat_eq, ◌==◌, ◌||◌, ◌&&◌, if◌then◌else◌, replicate, List, [], ◌∷◌, ◌++◌, length, refl, sym, ap, subst, ◌∙◌, arith, inl, inr, eqb-true}
use Rattle.std.specs.Prelude.{IsTrue}
use Rattle.std.specs.List.{AllByRecursion, list_all, list_any, IsDistinct}
use Rattle.std.proofs.lemmas.Bool.{and_parts, and_from, leb-true, ltb-true, cases_Bool}
use Rattle.std.proofs.lemmas.List.Elements.{recursion_from_All}
use Rattle.layout_roles.specs.declared.role.Role.{Role}
use Rattle.layout_roles.specs.Zones.{is_storage, is_numbered, storage_nodes, set_ascends}
use Rattle.layout_roles.specs.Sets.{in_order}
use Rattle.layout_roles.specs.Fits.{NodeSet, is_storage_node, IsThree, partitions, Fits}
use Rattle.audit_model.specs.declared.said.Said.{Said}
use Rattle.audit_model.specs.declared.said.Said.TheVariants as said
use Rattle.audit_model.specs.Printed.{sets_from}
use Rattle.audit_prints.specs.Sets.{has_high}
use Rattle.layout_judge.proofs.Orders.{order_ascends}

-- ---- no node is high

node_low : (roles : List Role) (node : ℕ) → list_all is_numbered roles ≡ true → list_any (λ (role : Role). role.node == node) (storage_nodes roles) ≡ true → node ≤ 64
node_low [] node numbered there = cc
node_low (r ∷ rs) node numbered there =
    let parts = and_parts (is_numbered r) (list_all is_numbered rs) numbered in
    by (is_storage r) parts.0 (λ h. node_low rs node parts.1 h) there
  where
    by : (b : Bool) → is_numbered r ≡ true → (list_any (λ (role : Role). role.node == node) (storage_nodes rs) ≡ true → node ≤ 64) → list_any (λ (role : Role). role.node == node) (cond b (r ∷ storage_nodes rs) (storage_nodes rs)) ≡ true → node ≤ 64
    by false low later h = later h
    by true low later h = elim (cases_Bool (r.node == node)) [
      | inl t ↦ let same = eqb-true r.node node t in let le = leb-true r.node 64 low in omega arith
      | inr f ↦ later (ap (λ b. b || list_any (λ (role : Role). role.node == node) (storage_nodes rs)) (sym f) ∙ h)
    ]

module _ (roles : List Role) (numbered : list_all is_numbered roles ≡ true) where
  set_low : (set : NodeSet) → AllByRecursion (λ node. IsTrue (is_storage_node roles node)) set → has_high set ≡ true → ⊥
  set_low [] stored high = cc
  set_low (node ∷ nodes) stored high = elim (cases_Bool (nat_lt 255 node)) [
    | inl t ↦ let low = node_low roles node numbered stored.0 in let lt = ltb-true 255 node t in omega arith
    | inr f ↦ set_low nodes stored.1 (ap (λ b. b || has_high nodes) (sym f) ∙ high)
  ]

  sets_low : (sets : List NodeSet) → AllByRecursion (IsThree roles) sets → list_any has_high sets ≡ true → ⊥
  sets_low [] threes high = cc
  sets_low (set ∷ sets) threes high = elim (cases_Bool (has_high set)) [
    | inl t ↦ set_low set (recursion_from_All (λ node. IsTrue (is_storage_node roles node)) set threes.0.stored) t
    | inr f ↦ sets_low sets threes.1 (ap (λ b. b || list_any has_high sets) (sym f) ∙ high)
  ]

  -- sets with a high node fit nothing
  pub high_unfit : (r size : ℕ) (sets : List NodeSet) → list_any has_high sets ≡ true → Fits roles r size sets → ⊥
  high_unfit r size sets high fits = sets_low sets (recursion_from_All (IsThree roles) sets fits.threes) high

-- ---- each set ascends

-- three nodes in order of numbers
abbrev InOrder : NodeSet → Type 0
InOrder set = (a : ℕ) × ((b : ℕ) × ((c : ℕ) × (set ≡ in_order a b c)))

run_more : (n : ℕ) (set : NodeSet) (sets : List NodeSet) → InOrder set → AllByRecursion InOrder sets → AllByRecursion InOrder (replicate n set ++ sets)
run_more zero set sets here later = later
run_more (suc n) set sets here later = (here, run_more n set sets here later)

lines_in_order : (place : ℕ) (saids : List Said) → AllByRecursion InOrder (sets_from place saids)
lines_in_order place [] = tt
lines_in_order place (said.Sets first last set ∷ saids) =
    elim ((first == place) && (nat_le first last && nat_le last 255)) as (λ b. AllByRecursion InOrder (if b then replicate (suc last - first) (in_order set.0 set.1 set.2) ++ sets_from (suc last) saids else [])) [
      | true ↦ run_more (suc last - first) (in_order set.0 set.1 set.2) (sets_from (suc last) saids) (set.0, (set.1, (set.2, refl))) (lines_in_order (suc last) saids)
      | false ↦ tt
    ]
lines_in_order place (said.Redundancy r ∷ saids) = lines_in_order place saids
lines_in_order place (said.Event line name told ∷ saids) = tt
lines_in_order place (said.Size size ∷ saids) = tt
lines_in_order place (said.Cut size weight ∷ saids) = tt
lines_in_order place (said.Side first last up down zones ∷ saids) = tt
lines_in_order place (said.Nodes nodes ∷ saids) = tt
lines_in_order place (said.Got m ∷ saids) = tt
lines_in_order place (said.Sent m kind from to ∷ saids) = tt
lines_in_order place (said.Synced n v ∷ saids) = tt
lines_in_order place (said.Dropped n v ∷ saids) = tt
lines_in_order place (said.Done q word answer ∷ saids) = tt
lines_in_order place (said.Listed q count ∷ saids) = tt
lines_in_order place (said.Key key version size ∷ saids) = tt
lines_in_order place (said.Ended q word ∷ saids) = tt
lines_in_order place (said.Node n rows blocks top ∷ saids) = tt
lines_in_order place (said.Fresh pairs ∷ saids) = tt
lines_in_order place (said.End events requests messages ∷ saids) = tt

all_ascend : (roles : List Role) (sets : List NodeSet) → AllByRecursion InOrder sets → AllByRecursion (IsThree roles) sets → list_all set_ascends sets ≡ true
all_ascend roles [] ordered threes = refl
all_ascend roles (set ∷ sets) ordered threes =
    let is : set ≡ in_order ordered.0.0 ordered.0.1.0 ordered.0.1.1.0 = ordered.0.1.1.1 in
    let here : set_ascends set ≡ true =
    ap set_ascends is ∙ order_ascends ordered.0.0 ordered.0.1.0 ordered.0.1.1.0 (subst (IsDistinct nat_eq) is threes.0.different) in
    and_from (set_ascends set) (list_all set_ascends sets) here (all_ascend roles sets ordered.1 threes.1)

-- sets that lines give ascend where they fit
pub fitting_ascend : (roles : List Role) (r size : ℕ) (saids : List Said) → Fits roles r size (sets_from 0 saids) → list_all set_ascends (sets_from 0 saids) ≡ true
fitting_ascend roles r size saids fits = all_ascend roles (sets_from 0 saids) (lines_in_order 0 saids) (recursion_from_All (IsThree roles) (sets_from 0 saids) fits.threes)

pub fitting_whole : (roles : List Role) (r size : ℕ) (sets : List NodeSet) → Fits roles r size sets → length sets ≡ 256
unfolding partitions
fitting_whole roles r size sets fits = fits.whole
