-- Places are nodes 1 to 16. The layout of `trio` has no others, nor has one that is computed from roles of theirs.
use Rattle.std.proofs.Common.{◌≡◌, ◌≤◌, ◌<◌, ◌+◌, ◌==◌, ◌||◌, ℕ, zero, suc, Bool, true, false, cond, Some, List, [], ◌∷◌, refl, sym, subst, inl, inr, arith}
use Rattle.std.specs.Prelude.{IsTrue, replicate}
use Rattle.std.specs.List.{AllByRecursion, list_any}
use Rattle.std.proofs.lemmas.Bool.{eqb-true, eqb-false}
use Rattle.std.proofs.lemmas.List.Elements.{recursion_from_All}
use Rattle.crdt_core.specs.Members.{Has}
use Rattle.crdt_core.proofs.Each.{all_weaker}
use Rattle.layout_roles.specs.declared.role.Role.{Role}
use Rattle.layout_roles.specs.declared.role.Kind.TheVariants.{Storage}
use Rattle.layout_roles.specs.declared.redundancy.Redundancy.{Redundancy}
use Rattle.layout_roles.specs.declared.layout.Layout.{Layout}
use Rattle.layout_roles.specs.Zones.{is_storage, storage_nodes}
use Rattle.layout_roles.specs.Fits.{is_storage_node, IsThree}
use Rattle.quorum_model.specs.Quorum.{is_among}
use Rattle.cluster_machine.specs.declared.applied.Applied.{Applied}
use Rattle.cluster_machine.specs.Layouts.{layouts}
use Rattle.cluster_machine.specs.Collects.{all_nodes}
use Rattle.cluster_machine.specs.Step.{given, none_given}
use Rattle.cluster_machine.specs.Trio.{zone, trio, stage_trio}
use Rattle.cluster_machine.specs.Choices.{Decision, IsBest, IsComputed, IsNone}
use Rattle.machine_origins.proofs.Lists.{all_filter}
use Rattle.receiver_laws.specs.Places.{RolesName, LayoutNames, ChoiceNames}
use Rattle.receiver_laws.proofs.Steps.{staged_places}

-- one of nodes 1 to 16
abbrev pub is_place : ℕ → Bool
is_place n = is_among n all_nodes

abbrev pub IsPlace : ℕ → Type 0
IsPlace n = IsTrue (is_place n)

pub all_places : AllByRecursion IsPlace all_nodes
all_places = (refl, (refl, (refl, (refl, (refl, (refl, (refl, (refl, (refl, (refl, (refl, (refl, (refl, (refl, (refl, (refl, tt))))))))))))))))

among_has : (n : ℕ) (ns : List ℕ) → is_among n ns ≡ true → Has ns n
among_has n [] h = absurd cc
among_has n (m ∷ ms) h =
    elim (m == n) as (λ b. (m == n) ≡ b → (b || is_among n ms) ≡ true → Has (m ∷ ms) n) [
      | true ↦ λ e k. inl (eqb-true m n e)
      | false ↦ λ e k. inr (among_has n ms k)
    ] refl h

pub has_place : (n : ℕ) → IsPlace n → Has all_nodes n
has_place n h = among_has n all_nodes h

-- so many numbers from one on
abbrev up : ℕ → ℕ → List ℕ
up low zero = []
up low (suc count) = low ∷ up (suc low) count

among_up : (n low count : ℕ) → low ≤ n → n < low + count → is_among n (up low count) ≡ true
among_up n low zero h k = absurd (omega (arith, h, k))
among_up n low (suc count) h k =
    elim (low == n) as (λ b. (low == n) ≡ b → (b || is_among n (up (suc low) count)) ≡ true) [
      | true ↦ λ e. refl
      | false ↦ λ e. (let other = eqb-false low n e in among_up n (suc low) count (above low n h other) (omega (arith, k)))
    ] refl
  where
    above : (low n : ℕ) → low ≤ n → (low ≡ n → ⊥) → suc low ≤ n
    above low n h other = omega (arith, h, other)

pub between_place : (n : ℕ) → 1 ≤ n → n ≤ 16 → IsPlace n
between_place n low high = among_up n 1 16 low (omega (arith, high))

-- ---- layouts

named_place : (n : ℕ) (roles : List Role) → RolesName IsPlace roles → list_any (λ (r : Role). r.node == n) roles ≡ true → IsPlace n
named_place n [] h e = cc
named_place n (r ∷ roles) h e =
    elim (r.node == n) as (λ b. (r.node == n) ≡ b → (b || list_any (λ (r : Role). r.node == n) roles) ≡ true → IsPlace n) [
      | true ↦ λ same k. subst IsPlace (eqb-true r.node n same) h.0
      | false ↦ λ same k. named_place n roles h.1 k
    ] refl e

three_places : (roles : List Role) (set : List ℕ) → RolesName IsPlace roles → IsThree roles set → AllByRecursion IsPlace set
three_places roles set h three =
    all_weaker (λ n. IsTrue (is_storage_node roles n)) IsPlace (λ n e. named_place n (storage_nodes roles) (all_filter (λ (r : Role). IsPlace r.node) is_storage roles h) e) set (recursion_from_All (λ n. IsTrue (is_storage_node roles n)) set three.stored)

computed_places : (roles : List Role) (wanted : Redundancy) (version : ℕ) (l : Layout) (shown : Applied) → RolesName IsPlace roles → IsBest roles wanted version l shown → LayoutNames IsPlace layouts l
computed_places roles wanted version l shown h best =
    let threes = recursion_from_All (IsThree roles) shown.certified.sets.sets best.certified.greatest.fits.threes in
    subst (AllByRecursion (AllByRecursion IsPlace)) (sym best.sets) (all_weaker (IsThree roles) (AllByRecursion IsPlace) (λ set three. three_places roles set h three) shown.certified.sets.sets threes)

-- what is given to an apply
pub choice_places : (b : Bool) (roles : List Role) (wanted : Redundancy) (version : ℕ) (choice : Decision) → RolesName IsPlace roles → cond b (IsComputed roles wanted version choice) (IsNone choice) → ChoiceNames IsPlace layouts choice
choice_places true roles wanted version (given l shown) h computed = computed_places roles wanted version l shown h computed
choice_places true roles wanted version (none_given r) h computed = tt
choice_places false roles wanted version (given l shown) h none = absurd none
choice_places false roles wanted version (none_given r) h none = tt

alike : {A : Type 0} (P : A → Type 0) (n : ℕ) (x : A) → P x → AllByRecursion P (replicate n x)
alike P zero x h = tt
alike P (suc n) x h = (h, alike P n x h)

pub trio_places : LayoutNames IsPlace layouts trio
trio_places = alike (AllByRecursion IsPlace) 256 (1 ∷ 2 ∷ 3 ∷ []) (refl, (refl, (refl, tt)))

pub staging_places : (roles : List Role) → RolesName IsPlace roles → RolesName IsPlace (stage_trio roles)
staging_places roles h =
    staged_places IsPlace 1 (Some (zone 97, Storage 1000)) _ refl
    (staged_places IsPlace 2 (Some (zone 98, Storage 1000)) _ refl
    (staged_places IsPlace 3 (Some (zone 99, Storage 1000)) roles refl h))
