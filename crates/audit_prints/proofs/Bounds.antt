-- Which capacities are staged by the events of a schedule, and that a size that sets fit is none above them.
use Rattle.std.proofs.Common.{◌≡◌, ◌<◌, ◌≤◌, ℕ, ◌+◌, ◌/◌, true, false, cond, nat_lt, nat_le, ◌==◌, ◌||◌, Option, Some, None, List, [], ◌∷◌, length, refl, sym, ap, ◌∙◌, arith, inl, inr, eqb-true, eq-eqb}
use Rattle.std.specs.Prelude.{IfSome, IsTrue}
use Rattle.std.specs.List.{AllByRecursion, list_any}
use Rattle.std.proofs.lemmas.Bool.{and_parts, and_from, le-leb, leb-true, cases_Bool, cases_lt}
use Rattle.std.proofs.lemmas.List.Elements.{recursion_from_All}
use Rattle.std.proofs.lemmas.Nat.{div_below}
use Rattle.std.proofs.lemmas.List.Sums.{sum_by-cons}
use Rattle.layout_roles.specs.declared.role.Role.{Role}
use Rattle.layout_roles.specs.declared.role.Zone.{Zone}
use Rattle.layout_roles.specs.declared.role.Kind.{Kind}
use Rattle.layout_roles.specs.declared.role.Kind.TheVariants.{Storage, Gateway}
use Rattle.layout_roles.specs.Zones.{is_storage, storage_nodes, bytes_of, capacity_of}
use Rattle.layout_roles.specs.Fits.{NodeSet, is_storage_node, IsThree, has_node, load, room, partitions, Fits}
use Rattle.cluster_machine.specs.World.{new_role, staged}
use Rattle.cluster_machine.specs.Trio.{zone, stage_trio}
use Rattle.store_model.specs.declared.event.Event.TheVariants as event
use Rattle.text_model.specs.Grammar.{IsAllowed}
use Rattle.audit_prints.specs.Roles.{is_bounded, are_bounded}

-- ---- what is staged

-- the capacity of a role that is given
abbrev pub IsGivenBound : Option (Zone × Kind) → Type 0
IsGivenBound role = IfSome role (λ r. bytes_of r.1 ≤ 1125899906842624)

new_bounded : (node : ℕ) (role : Option (Zone × Kind)) (rs : List Role) → IsGivenBound role → are_bounded rs ≡ true → are_bounded (new_role node role rs) ≡ true
new_bounded node None rs given all = all
new_bounded node (Some r) rs given all = and_from (nat_le (bytes_of r.1) 1125899906842624) (are_bounded rs) (le-leb (bytes_of r.1) 1125899906842624 given) all

pub staged_bounded : (node : ℕ) (role : Option (Zone × Kind)) (rs : List Role) → IsGivenBound role → are_bounded rs ≡ true → are_bounded (staged node role rs) ≡ true
staged_bounded node role [] given all = new_bounded node role [] given all
staged_bounded node role (r ∷ rs) given all =
    let parts = and_parts (is_bounded r) (are_bounded rs) all in
    elim (r.node == node) as (λ b. are_bounded (cond b (new_role node role rs) (cond (nat_lt node r.node) (new_role node role (r ∷ rs)) (r ∷ staged node role rs))) ≡ true) [
      | true ↦ new_bounded node role rs given parts.1
      | false ↦ elim (nat_lt node r.node) as (λ b. are_bounded (cond b (new_role node role (r ∷ rs)) (r ∷ staged node role rs)) ≡ true) [
        | true ↦ new_bounded node role (r ∷ rs) given all
        | false ↦ and_from (is_bounded r) (are_bounded (staged node role rs)) parts.0 (staged_bounded node role rs given parts.1)
      ]
    ]

pub trio_bounded : (rs : List Role) → are_bounded rs ≡ true → are_bounded (stage_trio rs) ≡ true
trio_bounded rs all =
    let c = staged_bounded 3 (Some (zone 99, Storage 1000)) rs (omega arith) all in
    let b = staged_bounded 2 (Some (zone 98, Storage 1000)) (staged 3 (Some (zone 99, Storage 1000)) rs) (omega arith) c in
    staged_bounded 1 (Some (zone 97, Storage 1000)) (staged 2 (Some (zone 98, Storage 1000)) (staged 3 (Some (zone 99, Storage 1000)) rs)) (omega arith) b

-- a schedule gives roles so
pub role_given : (n : ℕ) (role : Option (Zone × Kind)) → IsAllowed (event.Role n role) → IsGivenBound role
role_given n None allowed = tt
role_given n (Some (z, Storage capacity)) allowed = allowed.1.1.1
role_given n (Some (z, Gateway)) allowed = omega arith

-- ---- sizes

storage_bounded : (rs : List Role) → are_bounded rs ≡ true → are_bounded (storage_nodes rs) ≡ true
storage_bounded [] all = refl
storage_bounded (r ∷ rs) all =
    let parts = and_parts (is_bounded r) (are_bounded rs) all in
    elim (is_storage r) as (λ b. are_bounded (cond b (r ∷ storage_nodes rs) (storage_nodes rs)) ≡ true) [
      | true ↦ and_from (is_bounded r) (are_bounded (storage_nodes rs)) parts.0 (storage_bounded rs parts.1)
      | false ↦ storage_bounded rs parts.1
    ]

-- what there is room for is no greater than the capacity
size_within : (size capacity : ℕ) → 0 < size → 1 ≤ capacity / size → size ≤ capacity
size_within size capacity some enough = elim (cases_lt capacity size) [
  | inl lt ↦ let none : capacity / size < 1 = div_below capacity size 1 some (omega arith) in absurd (omega arith)
  | inr le ↦ le
]

-- a node that keeps a partition has a role with room for it
size_of_node : (size : ℕ) (sets : List NodeSet) (node : ℕ) (rs : List Role) → 0 < size → 1 ≤ load sets node → AllByRecursion (λ (r : Role). load sets r.node ≤ room size r) rs → are_bounded rs ≡ true →
    list_any (λ (r : Role). r.node == node) rs ≡ true → size ≤ 1125899906842624
size_of_node size sets node [] some kept within bounded there = cc
size_of_node size sets node (r ∷ rs) some kept within bounded there = let parts = and_parts (is_bounded r) (are_bounded rs) bounded in elim (cases_Bool (r.node == node)) [
  | inl t ↦
      let same : load sets r.node ≡ load sets node = ap (load sets) (eqb-true r.node node t) in
      let fits : size ≤ capacity_of r = size_within size (capacity_of r) some (omega (arith, within.0)) in
      let low : capacity_of r ≤ 1125899906842624 = leb-true (capacity_of r) 1125899906842624 parts.0 in
      omega arith
  | inr f ↦ size_of_node size sets node rs some kept within.1 parts.1 (ap (λ b. b || list_any (λ (r : Role). r.node == node) rs) (sym f) ∙ there)
]

-- a size that sets fit is at most 1 PiB, as capacities are
pub size_bounded : (roles : List Role) (r size : ℕ) (sets : List NodeSet) → 0 < size → are_bounded roles ≡ true → Fits roles r size sets → size ≤ 1125899906842624
unfolding partitions
size_bounded roles r size [] some bounded fits = let none = fits.whole in absurd (omega arith)
size_bounded roles r size (set ∷ sets) some bounded fits =
    let three : IsThree roles set = (recursion_from_All (IsThree roles) (set ∷ sets) fits.threes).0 in
    let within = recursion_from_All (λ (role : Role). load (set ∷ sets) role.node ≤ room size role) (storage_nodes roles) fits.within in
    first set three.three (recursion_from_All (λ node. IsTrue (is_storage_node roles node)) set three.stored) within
  where
    counted : (node : ℕ) (rest : List ℕ) → 1 ≤ load ((node ∷ rest) ∷ sets) node
    counted node rest =
        let here : has_node node (node ∷ rest) ≡ true = ap (λ b. b || has_node node rest) (eq-eqb node node refl) in
        let count : load ((node ∷ rest) ∷ sets) node ≡ cond true 1 0 + load sets node =
        sum_by-cons (λ set. cond (has_node node set) 1 0) (node ∷ rest) sets ∙ ap (λ b. cond b 1 0 + load sets node) here in
        omega arith

    first : (one : NodeSet) → length one ≡ 3 → AllByRecursion (λ node. IsTrue (is_storage_node roles node)) one → AllByRecursion (λ (role : Role). load (one ∷ sets) role.node ≤ room size role) (storage_nodes roles) → size ≤ 1125899906842624
    first [] long stored within = absurd (omega arith)
    first (node ∷ rest) long stored within = size_of_node size ((node ∷ rest) ∷ sets) node (storage_nodes roles) some (counted node rest) within (storage_bounded roles bounded) stored.0

-- ---- redundancies
