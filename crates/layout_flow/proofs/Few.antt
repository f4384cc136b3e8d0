-- Roles whose numbers ascend up to 64 are few.
use Rattle.std.proofs.Common.{ℕ, ◌+◌, ◌<◌, ◌≤◌, nat_lt, IsTrue, List, [], ◌∷◌, length, get_or, arith, ltb-true, leb-true}
use Rattle.std.specs.List.{list_all, All}
use Rattle.std.proofs.lemmas.Bool.{and_parts}
use Rattle.std.proofs.lemmas.List.Sums.{length-filter, count_by-le-length, AllPass-from_list_all}
use Rattle.std.proofs.lemmas.List.Elements.{All-head, All-tail}
use Rattle.layout_roles.specs.declared.role.Role.{Role}
use Rattle.layout_roles.specs.Zones.{nodes_ascend, ascend_from, is_numbered, is_storage, storage_nodes}

-- numbers that ascend leave room for few
ascend_few : (before : ℕ) (roles : List Role) → before ≤ 64 → IsTrue (ascend_from before roles) → All (λ role. role.node ≤ 64) roles → before + length roles ≤ 64
ascend_few before [] low ascend numbered = omega arith
ascend_few before (role ∷ roles) low ascend numbered =
    let parts = and_parts (nat_lt before role.node) (ascend_from role.node roles) ascend in
    let less : before < role.node = ltb-true before role.node parts.0 in
    let more = ascend_few role.node roles (All-head (λ role. role.node ≤ 64) role roles numbered) parts.1 (All-tail (λ role. role.node ≤ 64) role roles numbered) in
    omega arith

pub numbered_below : (roles : List Role) → IsTrue (list_all is_numbered roles) → All (λ role. role.node ≤ 64) roles
numbered_below roles numbered k d h = leb-true (get_or roles k d).node 64 (AllPass-from_list_all is_numbered roles numbered k d h)

pub few_nodes : (roles : List Role) → IsTrue (nodes_ascend roles) → IsTrue (list_all is_numbered roles) → length (storage_nodes roles) ≤ 64
few_nodes roles ascend numbered =
    let few = ascend_few 0 roles (omega arith) ascend (numbered_below roles numbered) in
    let a = length-filter is_storage roles in
    let b = count_by-le-length is_storage roles in
    omega arith
