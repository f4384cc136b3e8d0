-- An assignment that fits takes no more copies than the zones have room for.
use Rattle.std.proofs.Common.{ℕ, ◌-◌, ◌*◌, ◌≤◌, min, cond, IsTrue, List, get_or, ap, ◌∙◌, arith}
use Rattle.std.specs.List.{sum_by, count_by, All}
use Rattle.std.proofs.lemmas.List.Sums.{sum_by-le, count_by-le-length}
use Rattle.std.proofs.lemmas.List.Elements.{All-filter}
use Rattle.layout_roles.specs.declared.role.Role.{Role}
use Rattle.layout_roles.specs.Zones.{Name, nodes_ascend, storage_nodes, zone_names, is_in_zone, nodes_in, zones}
use Rattle.layout_roles.specs.Fits.{NodeSet, FitsAll, load, room}
use Rattle.layout_flow.specs.Totals.{copies_in}
use Rattle.layout_flow.specs.Closed.{copies_for}
use Rattle.layout_flow.proofs.Sums.{sum_by-agree, sum_by-below, sum_by-swap, sum_by-map, sum_by-constant}
use Rattle.layout_flow.proofs.Zones.{sum_by_zones}
use Rattle.layout_flow.proofs.Spread.{in_set, three_chosen, few_in_zone}

-- how many copies the nodes of a zone keep
abbrev kept : List NodeSet → List Role → ℕ
kept sets zone = sum_by (λ set. count_by (in_set set) zone) sets

kept_few : (n : ℕ) (roles : List Role) (r size : ℕ) (sets : List NodeSet) → r ≤ 3 → IsTrue (nodes_ascend roles) → FitsAll n roles r size sets → (name : Name) →
    kept sets (nodes_in roles name) ≤ (4 - r) * n
kept_few n roles r size sets high ascend fits name =
    let a = sum_by-le (λ set. count_by (in_set set) (nodes_in roles name)) (4 - r) sets
    (λ k d h. few_in_zone roles (get_or sets k d) r high ascend (fits.threes k d h) (fits.spread k d h) name) in
    let b = ap (λ m. m * (4 - r)) fits.whole in
    omega arith

kept_room : (n : ℕ) (roles : List Role) (r size : ℕ) (sets : List NodeSet) → FitsAll n roles r size sets → (name : Name) →
    kept sets (nodes_in roles name) ≤ copies_in n size (nodes_in roles name)
kept_room n roles r size sets fits name =
    let zone = nodes_in roles name in
    let a = sum_by-swap (λ (set : NodeSet) (role : Role). cond (in_set set role) 1 0) sets zone in
    let room_in : All (λ role. load sets role.node ≤ room size role) zone = All-filter (is_in_zone name) (λ role. load sets role.node ≤ room size role) (storage_nodes roles) fits.within in
    let b = sum_by-below (λ role. load sets role.node) (λ role. min n (room size role)) zone
    (λ k d h.
    let role = get_or zone k d in
    let c = room_in k d h in
    let e = count_by-le-length (λ set. in_set set role) sets in
    let w = fits.whole in
    omega arith) in
    omega arith

pub fits_needs : (n : ℕ) (roles : List Role) (r size : ℕ) (sets : List NodeSet) → r ≤ 3 → IsTrue (nodes_ascend roles) → FitsAll n roles r size sets →
    3 * n ≤ copies_for n roles size (4 - r)
fits_needs n roles r size sets high ascend fits =
    let names = zone_names roles in
    let a = sum_by-agree (λ set. sum_by (λ zone. count_by (in_set set) zone) (zones roles)) (λ set. 3) sets
    (λ k d h. let set = get_or sets k d in sum_by_zones (λ role. cond (in_set set role) 1 0) roles ∙ three_chosen roles set ascend (fits.threes k d h)) in
    let b = sum_by-constant 3 sets in
    let c = sum_by-swap (λ (set : NodeSet) (zone : List Role). count_by (in_set set) zone) sets (zones roles) in
    let d = sum_by-map (kept sets) (nodes_in roles) names in
    let e = sum_by-map (λ zone. min ((4 - r) * n) (copies_in n size zone)) (nodes_in roles) names in
    let f = sum_by-below (λ name. kept sets (nodes_in roles name)) (λ name. min ((4 - r) * n) (copies_in n size (nodes_in roles name))) names
    (λ k d h.
    let name = get_or names k d in
    let few = kept_few n roles r size sets high ascend fits name in
    let much = kept_room n roles r size sets fits name in
    omega arith) in
    let w = fits.whole in
    omega arith
