-- Where there are storage nodes there is a zone.
use Rattle.std.proofs.Common.{◌≤◌, Bool, true, false, cond, length, List, [], ◌∷◌, map, arith}
use Rattle.std.specs.List.{fold, list_any}
use Rattle.std.specs.Ordering.{nat_cmp, is_lt}
use Rattle.std.specs.Cmp.Lexicographic.{slice_cmp}
use Rattle.layout_roles.specs.declared.redundancy.Redundancy.{Redundancy}
use Rattle.layout_roles.specs.declared.role.Role.{Role}
use Rattle.layout_roles.specs.Zones.{Name, name_of, storage_nodes, put_in_order, same_name, with_name}
use Rattle.layout_roles.specs.Certificates.{IsRedundancy, zones_wanted}

put_some : (names : List Name) (name : Name) → 1 ≤ length (put_in_order names name)
put_some [] name = omega arith
put_some (first ∷ names) name = by (is_lt (slice_cmp nat_cmp name first))
  where
    by : (b : Bool) → 1 ≤ length (cond b (name ∷ first ∷ names) (first ∷ put_in_order names name))
    by true = omega arith
    by false = omega arith

with_some : (names : List Name) (name : Name) → 1 ≤ length (with_name names name)
with_some [] name = omega arith
with_some (first ∷ names) name = by (list_any (same_name name) (first ∷ names))
  where
    by : (b : Bool) → 1 ≤ length (cond b (first ∷ names) (put_in_order (first ∷ names) name))
    by true = omega arith
    by false = put_some (first ∷ names) name

fold_some : (acc names : List Name) → 1 ≤ length acc → 1 ≤ length (fold with_name acc names)
fold_some acc [] some = some
fold_some acc (name ∷ names) some = fold_some (with_name acc name) names (with_some acc name)

names_some : (nodes : List Role) → 1 ≤ length nodes → 1 ≤ length (fold with_name [] (map name_of nodes))
names_some [] some = absurd (omega arith)
names_some (node ∷ nodes) some = fold_some (with_name [] (name_of node)) (map name_of nodes) (with_some [] (name_of node))

-- with three storage nodes at least one zone is wanted
pub wanted_some : (wanted : Redundancy) (roles : List Role) → IsRedundancy wanted → 3 ≤ length (storage_nodes roles) → 1 ≤ zones_wanted wanted roles
wanted_some (Redundancy.AtLeast r) roles lawful enough = lawful.0
wanted_some Redundancy.Maximum roles lawful enough =
    let some = names_some (storage_nodes roles) (omega arith) in
    omega arith
