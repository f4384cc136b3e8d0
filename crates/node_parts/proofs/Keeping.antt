-- Who keeps copies.
use Rattle.std.proofs.Common.{◌≡◌, ◌&&◌, ◌||◌, ◌==◌, ℕ, Bool, true, false, List, [], ◌∷◌, map, refl, ap}
use Rattle.std.specs.List.{filter, list_any}
use Rattle.layout_roles.specs.declared.role.Role.{Role}
use Rattle.layout_roles.specs.Zones.{is_storage}
use Rattle.quorum_model.specs.Quorum.{is_among}

abbrev nodes_of : List Role → List ℕ
nodes_of roles = map (λ role. role.node) (filter is_storage roles)

storage_by : (node : ℕ) (role : Role) (roles : List Role) (b : Bool) → is_storage role ≡ b → list_any (λ r. is_storage r && (r.node == node)) roles ≡ is_among node (nodes_of roles) →
    list_any (λ r. is_storage r && (r.node == node)) (role ∷ roles) ≡ is_among node (nodes_of (role ∷ roles))
storage_by node role roles true e rest = rw e (ap (λ b. (role.node == node) || b) rest)
storage_by node role roles false e rest = rw e rest

pub storage_among : (node : ℕ) (roles : List Role) → list_any (λ role. is_storage role && (role.node == node)) roles ≡ is_among node (map (λ role. role.node) (filter is_storage roles))
storage_among node [] = refl
storage_among node (role ∷ roles) = storage_by node role roles (is_storage role) refl (storage_among node roles)
