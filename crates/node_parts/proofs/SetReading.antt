-- What the code reads off a view about sets and members.
use Rattle.std.proofs.Common.{◌≡◌, ℕ, Bool, true, false, cond, ◌||◌, ◌==◌, Option, Some, None, List, [], ◌∷◌, map, refl, ap}
use Rattle.std.specs.Prelude.{option_map}
use Rattle.std.specs.List.{find, list_any}
use Rattle.std.specs.Option.{is_some, option_and_then}
use Rattle.layout_roles.specs.declared.layout.Layout.{Layout}
use Rattle.layout_roles.specs.declared.role.Role.{Role}
use Rattle.layout_history.specs.Known.{kind_among, kind_of}
use Rattle.quorum_model.specs.Quorum.{is_among}
use Rattle.cluster_machine.specs.Layouts.{members_in, layouts}

pub any_set : {X : Type 0} (test : List ℕ → Bool) (set : X → List ℕ) (xs : List X) → list_any (λ x. test (set x)) xs ≡ list_any test (map set xs)
any_set test set [] = refl
any_set test set (x ∷ xs) = ap (λ b. test (set x) || b) (any_set test set xs)

has_kind : (roles : List Role) (node : ℕ) → is_some (kind_among roles node) ≡ is_among node (map (λ role. role.node) roles)
has_kind [] node = refl
has_kind (role ∷ roles) node =
    elim (role.node == node) as (λ b. is_some (option_map (λ role. role.kind) (cond b (Some role) (find (λ role. role.node == node) roles))) ≡ (b || is_among node (map (λ role. role.node) roles))) [
      | true ↦ refl
      | false ↦ has_kind roles node
    ]

-- a node has a role in a layout exactly where it is a member
pub is_member_of : (o : Option Layout) (node : ℕ) → is_some (option_and_then (λ l. kind_of l node) o) ≡ is_among node (members_in layouts o)
is_member_of None node = refl
is_member_of (Some l) node = has_kind l.roles.list node
