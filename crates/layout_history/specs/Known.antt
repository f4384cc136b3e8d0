-- What a view in memory says, in the words of view_model.
use Rattle.std.specs.Prelude.{ℕ, Bool, ◌==◌, ◌&&◌, nat_lt, List, [], ◌∷◌, Option, true, false, map, option_map}
use Rattle.std.specs.List.{find}
use Rattle.layout_roles.specs.declared.layout.Layout.{Layout}
use Rattle.layout_roles.specs.declared.role.Role.{Role}
use Rattle.layout_roles.specs.declared.role.Kind.{Kind}

-- there is a role at all
abbrev pub is_any : List Role → Bool
is_any [] = false
is_any (role ∷ roles) = true

-- some node has a role in the layout
abbrev pub has_members : Layout → Bool
has_members l = is_any l.roles.list

-- the kind of the role that a node has in a layout, if it has one
abbrev pub kind_among : List Role → ℕ → Option Kind
kind_among roles node = option_map (λ role. role.kind) (find (λ role. role.node == node) roles)

-- the kind of a node's role, where it has one
abbrev pub kind_of : Layout → ℕ → Option Kind
kind_of l node = kind_among l.roles.list node

-- each version is above the one before it
abbrev pub ascends : ℕ → List Layout → Bool
ascends before [] = true
ascends before (l ∷ ls) = nat_lt before l.version && ascends l.version ls
