-- Whether a printed layout is of the roles and the redundancy that are staged.
use Rattle.std.specs.Prelude.{Bool, true, false, ◌&&◌, ◌==◌, bytes_eq}
use Rattle.std.specs.Cmp.Lexicographic.{pointwise}
use Rattle.layout_roles.specs.declared.role.Kind.{Kind}
use Rattle.layout_roles.specs.declared.role.Kind.TheVariants.{Storage, Gateway}
use Rattle.layout_roles.specs.declared.role.Role.{Role}
use Rattle.layout_roles.specs.declared.redundancy.Redundancy.{Redundancy}
use Rattle.layout_roles.specs.declared.redundancy.Redundancy.TheVariants.{AtLeast, Maximum}
use Rattle.audit_model.specs.Printed.{Staged}
use Rattle.audit_prints.specs.declared.sheet.Sheet.{Sheet}

-- both are gateways, or have one capacity
abbrev pub same_kind : Kind → Kind → Bool
same_kind (Storage a) (Storage b) = a == b
same_kind Gateway Gateway = true
same_kind a b = false

-- one role of one node
abbrev pub same_role : Role → Role → Bool
same_role a b = (a.node == b.node) && (bytes_eq a.zone.0 b.zone.0 && same_kind a.kind b.kind)

-- as many zones are asked for
abbrev pub same_wanted : Redundancy → Redundancy → Bool
same_wanted (AtLeast a) (AtLeast b) = a == b
same_wanted Maximum Maximum = true
same_wanted a b = false

-- the layout of a sheet is of these roles and this redundancy
abbrev pub is_of : Staged → Sheet → Bool
is_of s sheet = same_wanted sheet.wanted s.wanted && pointwise same_role sheet.shown.roles.list s.roles
