-- Whether a printed layout is of what is staged is told by its sheet.
use Rattle.std.proofs.Common.{◌≡◌, Bool, true, false, ◌&&◌, ◌==◌, List, refl, sym, ap, ◌∙◌, subst, Decides}
use Rattle.std.specs.Prelude.{bytes_eq}
use Rattle.std.specs.Cmp.Lexicographic.{pointwise}
use Rattle.std.proofs.lemmas.Bool.{and_parts, and_from, eqb-true, eq-eqb}
use Rattle.std.proofs.lemmas.Slice.Eq.{slice_eq-Decides, bytes_eq-Decides}
use Rattle.layout_roles.specs.declared.role.Kind.{Kind}
use Rattle.layout_roles.specs.declared.role.Kind.TheVariants.{Storage, Gateway}
use Rattle.layout_roles.specs.declared.role.Role.{Role}
use Rattle.layout_roles.specs.declared.redundancy.Redundancy.{Redundancy}
use Rattle.layout_roles.specs.declared.redundancy.Redundancy.TheVariants.{AtLeast, Maximum}
use Rattle.audit_model.specs.Printed.{Staged}
use Rattle.audit_prints.specs.declared.sheet.Sheet.{Sheet}
use Rattle.audit_play.specs.Staged.{same_kind, same_role, same_wanted, is_of}

kind_is : (a b : Kind) → same_kind a b ≡ true → a ≡ b
kind_is (Storage a) (Storage b) h = ap Storage (eqb-true a b h)
kind_is (Storage a) Gateway h = absurd (let clash : false ≡ true = h in cc)
kind_is Gateway (Storage b) h = absurd (let clash : false ≡ true = h in cc)
kind_is Gateway Gateway h = refl

kind_self : (a : Kind) → same_kind a a ≡ true
kind_self (Storage a) = eq-eqb a a refl
kind_self Gateway = refl

role_is : (a b : Role) → same_role a b ≡ true → a ≡ b
role_is a b h =
    let parts = and_parts (a.node == b.node) (bytes_eq a.zone.0 b.zone.0 && same_kind a.kind b.kind) h in
    let more = and_parts (bytes_eq a.zone.0 b.zone.0) (same_kind a.kind b.kind) parts.1 in
    let node : a.node ≡ b.node = eqb-true a.node b.node parts.0 in
    let zone : a.zone.0 ≡ b.zone.0 = (bytes_eq-Decides a.zone.0 b.zone.0).0 more.0 in
    let kind : a.kind ≡ b.kind = kind_is a.kind b.kind more.1 in
    λ i. record { node = node i; zone = record { 0 = zone i }; kind = kind i }

role_self : (a : Role) → same_role a a ≡ true
role_self a =
    and_from (a.node == a.node) (bytes_eq a.zone.0 a.zone.0 && same_kind a.kind a.kind) (eq-eqb a.node a.node refl)
    (and_from (bytes_eq a.zone.0 a.zone.0) (same_kind a.kind a.kind) ((bytes_eq-Decides a.zone.0 a.zone.0).1 refl) (kind_self a.kind))

role_decides : (a b : Role) → Decides (same_role a b) (a ≡ b)
role_decides a b = (role_is a b, λ e. subst (λ x. same_role a x ≡ true) e (role_self a))

wanted_is : (a b : Redundancy) → same_wanted a b ≡ true → a ≡ b
wanted_is (AtLeast a) (AtLeast b) h = ap AtLeast (eqb-true a b h)
wanted_is (AtLeast a) Maximum h = absurd (let clash : false ≡ true = h in cc)
wanted_is Maximum (AtLeast b) h = absurd (let clash : false ≡ true = h in cc)
wanted_is Maximum Maximum h = refl

wanted_self : (a : Redundancy) → same_wanted a a ≡ true
wanted_self (AtLeast a) = eq-eqb a a refl
wanted_self Maximum = refl

-- the sheet is of what is staged where it says so
pub is_staged : (s : Staged) (sheet : Sheet) → is_of s sheet ≡ true → (sheet.shown.roles.list ≡ s.roles) × (sheet.wanted ≡ s.wanted)
is_staged s sheet h =
    let parts = and_parts (same_wanted sheet.wanted s.wanted) (pointwise same_role sheet.shown.roles.list s.roles) h in
    ((slice_eq-Decides role_decides sheet.shown.roles.list s.roles (pointwise same_role sheet.shown.roles.list s.roles) refl).0 parts.1, wanted_is sheet.wanted s.wanted parts.0)

-- and only there
pub not_staged : (s : Staged) (sheet : Sheet) → is_of s sheet ≡ false → sheet.shown.roles.list ≡ s.roles → sheet.wanted ≡ s.wanted → ⊥
not_staged s sheet h roles wanted =
    let yes : is_of s sheet ≡ true =
    and_from (same_wanted sheet.wanted s.wanted) (pointwise same_role sheet.shown.roles.list s.roles)
    (subst (λ x. same_wanted sheet.wanted x ≡ true) wanted (wanted_self sheet.wanted))
    ((slice_eq-Decides role_decides sheet.shown.roles.list s.roles (pointwise same_role sheet.shown.roles.list s.roles) refl).1 roles) in
    let clash : true ≡ false = sym yes ∙ h in
    cc

-- the code looks at the redundancy, and then at the roles
module _ (s : Staged) (sheet : Sheet) (roles : List Role) (wanted : Redundancy) (w : Bool) (first : w ≡ same_wanted sheet.wanted wanted) (is_wanted : wanted ≡ s.wanted) where
  so_wanted : w ≡ same_wanted sheet.wanted s.wanted
  so_wanted = first ∙ ap (same_wanted sheet.wanted) is_wanted

  pub told_then : (r : Bool) → r ≡ pointwise same_role sheet.shown.roles.list roles → roles ≡ s.roles → w ≡ true → r ≡ is_of s sheet
  told_then r second is so =
      second ∙ ap (pointwise same_role sheet.shown.roles.list) is ∙ ap (λ b. b && pointwise same_role sheet.shown.roles.list s.roles) (sym so ∙ so_wanted)

  pub told_else : w ≡ false → w ≡ is_of s sheet
  told_else never = never ∙ ap (λ b. b && pointwise same_role sheet.shown.roles.list s.roles) (sym never ∙ so_wanted)
