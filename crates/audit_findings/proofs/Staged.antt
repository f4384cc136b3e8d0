-- What is staged is the same or isn't.
use Rattle.std.proofs.Common.{◌≡◌, ◌⊎◌, inl, inr, ℕ, Bool, true, false, ◌==◌, List, [], ◌∷◌, refl, ap, eqb-true}
use Rattle.std.proofs.lemmas.Bool.{eqb-false}
use Rattle.layout_roles.specs.declared.role.Role.{Role}
use Rattle.layout_roles.specs.declared.role.Kind.{Kind}
use Rattle.layout_roles.specs.declared.role.Kind.TheVariants.{Storage, Gateway}
use Rattle.layout_roles.specs.declared.redundancy.Redundancy.{Redundancy}
use Rattle.layout_roles.specs.declared.redundancy.Redundancy.TheVariants.{AtLeast, Maximum}
use Rattle.audit_model.specs.Printed.{Staged}
use Rattle.audit_findings.proofs.Lines.{one_line}

abbrev pub OneOrNot : {A : Type 0} → A → A → Type 0
OneOrNot a b = (a ≡ b) ⊎ (a ≡ b → ⊥)

one_number : (a b : ℕ) → OneOrNot a b
one_number a b = by_test (a == b) refl
  where
    by_test : (t : Bool) → (a == b) ≡ t → OneOrNot a b
    by_test true e = inl (eqb-true a b e)
    by_test false e = inr (eqb-false a b e)

one_kind : (a b : Kind) → OneOrNot a b
one_kind (Storage a) (Storage b) = by_number (one_number a b)
  where
    by_number : OneOrNot a b → OneOrNot (Storage a) (Storage b)
    by_number (inl is) = inl (ap Storage is)
    by_number (inr differ) = inr (λ e. differ (let is : a ≡ b = cc in is))
one_kind (Storage a) Gateway = inr (λ e. cc)
one_kind Gateway (Storage b) = inr (λ e. cc)
one_kind Gateway Gateway = inl refl

one_role : (a b : Role) → OneOrNot a b
one_role a b = by_parts (one_number a.node b.node) (one_line a.zone.0 b.zone.0) (one_kind a.kind b.kind)
  where
    by_parts : OneOrNot a.node b.node → OneOrNot a.zone.0 b.zone.0 → OneOrNot a.kind b.kind → OneOrNot a b
    by_parts (inr differ) z k = inr (λ e. differ (ap (λ (x : Role). x.node) e))
    by_parts (inl n) (inr differ) k = inr (λ e. differ (ap (λ (x : Role). x.zone.0) e))
    by_parts (inl n) (inl z) (inr differ) = inr (λ e. differ (ap (λ (x : Role). x.kind) e))
    by_parts (inl n) (inl z) (inl k) = inl (λ i. record { node = n i; zone = record { 0 = z i }; kind = k i })

one_roles : (a b : List Role) → OneOrNot a b
one_roles [] [] = inl refl
one_roles [] (y ∷ ys) = inr (λ e. cc)
one_roles (x ∷ xs) [] = inr (λ e. cc)
one_roles (x ∷ xs) (y ∷ ys) = by_parts (one_role x y) (one_roles xs ys)
  where
    by_parts : OneOrNot x y → OneOrNot xs ys → OneOrNot (x ∷ xs) (y ∷ ys)
    by_parts (inr differ) rest = inr (λ e. differ (let is : x ≡ y = cc in is))
    by_parts (inl one) (inr differ) = inr (λ e. differ (let is : xs ≡ ys = cc in is))
    by_parts (inl one) (inl rest) = inl (λ i. one i ∷ rest i)

one_redundancy : (a b : Redundancy) → OneOrNot a b
one_redundancy (AtLeast a) (AtLeast b) = by_number (one_number a b)
  where
    by_number : OneOrNot a b → OneOrNot (AtLeast a) (AtLeast b)
    by_number (inl is) = inl (ap AtLeast is)
    by_number (inr differ) = inr (λ e. differ (let is : a ≡ b = cc in is))
one_redundancy (AtLeast a) Maximum = inr (λ e. cc)
one_redundancy Maximum (AtLeast b) = inr (λ e. cc)
one_redundancy Maximum Maximum = inl refl

pub one_staged : (a b : Staged) → OneOrNot a b
one_staged a b = by_parts (one_roles a.roles b.roles) (one_redundancy a.wanted b.wanted)
  where
    by_parts : OneOrNot a.roles b.roles → OneOrNot a.wanted b.wanted → OneOrNot a b
    by_parts (inr differ) w = inr (λ e. differ (ap (λ (x : Staged). x.roles) e))
    by_parts (inl r) (inr differ) = inr (λ e. differ (ap (λ (x : Staged). x.wanted) e))
    by_parts (inl r) (inl w) = inl (λ i. record { roles = r i; wanted = w i })
