-- Laws that impls cite; no definition stands here.
-- Orders that tell any two values apart.
use Rattle.std.specs.Prelude.{◌≡◌, true, false, [], ◌∷◌, refl}
use Rattle.std.proofs.Common.{sym}
use Rattle.std.specs.Ordering.{nat_cmp, bool_cmp, ordering_then}
use Rattle.std.specs.Cmp.Lexicographic.{slice_cmp}
use Rattle.std.specs.declared.cmp.Ordering.{Ordering}
use Rattle.std.specs.declared.cmp.Ordering.TheVariants.{Less, Equal, Greater}
use Rattle.std.proofs.lemmas.Cmp.{ranked}
use Rattle.crdt_core.specs.Orders.{Identifies}

-- two numbers that are not told apart are one
pub nat_identical : Identifies nat_cmp
nat_identical x y e = ranked x y Equal (sym e)

pub bool_identical : Identifies bool_cmp
bool_identical false false e = refl
bool_identical false true e = cc
bool_identical true false e = cc
bool_identical true true e = refl

-- a chained answer is `Equal` only where both are
pub then_equal : (r s : Ordering) → ordering_then r s ≡ Equal → (r ≡ Equal) × (s ≡ Equal)
then_equal Less s e = cc
then_equal Equal s e = (refl, e)
then_equal Greater s e = cc

-- two pairs that are not told apart are one
pub pair_identical : {A B : Type 0} {R : A → A → Ordering} {S : B → B → Ordering} → Identifies R → Identifies S → Identifies (λ (x y : A × B). ordering_then (R x.0 y.0) (S x.1 y.1))
pair_identical {A} {B} {R} {S} a b x y e =
    let parts = then_equal (R x.0 y.0) (S x.1 y.1) e in
    λ i. (a x.0 y.0 parts.0 i, b x.1 y.1 parts.1 i)

-- two lists that are not told apart are one
pub slice_identical : {K : Type 0} {R : K → K → Ordering} → Identifies R → Identifies (slice_cmp R)
slice_identical same [] [] e = refl
slice_identical same [] (y ∷ ys) e = cc
slice_identical same (x ∷ xs) [] e = cc
slice_identical {R} same (x ∷ xs) (y ∷ ys) e =
    let parts = then_equal (R x y) (slice_cmp R xs ys) e in
    λ i. same x y parts.0 i ∷ slice_identical same xs ys parts.1 i
