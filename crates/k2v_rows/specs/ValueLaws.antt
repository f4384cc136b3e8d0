-- Laws that impls cite; what is defined here serves their proofs alone.
-- The order of what writes leave is total, and tells any two apart.
use Rattle.std.specs.Prelude.{◌≡◌, ℕ, List, [], ◌∷◌, refl}
use Rattle.std.proofs.Common.{subst}
use Rattle.std.specs.Ordering.{nat_cmp}
use Rattle.std.specs.Cmp.{IsTotalOrder, on_total}
use Rattle.std.specs.Cmp.Lexicographic.{slice_cmp, nat_list_cmp_total, lists_total}
use Rattle.crdt_core.specs.Orders.{Identifies}
use Rattle.crdt_core.specs.IdentityLaws.{nat_identical, slice_identical}
use Rattle.crdt_rows.specs.BodyLaws.{then_tied}
use Rattle.k2v_rows.specs.declared.value.K2vValue.{K2vValue}
use Rattle.k2v_rows.specs.declared.value.K2vValue.TheVariants.{Deleted, Value}
use Rattle.k2v_rows.specs.Value.{value_cmp}

pub value_identical : Identifies value_cmp
value_identical Deleted Deleted e = refl
value_identical Deleted (Value b) e = cc
value_identical (Value a) Deleted e = cc
value_identical (Value a) (Value b) e = λ i. Value (slice_identical nat_identical a b e i)

-- the same order by the bytes, where there are any

bytes_in : K2vValue → List (List ℕ)
bytes_in Deleted = []
bytes_in (Value b) = b ∷ []

by_bytes_same : (a b : K2vValue) → slice_cmp (slice_cmp nat_cmp) (bytes_in a) (bytes_in b) ≡ value_cmp a b
unfolding bytes_in
by_bytes_same Deleted Deleted = refl
by_bytes_same Deleted (Value b) = refl
by_bytes_same (Value a) Deleted = refl
by_bytes_same (Value a) (Value b) = then_tied (slice_cmp nat_cmp a b)

pub value_total : IsTotalOrder value_cmp
value_total = subst IsTotalOrder (λ i a b. by_bytes_same a b i) (on_total bytes_in (lists_total nat_list_cmp_total))
