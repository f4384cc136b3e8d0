-- Laws that impls cite; what is defined here serves their proofs alone.
-- The order of states is total, and tells any two apart.
use Rattle.std.specs.Prelude.{◌≡◌, List, [], ◌∷◌, refl}
use Rattle.std.proofs.Common.{subst}
use Rattle.std.specs.declared.cmp.Ordering.{Ordering}
use Rattle.std.specs.Ordering.{nat_cmp, ordering_then}
use Rattle.std.specs.Cmp.{IsTotalOrder, on_total, then_total, nat_cmp_total}
use Rattle.std.specs.Cmp.Lexicographic.{slice_cmp, lists_total}
use Rattle.crdt_core.specs.Orders.{Identifies}
use Rattle.crdt_rows.specs.declared.body.Body.{Body}
use Rattle.crdt_rows.specs.declared.state.State.{State}
use Rattle.crdt_rows.specs.declared.state.State.TheVariants.{Uploading, Aborted, Complete}
use Rattle.crdt_rows.specs.Body.{body_cmp}
use Rattle.crdt_rows.specs.BodyLaws.{body_total, body_identical, then_tied}
use Rattle.crdt_rows.specs.State.{stage, state_cmp}

pub state_identical : Identifies state_cmp
state_identical Uploading Uploading e = refl
state_identical Uploading Aborted e = cc
state_identical Uploading (Complete b) e = cc
state_identical Aborted Uploading e = cc
state_identical Aborted Aborted e = refl
state_identical Aborted (Complete b) e = cc
state_identical (Complete a) Uploading e = cc
state_identical (Complete a) Aborted e = cc
state_identical (Complete a) (Complete b) e = λ i. Complete (body_identical a b e i)

bodies : State → List Body
bodies Uploading = []
bodies Aborted = []
bodies (Complete b) = b ∷ []

by_parts : State → State → Ordering
by_parts a b = ordering_then (nat_cmp (stage a) (stage b)) (slice_cmp body_cmp (bodies a) (bodies b))

by_parts_total : IsTotalOrder by_parts
unfolding by_parts
by_parts_total = then_total (on_total stage nat_cmp_total) (on_total bodies (lists_total body_total))

by_parts_same : (a b : State) → by_parts a b ≡ state_cmp a b
unfolding by_parts bodies
by_parts_same Uploading Uploading = refl
by_parts_same Uploading Aborted = refl
by_parts_same Uploading (Complete b) = refl
by_parts_same Aborted Uploading = refl
by_parts_same Aborted Aborted = refl
by_parts_same Aborted (Complete b) = refl
by_parts_same (Complete a) Uploading = refl
by_parts_same (Complete a) Aborted = refl
by_parts_same (Complete a) (Complete b) = then_tied (body_cmp a b)

pub state_total : IsTotalOrder state_cmp
state_total = subst IsTotalOrder (λ i a b. by_parts_same a b i) by_parts_total
