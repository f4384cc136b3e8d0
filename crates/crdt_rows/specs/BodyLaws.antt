-- Laws that impls cite; what is defined here serves their proofs alone.
-- The order of bodies is total, and tells any two apart.
use Rattle.std.specs.Prelude.{◌≡◌, ℕ, List, [], ◌∷◌, refl}
use Rattle.std.proofs.Common.{subst}
use Rattle.std.specs.declared.cmp.Ordering.{Ordering}
use Rattle.std.specs.declared.cmp.Ordering.TheVariants.{Less, Equal, Greater}
use Rattle.std.specs.Ordering.{nat_cmp, ordering_then}
use Rattle.std.specs.Cmp.{IsTotalOrder, on_total, then_total, nat_cmp_total}
use Rattle.std.specs.Cmp.Lexicographic.{slice_cmp, nat_list_cmp_total, lists_total}
use Rattle.crdt_core.specs.Orders.{Identifies}
use Rattle.crdt_core.specs.IdentityLaws.{nat_identical, slice_identical, then_equal}
use Rattle.crdt_rows.specs.declared.body.Meta.{Meta}
use Rattle.crdt_rows.specs.declared.body.Body.{Body}
use Rattle.crdt_rows.specs.declared.body.Body.TheVariants.{Marker, Inline, Blocks}
use Rattle.crdt_rows.specs.Fields.{list_cmp, bytes_cmp, header_cmp}
use Rattle.crdt_rows.specs.FieldLaws.{list_total, bytes_total, header_total, list_identical, bytes_identical, header_identical}
use Rattle.crdt_rows.specs.Body.{meta_cmp, body_tag, body_cmp}

pub meta_total : IsTotalOrder meta_cmp
meta_total = then_total (then_total (on_total (λ m. m.size) nat_cmp_total) (on_total (λ m. m.etag) nat_list_cmp_total)) (on_total (λ m. m.headers) (list_total header_total))

pub meta_identical : Identifies meta_cmp
meta_identical a b e =
    let outer = then_equal (ordering_then (nat_cmp a.size b.size) (slice_cmp nat_cmp a.etag b.etag)) (list_cmp header_cmp a.headers b.headers) e in
    let inner = then_equal (nat_cmp a.size b.size) (slice_cmp nat_cmp a.etag b.etag) outer.0 in
    λ i. record {
      size = nat_identical a.size b.size inner.0 i;
      etag = slice_identical nat_identical a.etag b.etag inner.1 i;
      headers = list_identical header_identical a.headers b.headers outer.1 i;
    }

metas : Body → List Meta
metas Marker = []
metas (Inline m d) = m ∷ []
metas (Blocks m h) = m ∷ []

bytes_of : Body → List ℕ
bytes_of Marker = []
bytes_of (Inline m d) = d
bytes_of (Blocks m h) = []

first_of : Body → List ℕ
first_of Marker = []
first_of (Inline m d) = []
first_of (Blocks m h) = h.0

by_parts : Body → Body → Ordering
by_parts a b = ordering_then (nat_cmp (body_tag a) (body_tag b)) (ordering_then (slice_cmp meta_cmp (metas a) (metas b)) (ordering_then (bytes_cmp (bytes_of a) (bytes_of b)) (slice_cmp nat_cmp (first_of a) (first_of b))))

by_parts_total : IsTotalOrder by_parts
unfolding by_parts
by_parts_total = then_total (on_total body_tag nat_cmp_total) (then_total (on_total metas (lists_total meta_total)) (then_total (on_total bytes_of bytes_total) (on_total first_of nat_list_cmp_total)))

pub then_tied : (r : Ordering) → ordering_then r Equal ≡ r
then_tied Less = refl
then_tied Equal = refl
then_tied Greater = refl

by_parts_same : (a b : Body) → by_parts a b ≡ body_cmp a b
unfolding by_parts metas bytes_of first_of
by_parts_same Marker Marker = refl
by_parts_same Marker (Inline n e) = refl
by_parts_same Marker (Blocks n k) = refl
by_parts_same (Inline m d) Marker = refl
by_parts_same (Inline m d) (Inline n e) = rw (then_tied (meta_cmp m n), then_tied (bytes_cmp d e)) refl
by_parts_same (Inline m d) (Blocks n k) = refl
by_parts_same (Blocks m h) Marker = refl
by_parts_same (Blocks m h) (Inline n e) = refl
by_parts_same (Blocks m h) (Blocks n k) = rw (then_tied (meta_cmp m n)) refl

pub body_total : IsTotalOrder body_cmp
body_total = subst IsTotalOrder (λ i a b. by_parts_same a b i) by_parts_total

pub body_identical : Identifies body_cmp
body_identical Marker Marker e = refl
body_identical Marker (Inline n d) e = cc
body_identical Marker (Blocks n k) e = cc
body_identical (Inline m d) Marker e = cc
body_identical (Inline m d) (Inline n f) e =
    let parts = then_equal (meta_cmp m n) (bytes_cmp d f) e in
    λ i. Inline (meta_identical m n parts.0 i) (bytes_identical d f parts.1 i)
body_identical (Inline m d) (Blocks n k) e = cc
body_identical (Blocks m h) Marker e = cc
body_identical (Blocks m h) (Inline n d) e = cc
body_identical (Blocks m h) (Blocks n k) e =
    let parts = then_equal (meta_cmp m n) (slice_cmp nat_cmp h.0 k.0) e in
    λ i. Blocks (meta_identical m n parts.0 i) (record { 0 = slice_identical nat_identical h.0 k.0 parts.1 i })
