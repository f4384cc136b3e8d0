-- Laws that impls cite; no definition stands here.
-- The orders of fields are total, and tell any two values apart.
use Rattle.std.specs.Prelude.{length}
use Rattle.std.specs.declared.cmp.Ordering.{Ordering}
use Rattle.std.specs.Ordering.{nat_cmp}
use Rattle.std.specs.Cmp.{IsTotalOrder, on_total, then_total, nat_cmp_total}
use Rattle.std.specs.Cmp.Lexicographic.{slice_cmp, lists_total}
use Rattle.crdt_core.specs.Orders.{Identifies}
use Rattle.crdt_core.specs.IdentityLaws.{nat_identical, pair_identical, slice_identical, then_equal}
use Rattle.crdt_rows.specs.Fields.{list_cmp, bytes_cmp, header_cmp}
use Rattle.crdt_rows.specs.Version.{version_cmp}
use Rattle.blake2_hash.specs.HashLaws.{hash_total, hash_identical}
use Rattle.crdt_rows.specs.VersionRow.{part_cmp, block_ref_cmp}

pub list_total : {X : Type 0} {R : X → X → Ordering} → IsTotalOrder R → IsTotalOrder (list_cmp R)
list_total o = then_total (on_total length nat_cmp_total) (lists_total o)

pub bytes_total : IsTotalOrder bytes_cmp
bytes_total = list_total nat_cmp_total

pub header_total : IsTotalOrder header_cmp
header_total = then_total (on_total (λ h. h.0) bytes_total) (on_total (λ h. h.1) bytes_total)

pub list_identical : {X : Type 0} {R : X → X → Ordering} → Identifies R → Identifies (list_cmp R)
list_identical {X} {R} same a b e = slice_identical same a b (then_equal (nat_cmp (length a) (length b)) (slice_cmp R a b) e).1

pub bytes_identical : Identifies bytes_cmp
bytes_identical = list_identical nat_identical

pub header_identical : Identifies header_cmp
header_identical = pair_identical bytes_identical bytes_identical

pub version_identical : Identifies version_cmp
version_identical a b e =
    let both = pair_identical nat_identical nat_identical (a.ts, a.id) (b.ts, b.id) e in
    λ i. record { ts = (both i).0; id = (both i).1 }

pub version_total : IsTotalOrder version_cmp
version_total = then_total (on_total (λ v. v.ts) nat_cmp_total) (on_total (λ v. v.id) nat_cmp_total)

pub part_total : IsTotalOrder part_cmp
part_total = then_total (on_total (λ v. v.part) nat_cmp_total) (on_total (λ v. v.offset) nat_cmp_total)

pub part_identical : Identifies part_cmp
part_identical a b e =
    let both = pair_identical nat_identical nat_identical (a.part, a.offset) (b.part, b.offset) e in
    λ i. record { part = (both i).0; offset = (both i).1 }

pub block_ref_total : IsTotalOrder block_ref_cmp
block_ref_total = then_total (on_total (λ v. v.hash) hash_total) (on_total (λ v. v.size) nat_cmp_total)

pub block_ref_identical : Identifies block_ref_cmp
block_ref_identical a b e =
    let both = pair_identical hash_identical nat_identical (a.hash, a.size) (b.hash, b.size) e in
    λ i. record { hash = (both i).0; size = (both i).1 }
