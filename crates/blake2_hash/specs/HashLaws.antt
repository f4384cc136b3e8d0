-- Laws that impls cite; no definition stands here.
-- The order of digests is total, and tells any two apart.
use Rattle.std.specs.Cmp.{IsTotalOrder, on_total}
use Rattle.std.specs.Cmp.Lexicographic.{nat_list_cmp_total}
use Rattle.std.proofs.lemmas.Map.Lookups.{CmpEqualImpliesEq, exact_bytes}
use Rattle.blake2_hash.specs.Hash.{hash_cmp}

pub hash_total : IsTotalOrder hash_cmp
hash_total = on_total (λ h. h.0) nat_list_cmp_total

pub hash_identical : CmpEqualImpliesEq hash_cmp
hash_identical a b e = λ i. record { 0 = exact_bytes a.0 b.0 e i }
