-- Laws that impls cite; no definition stands here.
-- The join of rows, of each table and of all, has the laws of a join.
use Rattle.std.specs.Prelude.{refl, ◌≡◌}
use Rattle.std.specs.Cmp.{nat_cmp_total, IsTotalOrder, on_total, then_total}
use Rattle.crdt_core.specs.IdentityLaws.{nat_identical, pair_identical}
use Rattle.crdt_core.specs.Laws.{JoinLaws}
use Rattle.crdt_core.specs.LexLaws.{through_laws, lex_laws}
use Rattle.crdt_core.specs.TypeLaws.{deletable_laws, max_laws, or_laws}
use Rattle.crdt_core.specs.MapLaws.{map_laws}
use Rattle.crdt_rows.specs.VersionRow.{version_row_join}
use Rattle.crdt_rows.specs.FieldLaws.{part_total, part_identical, block_ref_total, block_ref_identical}
use Rattle.crdt_core.specs.Orders.{Identifies}
use Rattle.blake2_hash.specs.HashLaws.{hash_total, hash_identical}
use Rattle.crdt_rows.specs.RefRow.{ref_key_cmp, ref_key, ref_row_join}
use Rattle.std.proofs.Common.{ap}
use Rattle.crdt_rows.specs.declared.any_row.AnyRow.{AnyRow}
use Rattle.crdt_rows.specs.declared.any_row.AnyRow.TheVariants.{Object, Version, Ref}
use Rattle.crdt_rows.specs.ObjectRowLaws.{object_laws}
use Rattle.crdt_rows.specs.AnyRow.{any_join}

pub version_row_laws : JoinLaws version_row_join
version_row_laws =
    through_laws (λ r. (r.id, r.blocks)) (λ t. record { id = t.0; blocks = t.1 }) (λ t. refl) (λ r. refl)
    (lex_laws nat_cmp_total nat_identical (deletable_laws (map_laws part_total part_identical (max_laws block_ref_total block_ref_identical))))

pub key_total : IsTotalOrder ref_key_cmp
key_total = then_total (on_total (λ k. k.0) hash_total) (on_total (λ k. k.1) nat_cmp_total)

key_identical : Identifies ref_key_cmp
key_identical = pair_identical hash_identical nat_identical

pub ref_row_laws : JoinLaws ref_row_join
ref_row_laws =
    through_laws (λ r. (ref_key r, r.deleted)) (λ t. record { hash = t.0.0; id = t.0.1; deleted = t.1 }) (λ t. refl) (λ r. refl)
    (lex_laws key_total key_identical or_laws)

comm : (a b : AnyRow) → any_join a b ≡ any_join b a
comm (Object a) (Object b) = ap Object (object_laws.commutative a b)
comm (Object a) (Version b) = refl
comm (Object a) (Ref b) = refl
comm (Version a) (Object b) = refl
comm (Version a) (Version b) = ap Version (version_row_laws.commutative a b)
comm (Version a) (Ref b) = refl
comm (Ref a) (Object b) = refl
comm (Ref a) (Version b) = refl
comm (Ref a) (Ref b) = ap Ref (ref_row_laws.commutative a b)

assoc : (a b c : AnyRow) → any_join (any_join a b) c ≡ any_join a (any_join b c)
assoc (Object a) (Object b) (Object c) = ap Object (object_laws.associative a b c)
assoc (Object a) (Object b) (Version c) = refl
assoc (Object a) (Object b) (Ref c) = refl
assoc (Object a) (Version b) (Object c) = refl
assoc (Object a) (Version b) (Version c) = refl
assoc (Object a) (Version b) (Ref c) = refl
assoc (Object a) (Ref b) (Object c) = refl
assoc (Object a) (Ref b) (Version c) = refl
assoc (Object a) (Ref b) (Ref c) = refl
assoc (Version a) (Object b) (Object c) = refl
assoc (Version a) (Object b) (Version c) = refl
assoc (Version a) (Object b) (Ref c) = refl
assoc (Version a) (Version b) (Object c) = refl
assoc (Version a) (Version b) (Version c) = ap Version (version_row_laws.associative a b c)
assoc (Version a) (Version b) (Ref c) = refl
assoc (Version a) (Ref b) (Object c) = refl
assoc (Version a) (Ref b) (Version c) = refl
assoc (Version a) (Ref b) (Ref c) = refl
assoc (Ref a) (Object b) (Object c) = refl
assoc (Ref a) (Object b) (Version c) = refl
assoc (Ref a) (Object b) (Ref c) = refl
assoc (Ref a) (Version b) (Object c) = refl
assoc (Ref a) (Version b) (Version c) = refl
assoc (Ref a) (Version b) (Ref c) = refl
assoc (Ref a) (Ref b) (Object c) = refl
assoc (Ref a) (Ref b) (Version c) = refl
assoc (Ref a) (Ref b) (Ref c) = ap Ref (ref_row_laws.associative a b c)

idem : (a : AnyRow) → any_join a a ≡ a
idem (Object a) = ap Object (object_laws.idempotent a)
idem (Version a) = ap Version (version_row_laws.idempotent a)
idem (Ref a) = ap Ref (ref_row_laws.idempotent a)

pub any_laws : JoinLaws any_join
any_laws = record { commutative = comm; associative = assoc; idempotent = idem }
