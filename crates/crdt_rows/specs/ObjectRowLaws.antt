-- Laws that impls cite; no definition stands here.
-- The join of object rows has the laws of a join.
use Rattle.std.specs.Prelude.{◌≡◌, true, refl}
use mathlib.Core.Bool.{Bool-set}
use mathlib.Core.HLevel.{is_prop→PathP}
use Rattle.std.specs.Cmp.{IsTotalOrder, on_total, then_total}
use Rattle.std.specs.Cmp.Lexicographic.{nat_list_cmp_total}
use Rattle.crdt_core.specs.Orders.{Identifies}
use Rattle.crdt_core.specs.IdentityLaws.{nat_identical, slice_identical, pair_identical}
use Rattle.crdt_core.specs.Laws.{JoinLaws}
use Rattle.crdt_core.specs.LexLaws.{through_laws, lex_laws}
use Rattle.crdt_core.specs.Max.{max_join}
use Rattle.crdt_core.specs.TypeLaws.{max_laws}
use Rattle.crdt_core.specs.Map.{map_entries}
use Rattle.blake2_hash.specs.HashLaws.{hash_total, hash_identical}
use Rattle.crdt_rows.specs.declared.object_row.ObjectRow.{ObjectRow}
use Rattle.crdt_rows.specs.State.{state_cmp, is_complete, is_sized}
use Rattle.crdt_rows.specs.StateLaws.{state_total, state_identical}
use Rattle.crdt_rows.specs.FieldLaws.{version_total, version_identical}
use Rattle.crdt_rows.specs.Versions.{is_settled_row, is_sized_row}
use Rattle.crdt_rows.specs.VersionsLaws.{complete_either, sized_both}
use Rattle.crdt_rows.specs.SettledLaws.{settled_laws}
use Rattle.crdt_rows.specs.ObjectRow.{object_key_cmp, object_key, object_join}

pub key_total : IsTotalOrder object_key_cmp
key_total = then_total (on_total (λ k. k.0) hash_total) (on_total (λ k. k.1) nat_list_cmp_total)

key_identical : Identifies object_key_cmp
key_identical = pair_identical hash_identical (slice_identical nat_identical)

pub object_laws : JoinLaws object_join
object_laws =
    through_laws (λ r. (object_key r, record { map = r.versions; settled = r.settled; fit = r.sized }))
    (λ t. record { bucket = t.0.0; key = t.0.1; versions = t.1.map; settled = t.1.settled; sized = t.1.fit })
    (λ t. refl) (λ r. refl)
    (lex_laws key_total key_identical (settled_laws (λ s. is_complete s.0) (λ s. is_sized s.0) version_total version_identical (max_join state_cmp) complete_either sized_both (max_laws state_total state_identical)))

-- rows with the same fields are one
pub same_row : (r s : ObjectRow) → r.bucket ≡ s.bucket → r.key ≡ s.key → r.versions ≡ s.versions → r ≡ s
same_row r s b k e = λ i. record {
  bucket = b i;
  key = k i;
  versions = e i;
  settled = is_prop→PathP (λ t. is_settled_row (map_entries (e t)) ≡ true) (λ t. Bool-set (is_settled_row (map_entries (e t))) true) r.settled s.settled i;
  sized = is_prop→PathP (λ t. is_sized_row (map_entries (e t)) ≡ true) (λ t. Bool-set (is_sized_row (map_entries (e t))) true) r.sized s.sized i;
}
