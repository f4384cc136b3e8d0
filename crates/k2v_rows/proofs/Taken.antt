-- Writes and rows that were read part by part.
use Rattle.std.proofs.Common.{◌≡◌, ℕ, List, Some, refl, sym, ap, ◌∙◌}
use Rattle.blake2_hash.specs.declared.digest.Hash32.{Hash32}
use Rattle.k2v_rows.specs.declared.writes.Writes.{Writes}
use Rattle.k2v_rows.specs.declared.k2v_row.K2vRow.{K2vRow}
use Rattle.k2v_rows.specs.Values.{ValueMap}
use Rattle.k2v_rows.specs.Token.{WritesMap}
use Rattle.k2v_rows.specs.Row.{item_key}
use Rattle.row_codec.specs.Reading.{byte_at, eight_at, both_at, tested_at, hash_at, field_at, max_at}
use Rattle.row_codec.specs.Rows.{map_at}
use Rattle.k2v_rows.specs.Reading.{value_at, writes_from, writes_at, row_from, rest_at}
use Rattle.k2v_rows.specs.ReadingLaws.{writes_parts, writes_there, row_parts, row_there}

pub writes_taken : (bytes : List ℕ) (discard : ℕ) (after : List ℕ) (values : ValueMap) (rest : List ℕ) (w : Writes)
    → eight_at bytes ≡ Some (discard, after) → map_at eight_at (max_at value_at) after ≡ Some (values, rest)
    → w.discard.0 ≡ discard → w.values ≡ values → writes_at bytes ≡ Some (w, rest)
unfolding writes_at tested_at both_at
writes_taken bytes discard after values rest w h v e f =
    let parts : (discard, values) ≡ writes_parts w = λ i. (sym e i, sym f i) in
    let made : writes_from (discard, values) ≡ Some w = ap writes_from parts ∙ writes_there w in
    rw (h, v, made) refl

pub row_taken : (bytes : List ℕ) (bucket : Hash32) (after_bucket pk after_pk sk after_sk : List ℕ) (entries : WritesMap) (rest : List ℕ) (row : K2vRow)
    → hash_at bytes ≡ Some (bucket, after_bucket) → field_at after_bucket ≡ Some (pk, after_pk) → field_at after_pk ≡ Some (sk, after_sk) → map_at byte_at writes_at after_sk ≡ Some (entries, rest)
    → item_key row ≡ (bucket, (pk, sk)) → row.entries ≡ entries → rest_at bytes ≡ Some (row, rest)
unfolding rest_at tested_at both_at
row_taken bytes bucket after_bucket pk after_pk sk after_sk entries rest row h k l v e f =
    let parts : (bucket, (pk, (sk, entries))) ≡ row_parts row = λ i. ((sym e i).0, ((sym e i).1.0, ((sym e i).1.1, sym f i))) in
    let made : row_from (bucket, (pk, (sk, entries))) ≡ Some row = ap row_from parts ∙ row_there row in
    rw (h, k, l, v, made) refl
