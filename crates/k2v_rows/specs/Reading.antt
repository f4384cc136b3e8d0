-- Which row is read from bytes, and which bytes are a row's.
use Rattle.std.proofs.Common.{◌≡◌, ℕ, zero, suc, Bool, true, false, List, [], ◌∷◌, Option, Some, None, refl}
use Rattle.blake2_hash.specs.declared.digest.Hash32.{Hash32}
use Rattle.crdt_core.specs.Map.{map_entries}
use Rattle.row_codec.specs.Reads.{spelling_of, read_whole}
use Rattle.row_codec.specs.Reading.{byte_at, eight_at, field_at, both_at, made_at, tested_at, hash_at, max_at}
use Rattle.row_codec.specs.Rows.{map_at}
use Rattle.k2v_rows.specs.declared.value.K2vValue.{K2vValue}
use Rattle.k2v_rows.specs.declared.value.K2vValue.TheVariants.{Deleted, Value}
use Rattle.k2v_rows.specs.declared.writes.Writes.{Writes}
use Rattle.k2v_rows.specs.declared.k2v_row.K2vRow.{K2vRow}
use Rattle.k2v_rows.specs.Later.{are_later, is_short}
use Rattle.k2v_rows.specs.Values.{ValueMap}
use Rattle.k2v_rows.specs.Token.{WritesMap}
use Rattle.k2v_rows.specs.Range.{in_range, has_bytes}
use Rattle.k2v_rows.specs.Spelling.{spelled}

-- ---- what writes leave

-- what a write left, and the bytes behind it: 00 is a deletion, 01 comes before a value's bytes
unfoldable pub value_at : List ℕ → Option (K2vValue × List ℕ)
value_at [] = None
value_at (zero ∷ rest) = Some (Deleted, rest)
value_at (suc zero ∷ rest) = made_at Value field_at rest
value_at (suc (suc n) ∷ rest) = None

-- the writes with this discard time and these values, where the test of their times passed
abbrev pub writes_by : (t : ℕ × ValueMap) (b : Bool) → are_later t.0 (map_entries t.1) ≡ b → Option Writes
writes_by t true h = Some (record { discard = record { 0 = t.0 }; values = t.1; kept = h })
writes_by t false h = None

-- the writes with this discard time and these values, where each is after it
abbrev pub writes_from : ℕ × ValueMap → Option Writes
writes_from t = writes_by t (are_later t.0 (map_entries t.1)) refl

-- one node's writes, and the bytes behind them
unfoldable pub writes_at : List ℕ → Option (Writes × List ℕ)
writes_at = tested_at writes_from (both_at eight_at (map_at eight_at (max_at value_at)))

-- ---- rows

-- what a row is made of
abbrev pub RowParts : Type 0
RowParts = Hash32 × (List ℕ × (List ℕ × WritesMap))

-- the row of these parts, where the test of its partition key passed
abbrev pub row_by : (t : RowParts) (b : Bool) → is_short t.1.0 ≡ b → Option K2vRow
row_by t true h = Some (record { bucket = t.0; pk = t.1.0; sk = t.1.1.0; entries = t.1.1.1; short = h })
row_by t false h = None

-- the row of these parts, where the partition key is short
abbrev pub row_from : RowParts → Option K2vRow
row_from t = row_by t (is_short t.1.0) refl

-- the row behind the table's byte, and the bytes behind it
unfoldable pub rest_at : List ℕ → Option (K2vRow × List ℕ)
rest_at = tested_at row_from (both_at hash_at (both_at field_at (both_at field_at (map_at byte_at writes_at))))

-- the row whose bytes begin with 04, and the bytes behind it
unfoldable pub row_at : List ℕ → Option (K2vRow × List ℕ)
row_at [] = None
row_at (zero ∷ rest) = None
row_at (suc zero ∷ rest) = None
row_at (suc (suc zero) ∷ rest) = None
row_at (suc (suc (suc zero)) ∷ rest) = None
row_at (suc (suc (suc (suc zero))) ∷ rest) = rest_at rest
row_at (suc (suc (suc (suc (suc n)))) ∷ rest) = None

-- ---- a row alone

-- the bytes of a row that has any
abbrev pub spelling : K2vRow → Option (List ℕ)
spelling r = spelling_of in_range has_bytes spelled r

-- the row that has these bytes
abbrev pub read : List ℕ → Option K2vRow
read bytes = read_whole row_at bytes
