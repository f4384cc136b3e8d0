-- The rows of items as a schema.
use Rattle.std.specs.Prelude.{ℕ, Bool, false, ◌&&◌, List, [], ◌++◌, None}
use Rattle.blake2_hash.specs.Blake2b.{blake2b}
use Rattle.k2v_rows.specs.declared.k2v_row.K2vRow.{K2vRow}
use Rattle.row_codec.specs.Reads.{are_bytes}
use Rattle.row_codec.specs.Range.{is_hash}
use Rattle.row_codec.specs.Spelling.{field}
use Rattle.table_schema.specs.Words.{Words}
use Rattle.k2v_rows.specs.Reading.{read, spelling}

-- the bucket's bytes and those of the partition key are bytes
abbrev pub is_proper : K2vRow → Bool
is_proper r = is_hash r.bucket && are_bytes r.pk

-- the digest of bucket and partition key
abbrev pub position_of : K2vRow → List ℕ
position_of r = blake2b 32 (r.bucket.0 ++ r.pk)

-- bucket, the partition key behind its length, the sort key
abbrev pub key_of : K2vRow → List ℕ
key_of r = r.bucket.0 ++ (field r.pk ++ r.sk)

-- what the schema says of rows: all are of table 1, none is a tombstone, needs a block or calls for other rows
abbrev pub words : Words K2vRow
words = record {
  is_proper = is_proper;
  table = λ r. 1;
  position = position_of;
  key = key_of;
  is_tombstone = λ r. false;
  live_block = λ r. None;
  marker = λ r. None;
  triggered = λ old new. [];
  spelling = spelling;
  read = read;
}
