-- Rows of one item after writes, worked out by hand: two that don't know of each other, and one that replaces both.
use Rattle.std.specs.Prelude.{ℕ, List, [], ◌∷◌, ◌++◌, codes, replicate, refl}
use Rattle.blake2_hash.specs.declared.digest.Hash32.{Hash32}
use Rattle.md5.specs.Md5.{md5}
use Rattle.k2v_rows.specs.declared.value.K2vValue.{K2vValue}
use Rattle.k2v_rows.specs.declared.value.K2vValue.TheVariants.{Deleted, Value}
use Rattle.k2v_rows.specs.declared.k2v_row.K2vRow.{K2vRow}
use Rattle.k2v_rows.specs.Row.{after_put}
use Rattle.k2v_model.specs.declared.line.ShownValue.{ShownValue}
use Rattle.k2v_model.specs.Orders.{no_times, token_in}

-- the text of one byte
abbrev pub letter : ℕ → K2vValue
letter byte = Value (byte ∷ [])

-- what a read tells of it
abbrev pub shown_letter : ℕ → ℕ → ℕ → ShownValue
shown_letter node time byte = record { node = node; time = time; size = 1; md5 = md5 (byte ∷ []) }

-- the row of an item of this bucket, with partition key `p` and sort key `s`, without writes
abbrev pub no_writes : Hash32 → K2vRow
no_writes bucket = record {
  bucket = bucket;
  pk = codes "p";
  sk = codes "s";
  entries = record { entries = []; ascending = refl };
  short = refl;
}

-- request 1 writes `a` at node 1
abbrev pub one_write : Hash32 → K2vRow
one_write bucket = after_put (no_writes bucket) 1 1 (letter 97) no_times

-- request 2 writes `b` at node 2, which knew of the first, but gives no token
abbrev pub two_writes : Hash32 → K2vRow
two_writes bucket = after_put (one_write bucket) 2 2 (letter 98) no_times

-- request 4 writes `c` at node 1, in the place of all that a read of both showed
abbrev pub both_replaced : Hash32 → K2vRow
both_replaced bucket = after_put (two_writes bucket) 1 4 (letter 99) (token_in (two_writes bucket))

-- request 6 deletes at node 3, in the place of all that a read of that showed
abbrev pub all_deleted : Hash32 → K2vRow
all_deleted bucket = after_put (both_replaced bucket) 3 6 Deleted (token_in (both_replaced bucket))

-- ---- bytes

-- a small number in 4 bytes, and in 8
abbrev pub four_bytes : ℕ → List ℕ
four_bytes n = replicate 3 0 ++ n ∷ []

abbrev pub eight_bytes : ℕ → List ℕ
eight_bytes n = replicate 7 0 ++ n ∷ []

-- the bytes of each of these rows: 04, the bucket, both keys, and what stands
abbrev pub row_bytes : Hash32 → List ℕ → List ℕ
row_bytes bucket nodes = 4 ∷ (bucket.0 ++ (four_bytes 1 ++ 112 ∷ (four_bytes 1 ++ 115 ∷ nodes)))

-- what stands of a node: its number, its discard time, and a count of values
abbrev pub node_front : ℕ → ℕ → ℕ → List ℕ
node_front node discard count = node ∷ eight_bytes discard ++ four_bytes count

-- a value of one byte at a time
abbrev pub value_bytes : ℕ → ℕ → List ℕ
value_bytes time byte = eight_bytes time ++ 1 ∷ four_bytes 1 ++ byte ∷ []

-- two nodes, of which nothing is discarded: of node 1 `a` stands at time 1, of node 2 `b` at time 2
abbrev pub two_writes_bytes : Hash32 → List ℕ
two_writes_bytes bucket =
    row_bytes bucket (four_bytes 2 ++ node_front 1 0 1 ++ value_bytes 1 97 ++ node_front 2 0 1 ++ value_bytes 2 98)

-- of node 1 all up to time 1 is discarded, and `c` stands at time 4; of node 2 all up to time 2, and nothing stands
abbrev pub both_replaced_bytes : Hash32 → List ℕ
both_replaced_bytes bucket =
    row_bytes bucket (four_bytes 2 ++ node_front 1 1 1 ++ value_bytes 4 99 ++ node_front 2 2 0)
