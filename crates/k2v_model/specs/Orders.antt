-- Items: their keys, their rows, what a request asks for, and tokens.
use Rattle.std.specs.Prelude.{◌≡◌, ℕ, Bool, true, false, List, [], refl}
use Rattle.std.specs.Ordering.{nat_cmp, is_eq}
use Rattle.blake2_hash.specs.Hash.{digest_of}
use Rattle.crdt_core.specs.declared.max.Max.{Max}
use Rattle.crdt_core.specs.Entries.{is_ascending}
use Rattle.crdt_core.specs.Map.{map_entries}
use Rattle.k2v_rows.specs.declared.k2v_row.K2vRow.{K2vRow}
use Rattle.k2v_rows.specs.Row.{ItemKey, item_cmp}
use Rattle.k2v_rows.specs.Token.{TimeMap, token_entries}
use Rattle.k2v_schema.specs.Schema.{position_of, key_of as row_key}
use Rattle.wire_messages.specs.declared.phase.Phase.{Phase}
use Rattle.wire_messages.specs.declared.phase.Phase.TheVariants.{Read as Reads}
use Rattle.k2v_model.specs.declared.order.Item.{Item}
use Rattle.k2v_model.specs.declared.order.Ask.{Ask}
use Rattle.k2v_model.specs.declared.order.Ask.TheVariants.{Write, Read}

-- the key of an item's row: the digest of the bucket's name, the partition key and the sort key. Two requests are of one item
-- where these keys are one
abbrev pub key_of : Item → ItemKey
key_of i = (digest_of i.bucket, (i.pk, i.sk))

-- two keys are one
abbrev pub is_same_key : ItemKey → ItemKey → Bool
is_same_key a b = is_eq (item_cmp a b)

-- the row of an item without writes
abbrev pub empty_row : Item → K2vRow
empty_row i = record {
  bucket = digest_of i.bucket;
  pk = i.pk;
  sk = i.sk;
  entries = record { entries = []; ascending = refl };
  short = i.short;
}

-- the read phase of an item's row
abbrev pub asks_for : Item → Phase K2vRow
asks_for i = Reads 1 (record { 0 = position_of (empty_row i) }) (row_key (empty_row i))

-- the request writes
abbrev pub is_write : Ask → Bool
is_write (Write value token) = true
is_write Read = false

-- ---- tokens

-- no times
abbrev pub no_times : TimeMap
no_times = record { entries = []; ascending = refl }

-- these times, where they ascend by node
abbrev pub times_by : (ts : List (ℕ × Max ℕ)) (b : Bool) → is_ascending nat_cmp ts ≡ b → TimeMap
times_by ts true h = record { entries = ts; ascending = h }
times_by ts false h = no_times

-- the token of a read that gave this row: of each node the greatest of its discard time and the times of its values
abbrev pub token_in : K2vRow → TimeMap
token_in r = let ts = token_entries (map_entries r.entries) in times_by ts (is_ascending nat_cmp ts) refl
