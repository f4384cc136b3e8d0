-- The rows of items: their keys, their join, and what a write makes of one.
use Rattle.std.specs.Prelude.{ℕ, Bool, nat_lt, ◌&&◌, length, List, [], ◌∷◌, Option, Some, None, option_map, refl}
use Rattle.std.specs.List.{list_all}
use Rattle.std.specs.declared.cmp.Ordering.{Ordering}
use Rattle.std.specs.Ordering.{nat_cmp, ordering_then}
use Rattle.std.specs.Cmp.Lexicographic.{slice_cmp}
use Rattle.blake2_hash.specs.declared.digest.Hash32.{Hash32}
use Rattle.crdt_core.specs.declared.max.Max.{Max}
use Rattle.crdt_core.specs.Lex.{by_order}
use Rattle.crdt_core.specs.Map.{map_entries, map_get, map_single}
use Rattle.blake2_hash.specs.Hash.{hash_cmp}
use Rattle.k2v_rows.specs.declared.value.K2vValue.{K2vValue}
use Rattle.k2v_rows.specs.declared.writes.Writes.{Writes}
use Rattle.k2v_rows.specs.declared.k2v_row.K2vRow.{K2vRow}
use Rattle.k2v_rows.specs.Later.{are_later}
use Rattle.k2v_rows.specs.Writes.{writes_of}
use Rattle.k2v_rows.specs.Token.{TimeMap, entries_join, raised, discarded}

-- ---- keys

-- what names an item: bucket, partition key, sort key
abbrev pub ItemKey : Type 0
ItemKey = Hash32 × (List ℕ × List ℕ)

-- bucket, partition key, sort key
abbrev pub item_key : K2vRow → ItemKey
item_key r = (r.bucket, (r.pk, r.sk))

-- by the bucket, then by the partition key, a shorter one first, then by the sort key: as the bytes of row keys are
abbrev pub item_cmp : ItemKey → ItemKey → Ordering
item_cmp a b =
    ordering_then (ordering_then (ordering_then (hash_cmp a.0 b.0) (nat_cmp (length a.1.0) (length b.1.0))) (slice_cmp nat_cmp a.1.0 b.1.0)) (slice_cmp nat_cmp a.1.1 b.1.1)

-- ---- the join

-- the row with the greater key; under one key the writes of both, node by node
abbrev pub row_join : K2vRow → K2vRow → K2vRow
row_join a b = by_order (item_cmp (item_key a) (item_key b)) b (record a { entries = entries_join a.entries b.entries }) a

-- ---- what a row says

-- the discard time of a node's writes, 0 where there are none
abbrev pub discard_in : Option Writes → ℕ
discard_in None = 0
discard_in (Some w) = w.discard.0

-- what the write at this time left, where it stands
abbrev pub value_in : ℕ → Option Writes → Option K2vValue
value_in time None = None
value_in time (Some w) = option_map (λ v. v.0) (map_get w.values time)

-- a time, 0 where there is none
abbrev pub time_in : Option (Max ℕ) → ℕ
time_in None = 0
time_in (Some t) = t.0

-- the node's writes up to this time are discarded
abbrev pub discard_at : K2vRow → ℕ → ℕ
discard_at r node = discard_in (map_get r.entries node)

-- what the node's write at this time left, where it stands
abbrev pub value_of : K2vRow → ℕ → ℕ → Option K2vValue
value_of r node time = value_in time (map_get r.entries node)

-- the token's time of a node
abbrev pub time_at : TimeMap → ℕ → ℕ
time_at token node = time_in (map_get token node)

-- ---- a write

-- one value
abbrev pub written : ℕ → K2vValue → Writes
written time value =
    writes_of (record { 0 = 0 }) (map_single time (record { 0 = value })) (are_later {V = Max K2vValue} 0 ((time, record { 0 = value }) ∷ [])) refl (discarded (record { 0 = 0 }))

-- each node's discard time is raised to the token's time of that node, and the value stands at the node and the time
abbrev pub after_put : K2vRow → ℕ → ℕ → K2vValue → TimeMap → K2vRow
after_put r node time value token =
    record r { entries = entries_join (raised r.entries (map_entries token)) (map_single node (written time value)) }

-- the time is above the row's discard time of the node, and above every time of the token
abbrev pub can_put : K2vRow → ℕ → ℕ → TimeMap → Bool
can_put r node time token = nat_lt (discard_at r node) time && list_all (λ seen. nat_lt seen.1.0 time) (map_entries token)
