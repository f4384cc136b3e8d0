-- Rows whose numbers are in their types' ranges, and rows that are short enough to have bytes.
use Rattle.std.specs.Prelude.{Bool, true, ◌&&◌}
use Rattle.std.specs.List.{list_all}
use Rattle.crdt_core.specs.Map.{map_entries}
use Rattle.row_codec.specs.Reads.{are_bytes}
use Rattle.row_codec.specs.Range.{is_byte, is_eight, is_hash, is_below, are_short}
use Rattle.k2v_rows.specs.declared.value.K2vValue.{K2vValue}
use Rattle.k2v_rows.specs.declared.value.K2vValue.TheVariants.{Deleted, Value}
use Rattle.k2v_rows.specs.declared.writes.Writes.{Writes}
use Rattle.k2v_rows.specs.declared.k2v_row.K2vRow.{K2vRow}

-- a value's bytes are bytes
abbrev pub value_in_range : K2vValue → Bool
value_in_range Deleted = true
value_in_range (Value bytes) = are_bytes bytes

-- each number of one node's writes is in its type's range
abbrev pub writes_in_range : Writes → Bool
writes_in_range w = is_eight w.discard.0 && list_all (λ e. is_eight e.0 && value_in_range e.1.0) (map_entries w.values)

-- each number of the row is in its type's range
abbrev pub in_range : K2vRow → Bool
in_range r = is_hash r.bucket && (are_bytes r.pk && (are_bytes r.sk && list_all (λ e. is_byte e.0 && writes_in_range e.1) (map_entries r.entries)))

-- ---- lengths and counts below 2^32

-- 4 bytes say how long the value is
abbrev pub is_short_value : K2vValue → Bool
is_short_value Deleted = true
is_short_value (Value bytes) = is_below bytes

-- 4 bytes say how many values there are, and how long each is
abbrev pub are_short_writes : Writes → Bool
are_short_writes w = are_short (λ e. is_short_value e.1.0) (map_entries w.values)

-- each length and count is below 2^32, so that the row has bytes
abbrev pub has_bytes : K2vRow → Bool
has_bytes r = is_below r.pk && (is_below r.sk && are_short (λ e. are_short_writes e.1) (map_entries r.entries))
