-- The bytes of each row of items.
use Rattle.std.specs.Prelude.{ℕ, List, [], ◌∷◌, ◌++◌}
use Rattle.crdt_core.specs.Map.{map_entries}
use Rattle.row_codec.specs.Spelling.{byte, eight, field, counted}
use Rattle.k2v_rows.specs.declared.value.K2vValue.{K2vValue}
use Rattle.k2v_rows.specs.declared.value.K2vValue.TheVariants.{Deleted, Value}
use Rattle.k2v_rows.specs.declared.writes.Writes.{Writes}
use Rattle.k2v_rows.specs.declared.k2v_row.K2vRow.{K2vRow}

-- 00, or 01 and the bytes behind their length
abbrev pub value : K2vValue → List ℕ
value Deleted = 0 ∷ []
value (Value bytes) = 1 ∷ field bytes

-- the discard time, and a count of values, each its time and what it is
abbrev pub writes : Writes → List ℕ
writes w = eight w.discard.0 ++ counted (λ e. eight e.0 ++ value e.1.0) (map_entries w.values)

-- 04, the bucket, both keys behind their lengths, and a count of nodes, each its number and its writes
abbrev pub spelled : K2vRow → List ℕ
spelled r = 4 ∷ (r.bucket.0 ++ (field r.pk ++ (field r.sk ++ counted (λ e. byte e.0 ++ writes e.1) (map_entries r.entries))))
