-- The acknowledged writes of a history, by their keys and in the order of their acknowledgements.
use Rattle.std.specs.Prelude.{◌≡◌, ◌+◌, ◌-◌, ℕ, nat_eq, nat_lt, Bool, true, false, ◌&&◌, if◌then◌else◌, Option, Some, None, option_map, List, length, slice_get, get_or, IsSorted}
use Rattle.std.specs.List.{sum_by, starts_with}
use Rattle.std.specs.List.Sorted.{IsPartitionPoint}
use Rattle.std.specs.Option.{option_and_then}
use Rattle.crdt_rows.specs.declared.version.Version.{Version}
use Rattle.std.specs.Ordering.{nat_cmp, ordering_then, is_lt}
use Rattle.std.specs.Cmp.Lexicographic.{slice_cmp}
use Rattle.std.specs.declared.cmp.Ordering.{Ordering}
use Rattle.history_model.specs.declared.record.Record.{Record}
use Rattle.history_model.specs.declared.record.Record.TheVariants.{Began, Finished, Ended}
use Rattle.history_model.specs.Record.{is_write, is_delete, acknowledged, answer_of, version_of, same_bytes}
use Rattle.history_model.specs.Pairs.{sum_below}
use Rattle.world_history.specs.declared.rows.Row.{Row}
use Rattle.world_history.specs.Checks.{newest_of}

-- the order of buckets, at a tie of keys, and at a tie of places
abbrev pub row_cmp : Row → Row → Ordering
row_cmp a b = ordering_then (slice_cmp nat_cmp a.bucket b.bucket) (ordering_then (slice_cmp nat_cmp a.key b.key) (nat_cmp a.place b.place))

-- the row of the write that a record says began at place b, if it was acknowledged: its key, and the place of that
abbrev pub ack_of : List Record → ℕ → Option Record → Option Row
ack_of h b None = None
ack_of h b (Some (Began q node kind bucket key)) = if is_write kind then option_map (λ a. record { bucket = bucket; key = key; place = a.0 }) (acknowledged h b q) else None
ack_of h b (Some (Finished q answer)) = None
ack_of h b (Some (Ended q cause)) = None

-- the same, of the record at place b
abbrev pub ack_at : List Record → ℕ → Option Row
ack_at h b = ack_of h b (slice_get h b)

-- the row of the delete that a record says began at place b: its key, and that place
abbrev pub delete_of : ℕ → Option Record → Option Row
delete_of b None = None
delete_of b (Some (Began q node kind bucket key)) = if is_delete kind then Some (record { bucket = bucket; key = key; place = b }) else None
delete_of b (Some (Finished q answer)) = None
delete_of b (Some (Ended q cause)) = None

-- the same, of the record at place b
abbrev pub delete_at : List Record → ℕ → Option Row
delete_at h b = delete_of b (slice_get h b)

-- f of a row, and 0 of none
abbrev pub sum_of : (Row → ℕ) → Option Row → ℕ
sum_of f None = 0
sum_of f (Some r) = f r

-- the rows of the places below n, in order
pub record IsTableOf (row_at : ℕ → Option Row) (n : ℕ) (rows : List Row) : Type 0 where
  pub sorted : IsSorted row_cmp rows
  pub told : (f : Row → ℕ) → sum_by f rows ≡ sum_below (λ b. sum_of f (row_at b)) n

-- the rows of all acknowledged writes, in order
abbrev pub IsTable : List Record → List Row → Type 0
IsTable h rows = IsTableOf (ack_at h) (length h) rows

-- the rows of all deletes, in order
abbrev pub AreDeletes : List Record → List Row → Type 0
AreDeletes h rows = IsTableOf (delete_at h) (length h) rows

-- the row stands before those of this key at place t or later
abbrev pub is_before : List ℕ → List ℕ → ℕ → Row → Bool
is_before bucket key t r = is_lt (row_cmp r (record { bucket = bucket; key = key; place = t }))

-- the row is one of this key before place t
abbrev pub is_of : List ℕ → List ℕ → ℕ → Row → Bool
is_of bucket key t r = same_bytes r.bucket bucket && (same_bytes r.key key && nat_lt r.place t)

-- 1 of what passes
abbrev pub one_if : Bool → ℕ
one_if b = if b then 1 else 0

-- the version with which the record at place e acknowledges a write, if it does
abbrev pub version_in : List Record → ℕ → Option Version
version_in h e = option_and_then version_of (option_and_then answer_of (slice_get h e))

-- the row is one of this key
abbrev pub is_of_key : List ℕ → List ℕ → Row → Bool
is_of_key bucket key r = same_bytes r.bucket bucket && same_bytes r.key key

-- a list of the bucket with this prefix names the row's key
abbrev pub is_listed : List ℕ → List ℕ → Row → Bool
is_listed bucket prefix r = same_bytes r.bucket bucket && starts_with nat_eq r.key prefix

-- and the row stands before place i
abbrev pub is_listed_before : List ℕ → List ℕ → ℕ → Row → Bool
is_listed_before bucket prefix i r = is_listed bucket prefix r && nat_lt r.place i

-- the row, if there is one, is of this key
abbrev pub is_of_key_at : List ℕ → List ℕ → Option Row → Bool
is_of_key_at bucket key None = false
is_of_key_at bucket key (Some r) = is_of_key bucket key r

-- there is a row before place k, and it is of this key
abbrev pub follows_key : List Row → ℕ → List ℕ → List ℕ → Bool
follows_key rows k bucket key = nat_lt 0 k && is_of_key_at bucket key (slice_get rows (k - 1))

-- there is a row, and a list of the bucket with this prefix names its key
abbrev pub is_listed_at : List ℕ → List ℕ → Option Row → Bool
is_listed_at bucket prefix None = false
is_listed_at bucket prefix (Some r) = is_listed bucket prefix r

-- the rows before `end` are those that stand before place n of the key that the row at k has
abbrev pub IsKeyEnd : List Row → ℕ → ℕ → ℕ → Type 0
IsKeyEnd rows k n end = (r : Row) → slice_get rows k ≡ Some r → IsPartitionPoint (λ x. is_before r.bucket r.key n x ≡ true) (λ x. is_before r.bucket r.key n x ≡ false) rows end

-- the version of a row, if there is one, and it is of this key
abbrev pub version_of_row : List Record → List ℕ → List ℕ → Option Row → Option Version
version_of_row h bucket key None = None
version_of_row h bucket key (Some r) = if is_of_key bucket key r then version_in h r.place else None

-- the same, of the row at m
abbrev pub row_version : List Record → List Row → List ℕ → List ℕ → ℕ → Option Version
row_version h rows bucket key m = version_of_row h bucket key (slice_get rows m)

-- what the row at k has from the row before it: the newest version up to there, where that row is of the same key
abbrev pub IsFromBefore : List Row → ℕ → Option Version → Option Version → Type 0
IsFromBefore rows k newest result = (r : Row) → slice_get rows k ≡ Some r → result ≡ (if follows_key rows k r.bucket r.key then newest else None)

-- of each row the newest version of its key up to that row
pub record AreNewest (h : List Record) (rows : List Row) (all : List (Option Version)) : Type 0 where
  pub whole : length all ≡ length rows
  pub newest : (m : ℕ) (r : Row) (d : Option Version) → slice_get rows m ≡ Some r → get_or all m d ≡ newest_of (row_version h rows r.bucket r.key) (m + 1)
