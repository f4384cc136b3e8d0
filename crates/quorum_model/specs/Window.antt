-- The window of a range phase: the part of the table that both answers show whole.
use Rattle.std.specs.Prelude.{◌≡◌, ◌++◌, ℕ, nat_eq, ◌-◌, Bool, true, not, if◌then◌else◌, Option, Some, None, option_map, List, length, slice_get, map, drop, filter, All, IsTrue}
use Rattle.std.specs.List.{starts_with}
use Rattle.std.specs.Ordering.{nat_cmp, is_lt}
use Rattle.std.specs.declared.cmp.Ordering.{Ordering}
use Rattle.std.specs.Cmp.Lexicographic.{slice_cmp}
use Rattle.crdt_core.specs.Entries.{merged, is_ascending, value_at}
use Rattle.table_schema.specs.Words.{Words}
use Rattle.quorum_model.specs.declared.range.RangeAnswer.{RangeAnswer}

-- what a range phase gives: the rows up to the window's end. No end where there are no more rows
pub record Window (R : Type 0) : Type 0 where
  pub rows : List R
  pub end : Option (List ℕ)

-- keys are compared as text, a prefix first
abbrev pub key_cmp : List ℕ → List ℕ → Ordering
key_cmp a b = slice_cmp nat_cmp a b

-- the last of these, if there are any
abbrev pub last_of : {A : Type 0} → List A → Option A
last_of xs = slice_get xs (length xs - 1)

-- the lesser of two ends, where none is without end
abbrev pub nearer : Option (List ℕ) → Option (List ℕ) → Option (List ℕ)
nearer None b = b
nearer (Some a) None = Some a
nearer (Some a) (Some b) = if is_lt (key_cmp b a) then Some b else Some a

-- a key is at most the end
abbrev pub is_within : Option (List ℕ) → List ℕ → Bool
is_within None key = true
is_within (Some end) key = not (is_lt (key_cmp end key))

-- of rows beside their keys those whose keys are at most the end
abbrev pub rows_within : {R : Type 0} → Option (List ℕ) → List (List ℕ × R) → List R
rows_within end entries = map (λ e. e.1) (filter (λ e. is_within end e.0) entries)

-- a row's key without the 32 bytes of its position
abbrev pub after_position : List ℕ → List ℕ
after_position key = drop 32 key

module _ {R : Type 0} (s : Words R) where
  -- each row beside its key
  abbrev pub keyed : List R → List (List ℕ × R)
  keyed rows = map (λ r. (s.key r, r)) rows

  -- each row's key is below the next one's
  abbrev pub IsAscending : List R → Type 0
  IsAscending rows = IsTrue (is_ascending key_cmp (keyed rows))

  -- of rows that ascend the one under a key
  abbrev pub row_under : List R → List ℕ → Option R
  row_under rows key = value_at key_cmp key (keyed rows)

  -- rows of the object table, in ascending order of keys
  pub record AreObjects (rows : List R) : Type 0 where
    pub proper : All (λ r. IsTrue (s.is_proper r)) rows
    pub table : All (λ r. s.table r ≡ 1) rows
    pub ascending : IsAscending rows

  -- how far an answer that has more rows goes: to its last key. None where it has no more, or no rows
  abbrev pub shown_to : RangeAnswer R → Option (List ℕ)
  shown_to a = if a.more then option_map s.key (last_of a.rows) else None

  -- where both answers end: at the least last key of those that have more
  abbrev pub end_of : RangeAnswer R × RangeAnswer R → Option (List ℕ)
  end_of two = nearer (shown_to two.0) (shown_to two.1)

module _ {R : Type 0} (join : R → R → R) (s : Words R) where
  -- the rows of both in order of keys, and of two rows under one key their merge, each beside its key
  abbrev pub both_rows : RangeAnswer R × RangeAnswer R → List (List ℕ × R)
  both_rows two = merged key_cmp join (keyed s two.0.rows) (keyed s two.1.rows)

  -- the window of two answers
  abbrev pub window : RangeAnswer R × RangeAnswer R → Window R
  window two = record {
    rows = rows_within (end_of s two) (both_rows two);
    end = option_map after_position (end_of s two);
  }

-- a window's end as the end of whole row keys
abbrev pub end_key : List ℕ → Option (List ℕ) → Option (List ℕ)
end_key position None = None
end_key position (Some end) = Some (position ++ end)

-- a key that the window names: it begins with the position and the prefix, is greater than the position and `after`,
-- and is at most the window's end
pub record IsNamed (position prefix after : List ℕ) (end : Option (List ℕ)) (key : List ℕ) : Type 0 where
  pub begins : IsTrue (starts_with nat_eq key (position ++ prefix))
  pub past : IsTrue (is_lt (slice_cmp nat_cmp (position ++ after) key))
  pub within : IsTrue (is_within (end_key position end) key)
