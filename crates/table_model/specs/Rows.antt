-- The rows that a node accepted, as one list, and what a table shows of them.
use Rattle.std.specs.Prelude.{ℕ, ◌==◌, Bool, false, not, ◌&&◌, if◌then◌else◌, nat_eq, nat_lt, List, [], ◌∷◌, Option, Some, None, is_some, IsTrue, All, length, take, filter, filter_map, find}
use Rattle.std.specs.List.{starts_with}
use Rattle.std.specs.Ordering.{nat_cmp, ordering_then, is_eq, is_lt}
use Rattle.std.specs.Cmp.Lexicographic.{slice_cmp}
use Rattle.std.specs.declared.cmp.Ordering.{Ordering}
use Rattle.crdt_core.specs.Lex.{by_order}
use Rattle.crdt_core.specs.Order.{option_join}
use Rattle.table_schema.specs.Words.{Words, partition_of}
use Rattle.table_model.specs.declared.change.Change.{Change}

-- a table number and a key there, by the number, then by the key byte by byte
abbrev pub place_cmp : ℕ × List ℕ → ℕ × List ℕ → Ordering
place_cmp a b = ordering_then (nat_cmp a.0 b.0) (slice_cmp nat_cmp a.1 b.1)

module _ {R : Type 0} (s : Words R) where
  -- where a row stands: its table and key
  abbrev pub place : R → ℕ × List ℕ
  place r = (s.table r, s.key r)

  -- the order of rows by their places
  abbrev pub row_cmp : R → R → Ordering
  row_cmp a b = place_cmp (place a) (place b)

  -- the row is of this table and has this key
  abbrev pub is_at : ℕ → List ℕ → R → Bool
  is_at table key r = is_eq (place_cmp (table, key) (place r))

  -- each of these is a row that a table takes
  abbrev pub AllProper : List R → Type 0
  AllProper rows = All (λ r. IsTrue (s.is_proper r)) rows

module _ {R : Type 0} (join : R → R → R) (s : Words R) where
  -- what a node with these contents has at a table and key: the join of the members there
  abbrev pub row_at : List R → ℕ → List ℕ → Option R
  row_at [] table key = None
  row_at (r ∷ older) table key =
      if is_at s table key r then option_join join (row_at older table key) (Some r) else row_at older table key

  -- rows in order, with r merged in at its place
  abbrev pub merged_in : R → List R → List R
  merged_in r [] = r ∷ []
  merged_in r (x ∷ xs) = by_order (row_cmp s r x) (r ∷ x ∷ xs) (join x r ∷ xs) (x ∷ merged_in r xs)

  -- the merged rows of these contents, in order of table, then of key
  abbrev pub rows : List R → List R
  rows [] = []
  rows (r ∷ older) = merged_in r (rows older)

module _ {R : Type 0} (s : Words R) where
  -- the row of a table and key among rows in order
  abbrev pub find_row : ℕ → List ℕ → List R → Option R
  find_row table key rows = find (is_at s table key) rows

  -- the row is of this table, and its key begins with the prefix and is greater than `after`
  abbrev pub is_past : ℕ → List ℕ → List ℕ → R → Bool
  is_past table prefix after r = (s.table r == table) && starts_with nat_eq (s.key r) prefix && is_lt (slice_cmp nat_cmp after (s.key r))

  -- the first rows of the table whose key begins with the prefix and is greater than `after`, and whether there
  -- are more; prefix and `after` are of whole row keys
  abbrev pub range : ℕ → List ℕ → List ℕ → ℕ → List R → List R × Bool
  range table prefix after limit rows =
      let past = filter (is_past table prefix after) rows in
      (take limit past, nat_lt limit (length past))

  -- those of partition p
  abbrev pub rows_in : ℕ → List R → List R
  rows_in p rows = filter (λ r. partition_of s r == p) rows

  -- those of the other partitions
  abbrev pub without : ℕ → List R → List R
  without p rows = filter (λ r. not (partition_of s r == p)) rows

  -- the hashes of the blocks that the rows need, one for each row that needs one
  abbrev pub live_blocks : List R → List (List ℕ)
  live_blocks rows = filter_map s.live_block rows

  -- the row needs a block
  abbrev pub is_live : R → Bool
  is_live r = is_some (s.live_block r)

-- what the merge of r tells, where `old` was at its place
abbrev pub change_of : {R : Type 0} → (R → R → R) → Words R → Option R → R → Change R
change_of join s None r = record { triggered = []; was_live = false; is_live = is_live s r }
change_of join s (Some old) r =
    record { triggered = s.triggered old (join old r); was_live = is_live s old; is_live = is_live s (join old r) }
