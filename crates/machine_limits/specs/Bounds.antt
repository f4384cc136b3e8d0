-- Rows that are bounded: each has a spelling, and merges count no more bytes than what was merged.
use Rattle.std.specs.Prelude.{◌≡◌, ◌≤◌, ◌+◌, ℕ, Some, List, length}
use Rattle.std.specs.List.{AllByRecursion, Contains}
use Rattle.table_schema.specs.Words.{Words}
use Rattle.table_schema.specs.Laws.{Same, Laws}
use Rattle.wire_messages.specs.Size.{row_length}

-- what is known of rows with a property that merges hand on, and of how many bytes each counts
pub record AreBounded {R : Type 0} (join : R → R → R) (s : Words R) (P : R → Type 0) (weight : R → ℕ) : Type 0 where
  pub laws : Laws join s
  -- merges hand the property on, to the rows that they call for too
  pub joined : (a b : R) → Same s a b → P a → P b → P (join a b)
  pub called_for : (old r row : R) → Same s old r → P old → P r → Contains (s.triggered old (join old r)) row → P row
  -- a row has a spelling, of so many bytes: of 10 at least, and of 27 where it needs a block; its key is short
  pub counts : (r : R) → P r → row_length s r ≡ Some (weight r)
  pub least : (r : R) → P r → 10 ≤ weight r
  pub short_key : (r : R) → P r → length (s.key r) ≤ 200
  pub with_block : (r : R) (hash : List ℕ) → P r → s.live_block r ≡ Some hash → 27 ≤ weight r
  -- what two rows of one key merge to counts, with one byte for each row that the merge calls for, no more than both; and such a row counts few
  pub merged : (a b : R) → Same s a b → P a → P b → weight (join a b) + length (s.triggered a (join a b)) ≤ weight a + weight b
  pub called_few : (a b : R) → Same s a b → P a → P b → AllByRecursion (λ r. weight r ≤ 64) (s.triggered a (join a b))
