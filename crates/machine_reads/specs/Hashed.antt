-- Rows that a node had at some moment, where those of a partition have bytes, and the strings hashed for its tries are among these.
use Rattle.std.specs.Prelude.{◌≡◌, ℕ, true, List, IsTrue}
use Rattle.std.specs.List.{AllByRecursion, list_all}
use Rattle.table_schema.specs.Words.{Words}
use Rattle.table_model.specs.Rows.{rows, rows_in}
use Rattle.table_model.specs.Root.{Pair}
use Rattle.table_model.specs.Top.{pairs_of}
use Rattle.cluster_machine.specs.Phases.{is_spelled}
use Rattle.cluster_machine.specs.Hashes.{Hashes}

module _ {R : Type 0} (join : R → R → R) (s : Words R) (H : List ℕ → Type 0) where
  -- the pairs that the trie of a table and partition has of these rows
  abbrev pub trie : List R → ℕ → ℕ → List Pair
  trie contents table p = pairs_of s table p (rows join s contents)

  -- the rows are proper, those of the partition have bytes, and what is hashed for them is among these strings
  pub record AreHashed (contents : List R) (p : ℕ) : Type 0 where
    pub proper : AllByRecursion (λ r. IsTrue (s.is_proper r)) contents
    pub spelled : list_all (is_spelled s) (rows_in s p (rows join s contents)) ≡ true
    pub hashed : (x : List ℕ) → Hashes s p (rows join s contents) x → H x
