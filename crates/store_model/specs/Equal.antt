-- Equal replicas: nodes that accepted the same rows show the same rows.
use Rattle.std.specs.Prelude.{◌≡◌, ℕ, List}
use Rattle.crdt_core.specs.Order.{SameMembers}
use Rattle.crdt_rows.specs.declared.any_row.AnyRow.{AnyRow}
use Rattle.crdt_rows.specs.AnyRow.{any_join}
use Rattle.object_schema.specs.Schema.{words}
use Rattle.table_model.specs.Rows.{rows, rows_in}
use Rattle.table_model.specs.Top.{root_of, top}
use Rattle.store_model.specs.Run.{World, start}
use Rattle.store_model.specs.Acts.{Act, after_acts}

-- the rows that node n accepted, in whatever order and however often, without those of partitions that it dropped
abbrev pub accepted_at : World → ℕ → List AnyRow
accepted_at w n = (w.nodes n).accepted

-- the merged rows of node n, in order
abbrev pub rows_at : World → ℕ → List AnyRow
rows_at w n = rows any_join words (accepted_at w n)

-- two nodes have the same rows of a partition, and in each table the same root of it
pub record HaveEqual (w : World) (n m p : ℕ) : Type 0 where
  pub same_rows : rows_in words p (rows_at w n) ≡ rows_in words p (rows_at w m)
  pub same_roots : (table : ℕ) → root_of words table p (rows_at w n) ≡ root_of words table p (rows_at w m)

-- two nodes that accepted rows of a partition with the same members have the same rows of it, and the same roots; and if it is so of all their rows, they show the same rows and the same top
pub record IsEqual (w : World) : Type 0 where
  pub partitions : (n m p : ℕ) → SameMembers (rows_in words p (accepted_at w n)) (rows_in words p (accepted_at w m)) → HaveEqual w n m p
  pub whole : (n m : ℕ) → SameMembers (accepted_at w n) (accepted_at w m) → (rows_at w n ≡ rows_at w m) × (top words (rows_at w n) ≡ top words (rows_at w m))

-- replicas are equal after these acts
abbrev pub AreEqual : List Act → Type 0
AreEqual acts = IsEqual (after_acts start acts).world
