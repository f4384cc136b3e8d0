-- Nothing below a collected marker: from the act in which it was collected no node has an older version of its object.
use Rattle.std.specs.Prelude.{◌≡◌, ℕ, false, Some, List, ◌++◌}
use Rattle.crdt_core.specs.Members.{Has}
use Rattle.crdt_rows.specs.declared.any_row.AnyRow.{AnyRow}
use Rattle.crdt_rows.specs.AnyRow.{any_join}
use Rattle.table_model.specs.Rows.{row_at}
use Rattle.object_schema.specs.Schema.{words}
use Rattle.object_collects.specs.Seen.{row_below}
use Rattle.store_model.specs.Run.{World, start}
use Rattle.store_model.specs.Acts.{Act, after_acts}

-- the row has nothing but a delete marker, and no node's object row of its key has a version below that
pub record IsPast (w : World) (r : AnyRow) : Type 0 where
  pub version : ℕ × ℕ
  pub marker : words.marker r ≡ Some version
  pub nodes : (n : ℕ) (x : AnyRow) → row_at any_join words (w.nodes n).accepted 1 (words.key r) ≡ Some x → row_below x version ≡ false

-- after these acts it is so of each row that was collected in the first of them
abbrev pub NothingIsBelow : List Act → Type 0
NothingIsBelow acts = (before later : List Act) → acts ≡ before ++ later → (r : AnyRow) → Has (after_acts start before).world.collected r → IsPast (after_acts start acts).world r
