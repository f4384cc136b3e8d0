-- Rows that store phases began to store, and rows of different places.
use Rattle.std.specs.Prelude.{◌≡◌, ◌+◌, ℕ, Some, List, [], ◌∷◌, length, map, filter, ⊤}
use Rattle.crdt_core.specs.declared.deletable.Deletable.TheVariants.{Present, Deleted}
use Rattle.crdt_core.specs.Map.{map_entries}
use Rattle.crdt_core.specs.Members.{Has}
use Rattle.crdt_rows.specs.declared.any_row.AnyRow.{AnyRow}
use Rattle.crdt_rows.specs.declared.any_row.AnyRow.TheVariants as rows
use Rattle.object_schema.specs.Schema.{words}
use Rattle.table_model.specs.Rows.{is_at}
use Rattle.row_codec.specs.Rows.{spelling}
use Rattle.row_codec.specs.Spelling.{spelled}

-- the row has a spelling
abbrev pub IsSpelled : AnyRow → Type 0
IsSpelled r = spelling r ≡ Some (spelled r)

-- how many entries a row has: versions of an object, or blocks of a version
abbrev pub entries_in : AnyRow → ℕ
entries_in (rows.Object r) = length (map_entries r.versions)
entries_in (rows.Version r) = elim r.blocks [ Present m ↦ length (map_entries m) | Deleted ↦ 0 ]
entries_in (rows.Ref r) = 0

-- the sum over rows
abbrev pub sum_of : (AnyRow → ℕ) → List AnyRow → ℕ
sum_of f [] = 0
sum_of f (r ∷ rs) = f r + sum_of f rs

-- those of these rows that are of the row's table and key
abbrev pub beside : AnyRow → List AnyRow → List AnyRow
beside row rs = filter (is_at words (words.table row) (words.key row)) rs

-- no two of these rows are of one table and key
abbrev pub AreOfDifferentPlaces : List AnyRow → Type 0
AreOfDifferentPlaces [] = ⊤
AreOfDifferentPlaces (r ∷ rs) = (Has {A = ℕ × List ℕ} (map (λ q. (words.table q, words.key q)) rs) (words.table r, words.key r) → ⊥) × AreOfDifferentPlaces rs
