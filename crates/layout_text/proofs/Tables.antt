-- The tables of a list of values.
use Rattle.std.proofs.Common.{◌≡◌, Bool, ◌&&◌, List, [], ◌∷◌, Option, Some, None, refl, is_some}
use Rattle.std.specs.List.{list_all}
use Rattle.toml.specs.Data.{Members, as_table}
use Rattle.toml.specs.View.{view, items_view}
use Rattle.toml.specs.declared.value.Value.{Value}
use Rattle.layout_text.specs.Values.{with_table, tables_of}

abbrev pub is_table : Value → Bool
is_table value = is_some (as_table (view value))

some_with : (found : Option Members) (tables : Option (List Members)) (b : Bool) → b ≡ is_some tables → is_some found && b ≡ is_some (with_table found tables)
some_with None None b h = refl
some_with None (Some ts) b h = refl
some_with (Some t) None b h = h
some_with (Some t) (Some ts) b h = h

-- there are tables where each value is one
pub tables_some : (values : List Value) → list_all is_table values ≡ is_some (tables_of (items_view values))
tables_some [] = refl
tables_some (value ∷ values) = some_with (as_table (view value)) (tables_of (items_view values)) (list_all is_table values) (tables_some values)

pub both : (found : Option Members) (tables : Option (List Members)) (all : List Members) → with_table found tables ≡ Some all →
    (table : Members) × (rest : List Members) × (found ≡ Some table) × (tables ≡ Some rest) × (all ≡ table ∷ rest)
both None None all h = cc
both None (Some ts) all h = cc
both (Some t) None all h = cc
both (Some t) (Some ts) all h = (t, ts, refl, refl, cc)
