-- What a configuration says of changes of the layout while it is served.
use Rattle.std.specs.Prelude.{ℕ, suc, nat_le, List, [], ◌∷◌, ◌++◌, length, codes, Option, Some, None, option_and_then, map, Result, Ok}
use Rattle.std.specs.Option.{ok_or}
use Rattle.toml.specs.Data.{Data, Members, get_member, as_array}
use Rattle.toml.specs.Parse.{parse_document}
use Rattle.layout_roles.specs.declared.redundancy.Redundancy.{Redundancy}
use Rattle.layout_roles.specs.declared.role.Role.{Role}
use Rattle.layout_text.specs.declared.change.Change.{Change}
use Rattle.layout_text.specs.declared.config.FieldName.{FieldName}
use Rattle.layout_text.specs.declared.config.FieldName.TheVariants as field
use Rattle.layout_text.specs.declared.config.ConfigFault.{ConfigFault}
use Rattle.layout_text.specs.declared.config.ConfigFault.TheVariants.{NotToml}
use Rattle.layout_text.specs.Values.{keep_if, number_in, redundancy_in, tables_of}
use Rattle.layout_text.specs.Settings.{◌>>=◌, needed, roles_for, faulted}

-- a change: after how many requests it comes, and the roles and the redundancy from then on
pub record Coming : Type 0 where
  pub after : ℕ
  pub redundancy : Redundancy
  pub roles : List Role

-- how many changes there may be
abbrev pub change_limit : ℕ
change_limit = 99

-- after how many requests at most
abbrev pub after_limit : ℕ
after_limit = 1000000

-- after how many requests a change comes: more than the one before
abbrev pub after_in : ℕ → Members → Option ℕ
after_in before table = option_and_then (number_in (suc before) after_limit) (get_member (codes "after") table)

-- the change of a table; the one before comes after so many requests
unfoldable pub change_in : ℕ → ℕ → Members → Result Coming FieldName
change_in greatest before table = do
  after ← needed field.After (after_in before table)
  redundancy ← needed field.Redundancy (redundancy_in table)
  roles ← roles_for greatest table
  Ok (record { after = after; redundancy = redundancy; roles = roles })

-- the changes before, and those of the tables after them
abbrev pub changes_of : ℕ → ℕ → List Coming → List Members → Result (List Coming) FieldName
changes_of greatest before changes [] = Ok changes
changes_of greatest before changes (table ∷ tables) = change_in greatest before table >>= (λ c. changes_of greatest c.after (changes ++ c ∷ []) tables)

-- tables, if they aren't too many
abbrev pub few : List Members → Option (List Members)
few tables = keep_if (nat_le (length tables) change_limit) tables

-- the tables of a value
abbrev pub tables_in : Data → Option (List Members)
tables_in value = option_and_then few (option_and_then tables_of (as_array value))

-- the changes of a value, or the first bad field
unfoldable pub changes_at : ℕ → Data → Result (List Coming) FieldName
changes_at greatest value = needed field.Change (tables_in value) >>= changes_of greatest 0 []

-- none where there is no value
abbrev pub changes_if : ℕ → Option Data → Result (List Coming) FieldName
changes_if greatest None = Ok []
changes_if greatest (Some value) = changes_at greatest value

-- the changes of a configuration, or the first bad field
abbrev pub changes_in : ℕ → Members → Result (List Coming) FieldName
changes_in greatest root = changes_if greatest (get_member (codes "change") root)

-- what a text says
unfoldable pub changes_said : ℕ → List ℕ → Result (List Coming) ConfigFault
changes_said greatest text = ok_or (parse_document text) NotToml >>= (λ root. faulted (changes_in greatest root))

-- a change as it is said
abbrev pub coming_of : Change → Coming
coming_of change = record { after = change.after; redundancy = change.redundancy; roles = change.roles.list }

-- changes as they are said
abbrev pub comings_of : List Change → List Coming
comings_of changes = map coming_of changes
