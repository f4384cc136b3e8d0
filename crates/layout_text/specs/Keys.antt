-- What a configuration says of keys: for which region requests are signed, and who may sign them.
use Rattle.std.specs.Prelude.{ℕ, Bool, not, ◌&&◌, ◌||◌, ◌==◌, List, [], ◌∷◌, ◌++◌, length, codes, Option, Some, None, option_and_then, Result, Ok}
use Rattle.std.specs.Option.{ok_or}
use Rattle.std.specs.List.{list_all, list_any}
use Rattle.toml.specs.Data.{Data, Items, no_items, item, Members, get_member, as_str, as_array, as_table}
use Rattle.toml.specs.Parse.{parse_document}
use Rattle.layout_roles.specs.Zones.{same_name}
use Rattle.layout_text.specs.declared.config.FieldName.{FieldName}
use Rattle.layout_text.specs.declared.config.FieldName.TheVariants as field
use Rattle.layout_text.specs.declared.config.ConfigFault.{ConfigFault}
use Rattle.layout_text.specs.declared.config.ConfigFault.TheVariants.{NotToml}
use Rattle.layout_text.specs.declared.keys.Key.{Key}
use Rattle.layout_text.specs.declared.keys.Access.{Access}
use Rattle.layout_roles.specs.Names.{is_between, is_name_byte}
use Rattle.layout_text.specs.Values.{keep_if, read_or}
use Rattle.layout_text.specs.Settings.{◌>>=◌, needed, faulted}

-- a to z, 0 to 9 and -
abbrev pub is_region_byte : ℕ → Bool
is_region_byte b = is_name_byte b || (b == 45)

-- 1 to 32 of these
abbrev pub is_region : List ℕ → Bool
is_region text = is_between 1 32 (length text) && list_all is_region_byte text

-- a letter of either case, or a digit
abbrev pub is_id_byte : ℕ → Bool
is_id_byte b = is_name_byte b || is_between 65 90 b

-- 1 to 64 of these
abbrev pub is_key_id : List ℕ → Bool
is_key_id text = is_between 1 64 (length text) && list_all is_id_byte text

-- these, / and +
abbrev pub is_secret_byte : ℕ → Bool
is_secret_byte b = is_id_byte b || ((b == 47) || (b == 43))

-- 1 to 128 of these
abbrev pub is_secret : List ℕ → Bool
is_secret text = is_between 1 128 (length text) && list_all is_secret_byte text

-- the text that a value is, where it passes
abbrev pub text_of : (List ℕ → Bool) → Data → Option (List ℕ)
text_of fits value = option_and_then (λ text. keep_if (fits text) text) (as_str value)

-- the region of a configuration, or the default
abbrev pub region_in : Members → Option (List ℕ)
region_in root = read_or (codes "garage") (text_of is_region) (get_member (codes "region") root)

-- a key before has this id
abbrev pub has_id : List Key → List ℕ → Bool
has_id before id = list_any (λ key. same_name key.id id) before

-- the id of a key, which no key before it has
abbrev pub key_id_in : List Key → Members → Option (List ℕ)
key_id_in before table = option_and_then (text_of (λ id. is_key_id id && not (has_id before id))) (get_member (codes "id") table)

-- the secret of a key
abbrev pub secret_in : Members → Option (List ℕ)
secret_in table = option_and_then (text_of is_secret) (get_member (codes "secret") table)

-- the name of a bucket that is configured
abbrev pub configured : List (List ℕ) → Data → Option (List ℕ)
configured buckets value = text_of (λ name. list_any (same_name name) buckets) value

-- the names before, and those of the items after them
abbrev pub listed_of : List (List ℕ) → List (List ℕ) → Items → Option (List (List ℕ))
listed_of buckets before no_items = Some before
listed_of buckets before (item value items) = option_and_then (λ name. listed_of buckets (before ++ name ∷ []) items) (configured buckets value)

-- the buckets that a key has in the list of this name
abbrev pub listed_in : List (List ℕ) → List ℕ → Members → Option (List (List ℕ))
listed_in buckets name table = option_and_then (listed_of buckets []) (option_and_then as_array (get_member name table))

-- the key of a table, after the keys before it
unfoldable pub key_in : List (List ℕ) → List Key → Members → Result Key FieldName
key_in buckets before table = do
  id ← needed field.Key (key_id_in before table)
  secret ← needed field.Key (secret_in table)
  read ← needed field.Key (listed_in buckets (codes "read") table)
  write ← needed field.Key (listed_in buckets (codes "write") table)
  Ok (record { id = id; secret = secret; read = read; write = write })

-- the keys before, with those of the tables after them
abbrev pub keys_of : List (List ℕ) → List Key → Items → Result (List Key) FieldName
keys_of buckets before no_items = Ok before
keys_of buckets before (item value items) =
    needed field.Key (as_table value) >>= (λ table. key_in buckets before table >>= (λ key. keys_of buckets (before ++ key ∷ []) items))

-- the keys of a configuration: none where it has no such tables
abbrev pub keys_at : List (List ℕ) → Option Data → Result (List Key) FieldName
keys_at buckets None = Ok []
keys_at buckets (Some value) = needed field.Key (as_array value) >>= keys_of buckets []

-- the region and the keys, or the first of both that is bad
unfoldable pub access_in : List (List ℕ) → Members → Result Access FieldName
access_in buckets root = do
  region ← needed field.Region (region_in root)
  keys ← keys_at buckets (get_member (codes "key") root)
  Ok (record { region = region; keys = keys })

-- what a text says
unfoldable pub access_said : List (List ℕ) → List ℕ → Result Access ConfigFault
access_said buckets text = ok_or (parse_document text) NotToml >>= (λ root. faulted (access_in buckets root))
