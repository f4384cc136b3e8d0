-- What the command `layout` answers: the status and the text that are stated for an input.
use Rattle.std.specs.Prelude.{◌≡◌, ℕ, ◌+◌, ◌<◌, ◌≤◌, IsUtf8, length, List, ◌++◌, codes, Ok, Err}
use Rattle.lab_outside.specs.declared.exit.Status.{Status}
use Rattle.lab_outside.specs.declared.exit.Status.TheVariants.{Done, Refused}
use Rattle.layout_roles.specs.Zones.{storage_nodes, zone_names}
use Rattle.layout_roles.specs.Certificates.{zones_wanted, AreEnough as EnoughFor, IsCertified, ShowsNone}
use Rattle.layout_roles.specs.declared.cut.Cut.{Cut}
use Rattle.layout_roles.specs.declared.certified.Certified.{Certified}
use Rattle.layout_text.specs.declared.config.FieldName.{FieldName}
use Rattle.layout_text.specs.declared.config.FieldName.TheVariants as field
use Rattle.layout_text.specs.declared.config.ConfigFault.TheVariants.{NotToml, Field}
use Rattle.layout_text.specs.Settings.{Settings, said}
use Rattle.layout_roles.specs.Text.{number, line, cut_lines, layout_text}

-- the greatest node
abbrev pub greatest_node : ℕ
greatest_node = 64

-- the word for a field
abbrev pub field_word : FieldName → List ℕ
field_word field.Redundancy = codes "redundancy"
field_word field.Buckets = codes "buckets"
field_word field.BlockSize = codes "block_size"
field_word field.Node = codes "node"
field_word field.Id = codes "id"
field_word field.Zone = codes "zone"
field_word field.Capacity = codes "capacity"
field_word field.Change = codes "change"
field_word field.After = codes "after"
field_word field.Region = codes "region"
field_word field.Key = codes "key"
field_word field.Old = codes "old"

-- the input is no TOML
unfoldable pub toml_line : List ℕ
toml_line = line (codes "bad toml")

-- a field is outside its range
unfoldable pub field_line : FieldName → List ℕ
field_line name = line (codes "bad field " ++ field_word name)

-- the roles have too few storage nodes
unfoldable pub nodes_line : ℕ → List ℕ
nodes_line nodes = line (codes "too few nodes" ++ number nodes)

-- the roles have too few zones for the redundancy
unfoldable pub zones_line : ℕ → ℕ → List ℕ
zones_line zones r = line (codes "too few zones" ++ number zones ++ number r)

-- no assignment fits
unfoldable pub none_line : List ℕ
none_line = line (codes "no assignment")

-- in how many zones the nodes of a partition have to be
abbrev pub zones_for : Settings → ℕ
zones_for settings = zones_wanted settings.redundancy settings.roles

-- three storage nodes, and as many zones as are wanted
abbrev pub AreEnough : Settings → Type 0
AreEnough settings = EnoughFor settings.roles settings.redundancy

-- an assignment of the greatest partition size with its printed cut
abbrev pub IsLayout : Settings → Certified → Type 0
IsLayout settings certified = IsCertified settings.roles settings.redundancy certified

-- no assignment fits partitions of one byte, and the printed cut of their network shows it
abbrev pub HasNone : Settings → Cut → Type 0
HasNone settings cut = ShowsNone settings.roles (zones_for settings) cut

-- what is stated for these settings
pub data IsLaidOut (settings : Settings) (status : Status) (text : List ℕ) : Type 0 where
  few_nodes : length (storage_nodes settings.roles) < 3 → status ≡ Refused → text ≡ nodes_line (length (storage_nodes settings.roles)) → IsLaidOut settings status text
  few_zones : 3 ≤ length (storage_nodes settings.roles) → length (zone_names settings.roles) < zones_for settings → status ≡ Refused →
      text ≡ zones_line (length (zone_names settings.roles)) (zones_for settings) → IsLaidOut settings status text
  none : (cut : Cut) → AreEnough settings → HasNone settings cut → status ≡ Refused → text ≡ none_line ++ cut_lines settings.roles cut → IsLaidOut settings status text
  layout : (certified : Certified) → AreEnough settings → IsLayout settings certified → status ≡ Done → text ≡ layout_text settings.roles certified → IsLaidOut settings status text

-- what is stated for an input, in the order in which the causes come; which greatest assignment is given is free
pub data IsAnswer (input : List ℕ) (status : Status) (text : List ℕ) : Type 0 where
  not_text : (IsUtf8 input → ⊥) → status ≡ Refused → text ≡ toml_line → IsAnswer input status text
  not_toml : IsUtf8 input → said greatest_node input ≡ Err NotToml → status ≡ Refused → text ≡ toml_line → IsAnswer input status text
  bad_field : (name : FieldName) → IsUtf8 input → said greatest_node input ≡ Err (Field name) → status ≡ Refused → text ≡ field_line name → IsAnswer input status text
  laid_out : (settings : Settings) → IsUtf8 input → said greatest_node input ≡ Ok settings → IsLaidOut settings status text → IsAnswer input status text
