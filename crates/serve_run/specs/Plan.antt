-- What a server is made of, and what its input says.
use Rattle.std.specs.Prelude.{◌≡◌, ◌⊎◌, ℕ, ◌≤◌, List, [], ◌∷◌, map, length, IsUtf8, IsPermutation, IsSorted, Option, Some, Ok, Err, IfSome}
use Rattle.std.specs.List.{AllByRecursion}
use Rattle.std.specs.Ordering.{nat_cmp}
use Rattle.std.specs.Cmp.Lexicographic.{slice_cmp}
use Rattle.lab_outside.specs.declared.exit.Status.TheVariants.{Refused}
use Rattle.lab_main.specs.Limits.{input_limit}
use Rattle.layout_roles.specs.declared.certified.Certified.{Certified}
use Rattle.layout_roles.specs.declared.redundancy.Redundancy.{Redundancy}
use Rattle.layout_roles.specs.declared.role.Role.{Role}
use Rattle.layout_roles.specs.Fits.{IsGreatest}
use Rattle.layout_text.specs.declared.config.FieldName.{FieldName}
use Rattle.layout_text.specs.declared.config.ConfigFault.TheVariants.{NotToml, Field}
use Rattle.layout_text.specs.declared.keys.Access.{Access}
use Rattle.layout_text.specs.Settings.{Settings, settings_of, said}
use Rattle.layout_text.specs.Keys.{access_said}
use Rattle.layout_text.specs.Changes.{Coming, changes_said}
use Rattle.layout_command.specs.Answer.{toml_line, field_line, AreEnough, IsLayout, IsLaidOut}
use Rattle.serve_cluster.specs.declared.change.Change.{Change}
use Rattle.serve_cluster.specs.Changes.{AreWithin, IsComputed}
use Rattle.serve_run.specs.declared.plan.Plan.{Plan}

-- the greatest node of a server
abbrev pub greatest_node : ℕ
greatest_node = 16

-- the same names, in order of their bytes
pub record AreInOrder (buckets names : List (List ℕ)) : Type 0 where
  pub same : IsPermutation buckets names
  pub ordered : IsSorted (slice_cmp nat_cmp) names

-- the sets have the greatest partition size for the configured roles, blocks have a byte or more, the buckets are the configured ones in order, and there are at most 99 changes, each with a layout that was computed for it
pub record IsPlan (p : Plan) : Type 0 where
  pub greatest : IsGreatest p.config.roles.list p.certified.r p.certified.size p.certified.sets.sets
  pub sized : 1 ≤ p.config.block_size
  pub ordered : AreInOrder p.config.buckets p.buckets.names
  pub few : length p.changes ≤ 99
  pub computed : AllByRecursion IsComputed p.changes

-- changes as they may be said for a server: at most 99, with roles of nodes 1 to 16
abbrev pub IsOfServer : List Coming → Type 0
IsOfServer comings = AllByRecursion (λ (c : Coming). AreWithin c.roles) comings × (length comings ≤ 99)

-- a change of a server as it is said
abbrev pub coming_in : Change → Coming
coming_in c = record { after = c.after; redundancy = c.redundancy; roles = c.shown.roles.list }

-- settings with these roles and this redundancy, on which alone a layout depends
abbrev pub settings_with : List Role → Redundancy → Settings
settings_with roles wanted = record { redundancy = wanted; roles = roles; buckets = []; block_size = 0 }

-- those of a change
abbrev pub settings_in : Coming → Settings
settings_in coming = settings_with coming.roles coming.redundancy

-- these bytes say the plan: its settings, its changes, who may use its buckets, and a layout of each of the greatest partition size with the cut that shows it
pub record IsSaid (bytes : List ℕ) (p : Plan) : Type 0 where
  pub is_text : IsUtf8 bytes
  pub says : said greatest_node bytes ≡ Ok (settings_of p.config)
  pub changes : changes_said greatest_node bytes ≡ Ok (map coming_in p.changes)
  pub allows : access_said p.config.buckets bytes ≡ Ok p.buckets.access
  pub enough : AreEnough (settings_of p.config)
  pub layout : IsLayout (settings_of p.config) p.certified
  pub layouts : AllByRecursion IsComputed p.changes

-- these settings have a layout
pub record HasLayout (settings : Settings) : Type 0 where
  pub certified : Certified
  pub enough : AreEnough settings
  pub layout : IsLayout settings certified

-- the first of these settings that have no layout have none as this line says
abbrev pub IsFirstRefused : List Settings → List ℕ → Type 0
IsFirstRefused [] line = ⊥
IsFirstRefused (settings ∷ later) line = IsLaidOut settings Refused line ⊎ (HasLayout settings × IsFirstRefused later line)

-- these bytes say no plan, for which this is the line: they are no text, no TOML, a field is bad, one of a change, the region or a key is, or the settings have no layout, those of the configuration first and then those of each change, in this order
pub data IsRefused (bytes line : List ℕ) : Type 0 where
  not_text : (IsUtf8 bytes → ⊥) → line ≡ toml_line → IsRefused bytes line
  not_toml : IsUtf8 bytes → said greatest_node bytes ≡ Err NotToml → line ≡ toml_line → IsRefused bytes line
  bad_field : (name : FieldName) → IsUtf8 bytes → said greatest_node bytes ≡ Err (Field name) → line ≡ field_line name → IsRefused bytes line
  bad_change : (settings : Settings) (name : FieldName) → IsUtf8 bytes → said greatest_node bytes ≡ Ok settings → changes_said greatest_node bytes ≡ Err (Field name) → line ≡ field_line name → IsRefused bytes line
  bad_access : (settings : Settings) (comings : List Coming) (name : FieldName) → IsUtf8 bytes → said greatest_node bytes ≡ Ok settings → changes_said greatest_node bytes ≡ Ok comings → access_said settings.buckets bytes ≡ Err (Field name) → line ≡ field_line name →
      IsRefused bytes line
  no_layout : (settings : Settings) (comings : List Coming) (access : Access) → IsUtf8 bytes → said greatest_node bytes ≡ Ok settings → changes_said greatest_node bytes ≡ Ok comings → access_said settings.buckets bytes ≡ Ok access →
      IsFirstRefused (settings ∷ map settings_in comings) line → IsRefused bytes line

-- where the input tells its bytes, they are no more than they may be, and so it is of them
abbrev pub OfInput : (List ℕ → Type 0) → Option (List ℕ) → Type 0
OfInput P input = IfSome input (λ bytes. (length bytes ≤ input_limit) × P bytes)

-- the input is told, is no longer than it may be, and says this plan
pub record SaysPlan (input : Option (List ℕ)) (p : Plan) : Type 0 where
  pub bytes : List ℕ
  pub told : input ≡ Some bytes
  pub short : length bytes ≤ input_limit
  pub is_said : IsSaid bytes p

-- the plan that was read
pub record WasRead (input : Option (List ℕ)) (p : Plan) : Type 0 where
  pub is_plan : IsPlan p
  pub said : OfInput (λ bytes. IsSaid bytes p) input
