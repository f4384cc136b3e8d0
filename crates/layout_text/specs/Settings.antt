-- What a text says as a configuration: the settings, or the first field that is bad.
use Rattle.std.specs.Prelude.{◌≡◌, ℕ, Bool, ◌==◌, nat_lt, cond, if◌then◌else◌, List, [], ◌∷◌, Option, Some, Result, Ok, Err, ⊤}
use Rattle.std.specs.Option.{ok_or}
use Rattle.toml.specs.Data.{Members}
use Rattle.toml.specs.Parse.{parse_document}
use Rattle.layout_roles.specs.declared.redundancy.Redundancy.{Redundancy}
use Rattle.layout_roles.specs.declared.role.Role.{Role}
use Rattle.layout_text.specs.declared.config.Config.{Config}
use Rattle.layout_text.specs.declared.config.FieldName.{FieldName}
use Rattle.layout_text.specs.declared.config.FieldName.TheVariants as field
use Rattle.layout_text.specs.declared.config.ConfigFault.{ConfigFault}
use Rattle.layout_text.specs.declared.config.ConfigFault.TheVariants.{NotToml, Field, Memory}
use Rattle.layout_text.specs.Values.{redundancy_in, buckets_in, default_block_size, block_size_in, nodes_in, id_in, zone_in, kind_in}

infixl 10 ◌>>=◌
-- the answer to what a value is given, or the fault that came before it
abbrev pub ◌>>=◌ : {A B E : Type 0} → Result A E → (A → Result B E) → Result B E
Ok x >>= f = f x
Err e >>= f = Err e

-- what is read of a field, or the field where nothing is
abbrev pub needed : {A : Type 0} → FieldName → Option A → Result A FieldName
needed name found = ok_or found name

-- what a configuration says
pub record Settings : Type 0 where
  pub redundancy : Redundancy
  pub roles : List Role
  pub buckets : List (List ℕ)
  pub block_size : ℕ

-- `serve` has nodes 1 to 16, and looks at buckets and the block size; `layout` has nodes 1 to 64
abbrev pub is_serve : ℕ → Bool
is_serve greatest = greatest == 16

-- the buckets, which only a server reads
abbrev pub buckets_for : ℕ → Members → Option (List (List ℕ))
buckets_for greatest root = if is_serve greatest then buckets_in root else Some []

-- the block size, which only a server reads
abbrev pub block_size_for : ℕ → Members → Option ℕ
block_size_for greatest root = if is_serve greatest then block_size_in root else Some default_block_size

-- before the first role of a greater node
abbrev pub put_role : List Role → Role → List Role
put_role [] role = role ∷ []
put_role (first ∷ roles) role = cond (nat_lt role.node first.node) (role ∷ first ∷ roles) (first ∷ put_role roles role)

-- the role of a node, after the roles of the nodes before it
unfoldable pub role_in : ℕ → List Role → Members → Result Role FieldName
role_in greatest before node = do
  id ← needed field.Id (id_in greatest before node)
  zone ← needed field.Zone (zone_in node)
  kind ← needed field.Capacity (kind_in node)
  Ok (record { node = id; zone = record { 0 = zone }; kind = kind })

-- the roles before, with those of the nodes after them, in order of nodes
abbrev pub roles_in : ℕ → List Role → List Members → Result (List Role) FieldName
roles_in greatest before [] = Ok before
roles_in greatest before (node ∷ nodes) = role_in greatest before node >>= (λ role. roles_in greatest (put_role before role) nodes)

-- the roles of all nodes
unfoldable pub roles_for : ℕ → Members → Result (List Role) FieldName
roles_for greatest root = needed field.Node (nodes_in root) >>= roles_in greatest []

-- the settings of a configuration, or the first bad field
unfoldable pub settings_in : ℕ → Members → Result Settings FieldName
settings_in greatest root = do
  redundancy ← needed field.Redundancy (redundancy_in root)
  buckets ← needed field.Buckets (buckets_for greatest root)
  block_size ← needed field.BlockSize (block_size_for greatest root)
  roles ← roles_for greatest root
  Ok (record { redundancy = redundancy; roles = roles; buckets = buckets; block_size = block_size })

-- a bad field as a fault
abbrev pub faulted : {A : Type 0} → Result A FieldName → Result A ConfigFault
faulted (Ok x) = Ok x
faulted (Err name) = Err (Field name)

-- what a text says
unfoldable pub said : ℕ → List ℕ → Result Settings ConfigFault
said greatest text = ok_or (parse_document text) NotToml >>= (λ root. faulted (settings_in greatest root))

-- a configuration as its settings
abbrev pub settings_of : Config → Settings
settings_of config = record { redundancy = config.redundancy; roles = config.roles.list; buckets = config.buckets; block_size = config.block_size }

-- this fault is what was read, or memory was wanting
abbrev pub IsFaultOf : {A : Type 0} → Result A ConfigFault → ConfigFault → Type 0
IsFaultOf reading Memory = ⊤
IsFaultOf reading NotToml = reading ≡ Err NotToml
IsFaultOf reading (Field name) = reading ≡ Err (Field name)

-- what a call answers where this is read: the same, unless memory was wanting
abbrev pub Reads : {A : Type 0} → Result A ConfigFault → Result A ConfigFault → Type 0
Reads reading (Ok x) = reading ≡ Ok x
Reads reading (Err fault) = IsFaultOf reading fault
