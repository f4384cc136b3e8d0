-- The world in which a server begins, as acts from nothing.
use Rattle.std.specs.Prelude.{◌≡◌, ℕ, List, [], ◌∷◌, ◌++◌, map}
use Rattle.layout_roles.specs.declared.layout.Layout.{Layout}
use Rattle.cluster_machine.specs.Ties as ties
use Rattle.store_model.specs.Run.{State, start}
use Rattle.store_model.specs.Acts.{Act, adds, cuts, installs, after_acts, AreLawfulActs, ActsFit}
use Rattle.s3_world.specs.declared.world.S3World.{S3World}
use Rattle.s3_world.specs.Stands.{IsStore}
use Rattle.serve_run.specs.declared.plan.Plan.{Plan}

-- the buckets are added, and the size of blocks is set
abbrev pub preparing : List (List ℕ) → ℕ → List Act
preparing buckets size = map adds buckets ++ cuts size ∷ []

-- and a first layout is installed
abbrev pub opening : List (List ℕ) → ℕ → Layout → List Act
opening buckets size first = preparing buckets size ++ installs first ∷ []

-- the state in which a server begins
abbrev pub opened : Plan → Layout → State
opened p first = after_acts start (opening p.config.buckets p.config.block_size first)

-- whatever state the world stood for, it did these acts
abbrev pub Does : S3World → S3World → List Act → Type 0
Does old new acts = ties.Steps IsStore old (λ s. IsStore new (after_acts s acts))

-- this is the plan's layout as version 1
pub record IsOf (p : Plan) (first : Layout) : Type 0 where
  pub version : first.version ≡ 1
  pub roles : first.roles.list ≡ p.config.roles.list
  pub redundancy : first.r ≡ p.certified.r
  pub size : first.size ≡ p.certified.size
  pub sets : first.sets.sets ≡ p.certified.sets.sets

-- the world stands for the state in which the plan's buckets, size of blocks and layout are all that happened, all of it lawful
pub record IsOpened (world : S3World) (p : Plan) : Type 0 where
  pub first : Layout
  pub is_of : IsOf p first
  pub lawful : AreLawfulActs start (opening p.config.buckets p.config.block_size first)
  pub fit : ActsFit start (opening p.config.buckets p.config.block_size first)
  pub stands : IsStore world (opened p first)
