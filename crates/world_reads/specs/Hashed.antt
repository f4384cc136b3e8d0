-- What is hashed for walks in a run into which a first layout is installed.
use Rattle.std.specs.Prelude.{◌⊎◌, ℕ, List}
use Rattle.layout_roles.specs.declared.layout.Layout.{Layout}
use Rattle.table_schema.specs.Words.{Words}
use Rattle.cluster_machine.specs.Layouts.{layouts}
use Rattle.cluster_machine.specs.Trio.{trio, stage_trio}
use Rattle.cluster_machine.specs.World.{empty}
use Rattle.cluster_machine.specs.Worlds.{Doing, start}
use Rattle.cluster_machine.specs.Hashes.{RunHashes}

module _ {R : Type 0} (s : Words R) (join : R → R → R) where
  -- before the installation, and from it on
  abbrev pub StartHashes : List (Doing R) → Layout → List (Doing R) → List ℕ → Type 0
  StartHashes before first after x = RunHashes s join layouts trio stage_trio empty before x ⊎ RunHashes s join layouts trio stage_trio (start join s before first) after x
