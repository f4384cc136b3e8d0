-- A cluster through a layout change.
use Rattle.std.specs.Prelude.{ℕ, List}
use Rattle.layout_roles.specs.declared.role.Role.{Role}
use Rattle.layout_roles.specs.declared.redundancy.Redundancy.{Redundancy}
use Rattle.layout_roles.specs.declared.layout.Layout.{Layout}
use Rattle.layout_roles.specs.declared.cut.Cut.{Cut}
use Rattle.crdt_rows.specs.AnyRow.{any_join}
use Rattle.object_schema.specs.Schema.{words}
use Rattle.cluster_machine.specs.declared.applied.Applied.{Applied}
use Rattle.cluster_machine.specs.Hashes.{NoClash}
use Rattle.cluster_machine.specs.Layouts.{layouts}
use Rattle.cluster_machine.specs.Step.{Choice}
use Rattle.cluster_machine.specs.Trio.{trio, stage_trio}
use Rattle.store_model.specs.Run.{World}
use Rattle.serve_model.specs.Clusters.{Cluster}
use Rattle.change_laws.specs.Script.{AreSpelled, Changes, RoundHashes, moves_of}

-- the world in which these roles and this redundancy are staged
abbrev pub staged : World → List Role → Redundancy → World
staged w roles wanted = record w { roles = roles; redundancy = wanted }

-- the change takes one world to the other
abbrev pub Changed : Choice Layout Applied Cut → Layout → Applied → ℕ → List ℕ → World → World → Type 0
Changed choice new shown m part w after = Changes Applied Cut any_join words layouts trio stage_trio choice new shown m part w after

-- each of its steps sends rows that have a spelling
abbrev pub IsSpelled : (choice : Choice Layout Applied Cut) (new : Layout) (shown : Applied) (m : ℕ) (part : List ℕ) (w after : World) → Changed choice new shown m part w after → Type 0
IsSpelled choice new shown m part w after is = AreSpelled Applied Cut any_join words layouts trio stage_trio w (moves_of Applied Cut any_join words layouts trio stage_trio choice new shown m part w after is)

-- no two of the strings that its rounds hash for walks have one digest
abbrev pub IsClear : (choice : Choice Layout Applied Cut) (new : Layout) (shown : Applied) (m : ℕ) (part : List ℕ) (w after : World) → Changed choice new shown m part w after → Type 0
IsClear choice new shown m part w after is = NoClash (RoundHashes Applied Cut any_join words layouts trio stage_trio choice new shown m part w after is)

-- the cluster in another world, with other members
abbrev pub moved_to : Cluster → World → Layout → Cluster
moved_to c w new = record c { run = record c.run { world = w }; members = layouts.reading.members new }
