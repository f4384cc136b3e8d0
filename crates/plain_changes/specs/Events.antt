-- Jobs and layout changes, one after the other.
use Rattle.std.specs.Prelude.{ℕ, ⊤, Option, List, [], ◌∷◌}
use Rattle.std.specs.List.{AllByRecursion}
use Rattle.layout_roles.specs.declared.layout.Layout.{Layout}
use Rattle.cluster_machine.specs.Layouts.{layouts}
use Rattle.flow_model.specs.declared.flow.FlowEnd.{FlowEnd}
use Rattle.store_model.specs.Acts.{ActsFit}
use Rattle.serve_model.specs.Stores.{Job}
use Rattle.serve_model.specs.Clusters.{Cluster, cluster, fits}
use Rattle.serve_model.specs.Plain.{Plain, plain, AreApart}
use Rattle.change_laws.specs.Whole.{MayChange}
use Rattle.plain_laws.specs.Blocks.{IsBlockAt}
use Rattle.plain_laws.specs.Holds.{TellAlike}
use Rattle.serve_changes.specs.Changing.{Change}
use Rattle.plain_changes.specs.Standing.{Standing, IsStaging, IsClear, acts_of, after_change}

-- a job at a time, or a change
pub data Event : Type 0 where
  asks : ℕ → Job → Event
  changes : Change → Event

-- the cluster after them
abbrev pub cluster_after : Cluster → List Event → Cluster
cluster_after c [] = c
cluster_after c (asks time job ∷ es) = cluster_after (cluster.carries c time job).state es
cluster_after c (changes ch ∷ es) = cluster_after (after_change c ch) es

-- what the map has become: a change leaves it
abbrev pub map_after : Plain → List Event → Plain
map_after P [] = P
map_after P (asks time job ∷ es) = map_after (plain.carries P time job).state es
map_after P (changes ch ∷ es) = map_after P es

-- the layout after them: a job leaves it
abbrev pub layout_after : Layout → List Event → Layout
layout_after l [] = l
layout_after l (asks time job ∷ es) = layout_after l es
layout_after l (changes ch ∷ es) = layout_after ch.new es

-- how the jobs end
abbrev pub ends_in : Cluster → List Event → List (Option FlowEnd)
ends_in c [] = []
ends_in c (asks time job ∷ es) = let carried = cluster.carries c time job in carried.end ∷ ends_in carried.state es
ends_in c (changes ch ∷ es) = ends_in (after_change c ch) es

-- how the map ends them
abbrev pub ends_as : Plain → List Event → List (Option FlowEnd)
ends_as P [] = []
ends_as P (asks time job ∷ es) = let carried = plain.carries P time job in carried.end ∷ ends_as carried.state es
ends_as P (changes ch ∷ es) = ends_as P es

-- each may follow: a job fits, and no two blocks of it and of what nodes keep have one digest; a change may be made of the layout, its acts fit, and the digests of its walks don't clash
abbrev pub EventsFit : Cluster → Plain → Layout → List Event → Type 0
EventsFit c P l [] = ⊤
EventsFit c P l (asks time job ∷ es) = AreApart (IsBlockAt c P job) × fits c time job × EventsFit (cluster.carries c time job).state (plain.carries P time job).state l es
EventsFit c P l (changes ch ∷ es) = AllByRecursion IsStaging ch.stages × MayChange layouts l ch.new ch.part ch.first × ActsFit c.run (acts_of ch) × IsClear c.run ch × EventsFit (after_change c ch) P ch.new es

-- the jobs' ends tell what the map's do, and the cluster stands with what the map has become on the last layout
pub record AnswersThrough (c : Cluster) (P : Plain) (l : Layout) (es : List Event) : Type 0 where
  pub ends : TellAlike (ends_in c es) (ends_as P es)
  pub stands : Standing (cluster_after c es) (map_after P es) (layout_after l es)
