-- A cluster with layout changes to come, as a store.
use Rattle.std.specs.Prelude.{◌==◌, ◌⊎◌, ℕ, suc, cond, List, [], ◌∷◌, ◌++◌, length}
use Rattle.layout_roles.specs.declared.redundancy.Redundancy.{Redundancy}
use Rattle.layout_roles.specs.declared.layout.Layout.{Layout}
use Rattle.cluster_machine.specs.declared.applied.Applied.{Applied}
use Rattle.cluster_machine.specs.Layouts.{layouts}
use Rattle.change_model.specs.Given.{layout_of, given_at}
use Rattle.change_model.specs.Steps.{members_of_both}
use Rattle.store_model.specs.Run.{State}
use Rattle.store_model.specs.Acts.{Act, after_acts, AreLawfulActs, ActsFit}
use Rattle.serve_model.specs.Stores.{Job, Store}
use Rattle.serve_model.specs.Clusters.{Cluster, cluster, asker, acts_at, fits, lacks, ActLacksRoom}
use Rattle.serve_changes.specs.Acts.{stages_of, change_acts}

-- ---- one change

-- what is staged, the new layout and how it is shown, the node that applies it, and the nodes that take part
pub record Change : Type 0 where
  pub stages : List Act
  pub new : Layout
  pub shown : Applied
  pub first : ℕ
  pub part : List ℕ

-- the change from one layout to the next one, which is shown so and was computed for this redundancy: the least member of the older one applies it, and all members of both take part
abbrev pub change_from : Layout → Redundancy → Applied → Change
change_from l wanted shown =
    let new = layout_of (suc l.version) shown in
    record { stages = stages_of shown.roles.list wanted; new = new; shown = shown; first = asker (layouts.reading.members l); part = members_of_both layouts l new }

-- its acts in a state: roles are staged, and the layout is applied as the next version of the node
abbrev pub acts_in : State → Change → List Act
acts_in s ch = ch.stages ++ change_acts (given_at (after_acts s ch.stages).world ch.first ch.shown) ch.first ch.part

-- the cluster after it
abbrev pub changed : Cluster → Change → Cluster
changed c ch = record c { run = after_acts c.run (acts_in c.run ch); members = layouts.reading.members ch.new }

-- ---- the store

-- a cluster, and each change that is to come, with the count of requests after which it is made, in order
pub record Changing : Type 0 where
  pub cluster : Cluster
  pub to_come : List (ℕ × Change)

-- the next change is made, if so many requests have reached the cluster
abbrev pub with_change : Cluster → List (ℕ × Change) → Changing
with_change c [] = record { cluster = c; to_come = [] }
with_change c (ch ∷ chs) = cond (length c.run.world.requests == ch.0) (record { cluster = changed c ch.1; to_come = chs }) (record { cluster = c; to_come = ch ∷ chs })

-- the cluster carries out a job, and the change that it was to wait for
abbrev pub changing : Store Changing
changing = record {
  carries = λ c time job. let carried = cluster.carries c.cluster time job in record { state = with_change carried.state c.to_come; end = carried.end; begun = carried.begun };
  gives = λ c time order g. cluster.gives c.cluster time order g;
}

-- the acts of the change that is made, if any
abbrev pub acts_due : Cluster → List (ℕ × Change) → List Act
acts_due c [] = []
acts_due c (ch ∷ chs) = cond (length c.run.world.requests == ch.0) (acts_in c.run ch.1) []

-- the acts of jobs, each with its time, and of the changes between them
abbrev pub acts_through : Changing → List (ℕ × Job) → List Act
acts_through c [] = []
acts_through c (j ∷ js) = acts_at c.cluster j.0 j.1 ++ (acts_due (cluster.carries c.cluster j.0 j.1).state c.to_come ++ acts_through (changing.carries c j.0 j.1).state js)

-- ---- what fits

-- the acts of the change that is made are lawful and fit
abbrev pub ChangeFits : Cluster → List (ℕ × Change) → Type 0
ChangeFits c chs = AreLawfulActs c.run (acts_due c chs) × ActsFit c.run (acts_due c chs)

-- the acts of a job are lawful and fit, and so are those of the change after it
abbrev pub changing_fits : Changing → ℕ → Job → Type 0
changing_fits c time job = fits c.cluster time job × ChangeFits (cluster.carries c.cluster time job).state c.to_come

-- an act of the job has no room, or the job fits and an act of the change after it has none
abbrev pub changing_lacks : Changing → ℕ → Job → Type 0
changing_lacks c time job =
    let then = (cluster.carries c.cluster time job).state in
    lacks c.cluster time job ⊎ (fits c.cluster time job × ActLacksRoom then.run (acts_due then c.to_come))
