-- With what a server begins: the opened cluster, and the changes that are to come.
use Rattle.std.specs.Prelude.{ℕ, List, [], ◌∷◌, map}
use Rattle.layout_roles.specs.declared.layout.Layout.{Layout}
use Rattle.serve_model.specs.Talk.{Serving}
use Rattle.serve_changes.specs.Changing.{Change as Model, Changing, change_from}
use Rattle.serve_cluster.specs.declared.change.Change.{Change}
use Rattle.serve_run.specs.declared.plan.Plan.{Plan}
use Rattle.serve_run.specs.Start.{opened}

-- the nodes of the layout, in order
abbrev pub nodes_of : Plan → List ℕ
nodes_of p = map (λ role. role.node) p.config.roles.list

-- the changes of a plan, from this layout on, each with the count of requests after which it is made
abbrev pub to_come_from : Layout → List Change → List (ℕ × Model)
to_come_from l [] = []
to_come_from l (c ∷ cs) = let ch = change_from l c.redundancy c.shown in (c.after, ch) ∷ to_come_from ch.new cs

-- the cluster with which a server begins, at time 0, with the changes that are to come
abbrev pub begun : Plan → Layout → Changing
begun p first = record { cluster = record { run = opened p first; ticked = 0; members = nodes_of p }; to_come = to_come_from first p.changes }

-- what is served at first, with these times of the clock
abbrev pub serving : Plan → Layout → List ℕ → Serving Changing
serving p first times = record { store = begun p first; times = times; time = 0; kept = 0 }
