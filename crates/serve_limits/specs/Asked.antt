-- What a server within its limits asks of its cluster: the jobs of its connections, and the changes that were configured.
use Rattle.std.specs.Prelude.{◌≡◌, ◌≤◌, ◌*◌, ℕ, length, List, [], ◌∷◌}
use Rattle.std.specs.List.{AllByRecursion}
use Rattle.layout_roles.specs.declared.layout.Layout.{Layout}
use Rattle.layout_roles.specs.declared.redundancy.Redundancy.{Redundancy}
use Rattle.cluster_machine.specs.declared.applied.Applied.{Applied}
use Rattle.serve_model.specs.Stores.{Job, Store, Asking}
use Rattle.serve_model.specs.Talk.{Serving, Talk, time_limit, request_limit}
use Rattle.serve_changes.specs.Changing.{Change, Changing, change_from}
use Rattle.serve_limits.specs.Counts.{IsUpTo}

-- how many connections are served
abbrev pub connection_limit : ℕ
connection_limit = 1000

-- how many changes are made
abbrev pub change_limit : ℕ
change_limit = 99

-- how many nodes a layout of a server has
abbrev pub node_limit : ℕ
node_limit = 16

-- what these connections can ask: a job for each request, none at a time past the greatest that a request has
pub record AreAskable (jobs : List (ℕ × Job)) : Type 0 where
  pub few : length jobs ≤ connection_limit * request_limit
  pub early : AllByRecursion (λ j. j.0 ≤ time_limit) jobs

-- a change from one layout to the next that was computed, in which the nodes of both take part
pub record IsPlanned (ch : Change) : Type 0 where
  pub older : Layout
  pub wanted : Redundancy
  pub shown : Applied
  pub is : ch ≡ change_from older wanted shown
  pub few : length ch.part ≤ 2 * node_limit

-- the changes that were configured
pub record ArePlanned (to_come : List (ℕ × Change)) : Type 0 where
  pub few : length to_come ≤ change_limit
  pub are : AllByRecursion (λ ch. IsPlanned ch.1) to_come

-- a server at its beginning: no time has passed, no clock is ahead, nothing was asked, and no round was begun
pub record IsAtFirst (c : Changing) : Type 0 where
  pub world : IsUpTo 0 0 0 c.cluster.run.world
  pub ticked : c.cluster.ticked ≡ 0
  pub planned : ArePlanned c.to_come

-- ---- what connections ask

-- these jobs are asked one after the other, from one state on to the other, each in the state to which those before it lead
abbrev pub AreAskedFrom : {S : Type 0} → Store S → S → List (Asking S) → S → Type 0
AreAskedFrom store s [] t = t ≡ s
AreAskedFrom store s (a ∷ as') t = (a.state ≡ s) × AreAskedFrom store (store.carries s a.time a.job).state as' t

-- a connection asks a job for each of its requests at most, one after the other, at no time past the greatest one; and what is served then is at no such time
pub record AsksAskable {S : Type 0} (store : Store S) (p : Serving S) (t : Talk S) : Type 0 where
  pub few : length t.asks ≤ request_limit
  pub early : AllByRecursion (λ a. a.time ≤ time_limit) t.asks
  pub led : AreAskedFrom store p.store t.asks t.serving.store
  pub time : t.serving.time ≤ time_limit
