-- A cluster of the code that holds a map, and how one request on it is served.
use Rattle.std.specs.Prelude.{◌≤◌, ℕ, ⊤, Bool, List, ◌++◌, Option, Result}
use Rattle.lab_outside.specs.Connection.{Connection, OnPresent}
use Rattle.serve_model.specs.declared.buckets.Buckets.{Buckets}
use Rattle.serve_model.specs.declared.served.Served.{Served}
use Rattle.serve_model.specs.declared.served.ServeFault.{ServeFault}
use Rattle.serve_model.specs.Clusters.{Cluster as Model}
use Rattle.serve_model.specs.Plain.{Plain, plain, AreApart}
use Rattle.serve_model.specs.Serving.{Serves, OnLeft}
use Rattle.serve_model.specs.Stores.{Known, gives_asked}
use Rattle.serve_model.specs.Talk.{Grammar, Serving, turn}
use Rattle.serve_cluster.specs.declared.cluster.Cluster.{Cluster}
use Rattle.serve_cluster.specs.Standing.{StandsFor}
use Rattle.plain_laws.specs.Served.{HoldsApart, IsTurnBlock}
use Rattle.held_laws.specs.Looks.{IsLedToLooks}

-- the cluster stands for one of the model that holds the map
pub record HoldsMap (c : Cluster) (P : Plain) : Type 0 where
  pub state : Model
  pub stands : StandsFor c state
  pub holds : HoldsApart state P

-- the cluster stands for one of the model to which lawful acts led and which looks like one that holds the map, and blocks have a byte at least
pub record LooksLikeMap (c : Cluster) (P : Plain) : Type 0 where
  pub state : Model
  pub stands : StandsFor c state
  pub led : IsLedToLooks state P
  pub some : 1 ≤ P.block

-- each job fits over the map, and in the middle of a get it may give what its own get may
abbrev pub of_map : Known Plain
of_map = record { fits = λ a. ⊤; gives = gives_asked plain; overflows = λ asks. ⊤ }

-- the same clock and counts over a cluster
abbrev pub over_cluster : Model → Serving Plain → Serving Model
over_cluster c q = record { store = c; times = q.times; time = q.time; kept = q.kept }

-- no two blocks have one digest: those that nodes keep, and those into which the map's objects and what the request puts are cut
abbrev pub AreBlocksApart : Model → Buckets → Grammar → Bool → Serving Plain → List ℕ → Type 0
AreBlocksApart c buckets g last q request = AreApart (IsTurnBlock buckets g last (over_cluster c q) q.store request)

-- the first request in the bytes that are kept, and in those behind that are told to be left, was served as from the map, where no two blocks have one digest; the cluster holds what the map has become
abbrev pub ServesFromMap : Model → Buckets → Grammar → Bool → Serving Plain → List ℕ → Cluster → Option (List ℕ) → Served → Result Bool ServeFault → List ℕ → Option Connection → Option Connection → Type 0
ServesFromMap c buckets g last q before new times served result kept old_present new_present =
    OnPresent (λ a b. OnLeft (λ left. AreBlocksApart c buckets g last q (before ++ left) → Serves (turn plain buckets g last q (before ++ left)) (HoldsMap new) of_map times served result kept a b) a.left) old_present new_present
