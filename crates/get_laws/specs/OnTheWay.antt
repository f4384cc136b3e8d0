-- States in which requests are on their way.
use Rattle.std.specs.Prelude.{◌≡◌, ◌≢◌, ◌≤◌, ℕ, suc, ⊤, Option, None, List, length}
use Rattle.std.specs.List.{AllByRecursion}
use Rattle.flow_model.specs.declared.order.Order.TheVariants.{Get}
use Rattle.flow_model.specs.declared.flow.FlowEnd.{FlowEnd}
use Rattle.store_model.specs.Run.{Saw, State, Outcome, opened}
use Rattle.store_model.specs.Acts.{Act, takes, after_acts}
use Rattle.serve_model.specs.Stores.{carry, Given, given}
use Rattle.serve_model.specs.Clusters.{Cluster, cluster, wait, asking, delivered, acts_to_end, number_in}

-- as many requests were asked for as the world has, and what phases gave is theirs, and so are the ends that wait to be taken
pub record KnowsRequests (s : State) : Type 0 where
  pub lengths : length s.asked ≡ length s.world.requests
  pub saw : AllByRecursion (λ (e : Saw). e.request ≤ length s.asked) s.saw
  pub ends : AllByRecursion (λ (e : ℕ × FlowEnd). e.0 ≤ length s.asked) s.ends

-- the act doesn't take the end of request q
abbrev pub LeavesEnd : ℕ → Act → Type 0
LeavesEnd q (takes p) = p ≢ q
LeavesEnd q act = ⊤

-- acts lead from one state to the other, and none takes the end of request q
pub record IsLater (q : ℕ) (s t : State) : Type 0 where
  pub acts : List Act
  pub leave : AllByRecursion (LeavesEnd q) acts
  pub after : t ≡ after_acts s acts

-- the number of the next request
abbrev pub next_request : State → ℕ
next_request s = suc (length s.world.requests)

-- the state after a get was opened at a node
abbrev pub opening : State → ℕ → List ℕ → List ℕ → State
opening s n bucket key = (opened s n (Get bucket key)).state

-- ---- a cluster is asked for an object, at a time

module _ (c : Cluster) (time : ℕ) (bucket key : List ℕ) where
  -- what comes of asking
  abbrev pub asked_for : Outcome
  asked_for = asking c.members c.run (wait c time) (Get bucket key)

  -- it isn't refused
  abbrev pub IsTaken : Type 0
  IsTaken = asked_for.refused ≡ None

  -- the number of the request
  abbrev pub number_of : ℕ
  number_of = number_in asked_for.words

  -- the state when all was delivered and two rounds are over
  abbrev pub finished : State
  finished = after_acts asked_for.state (acts_to_end c.members delivered)

  -- a state on the way there
  abbrev pub IsOnTheWay : State → Type 0
  IsOnTheWay t = IsLater number_of asked_for.state t × IsLater number_of t finished

  -- what is given in all
  abbrev pub given_in_all : Option Given
  given_in_all = given (cluster.carries c time (carry (Get bucket key)))
