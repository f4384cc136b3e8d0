-- A run that changes the layout: version 2 is applied, acknowledged, synchronized and read, and version 1 is dropped.
use Rattle.std.specs.Prelude.{ℕ, Bool, leb, ◌&&◌, List, [], ◌∷◌, ◌++◌}
use Rattle.view_model.specs.View.{Reading}
use Rattle.control_model.specs.World.{World, empty}
use Rattle.control_model.specs.Steps.{Step, run}

-- a layout that is nothing but what is said of it
pub record Plan : Type 0 where
  pub version : ℕ
  pub members : List ℕ
  pub sets : List (List ℕ)

-- how a plan is read: as it stands
abbrev pub plan_reading : Reading Plan
plan_reading = record { version = λ l. l.version; members = λ l. l.members; sets = λ l. l.sets }

-- two partitions; the second version has node 4 in place of node 1
abbrev pub first_plan : Plan
first_plan = record { version = 1; members = 1 ∷ 2 ∷ 3 ∷ []; sets = (1 ∷ 2 ∷ 3 ∷ []) ∷ (1 ∷ 2 ∷ 3 ∷ []) ∷ [] }

-- version 2, on nodes 2, 3 and 4 with two partitions
abbrev pub second_plan : Plan
second_plan = record { version = 2; members = 2 ∷ 3 ∷ 4 ∷ []; sets = (2 ∷ 3 ∷ 4 ∷ []) ∷ (2 ∷ 3 ∷ 4 ∷ []) ∷ [] }

-- nodes 1, 2 and 3
abbrev pub is_first : ℕ → Bool
is_first n = leb 1 n && leb n 3

-- the node's view, which is the k-th that is sent, goes to all
abbrev pub tells : ℕ → ℕ → List (Step Plan)
tells n k = Step.Gossip n ∷ Step.Deliver 1 k ∷ Step.Deliver 2 k ∷ Step.Deliver 3 k ∷ Step.Deliver 4 k ∷ []

-- a request begins at node 2, and node 1 applies version 2
abbrev pub applied : List (Step Plan)
applied = Step.Install is_first first_plan ∷ Step.Begin 2 ∷ Step.Apply 1 second_plan ∷ tells 1 0

-- each node raises its ack and tells it
abbrev pub acks : List (Step Plan)
acks = Step.RaiseAck 1 ∷ Step.RaiseAck 2 ∷ Step.RaiseAck 3 ∷ Step.RaiseAck 4 ∷ (tells 1 1 ++ (tells 2 2 ++ (tells 3 3 ++ tells 4 4)))

-- the same once the request has ended
abbrev pub acknowledged : List (Step Plan)
acknowledged = Step.End 2 1 ∷ acks

-- three nodes of version 1 begin rounds, and two complete them
abbrev pub synchronized : List (Step Plan)
synchronized = Step.BeginRound 1 ∷ Step.BeginRound 2 ∷ Step.BeginRound 3 ∷ Step.Complete 1 ∷ Step.Complete 3 ∷ (tells 1 5 ++ tells 3 6)

-- each node acknowledges that it reads version 2, and node 2 cleans
abbrev pub cleaned_up : List (Step Plan)
cleaned_up = Step.RaiseSyncAck 1 ∷ Step.RaiseSyncAck 2 ∷ Step.RaiseSyncAck 3 ∷ Step.RaiseSyncAck 4 ∷ (tells 1 7 ++ (tells 2 8 ++ (tells 3 9 ++ (tells 4 10 ++ (Step.Clean 2 ∷ Step.Begin 4 ∷ [])))))

-- what the world is after further events
abbrev pub goes_on : World Plan → List (Step Plan) → World Plan
goes_on w steps = run plan_reading 2 w steps

-- two nodes apply version 2 before they hear of one another
abbrev pub applied_twice : World Plan
applied_twice = goes_on empty (Step.Install is_first first_plan ∷ Step.Apply 1 second_plan ∷ Step.Apply 2 second_plan ∷ [])

-- the world once version 2 is applied
abbrev pub after_apply : World Plan
after_apply = goes_on empty applied

-- the request is still in flight, and node 1 tries a round
abbrev pub held_back : World Plan
held_back = goes_on after_apply (acks ++ (Step.BeginRound 1 ∷ []))

-- the world once every member has acknowledged version 2
abbrev pub before_reading : World Plan
before_reading = goes_on after_apply acknowledged

-- the world once version 2 is read
abbrev pub after_reading : World Plan
after_reading = goes_on before_reading synchronized

-- the world once version 1 is dropped
abbrev pub after_cleaning : World Plan
after_cleaning = goes_on after_reading cleaned_up
