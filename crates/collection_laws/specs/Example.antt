-- A run that collects: one layout of two nodes, rows that are delete markers alone, an hour of one.
use Rattle.std.specs.Prelude.{ℕ, max, false, not, nat_lt, Some, List, [], ◌∷◌}
use Rattle.plane_model.specs.Control.{Control}
use Rattle.collection_model.specs.Marks.{Marks}
use Rattle.collection_model.specs.Site.{Times, Site}
use Rattle.collection_model.specs.World.{Begun, Witness, Ready, Second}
use Rattle.collection_model.specs.Action.{Action, ticks, takes, shows, stores, begins, confirms, completes, seconds, answers, ends, drops}

-- one version, with both nodes
abbrev pub one_layout : Control ℕ ℕ
one_layout = record {
  start = 0;
  step = λ c e. c;
  set = λ c i p. 1 ∷ 2 ∷ [];
  oldest = λ c n. 1;
  newest = λ c n. 1;
  read = λ c n. 1;
  in_flight = λ c n s. false;
  in_round = λ c n s. false;
  completed = λ c n s. false;
  began = λ c i. false;
}

-- a row is the timestamp of its marker
abbrev pub markers : Marks ℕ ℕ
markers = record { join = max; below = nat_lt; tops = λ r v. not (nat_lt r v); marker = λ r. Some r; time = λ v. v }

-- an hour of one millisecond
abbrev pub short : Times
short = record { hour = 1; age = 4; pause = 3 }

-- the site of both nodes
abbrev pub two_nodes : Site ℕ ℕ ℕ ℕ
two_nodes = record { control = one_layout; marks = markers; times = short; partition = 0; asked = 1 ∷ 2 ∷ [] }

-- node 1 collects the marker of timestamp 0
abbrev pub collection : Begun ℕ ℕ
collection = record { node = 1; row = 0; version = 0; newest = 1 }

-- both nodes witness its first round
abbrev pub both_witness : List Witness
both_witness = record { node = 1; newest = 1 } ∷ record { node = 2; newest = 1 } ∷ []

-- the first round, complete at 4
abbrev pub round_one : Ready ℕ ℕ
round_one = record { begun = collection; first = both_witness; clock = 4 }

-- the second round, the first of all
abbrev pub round_two : Second ℕ ℕ
round_two = record { number = 0; ready = round_one }

-- a delete reaches node 1, which collects its marker, and drops it
abbrev pub collecting : List (Action ℕ ℕ ℕ)
collecting =
    stores 0
    ∷ takes 1 (record { row = 0; moment = 0 })
    ∷ ticks 4
    ∷ begins 1 0 0
    ∷ shows 1 0
    ∷ takes 2 (record { row = 0; moment = 4 })
    ∷ confirms collection 2
    ∷ completes collection both_witness 4
    ∷ ticks 3
    ∷ seconds round_one
    ∷ answers round_two 2
    ∷ ends round_two
    ∷ drops 1 0
    ∷ []
