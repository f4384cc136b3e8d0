-- A delete marker on three nodes, which node 1 collects in two rounds over nodes 1 to 16.
use Rattle.std.specs.Prelude.{ℕ, Some, List, [], ◌∷◌, ◌++◌}
use Rattle.table_schema.specs.Words.{Words}
use Rattle.cluster_machine.specs.declared.step.Step.TheVariants.{Trio, Tick, Collect, Open, Phase as Begin}
use Rattle.cluster_machine.specs.World.{World}
use Rattle.cluster_machine.specs.Step.{Effects, effects, applied}
use Rattle.machine_laws.specs.Toy.{Number, Toy, Move, numbers, greater, toys, one_two_three, same_roles, plain, delivered, store}

-- each number is a delete marker: its value is its timestamp, its key its identifier
abbrev pub markers : Words Number
markers = record numbers { marker = λ r. Some (r.value, r.key) }

-- what a step does in a world of markers
abbrev pub done_by : World Number Toy → Move → Effects Number Toy Toy ℕ
done_by w m = effects greater markers toys one_two_three same_roles w m.step m.choice

-- the world after a run
abbrev pub world_after : World Number Toy → List Move → World Number Toy
world_after w [] = w
world_after w (m ∷ ms) = world_after (applied w (done_by w m)) ms

-- the marker is stored at nodes 1, 2 and 3, and a day later node 1 is told to collect
abbrev pub first_round : List Move
first_round = plain Trio ∷ plain (Open 1) ∷ plain (Begin 1 store) ∷ delivered (1 ∷ 2 ∷ 3 ∷ []) ++ plain (Tick 86400001) ∷ plain (Collect 1) ∷ []

-- nodes 2 to 16 are asked, and they confirm
abbrev pub confirmed : List Move
confirmed =
    delivered (7 ∷ 8 ∷ 9 ∷ 10 ∷ 11 ∷ 12 ∷ 13 ∷ 14 ∷ 15 ∷ 16 ∷ 17 ∷ 18 ∷ 19 ∷ 20 ∷ 21 ∷ [])
    ++ delivered (22 ∷ 23 ∷ 24 ∷ 25 ∷ 26 ∷ 27 ∷ 28 ∷ 29 ∷ 30 ∷ 31 ∷ 32 ∷ 33 ∷ 34 ∷ 35 ∷ 36 ∷ [])

-- three hours later node 1 is told again, and all but one confirm anew
abbrev pub second_round : List Move
second_round =
    plain (Tick 10800000) ∷ plain (Collect 1)
    ∷ delivered (37 ∷ 38 ∷ 39 ∷ 40 ∷ 41 ∷ 42 ∷ 43 ∷ 44 ∷ 45 ∷ 46 ∷ 47 ∷ 48 ∷ 49 ∷ 50 ∷ 51 ∷ [])
    ++ delivered (52 ∷ 53 ∷ 54 ∷ 55 ∷ 56 ∷ 57 ∷ 58 ∷ 59 ∷ 60 ∷ 61 ∷ 62 ∷ 63 ∷ 64 ∷ 65 ∷ [])

-- the last one confirms
abbrev pub last_answer : List Move
last_answer = delivered (66 ∷ [])
