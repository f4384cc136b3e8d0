-- What a run of acts hashes for the walks of its nodes, and what holds after every run in which that doesn't clash.
use Rattle.std.specs.Prelude.{◌⊎◌, ℕ, List, [], ◌∷◌}
use Rattle.k2v_rows.specs.Row.{row_join}
use Rattle.k2v_schema.specs.Schema.{words}
use Rattle.cluster_machine.specs.Hashes.{RunHashes, NoClash}
use Rattle.cluster_machine.specs.Layouts.{layouts}
use Rattle.cluster_machine.specs.Trio.{trio, stage_trio}
use Rattle.k2v_model.specs.Run.{World, Moving, State, start}
use Rattle.k2v_model.specs.Acts.{Act, acted, after_acts, AreLawfulActs, ActsFit}

-- the strings that these steps hash
abbrev pub StepsHash : World → List Moving → List ℕ → Type 0
StepsHash w moves x = RunHashes words row_join layouts trio stage_trio w moves x

-- and those that these acts do
abbrev pub ActsHash : State → List Act → List ℕ → Type 0
ActsHash s [] x = ⊥
ActsHash s (a ∷ as') x = StepsHash s.world (acted s a).moves x ⊎ ActsHash (acted s a).state as' x

-- this holds of the state after every list of acts that may happen, after which everything fits, and which hash no two strings
-- for walks that have one digest, and none that has 32 zero bytes
abbrev pub AfterEveryClearRun : (State → Type 0) → Type 0
AfterEveryClearRun Holds =
    (acts : List Act) → AreLawfulActs start acts → ActsFit start acts → NoClash (ActsHash start acts) → Holds (after_acts start acts)
