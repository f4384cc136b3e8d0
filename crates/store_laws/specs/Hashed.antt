-- What a run of acts hashes for the walks of its nodes, and acts that never collect, or that are prompt.
use Rattle.std.specs.Prelude.{◌⊎◌, ℕ, List, [], ◌∷◌, ⊤}
use Rattle.std.specs.List.{AllByRecursion}
use Rattle.crdt_rows.specs.AnyRow.{any_join}
use Rattle.object_schema.specs.Schema.{words}
use Rattle.cluster_machine.specs.Hashes.{RunHashes}
use Rattle.cluster_machine.specs.Layouts.{layouts}
use Rattle.cluster_machine.specs.Trio.{trio, stage_trio}
use Rattle.store_model.specs.Run.{World, Moving, State, start}
use Rattle.machine_collects.specs.Without.{IsOther}
use Rattle.store_collects.specs.Prompt.{ArePromptActs}
use Rattle.store_model.specs.Acts.{Act, moves, acted}

-- the strings that these steps hash
abbrev pub StepsHash : World → List Moving → List ℕ → Type 0
StepsHash w ms x = RunHashes words any_join layouts trio stage_trio w ms x

-- and those that these acts do
abbrev pub ActsHash : State → List Act → List ℕ → Type 0
ActsHash s [] x = ⊥
ActsHash s (a ∷ as') x = StepsHash s.world (acted s a).moves x ⊎ ActsHash (acted s a).state as' x

-- the act is not the step `collect`
abbrev pub IsOtherAct : Act → Type 0
IsOtherAct (moves m) = IsOther m.step
IsOtherAct _ = ⊤

-- none of these acts is
abbrev pub NeverCollect : List Act → Type 0
NeverCollect acts = AllByRecursion IsOtherAct acts

-- what they collect is collected safely: they collect nothing, or they are prompt
abbrev pub CollectsSafely : List Act → Type 0
CollectsSafely acts = NeverCollect acts ⊎ ArePromptActs [] start acts
