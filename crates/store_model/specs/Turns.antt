-- Which turns are lawful, and when everything fits after them.
use Rattle.std.specs.Prelude.{◌<◌, ◌^◌, List}
use Rattle.std.specs.List.{AllByRecursion}
use Rattle.crdt_rows.specs.declared.version.Version.{Version}
use Rattle.crdt_rows.specs.AnyRow.{any_join}
use Rattle.object_schema.specs.Schema.{words}
use Rattle.cluster_machine.specs.Worlds.{FitAll, HaveRoom}
use Rattle.store_model.specs.Run.{State, Outcome}
use Rattle.store_model.specs.Acts.{IsLawfulAct, AreLawfulActs, ActsFit}
use Rattle.store_model.specs.Events.{Turn, act_of_turn, acts_of, outcome_of}

-- the event may happen, and an apply in it is given what is computed from the staged roles
abbrev pub IsLawful : State → Turn → Type 0
IsLawful s t = IsLawfulAct s (act_of_turn t)

-- each of these events is lawful when it happens
abbrev pub AreLawful : State → List Turn → Type 0
AreLawful s ts = AreLawfulActs s (acts_of ts)

-- after each step of the event every number fits, and every row that is sent has a spelling
abbrev pub Fits : State → Turn → Type 0
Fits s t = FitAll any_join words s.world (outcome_of s t).moves

-- all fits after each of these events
abbrev pub AllFit : State → List Turn → Type 0
AllFit s ts = ActsFit s (acts_of ts)

-- and so does every number and row that waits at a node, and every timestamp
abbrev pub FitsOutcome : State → Outcome → Type 0
FitsOutcome s o = HaveRoom any_join words s.world o.moves × AllByRecursion (λ (v : Version). v.ts < 2 ^ 64) o.new_versions

-- what comes of the event fits the code's numbers
abbrev pub HasRoom : State → Turn → Type 0
HasRoom s t = FitsOutcome s (outcome_of s t)
