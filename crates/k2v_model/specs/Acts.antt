-- What may happen in a run, and the run of a list of it.
use Rattle.std.specs.Prelude.{ℕ, ⊤, cond, List, [], ◌∷◌, ◌++◌, Option, option_map, Some, None}
use Rattle.k2v_rows.specs.declared.k2v_row.K2vRow.{K2vRow}
use Rattle.k2v_rows.specs.Row.{row_join}
use Rattle.k2v_schema.specs.Schema.{words}
use Rattle.cluster_machine.specs.declared.step.Step.{Step}
use Rattle.cluster_machine.specs.declared.step.Step.TheVariants.{Deliver, Open, Phase, Close}
use Rattle.cluster_machine.specs.World.{numbered}
use Rattle.cluster_machine.specs.Worlds.{IsMeant, IsLawful, FitAll}
use Rattle.k2v_model.specs.declared.order.Order.{Order}
use Rattle.k2v_model.specs.declared.line.ItemRefusal.TheVariants.{Cluster}
use Rattle.k2v_model.specs.Run.{Moving, ItemRequest, over, is_open, State, start, Outcome, silent, effect, doing, cluster_lines, set_stage, begins, delivers, drains}

-- a step of the world, a request at a node, a delivery, deliveries up to a number, or a bucket
pub data Act : Type 0 where
  moves : Moving → Act
  asks : ℕ → Order → Act
  delivery : ℕ → Act
  drain : ℕ → Act
  adds : List ℕ → Act

-- a request that is open is over
abbrev pub ends_one : List ItemRequest → ℕ → Option ItemRequest → List ItemRequest
ends_one requests q None = requests
ends_one requests q (Some a) = cond (is_open a.stage) (set_stage requests q a over) requests

-- these requests are over
abbrev pub ends_all : List ItemRequest → List ℕ → List ItemRequest
ends_all requests [] = requests
ends_all requests (q ∷ qs) = ends_all (ends_one requests q (numbered requests q)) qs

-- one step and its lines are all; requests that it ends are over
abbrev pub plain : State → Moving → Outcome
plain s m =
    let e = effect s m in
    record {
      state = record (doing s m) { requests = ends_all s.requests e.closes };
      moves = m ∷ [];
      refused = option_map Cluster e.refused;
      words = e.words;
      lines = cluster_lines e.tells;
    }

-- what comes of an act
abbrev pub acted : State → Act → Outcome
acted s (moves m) = plain s m
acted s (asks n order) = begins s n order
acted s (delivery m) = delivers s m
acted s (drain n) = drains n s
acted s (adds name) = silent (record s { buckets = s.buckets ++ name ∷ [] })

-- the state after acts in order
abbrev pub after_acts : State → List Act → State
after_acts s [] = s
after_acts s (a ∷ as') = after_acts (acted s a).state as'

-- requests begin, go on and finish by themselves, and a delivery is an act of its own: a step of the world by itself is none
-- of theirs
abbrev pub IsOuter : Step K2vRow → Type 0
IsOuter (Deliver m) = ⊥
IsOuter (Open n) = ⊥
IsOuter (Phase q phase) = ⊥
IsOuter (Close q) = ⊥
IsOuter st = ⊤

-- the act may happen: a step of the world meets its conditions and is given what is lawful
abbrev pub IsLawfulAct : State → Act → Type 0
IsLawfulAct s (moves m) = IsOuter m.step × IsMeant m.step × IsLawful s.world m
IsLawfulAct s a = ⊤

-- each of these acts may happen when it does
abbrev pub AreLawfulActs : State → List Act → Type 0
AreLawfulActs s [] = ⊤
AreLawfulActs s (a ∷ as') = IsLawfulAct s a × AreLawfulActs (acted s a).state as'

-- after each step of the world every number fits, and every row that is sent has a spelling
abbrev pub ActsFit : State → List Act → Type 0
ActsFit s [] = ⊤
ActsFit s (a ∷ as') = FitAll row_join words s.world (acted s a).moves × ActsFit (acted s a).state as'

-- this holds of the state after every list of acts that may happen and after which everything fits
abbrev pub AfterEveryRun : (State → Type 0) → Type 0
AfterEveryRun Holds = (acts : List Act) → AreLawfulActs start acts → ActsFit start acts → Holds (after_acts start acts)
