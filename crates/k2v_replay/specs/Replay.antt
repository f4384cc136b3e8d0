-- How a replay of events over items ends, and what is written for it.
use Rattle.std.specs.Prelude.{◌≡◌, ℕ, ◌<◌, Bool, IsTrue, List, [], ◌∷◌, ◌++◌, codes}
use Rattle.std.specs.List.{AllByRecursion, list_any, range_with_len}
use Rattle.table_model.specs.Rows.{rows}
use Rattle.table_model.specs.Top.{any_unspelled}
use Rattle.cluster_machine.specs.Worlds.{FitAll, HaveRoom}
use Rattle.text_model.specs.Played.{sent_limit}
use Rattle.k2v_rows.specs.Row.{row_join}
use Rattle.k2v_schema.specs.Schema.{words}
use Rattle.lab_outside.specs.declared.exit.Status.{Status}
use Rattle.lab_outside.specs.declared.exit.Status.TheVariants.{Done, Limit}
use Rattle.k2v_model.specs.Run.{World, State, start}
use Rattle.k2v_text.specs.declared.event.NumberedItemEvent.{NumberedItemEvent}
use Rattle.k2v_text.specs.Events.{Turn, run}
use Rattle.k2v_text.specs.Played.{Step, events_of, steps_of, HasSent, GoesOn, IsLawful, ArePlayed}
use Rattle.k2v_text.specs.Transcript.{turns_text, transcript}

-- more was sent than may be
abbrev pub sent_line : List ℕ
sent_line = codes "limit sent 268435456" ++ 10 ∷ []

-- after the step every number and row fits, and more was sent
pub record SendsTooMuch (step : Step) : Type 0 where
  pub fits : FitAll row_join words step.from.world step.outcome.moves
  pub bytes : ℕ
  pub sent : HasSent step.outcome.state bytes
  pub beyond : sent_limit < bytes

-- after the step there is no room for a number or a row
abbrev pub LacksRoom : Step → Type 0
LacksRoom step = HaveRoom row_join words step.from.world step.outcome.moves → ⊥

-- the first of some steps after which a replay doesn't go on is so
pub record StopsAt (IsSo : Step → Type 0) (steps : List Step) : Type 0 where
  pub before : List Step
  pub last : Step
  pub later : List Step
  pub whole : steps ≡ before ++ last ∷ later
  pub go_on : AllByRecursion GoesOn before
  pub is_so : IsSo last

-- these turns are the first of the events
pub record AreFirst (events : List NumberedItemEvent) (turns : List Turn) : Type 0 where
  pub played : ArePlayed turns
  pub later : List NumberedItemEvent
  pub whole : events ≡ events_of turns ++ later

-- these are the turns before the event with the first step after which the replay doesn't go on, which is so
pub record StopsAfter (IsSo : Step → Type 0) (events : List NumberedItemEvent) (before : List Turn) : Type 0 where
  pub played : ArePlayed before
  pub next : Turn
  pub later : List NumberedItemEvent
  pub whole : events ≡ events_of before ++ next.numbered ∷ later
  pub lawful : IsLawful (run start before) next
  pub stops : StopsAt IsSo (steps_of (run start before) next.numbered.event next.choice)

-- given these turns, a replay is cut off: those before are played, and of the next one's steps the first after which it doesn't go on has sent too much; any turns come later
pub record CutOff (turns : List Turn) : Type 0 where
  pub before : List Turn
  pub next : Turn
  pub later : List Turn
  pub whole : turns ≡ before ++ next ∷ later
  pub played : ArePlayed before
  pub stops : StopsAt SendsTooMuch (steps_of (run start before) next.numbered.event next.choice)

-- node n of a world has a row without a spelling
abbrev pub is_unshown : World → ℕ → Bool
is_unshown w n = any_unspelled words (rows row_join words (w.nodes n).accepted)

-- one of nodes 1 to 16 has such a row
abbrev pub IsUnshown : State → Type 0
IsUnshown s = IsTrue (list_any (is_unshown s.world) (range_with_len 1 16))

-- a replay of these events has no room for a number or a row: after the first step after which it doesn't go on, or in the line of a node after all of them
pub data ReplayLacksRoom (events : List NumberedItemEvent) : Type 0 where
  in_step : (before : List Turn) → StopsAfter LacksRoom events before → ReplayLacksRoom events
  in_line : (turns : List Turn) → events_of turns ≡ events → ArePlayed turns → IsUnshown (run start turns) → ReplayLacksRoom events

-- what is written of turns, one by one
abbrev pub front : List Turn → List ℕ
front turns = turns_text start turns

-- how a replay of these events ends, and what is written for it: the whole transcript; or what is written of the events before the one with the first step after which more was sent than may be, and the line of that limit. Which lawful layouts are given is free
pub data IsReplay (events : List NumberedItemEvent) (status : Status) (text : List ℕ) : Type 0 where
  whole : (turns : List Turn) → events_of turns ≡ events → ArePlayed turns → status ≡ Done → text ≡ transcript turns → IsReplay events status text
  sent : (before : List Turn) → StopsAfter SendsTooMuch events before → status ≡ Limit → text ≡ front before ++ sent_line → IsReplay events status text

-- a replay of the events has a stated end, whose text begins with what is written of these turns
pub record GoesFurther (events : List NumberedItemEvent) (turns : List Turn) : Type 0 where
  pub status : Status
  pub rest : List ℕ
  pub stated : IsReplay events status (front turns ++ rest)
