-- Runs of a schedule whose texts are read.
use Rattle.std.specs.Prelude.{◌≡◌, ◌<◌, ◌^◌, ℕ, List, length, map}
use Rattle.history_model.specs.declared.record.Record.{Record}
use Rattle.store_model.specs.declared.event.Numbered.{Numbered}
use Rattle.store_model.specs.Run.{start}
use Rattle.store_model.specs.Events.{Turn, events_of, run}
use Rattle.text_model.specs.Reading.{IsSchedule}
use Rattle.text_model.specs.Played.{ArePlayed}
use Rattle.audit_laws.specs.Account.{blunt}
use Rattle.audit_runs.specs.Alike.{DifferInCuts}

-- turns of a schedule that is shorter than 2^64 bytes, which differ in nothing but cuts from a replay of it
pub record AreOfSchedule (input : List ℕ) (events : List Numbered) (turns others : List Turn) : Type 0 where
  pub schedule : IsSchedule input events
  pub short : length input < 2 ^ 64
  pub events_are : events_of turns ≡ events
  pub differ : DifferInCuts turns others
  pub played : ArePlayed others

-- the history of turns, but for the identifiers of superseded ends, which no line tells
abbrev pub history_told : List Turn → List Record
history_told turns = map blunt (run start turns).history
