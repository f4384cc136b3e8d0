-- Why a replay gave up, and what was written before.
use Rattle.std.specs.Prelude.{◌≡◌, ℕ, List, ◌++◌, Option}
use Rattle.crdt_core.specs.declared.memory.Memory.{Memory as Why}
use Rattle.crdt_core.specs.declared.memory.Memory.TheVariants.{Want, Full}
use Rattle.lab_outside.specs.declared.exit.Status.TheVariants.{Limit}
use Rattle.lab_outside.specs.Bytes.{Wrote, WrotePrefix}
use Rattle.store_model.specs.declared.event.Numbered.{Numbered}
use Rattle.store_model.specs.Events.{Turn, events_of}
use Rattle.replay_run.specs.declared.stop.ReplayStop.{ReplayStop}
use Rattle.replay_run.specs.declared.stop.ReplayStop.TheVariants.{Write, Memory, Number, Sent}
use Rattle.replay_run.specs.declared.account.Account.{Account}
use Rattle.replay_run.specs.Account.{front, IsText}
use Rattle.text_model.specs.Played.{ArePlayed}
use Rattle.replay_run.specs.Replay.{sent_line, AreFirst, ReplayLacksRoom, IsReplay}

-- why an event could not be done
abbrev pub stop_of_memory : Why → ReplayStop
stop_of_memory Want = Memory
stop_of_memory Full = Number

-- all events were played, and all of their account was written
pub record IsWhole (account : Account) (events : List Numbered) (old new : Option (List ℕ)) : Type 0 where
  pub turns : List Turn
  pub events_are : events_of turns ≡ events
  pub played : ArePlayed turns
  pub text : List ℕ
  pub is_text : IsText account turns text
  pub wrote : Wrote old new text

-- the first events were played, and a first part of what is written of them was written, or of the whole account
pub data IsPart (account : Account) (events : List Numbered) (old new : Option (List ℕ)) : Type 0 where
  of_turns : (turns : List Turn) → AreFirst events turns → WrotePrefix old new (front account turns) → IsPart account events old new
  of_all : (turns : List Turn) → events_of turns ≡ events → ArePlayed turns → (text : List ℕ) → IsText account turns text → WrotePrefix old new text → IsPart account events old new

-- what was written is the text with which a replay of these events comes to a limit, but for its last line
pub record LacksLine (account : Account) (events : List Numbered) (line : List ℕ) (old new : Option (List ℕ)) : Type 0 where
  pub before : List ℕ
  pub wrote : Wrote old new before
  pub stated : IsReplay account events Limit (before ++ line)

-- what was written when a replay of these events gave up
abbrev pub Halts : Account → List Numbered → ReplayStop → Option (List ℕ) → Option (List ℕ) → Type 0
Halts account events Write old new = IsPart account events old new
Halts account events Memory old new = IsPart account events old new
Halts account events Number old new = IsPart account events old new × ReplayLacksRoom events
Halts account events Sent old new = LacksLine account events sent_line old new
