-- Why a replay gave up, and what was written before.
use Rattle.std.specs.Prelude.{◌≡◌, ℕ, ⊤, List, [], ◌++◌, Option}
use Rattle.crdt_core.specs.declared.memory.Memory.{Memory as Why}
use Rattle.crdt_core.specs.declared.memory.Memory.TheVariants.{Want, Full}
use Rattle.lab_outside.specs.declared.exit.Status.{Status}
use Rattle.lab_outside.specs.declared.exit.Status.TheVariants.{Limit, Refused, WriteFault, Memory as MemoryStatus}
use Rattle.lab_outside.specs.Bytes.{Wrote, WrotePrefix}
use Rattle.lab_main.specs.Ends.{Ends}
use Rattle.lab_main.specs.Limits.{number_line}
use Rattle.lab_main.specs.Edges.{Begins}
use Rattle.schedule_text.specs.declared.fault.ScheduleFault.{ScheduleFault}
use Rattle.schedule_text.specs.declared.fault.ScheduleFault.TheVariants.{BadLine as FaultLine, TooManyEvents as FaultMany, Memory as FaultMemory}
use Rattle.k2v_text.specs.declared.event.NumberedItemEvent.{NumberedItemEvent}
use Rattle.k2v_text.specs.Events.{Turn}
use Rattle.k2v_text.specs.Played.{events_of, ArePlayed}
use Rattle.k2v_text.specs.Transcript.{transcript}
use Rattle.k2v_api.specs.declared.stop.Stop.{Stop}
use Rattle.k2v_api.specs.declared.stop.Stop.TheVariants.{Write, Memory, TooManyEvents, BadLine, Number, Sent}
use Rattle.k2v_replay.specs.Replay.{sent_line, front, AreFirst, ReplayLacksRoom, IsReplay}
use Rattle.k2v_api.specs.Answer.{events_line, bad_line_text, IsAnswer}

-- why an event could not be done
abbrev pub stop_of_memory : Why → Stop
stop_of_memory Want = Memory
stop_of_memory Full = Number

-- the schedule may be the cause
abbrev pub IsOfSchedule : Stop → Type 0
IsOfSchedule Memory = ⊤
IsOfSchedule TooManyEvents = ⊤
IsOfSchedule (BadLine n) = ⊤
IsOfSchedule Write = ⊥
IsOfSchedule Number = ⊥
IsOfSchedule Sent = ⊥

-- why the schedule is no schedule
abbrev pub stop_of_fault : ScheduleFault → Stop
stop_of_fault (FaultLine n) = BadLine n
stop_of_fault FaultMany = TooManyEvents
stop_of_fault FaultMemory = Memory

-- the status of each reason to stop
abbrev pub status_of : Stop → Status
status_of Write = WriteFault
status_of Memory = MemoryStatus
status_of TooManyEvents = Limit
status_of (BadLine n) = Refused
status_of Number = Limit
status_of Sent = Limit

-- the line that is written of each reason to stop
abbrev pub said_of : Stop → List ℕ
said_of Write = []
said_of Memory = []
said_of TooManyEvents = events_line
said_of (BadLine n) = bad_line_text n
said_of Number = number_line
said_of Sent = sent_line

-- all events were played, and their transcript was written
pub record IsWhole (events : List NumberedItemEvent) (old new : Option (List ℕ)) : Type 0 where
  pub turns : List Turn
  pub events_are : events_of turns ≡ events
  pub played : ArePlayed turns
  pub wrote : Wrote old new (transcript turns)

-- the first events were played, and a first part of what is written of them was written, or of the whole transcript
pub data IsPart (events : List NumberedItemEvent) (old new : Option (List ℕ)) : Type 0 where
  of_turns : (turns : List Turn) → AreFirst events turns → WrotePrefix old new (front turns) → IsPart events old new
  of_all : (turns : List Turn) → events_of turns ≡ events → ArePlayed turns → WrotePrefix old new (transcript turns) → IsPart events old new

-- what was written is the text with which a replay of these events comes to a limit, but for its last line
pub record LacksLine (events : List NumberedItemEvent) (line : List ℕ) (old new : Option (List ℕ)) : Type 0 where
  pub before : List ℕ
  pub wrote : Wrote old new before
  pub stated : IsReplay events Limit (before ++ line)

-- what was written when a replay of these events gave up; Number comes only where a step has no room or a node can't be shown
abbrev pub Halts : List NumberedItemEvent → Stop → Option (List ℕ) → Option (List ℕ) → Type 0
Halts events Write old new = IsPart events old new
Halts events Memory old new = IsPart events old new
Halts events TooManyEvents old new = ⊥
Halts events (BadLine n) old new = ⊥
Halts events Number old new = IsPart events old new × ReplayLacksRoom events
Halts events Sent old new = LacksLine events sent_line old new

-- what was written so far, with this last text, is what is stated with this status
pub record IsNearly (input : List ℕ) (status : Status) (last : List ℕ) (old new : Option (List ℕ)) : Type 0 where
  pub front : List ℕ
  pub wrote : Wrote old new front
  pub stated : IsAnswer input status (front ++ last)

-- what was written when a replay of this input gave up; no input brings it to a number or row that would not fit
abbrev pub HaltsOn : List ℕ → Stop → Option (List ℕ) → Option (List ℕ) → Type 0
HaltsOn input Write old new = Begins (IsAnswer input) old new
HaltsOn input Memory old new = Begins (IsAnswer input) old new
HaltsOn input TooManyEvents old new = IsNearly input Limit events_line old new
HaltsOn input (BadLine n) old new = IsNearly input Refused (bad_line_text n) old new
HaltsOn input Number old new = ⊥
HaltsOn input Sent old new = IsNearly input Limit sent_line old new

-- it ends with this status and this text written, unless a write fails or memory is wanting
pub data Says (status : Status) (text : List ℕ) (result : Status) (old new : Option (List ℕ)) (faults risen : ℕ) : Type 0 where
  ended : Ends status text result old new faults risen → Says status text result old new faults risen
  unsaid : result ≡ MemoryStatus → Wrote old new [] → Says status text result old new faults risen
