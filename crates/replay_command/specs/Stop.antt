-- Why a replay gave up: the status and the last text that go with it, and what was written before.
use Rattle.std.specs.Prelude.{◌≡◌, ℕ, ⊤, List, [], ◌++◌, Option}
use Rattle.lab_outside.specs.declared.exit.Status.{Status}
use Rattle.lab_outside.specs.declared.exit.Status.TheVariants.{Refused, WriteFault, Memory as MemoryStatus, Limit}
use Rattle.lab_outside.specs.Bytes.{Wrote}
use Rattle.lab_main.specs.Ends.{Ends}
use Rattle.lab_main.specs.Limits.{number_line}
use Rattle.lab_main.specs.Edges.{Begins}
use Rattle.schedule_text.specs.declared.fault.ScheduleFault.{ScheduleFault}
use Rattle.schedule_text.specs.declared.fault.ScheduleFault.TheVariants.{BadLine as FaultLine, TooManyEvents as FaultMany, Memory as FaultMemory}
use Rattle.replay_run.specs.declared.account.Account.{Account}
use Rattle.replay_run.specs.declared.stop.ReplayStop.{ReplayStop}
use Rattle.replay_run.specs.declared.stop.ReplayStop.TheVariants as halt
use Rattle.replay_run.specs.Replay.{sent_line}
use Rattle.replay_command.specs.declared.stop.Stop.{Stop}
use Rattle.replay_command.specs.declared.stop.Stop.TheVariants.{Write, Memory, TooManyEvents, BadLine, Number, Sent}
use Rattle.replay_command.specs.Answer.{events_line, bad_line_text, IsAnswer}

-- why the schedule is no schedule
abbrev pub stop_of_fault : ScheduleFault → Stop
stop_of_fault (FaultLine n) = BadLine n
stop_of_fault FaultMany = TooManyEvents
stop_of_fault FaultMemory = Memory

-- why the replay of a schedule gave up
abbrev pub stop_of_replay : ReplayStop → Stop
stop_of_replay halt.Write = Write
stop_of_replay halt.Memory = Memory
stop_of_replay halt.Number = Number
stop_of_replay halt.Sent = Sent

-- the status of each reason to stop
abbrev pub status_of : Stop → Status
status_of Write = WriteFault
status_of Memory = MemoryStatus
status_of TooManyEvents = Limit
status_of (BadLine n) = Refused
status_of Number = Limit
status_of Sent = Limit

-- the line that is written of each reason to stop
abbrev pub said_of : Stop → List ℕ
said_of Write = []
said_of Memory = []
said_of TooManyEvents = events_line
said_of (BadLine n) = bad_line_text n
said_of Number = number_line
said_of Sent = sent_line

-- what was written so far, with this last text, is what is stated with this status
pub record IsNearly (account : Account) (input : List ℕ) (status : Status) (last : List ℕ) (old new : Option (List ℕ)) : Type 0 where
  pub front : List ℕ
  pub wrote : Wrote old new front
  pub stated : IsAnswer account input status (front ++ last)

-- what was written when a replay of this input gave up; no input brings it to a number or row that would not fit
abbrev pub Halts : Account → List ℕ → Stop → Option (List ℕ) → Option (List ℕ) → Type 0
Halts account input Write old new = Begins (IsAnswer account input) old new
Halts account input Memory old new = Begins (IsAnswer account input) old new
Halts account input TooManyEvents old new = IsNearly account input Limit events_line old new
Halts account input (BadLine n) old new = IsNearly account input Refused (bad_line_text n) old new
Halts account input Number old new = ⊥
Halts account input Sent old new = IsNearly account input Limit sent_line old new

-- the schedule may be the cause
abbrev pub IsOfSchedule : Stop → Type 0
IsOfSchedule Memory = ⊤
IsOfSchedule TooManyEvents = ⊤
IsOfSchedule (BadLine n) = ⊤
IsOfSchedule Write = ⊥
IsOfSchedule Number = ⊥
IsOfSchedule Sent = ⊥

-- it ends with this status and this text written, unless a write fails or memory is wanting
pub data Says (status : Status) (text : List ℕ) (result : Status) (old new : Option (List ℕ)) (faults risen : ℕ) : Type 0 where
  ended : Ends status text result old new faults risen → Says status text result old new faults risen
  unsaid : result ≡ MemoryStatus → Wrote old new [] → Says status text result old new faults risen
