-- What the program answers: the status and the text that are stated for its words and for what the outside tells.
use Rattle.std.specs.Prelude.{◌≡◌, ℕ, ◌+◌, ◌<◌, ◌≤◌, ⊤, IsTrue, List, [], length, Option, Some, IfSome, Result, Ok, Err}
use Rattle.std.specs.List.{list_any}
use Rattle.lab_outside.specs.declared.exit.Status.{Status}
use Rattle.lab_outside.specs.declared.exit.Status.TheVariants as status
use Rattle.lab_outside.specs.Bytes.{Wrote, WrotePrefix}
use Rattle.serve_model.specs.declared.served.ServeFault.TheVariants as fault
use Rattle.store_model.specs.Run.{State}
use Rattle.serve_model.specs.Stores.{Overflows}
use Rattle.serve_changes.specs.Changing.{changing, changing_fits, changing_lacks}
use Rattle.serve_model.specs.Talk.{Grammar}
use Rattle.world_text.specs.Shown.{is_unshown}
use Rattle.serve_run.specs.declared.plan.Plan.{Plan}
use Rattle.serve_run.specs.declared.stop.Stop.{Stop}
use Rattle.serve_run.specs.declared.stop.Stop.TheVariants.{Link, Memory, Kept, Number}
use Rattle.lab_main.specs.Limits.{input_limit, input_line, number_line}
use Rattle.serve_run.specs.Plan.{IsRefused, OfInput, WasRead}
use Rattle.serve_run.specs.Told.{Told}
use Rattle.serve_run.specs.Begun.{begun}
use Rattle.serve_run.specs.Served.{HasServed, HasBrokenOff, all_nodes, state_after, tail_of}
use Rattle.serve_run.specs.Stop.{kept_line, status_of, said_of, IsTold}

-- ---- why a number has no room

-- one of the nodes has a row without a spelling
abbrev pub IsUnshown : State → Type 0
IsUnshown s = IsTrue (list_any (is_unshown s.world) all_nodes)

-- serving ended with a connection, and jobs lead to a state in which a job can be asked that has no room; or after so many connections a node can't be shown
pub data LacksRoom (g : Grammar) (p : Plan) (t : Told) : Type 0 where
  for_job : (has : HasBrokenOff g p fault.Number t) → Overflows changing changing_fits changing_lacks (begun p has.first) → LacksRoom g p t
  to_show : (number : ℕ) → (has : HasServed g p number t) → IsUnshown (state_after p has.first has.jobs) → LacksRoom g p t

-- ---- why serving ends

-- so many connections were served, no more than were asked for, and fewer only where no more come; so many more are past, whatever the link tells; and this is the text of the layout versions that were applied and of the state that they left
pub record HasEnded (g : Grammar) (p : Plan) (count : ℕ) (t : Told) (text : List ℕ) : Type 0 where
  pub number : ℕ
  pub within : number ≤ count
  pub short : number < count → IfSome t.coming (λ coming. t.coming_after ≡ Some [])
  pub gone : length t.past_after ≡ length t.past + number
  pub has : HasServed g p number t
  pub text_is : text ≡ tail_of p has.first has.jobs number

-- memory was wanting before a connection was served, or after so many, or with one more, with which serving ended
pub data IsWanting (g : Grammar) (p : Plan) (t : Told) : Type 0 where
  at_first : t.past_after ≡ t.past → IsWanting g p t
  afterwards : (number : ℕ) → HasServed g p number t → IsWanting g p t
  within : HasBrokenOff g p fault.Memory t → IsWanting g p t

-- why serving stopped early: the link failed after so many connections, too many bytes were put or copied, there was no room, or memory was wanting
abbrev pub HasStopped : Grammar → Plan → Told → Stop → Type 0
HasStopped g p t Link = (number : ℕ) × HasServed g p number t
HasStopped g p t Kept = HasBrokenOff g p fault.Kept t
HasStopped g p t Number = LacksRoom g p t
HasStopped g p t Memory = IsWanting g p t
HasStopped g p t stop = ⊥

-- how serving ended
abbrev pub HowServed : Grammar → Plan → ℕ → Told → Result (List ℕ) Stop → Type 0
HowServed g p count t (Ok text) = HasEnded g p count t text
HowServed g p count t (Err stop) = HasStopped g p t stop

-- ---- the answer

-- what is stated for a server that is asked for so many connections
pub data IsEnd (g : Grammar) (count : ℕ) (input : Option (List ℕ)) (t : Told) (is : Status) (text : List ℕ) : Type 0 where
  long_input : IfSome input (λ bytes. input_limit < length bytes) → is ≡ status.Limit → text ≡ input_line → IsEnd g count input t is text
  refused : OfInput (λ bytes. IsRefused bytes text) input → is ≡ status.Refused → IsEnd g count input t is text
  served : (p : Plan) → WasRead input p → HasEnded g p count t text → is ≡ status.Done → IsEnd g count input t is text
  link_failed : (p : Plan) → WasRead input p → (number : ℕ) → HasServed g p number t → is ≡ status.LinkFault → text ≡ [] → IsEnd g count input t is text
  too_much : (p : Plan) → WasRead input p → HasBrokenOff g p fault.Kept t → is ≡ status.Limit → text ≡ kept_line → IsEnd g count input t is text
  no_room : (p : Plan) → WasRead input p → LacksRoom g p t → is ≡ status.Limit → text ≡ number_line → IsEnd g count input t is text

-- the same of a call that gives the last text, or why there is none
abbrev pub EndsSo : Grammar → ℕ → Option (List ℕ) → Told → Result (List ℕ) Stop → Type 0
EndsSo g count input t (Ok text) = IsEnd g count input t status.Done text
EndsSo g count input t (Err stop) = IsTold stop → IsEnd g count input t (status_of stop) (said_of stop)

-- the statuses that come with a whole text, that of a failed link among them: it has none
abbrev pub IsStated : Status → Type 0
IsStated status.Done = ⊤
IsStated status.Refused = ⊤
IsStated status.Usage = ⊤
IsStated status.LinkFault = ⊤
IsStated status.Limit = ⊤
IsStated status.ReadFault = ⊥
IsStated status.WriteFault = ⊥
IsStated status.Memory = ⊥

-- the statuses that come without a text
abbrev pub IsSilent : Status → Type 0
IsSilent status.ReadFault = ⊤
IsSilent status.Memory = ⊤
IsSilent is = ⊥

-- a first part of a text that is stated was written
pub record AnswersPrefix (Stated : Status → List ℕ → Type 0) (old new : Option (List ℕ)) : Type 0 where
  pub is : Status
  pub text : List ℕ
  pub stated : Stated is text
  pub wrote : WrotePrefix old new text

-- what Done says: the plan is the one that the input says; so many connections were served, no more than are asked for, and fewer only where no more come, and so many more are past, whatever the link tells; each was written what is stated of its bytes; all that was done keeps what is promised; and what was written to the output is the text of the layout versions that were applied and of the state that was left
pub record IsServedWhole (g : Grammar) (count : ℕ) (input old new : Option (List ℕ)) (t : Told) : Type 0 where
  pub plan : Plan
  pub was_read : WasRead input plan
  pub number : ℕ
  pub within : number ≤ count
  pub short : number < count → IfSome t.coming (λ coming. t.coming_after ≡ Some [])
  pub gone : length t.past_after ≡ length t.past + number
  pub has : HasServed g plan number t
  pub wrote : Wrote old new (tail_of plan has.first has.jobs number)

-- what Memory says: memory was wanting before the input was read, or of a server of the plan that it says
pub data WantsMemory (g : Grammar) (input : Option (List ℕ)) (t : Told) : Type 0 where
  unread : t.past_after ≡ t.past → WantsMemory g input t
  of_server : (p : Plan) → WasRead input p → IsWanting g p t → WantsMemory g input t

-- what comes where the input says a plan and no fault rose: all was served, too many bytes were put or copied, or there was no room, each with the whole text that is stated, or memory was wanting, and nothing was written
pub data Completes (g : Grammar) (count : ℕ) (input old new : Option (List ℕ)) (t : Told) (is : Status) : Type 0 where
  served_whole : IsServedWhole g count input old new t → is ≡ status.Done → Completes g count input old new t is
  over_limit : (p : Plan) → WasRead input p → HasBrokenOff g p fault.Kept t → is ≡ status.Limit → Wrote old new kept_line → Completes g count input old new t is
  without_room : (p : Plan) → WasRead input p → LacksRoom g p t → is ≡ status.Limit → Wrote old new number_line → Completes g count input old new t is
  without_memory : is ≡ status.Memory → Wrote old new [] → Completes g count input old new t is
