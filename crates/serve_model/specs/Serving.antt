-- How code serves one request: what it writes, and what its store, its clock and its counts stand for then.
use Rattle.std.specs.Prelude.{◌≡◌, ◌⊎◌, ℕ, ◌≤◌, ⊤, Bool, false, true, not, List, ◌++◌, Option, Some, None, Result, Ok, Err}
use Rattle.std.specs.List.{AllByRecursion}
use Rattle.crdt_core.specs.Members.{OneOf}
use Rattle.lab_outside.specs.Connection.{Connection, OnPresent}
use Rattle.lab_outside.specs.Rose.{Rose}
use Rattle.lab_outside.specs.Bytes.{Wrote, WrotePrefix}
use Rattle.flow_model.specs.declared.flow.FlowEnd.{FlowEnd}
use Rattle.serve_model.specs.declared.served.Served.{Served}
use Rattle.serve_model.specs.declared.served.ServeFault.{ServeFault}
use Rattle.serve_model.specs.declared.served.ServeFault.TheVariants.{Kept, Number, Memory}
use Rattle.serve_model.specs.Stores.{Job, Given, Store, Asking, Known, Leads, Overflows}
use Rattle.serve_model.specs.Talk.{Serving, Next, goes, closes, exceeds, Stop, Halt, Turn, begun_text}

-- ---- a store of the code

-- it stands for some state: it was not given up
abbrev pub HasState : {S : Type 0} → (S → Type 0) → Type 0
HasState {S} holds = (s : S) × holds s

module _ {S : Type 0} (store : Store S) (fits lacks : S → ℕ → Job → Type 0) where
  -- a job was carried out and ended so; the code's store stands for the state after it
  pub record CarriedOut (holds : S → Type 0) (s : S) (time : ℕ) (job : Job) (end : Option FlowEnd) : Type 0 where
    pub end_is : end ≡ (store.carries s time job).end
    pub fit : fits s time job
    pub stands : holds (store.carries s time job).state

  -- the code's store stands for a state to which jobs lead from this one
  abbrev pub Reached : (S → Type 0) → S → S → Type 0
  Reached holds s t = holds t × Leads store fits s t

  -- whatever state the code's store stood for, jobs lead to one for which it stands; where a number had no room, they lead to a job that has none
  abbrev pub Goes : {A : Type 0} → (S → Type 0) → (S → Type 0) → Result A ServeFault → Type 0
  Goes holds holds' (Ok a) = (s : S) → holds s → HasState (Reached holds' s)
  Goes holds holds' (Err Kept) = (s : S) → holds s → HasState (Reached holds' s)
  Goes holds holds' (Err Number) = (s : S) → holds s → Overflows store fits lacks s
  Goes holds holds' (Err Memory) = ⊤

-- ---- an answer

-- an answer was written, and the connection goes on unless it closes; or it wasn't written whole, as the count of faults rose; or nothing was written, as memory was wanting
pub data Says (text : List ℕ) (close : Bool) (result : Result Bool ServeFault) (c d : Connection) : Type 0 where
  said : result ≡ Ok (not close) → Wrote c.written d.written text → d.left ≡ c.left → d.faults ≡ c.faults → Says text close result c d
  cut_short : result ≡ Ok false → WrotePrefix c.written d.written text → Rose c.faults d.faults → Says text close result c d
  unsaid : result ≡ Err Memory → d ≡ c → Says text close result c d

-- ---- one request

-- a store, a clock and counts of the code stand for what is served
pub record Stands {S : Type 0} (holds : S → Type 0) (times : Option (List ℕ)) (served : Served) (p : Serving S) : Type 0 where
  pub store : holds p.store
  pub clock : times ≡ Some p.times
  pub time : served.time ≡ p.time
  pub kept : served.kept ≡ p.kept

-- the connection goes on with these bytes, which are kept or left, or it doesn't
abbrev pub Continues : Next → Bool → List ℕ → Option (List ℕ) → Type 0
Continues closes on kept left = on ≡ false
Continues exceeds on kept left = ⊥
Continues (goes rest) on kept None = ⊥
Continues (goes rest) on kept (Some left) = (on ≡ true) × (rest ≡ kept ++ left)

-- it came as far as a stop, or not quite: a first part of its text was written, and each job that the store was asked before it fits
abbrev pub ComesTo : {S : Type 0} → (Asking S → Type 0) → Connection → Connection → Stop S → Type 0
ComesTo fits c d stop = WrotePrefix c.written d.written stop.text × AllByRecursion fits stop.asks

-- it was cut off at a stop: it came so far, and store, clock and counts stand for what is served there
abbrev pub CutOffAt : {S : Type 0} → (Asking S → Type 0) → (S → Type 0) → Option (List ℕ) → Served → Connection → Connection → Stop S → Type 0
CutOffAt fits holds times served c d stop = ComesTo fits c d stop × Stands holds times served stop.serving

-- it came into the middle of a get: a first part was written of what the get may give until then, and each job that the store was asked before it fits
abbrev pub ComesInto : {S : Type 0} → Known S → Connection → Connection → Halt S → Type 0
ComesInto known c d halt =
    (g : Given) × known.gives halt.asking g × WrotePrefix c.written d.written (halt.text ++ begun_text halt.request (Some g)) × AllByRecursion known.fits halt.asks

-- serving is given up, since one of these jobs, or to give an upload of one of these up, has no room, or since memory was wanting
abbrev pub GivesUp : {S : Type 0} → (List (Asking S) → Type 0) → List (Asking S) → ServeFault → Type 0
GivesUp overflows asks Kept = ⊥
GivesUp overflows asks Number = overflows asks
GivesUp overflows asks Memory = ⊤

-- the client of an upload was lost at a stop to which it came
abbrev pub IsLostAt : {S : Type 0} → (Asking S → Type 0) → Connection → Connection → Stop S → Type 0
IsLostAt fits c d stop = ComesTo fits c d stop × (stop.uploads ≡ true)

-- no call failed; or one did, with which the client of an upload was lost at one of these stops
abbrev pub IsSteady : {S : Type 0} → (Asking S → Type 0) → List (Stop S) → Connection → Connection → Type 0
IsSteady fits stops c d = (d.faults ≡ c.faults) ⊎ (Rose c.faults d.faults × OneOf (IsLostAt fits c d) stops)

-- what is stated of one request was written, each job that the store was asked fits, and store, clock and counts stand for what is served then; or it was cut off at one of its stops, as the count of faults rose; or it's stated that serving ends, as too many bytes were put or copied, and each job fits too; or, as memory was wanting or the job that the store was asked has no room, it came to one of its stops, or into the middle of its get. Its count of faults rises where it is cut off, and else only where the store has something to end for a client that is lost: where serving is given up as it gives an upload up, or in the middle of a get
pub data Serves {S : Type 0} (t : Turn S) (holds : S → Type 0) (known : Known S) (times : Option (List ℕ)) (served : Served) (result : Result Bool ServeFault) (kept : List ℕ) (c d : Connection) : Type 0 where
  done : (on : Bool) → result ≡ Ok on → Wrote c.written d.written t.text → AllByRecursion known.fits t.asks → Stands holds times served t.serving → Continues t.next on kept d.left → d.faults ≡ c.faults → Serves t holds known times served result kept c d
  cut_off : result ≡ Ok false → Rose c.faults d.faults → OneOf (CutOffAt known.fits holds times served c d) t.stops → Serves t holds known times served result kept c d
  limited : result ≡ Err Kept → t.next ≡ exceeds → Wrote c.written d.written t.text → AllByRecursion known.fits t.asks → d.faults ≡ c.faults → Serves t holds known times served result kept c d
  given_up : (e : ServeFault) → result ≡ Err e → GivesUp known.overflows t.asks e → OneOf (ComesTo known.fits c d) t.stops → IsSteady known.fits t.stops c d → Serves t holds known times served result kept c d
  halted : (e : ServeFault) → result ≡ Err e → GivesUp known.overflows t.asks e → OneOf (ComesInto known c d) t.halts → c.faults ≤ d.faults → Serves t holds known times served result kept c d

-- so it is of the bytes that are told to be left
abbrev pub OnLeft : (List ℕ → Type 0) → Option (List ℕ) → Type 0
OnLeft P None = ⊤
OnLeft P (Some left) = P left

-- an answer was written to the connection that is present
abbrev pub SaysOn : List ℕ → Bool → Result Bool ServeFault → Option Connection → Option Connection → Type 0
SaysOn text close result old new = OnPresent (Says text close result) old new

-- what is stated of a request, from the bytes on that are told to be left, was served on the connection that is present
abbrev pub ServesOn : {S : Type 0} → (List ℕ → Turn S) → (S → Type 0) → Known S → Option (List ℕ) → Served → Result Bool ServeFault → List ℕ → Option Connection → Option Connection → Type 0
ServesOn turn holds known times served result kept old new = OnPresent (λ c d. OnLeft (λ left. Serves (turn left) holds known times served result kept c d) c.left) old new
