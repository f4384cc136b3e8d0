-- How code serves connections, one after the other.
use Rattle.std.specs.Prelude.{◌≡◌, ◌⊎◌, ℕ, ◌≤◌, true, false, List, [], ◌∷◌, ◌++◌, length, Option, Some, IfSome, Result, Ok, Err}
use Rattle.std.specs.List.{AllByRecursion}
use Rattle.crdt_core.specs.Members.{OneOf}
use Rattle.lab_outside.specs.Connection.{Connection}
use Rattle.lab_outside.specs.Rose.{Rose}
use Rattle.lab_outside.specs.Bytes.{Wrote}
use Rattle.serve_model.specs.declared.buckets.Buckets.{Buckets}
use Rattle.serve_model.specs.declared.served.Served.{Served}
use Rattle.serve_model.specs.declared.served.ServeFault.{ServeFault}
use Rattle.serve_model.specs.declared.served.ServeFault.TheVariants.{Kept}
use Rattle.serve_model.specs.Stores.{Given, Store, Asking, IsLeftFor, Known, gives_asked}
use Rattle.serve_model.specs.Talk.{Grammar, Serving, Stop, Halt, Talk, talk, begun_text, request_limit}
use Rattle.serve_model.specs.Serving.{Stands, ComesTo, ComesInto, CutOffAt, GivesUp, IsSteady}

-- what is stated of a connection was written, each job that the store was asked fits, and store, clock and counts stand for what is served then; or it was cut off at one of its stops, as the count of faults rose; or serving ends with it, as too many bytes were put or copied, and each job fits too; or, as memory was wanting or one of the jobs that the store is asked has no room, it came to one of its stops, or into the middle of one of its gets. Its count of faults rises where that of one request does
pub data Talks {S : Type 0} (t : Talk S) (holds : S → Type 0) (known : Known S) (times : Option (List ℕ)) (served : Served) (result : Result Unit ServeFault) (c d : Connection) : Type 0 where
  whole : result ≡ Ok tt → t.is_over ≡ false → Wrote c.written d.written t.text → AllByRecursion known.fits t.asks → Stands holds times served t.serving → d.faults ≡ c.faults → Talks t holds known times served result c d
  cut_off : result ≡ Ok tt → Rose c.faults d.faults → OneOf (CutOffAt known.fits holds times served c d) t.stops → Talks t holds known times served result c d
  limited : result ≡ Err Kept → t.is_over ≡ true → Wrote c.written d.written t.text → AllByRecursion known.fits t.asks → d.faults ≡ c.faults → Talks t holds known times served result c d
  given_up : (e : ServeFault) → result ≡ Err e → GivesUp known.overflows t.asks e → OneOf (ComesTo known.fits c d) t.stops → IsSteady known.fits t.stops c d → Talks t holds known times served result c d
  halted : (e : ServeFault) → result ≡ Err e → GivesUp known.overflows t.asks e → OneOf (ComesInto known c d) t.halts → c.faults ≤ d.faults → Talks t holds known times served result c d

-- these are the first of those, or all of them
abbrev pub IsPrefixOf : {A : Type 0} → List A → List A → Type 0
IsPrefixOf {A} front all = (rest : List A) × (front ++ rest ≡ all)

-- these are the first of those jobs, the last of which may give its upload up in place of what is asked there
pub data AreFirstOf {S : Type 0} (front all : List (Asking S)) : Type 0 where
  first_parts : IsPrefixOf front all → AreFirstOf front all
  left_earlier : (before : List (Asking S)) (a b : Asking S) → front ≡ before ++ a ∷ [] → IsPrefixOf (before ++ b ∷ []) all → IsLeftFor a b → AreFirstOf front all

-- a stop lies within a connection: its text is a first part of the connection's, and its jobs are the first of those that it asks, or give an upload up earlier
abbrev pub LiesWithin : {S : Type 0} → Talk S → Stop S → Type 0
LiesWithin t stop = IsPrefixOf stop.text t.text × AreFirstOf stop.asks t.asks

-- a get in the middle of which serving may be given up lies within a connection: what may be written then is a first part of the connection's text, and the jobs before it are the first of those that it asks
abbrev pub GetLiesWithin : {S : Type 0} → Store S → Talk S → Halt S → Type 0
GetLiesWithin store t halt = ((g : Given) → gives_asked store halt.asking g → IsPrefixOf (halt.text ++ begun_text halt.request (Some g)) t.text) × IsPrefixOf halt.asks t.asks

module _ {S : Type 0} (store : Store S) (buckets : Buckets) (g : Grammar) where
  -- what is stated of a connection with these bytes
  abbrev pub stated : Serving S → List ℕ → Talk S
  stated p bytes = talk store buckets g request_limit p bytes

  -- some job is so that these connections, which have these bytes, ask one after the other: the first one asks it, or those behind it do, from what is served at its end, or, where its count of faults rose, from what is served wherever it may be cut off
  abbrev pub SomeAsked : (Asking S → Type 0) → Serving S → List (List ℕ) → List Connection → Type 0
  SomeAsked IsSo p [] ds = ⊥
  SomeAsked IsSo p (bytes ∷ more) [] = ⊥
  SomeAsked IsSo p (bytes ∷ more) (d ∷ ds) =
      OneOf IsSo (stated p bytes).asks ⊎ SomeAsked IsSo (stated p bytes).serving more ds ⊎ (Rose 0 d.faults × OneOf (λ (stop : Stop S). SomeAsked IsSo stop.serving more ds) (stated p bytes).stops)

  module _ (fits : Asking S → Type 0) where
    -- a connection came as far as a stop, or not quite: a first part of its text was written to it, and each job that the store was asked before it fits
    abbrev pub IsUpTo : Connection → Stop S → Type 0
    IsUpTo d stop = IfSome d.written (λ written. IsPrefixOf written stop.text) × AllByRecursion fits stop.asks

    -- a connection came into the middle of a get: a first part of what the get may give until then was written to it, and each job that the store was asked before it fits
    abbrev pub IsInto : Connection → Halt S → Type 0
    IsInto d halt = (g : Given) × gives_asked store halt.asking g × IfSome d.written (λ written. IsPrefixOf written (halt.text ++ begun_text halt.request (Some g))) × AllByRecursion fits halt.asks

    -- no call on a connection failed; or one did, with which the client of an upload was lost at one of these stops, up to which it came
    abbrev pub WasSteady : Connection → List (Stop S) → Type 0
    WasSteady d stops = (d.faults ≡ 0) ⊎ (Rose 0 d.faults × OneOf (λ stop. IsUpTo d stop × (stop.uploads ≡ true)) stops)

    -- what is stated of a connection was written and ends serving, none of its calls failed, and each job that the store was asked fits; or, as memory was wanting or one of the jobs that the store is asked has no room, it came to one of its stops, and no call failed but that with which the client of an upload was lost; or it came into the middle of one of its gets
    pub data EndsSo (overflows : List (Asking S) → Type 0) (t : Talk S) (d : Connection) : ServeFault → Type 0 where
      too_many : t.is_over ≡ true → IfSome d.written (λ written. written ≡ t.text) → AllByRecursion fits t.asks → d.faults ≡ 0 → EndsSo overflows t d Kept
      begun : (e : ServeFault) → GivesUp overflows t.asks e → OneOf (IsUpTo d) t.stops → WasSteady d t.stops → EndsSo overflows t d e
      halted : (e : ServeFault) → GivesUp overflows t.asks e → OneOf (IsInto d) t.halts → EndsSo overflows t d e

    -- what is stated of a connection's bytes was written to it, none of its calls failed, and each job that the store was asked fits; or it was cut off at one of its stops, as its count of faults rose; and what is served after it
    pub data IsServed (p : Serving S) (bytes : List ℕ) (d : Connection) (q : Serving S) : Type 0 where
      exact : (stated p bytes).is_over ≡ false → IfSome d.written (λ written. written ≡ (stated p bytes).text) → AllByRecursion fits (stated p bytes).asks → d.faults ≡ 0 → q ≡ (stated p bytes).serving → IsServed p bytes d q
      part : Rose 0 d.faults → OneOf (λ stop. IsUpTo d stop × (q ≡ stop.serving)) (stated p bytes).stops → IsServed p bytes d q

    -- connections with these bytes were served one after the other
    abbrev pub AreServed : Serving S → List (List ℕ) → List Connection → Serving S → Type 0
    AreServed p [] [] q = q ≡ p
    AreServed p [] (d ∷ ds) q = ⊥
    AreServed p (bytes ∷ more) [] q = ⊥
    AreServed p (bytes ∷ more) (d ∷ ds) q = (mid : Serving S) × IsServed p bytes d mid × AreServed mid more ds q

    -- all connections that came were served, and they are so many
    pub record ServesAll (p : Serving S) (number : ℕ) (holds : S → Type 0) (times : Option (List ℕ)) (served : Served) (coming : List (List ℕ)) (coming_new : Option (List (List ℕ))) (past past_new : List Connection) : Type 0 where
      pub came : List (List ℕ)
      pub to_come : List (List ℕ)
      pub comes : coming ≡ came ++ to_come
      pub comes_new : coming_new ≡ Some to_come
      pub gone : List Connection
      pub goes : past_new ≡ past ++ gone
      pub count : length gone ≡ number
      pub serving : Serving S
      pub are_served : AreServed p came gone serving
      pub stands : Stands holds times served serving

    -- all were but the last, with which serving ended; those behind it are still to come
    pub record ServesAllButLast (overflows : List (Asking S) → Type 0) (p : Serving S) (fault : ServeFault) (coming : List (List ℕ)) (coming_new : Option (List (List ℕ))) (past past_new : List Connection) : Type 0 where
      pub came : List (List ℕ)
      pub bytes : List ℕ
      pub to_come : List (List ℕ)
      pub comes : coming ≡ came ++ bytes ∷ to_come
      pub comes_new : coming_new ≡ Some to_come
      pub gone : List Connection
      pub last : Connection
      pub goes : past_new ≡ past ++ gone ++ last ∷ []
      pub serving : Serving S
      pub are_served : AreServed p came gone serving
      pub ends : EndsSo overflows (stated serving bytes) last fault
