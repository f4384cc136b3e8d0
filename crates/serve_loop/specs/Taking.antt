-- How far the bytes of an upload came.
use Rattle.std.specs.Prelude.{◌≡◌, ◌≤◌, ◌<◌, ⊤, ℕ, List, [], ◌++◌, length, Option, Some, None}
use Rattle.lab_outside.specs.Connection.{Connection, OnPresent}
use Rattle.lab_outside.specs.Rose.{Rose}
use Rattle.http_wire.specs.Reading.{OnAll}
use Rattle.s3_model.specs.declared.ask.Ask.{Ask}
use Rattle.s3_model.specs.declared.ask.Ask.TheVariants as ask
use Rattle.serve_model.specs.declared.buckets.Buckets.{Buckets}
use Rattle.serve_model.specs.declared.request.Request.{Request}
use Rattle.serve_model.specs.declared.served.ServeFault.{ServeFault}
use Rattle.serve_model.specs.declared.served.ServeFault.TheVariants.{Kept, Number, Memory}
use Rattle.serve_model.specs.declared.upload.Upload.{Upload}
use Rattle.serve_model.specs.Stores.{Job, leave}
use Rattle.serve_model.specs.Judging.{upload_of}
use Rattle.serve_loop.specs.declared.sums.Sums.{Sums}
use Rattle.serve_loop.specs.declared.taking.Came.{Came}
use Rattle.serve_loop.specs.declared.taking.Came.TheVariants.{Whole, Short, Cut, Unneeded}
use Rattle.serve_loop.specs.Sums.{AreSums}
use Rattle.serve_loop.specs.Uploads.{IsTaken, Takes}

-- the ask is an upload
abbrev pub IsPut : Ask → Type 0
IsPut (ask.Put bucket key size md5 headers) = ⊤
IsPut _ = ⊥

-- the request's bytes are taken block by block, as this upload
abbrev pub IsStreamed : Buckets → Request → Upload → Type 0
IsStreamed buckets r u = upload_of buckets r ≡ Some u

-- serving is given up, as memory was wanting, or this has no room
abbrev pub IsCause : Type 0 → ServeFault → Type 0
IsCause Lacks Kept = ⊥
IsCause Lacks Number = Lacks
IsCause Lacks Memory = ⊤

-- ---- what was read

-- nothing was written, and no call failed
pub record IsQuiet (c d : Connection) : Type 0 where
  pub unwritten : d.written ≡ c.written
  pub steady : d.faults ≡ c.faults

-- nothing was written, and a call failed
pub record IsFailed (c d : Connection) : Type 0 where
  pub unwritten : d.written ≡ c.written
  pub rose : Rose c.faults d.faults
  pub counted : c.faults ≤ d.faults

-- all bytes begin with these
abbrev pub CameFirst : List ℕ → List ℕ → List ℕ → Type 0
CameFirst came all rest = all ≡ came ++ rest

-- and those behind them are fewer than are needed
abbrev pub CameShort : List ℕ → Option ℕ → List ℕ → List ℕ → Type 0
CameShort came None all rest = ⊥
CameShort came (Some size) all rest = (all ≡ came ++ rest) × (length rest < size)

-- ---- how far an upload came

-- so it needs the next bytes: no more, or some, or it waits for no client any more
abbrev pub NeedsSo : Came → Option ℕ → Type 0
NeedsSo Whole need = need ≡ Some 0
NeedsSo Short need = (size : ℕ) × (need ≡ Some size) × (1 ≤ size)
NeedsSo Cut need = (size : ℕ) × (need ≡ Some size) × (1 ≤ size)
NeedsSo Unneeded need = need ≡ None

-- an upload is on its way, and needs the next bytes so
abbrev pub IsTakenSo : {S : Type 0} → (S → ℕ → Upload → List ℕ → Option ℕ → Type 0) → Came → Type 0
IsTakenSo takes how = (need : Option ℕ) × NeedsSo how need × IsTaken takes need

-- and so its bytes came from the connection, of which these were taken
abbrev pub CameSo : Came → List ℕ → Option ℕ → List ℕ → List ℕ → Connection → Connection → Type 0
CameSo Short came need kept kept' c d = IsQuiet c d × OnAll (CameShort came need) kept kept' c d
CameSo Cut came need kept kept' c d = IsFailed c d × OnAll (CameFirst came) kept kept' c d
CameSo how came need kept kept' c d = IsQuiet c d × OnAll (CameFirst came) kept kept' c d

-- an upload of this length was begun, and needs so many bytes first
abbrev pub IsBegun : {S : Type 0} → (S → ℕ → Upload → List ℕ → Option ℕ → Type 0) → ℕ → Option ℕ → Type 0
IsBegun {S} takes size first = (s : S) × (time : ℕ) × (u : Upload) × (u.length ≡ size) × Takes (takes s time) u [] first

-- whatever upload was begun so
abbrev pub EachBegun : {S : Type 0} → (S → ℕ → Upload → List ℕ → Option ℕ → Type 0) → ℕ → Option ℕ → (S → ℕ → Upload → Type 0) → Type 0
EachBegun {S} takes size first Holds = (s : S) (time : ℕ) (u : Upload) → u.length ≡ size → Takes (takes s time) u [] first → Holds s time u

-- the digests were of no bytes, and are of these now
abbrev pub AreAdded : Sums → Sums → List ℕ → Type 0
AreAdded old new came = (r : Request) → AreSums r old [] → AreSums r new came

-- it has come so far, and these bytes were taken
pub record HasTaken {S : Type 0} (old new : S → ℕ → Upload → List ℕ → Option ℕ → Type 0) (size : ℕ) (first : Option ℕ) (before after : Sums) (kept kept' : List ℕ) (c d : Option Connection) (how : Came) : Type 0 where
  pub came : List ℕ
  pub need : Option ℕ
  pub needs : NeedsSo how need
  pub takes : EachBegun old size first (λ s time u. Takes (new s time) u came need)
  pub sums : AreAdded before after came
  pub read : OnPresent (CameSo how came need kept kept') c d

-- serving is given up while it comes
pub record GaveUp {S : Type 0} (old : S → ℕ → Upload → List ℕ → Option ℕ → Type 0) (lacks : S → ℕ → Job → Type 0) (size : ℕ) (first : Option ℕ) (kept kept' : List ℕ) (c d : Option Connection) (e : ServeFault) : Type 0 where
  pub came : List ℕ
  pub because : IsCause ((length came ≤ size) × EachBegun old size first (λ s time u. lacks s time (leave u came))) e
  pub read : OnPresent (λ x y. IsQuiet x y × OnAll (CameFirst came) kept kept' x y) c d
