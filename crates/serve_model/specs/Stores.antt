-- Stores that carry out what they are asked, one after the other.
use Rattle.std.specs.Prelude.{◌≡◌, ◌⊎◌, ℕ, ⊤, Option, Some, None, List, [], ◌∷◌, ◌++◌}
use Rattle.std.specs.List.{Contains}
use Rattle.crdt_rows.specs.declared.version.Version.{Version}
use Rattle.crdt_rows.specs.declared.body.Meta.{Meta}
use Rattle.flow_model.specs.declared.order.Order.{Order}
use Rattle.flow_model.specs.declared.order.Order.TheVariants.{Stream}
use Rattle.flow_model.specs.declared.flow.FlowEnd.{FlowEnd}
use Rattle.flow_model.specs.declared.flow.FlowEnd.TheVariants.{Found, Nothing}
pub use Rattle.serve_model.specs.declared.upload.Upload.{Upload}

-- ---- jobs

-- what a store is asked: to carry out an order, to keep an upload all of whose bytes came, or to give one up after these bytes
pub data Job : Type 0 where
  carry : Order → Job
  keep : Upload → List ℕ → Job
  leave : Upload → List ℕ → Job

-- the order with which an upload begins
abbrev pub stream_of : Upload → Order
stream_of u = Stream u.bucket u.key u.length u.headers

-- the order with which a job begins
abbrev pub order_of_job : Job → Order
order_of_job (carry o) = o
order_of_job (keep u came) = stream_of u
order_of_job (leave u came) = stream_of u

-- in place of the second job the first gives its upload up, of which no more bytes had come
abbrev pub IsLeftOf : Job → Job → Type 0
IsLeftOf (leave u came) (keep v all) = (u ≡ v) × ((rest : List ℕ) × (came ++ rest ≡ all))
IsLeftOf (leave u came) (leave v all) = (u ≡ v) × ((rest : List ℕ) × (came ++ rest ≡ all))
IsLeftOf first second = ⊥

-- ---- what comes of them

-- an object that a get found, and the first of its bytes
pub record Given : Type 0 where
  pub version : Version
  pub meta : Meta
  pub bytes : List ℕ

-- the state after a job, and with what it ended, none where it didn't; and what a get without an answer had given
pub record Carried (S : Type 0) : Type 0 where
  pub state : S
  pub end : Option FlowEnd
  pub begun : Option Given

-- what a get gives: the object with which it ended, nothing where there is none, or what it had given
abbrev pub given_with : Option FlowEnd → Option Given → Option Given
given_with (Some (Found version meta body)) begun = Some (record { version = version; meta = meta; bytes = body })
given_with (Some Nothing) begun = None
given_with end begun = begun

abbrev pub given : {S : Type 0} → Carried S → Option Given
given c = given_with c.end c.begun

-- what was given is the first of what is given in all
abbrev pub IsFirstOf : Option Given → Option Given → Type 0
IsFirstOf None all = ⊤
IsFirstOf (Some g) None = ⊥
IsFirstOf (Some g) (Some h) = (g.version ≡ h.version) × (g.meta ≡ h.meta) × ((rest : List ℕ) × (g.bytes ++ rest ≡ h.bytes))

-- what comes of a job that is carried out at a time, in milliseconds since 1970; and that a get may give so much in the middle of it, as far as all fits
pub record Store (S : Type 0) : Type 1 where
  pub carries : S → ℕ → Job → Carried S
  pub gives : S → ℕ → Order → Given → Type 0

-- a job that a store is asked: in which state, at what time
pub record Asking (S : Type 0) : Type 0 where
  pub state : S
  pub time : ℕ
  pub job : Job

-- a job fits when it is asked
abbrev pub fits_asking : {S : Type 0} → (S → ℕ → Job → Type 0) → Asking S → Type 0
fits_asking fits a = fits a.state a.time a.job

-- in place of the second job that is asked the first, asked then and there, gives its upload up
abbrev pub IsLeftFor : {S : Type 0} → Asking S → Asking S → Type 0
IsLeftFor a b = (a.state ≡ b.state) × (a.time ≡ b.time) × IsLeftOf a.job b.job

-- what is known of the jobs that a store is asked: that one fits, that one may give so much in the middle of it, and that among several one has no room
pub record Known (S : Type 0) : Type 1 where
  pub fits : Asking S → Type 0
  pub gives : Asking S → Given → Type 0
  pub overflows : List (Asking S) → Type 0

module _ {S : Type 0} (store : Store S) where
  -- a job may give so much in the middle of it: only an order does
  abbrev pub gives_in : S → ℕ → Job → Given → Type 0
  gives_in s time (carry o) g = store.gives s time o g
  gives_in s time (keep u came) g = ⊥
  gives_in s time (leave u came) g = ⊥

  -- a job that is asked may give so much in the middle of it
  abbrev pub gives_asked : Asking S → Given → Type 0
  gives_asked a g = gives_in a.state a.time a.job g

  -- the state after jobs, each with its time
  abbrev pub after_jobs : S → List (ℕ × Job) → S
  after_jobs s [] = s
  after_jobs s (j ∷ js) = after_jobs (store.carries s j.0 j.1).state js

  -- each of these jobs may be carried out when it is, and all fits
  abbrev pub JobsFit : (S → ℕ → Job → Type 0) → S → List (ℕ × Job) → Type 0
  JobsFit fits s [] = ⊤
  JobsFit fits s (j ∷ js) = fits s j.0 j.1 × JobsFit fits (store.carries s j.0 j.1).state js

  -- some jobs lead from one state to the other
  pub record Leads (fits : S → ℕ → Job → Type 0) (s t : S) : Type 0 where
    pub jobs : List (ℕ × Job)
    pub after : t ≡ after_jobs s jobs
    pub fit : JobsFit fits s jobs

  -- they lead to a state in which a job is asked that has no room there
  pub record Overflows (fits lacks : S → ℕ → Job → Type 0) (s : S) : Type 0 where
    pub asking : Asking S
    pub leads : Leads fits s asking.state
    pub overflows : lacks asking.state asking.time asking.job

  -- and it is one of these, or gives the upload of one of these up
  pub record OverflowsAmong (fits lacks : S → ℕ → Job → Type 0) (s : S) (asks : List (Asking S)) : Type 0 where
    pub at : Overflows fits lacks s
    pub asking : Asking S
    pub is_asked : Contains asks asking
    pub is_of : (at.asking ≡ asking) ⊎ IsLeftFor at.asking asking

  -- what is known of jobs that are asked once others led from a state to where they are
  abbrev pub known_from : (fits lacks : S → ℕ → Job → Type 0) → S → Known S
  known_from fits lacks s = record { fits = fits_asking fits; gives = gives_asked; overflows = OverflowsAmong fits lacks s }
