-- What account of requests the lines of a transcript give, and the first line that can't be read.
use Rattle.std.specs.Prelude.{◌≡◌, ◌<◌, ◌&&◌, ◌==◌, ℕ, zero, suc, ◌-◌, Bool, true, false, if◌then◌else◌, cond, ⊤, length, Option, Some, None, List, [], ◌∷◌, ◌++◌}
use Rattle.cluster_machine.specs.declared.line.DoneWord.{DoneWord}
use Rattle.cluster_machine.specs.declared.line.DoneWord.TheVariants as done
use Rattle.cluster_machine.specs.declared.line.EndWord.{EndWord}
use Rattle.cluster_machine.specs.declared.line.EndWord.TheVariants as ending
use Rattle.cluster_machine.specs.declared.step.Words.{Words}
use Rattle.cluster_machine.specs.declared.step.Words.TheVariants.{Empty, One, Idle, Two}
use Rattle.crdt_rows.specs.declared.version.Version.{Version}
use Rattle.history_model.specs.declared.record.Kind.{Kind}
use Rattle.history_model.specs.declared.record.Kind.TheVariants as kind
use Rattle.history_model.specs.declared.record.Answer.{Answer}
use Rattle.history_model.specs.declared.record.Answer.TheVariants as answer
use Rattle.history_model.specs.declared.record.Cause.{Cause}
use Rattle.history_model.specs.declared.record.Cause.TheVariants as cause
use Rattle.history_model.specs.declared.record.Record.{Record}
use Rattle.history_model.specs.declared.record.Record.TheVariants.{Began, Finished, Ended as HasEnded}
use Rattle.std.specs.Option.{option_and_then}
use Rattle.history_model.specs.Record.{same_bytes, is_list}
use Rattle.store_model.specs.declared.event.Event.{Event}
use Rattle.store_model.specs.declared.event.Event.TheVariants.{Apply, Put, Get, Head, Delete, Copy, List as Keys, Ack, Sync, SyncAck, Clean, Work, Collect}
use Rattle.store_model.specs.declared.event.Numbered.{Numbered}
use Rattle.text_model.specs.Grammar.{name_of}
use Rattle.audit_model.specs.declared.said.Told.{Told}
use Rattle.audit_model.specs.declared.said.Told.TheVariants.{Accepted, Refused}
use Rattle.audit_model.specs.declared.said.Answered.{Answered}
use Rattle.audit_model.specs.declared.said.Answered.TheVariants as answered
use Rattle.audit_model.specs.declared.said.Said.{Said}
use Rattle.audit_model.specs.declared.said.Said.TheVariants as said
use Rattle.audit_model.specs.Lines.{Says}

-- ---- requests

-- what a request of a schedule asks, and of which key; a list's key is its prefix, a copy's its destination
pub record Asking : Type 0 where
  pub node : ℕ
  pub kind : Kind
  pub bucket : List ℕ
  pub key : List ℕ

-- none of an event that is no request
abbrev pub asking_of : Event → Option Asking
asking_of (Put n bucket key size fill) = Some (record { node = n; kind = kind.Put; bucket = bucket; key = key })
asking_of (Get n bucket key) = Some (record { node = n; kind = kind.Get; bucket = bucket; key = key })
asking_of (Head n bucket key) = Some (record { node = n; kind = kind.Head; bucket = bucket; key = key })
asking_of (Delete n bucket key) = Some (record { node = n; kind = kind.Delete; bucket = bucket; key = key })
asking_of (Copy n from_bucket from_key bucket key) = Some (record { node = n; kind = kind.Copy; bucket = bucket; key = key })
asking_of (Keys n bucket prefix) = Some (record { node = n; kind = kind.List; bucket = bucket; key = prefix })
asking_of event = None

-- the event of the schedule at this line and with this name
abbrev pub event_at : List Numbered → ℕ → List ℕ → Option Event
event_at [] line name = None
event_at (e ∷ es) line name = if (e.line == line) && same_bytes (name_of e.event) name then Some e.event else event_at es line name

-- each event stands in a later line of the schedule than those before it, and than this line
abbrev pub AscendFrom : ℕ → List Numbered → Type 0
AscendFrom line [] = ⊤
AscendFrom line (e ∷ es) = (line < e.line) × AscendFrom e.line es

-- the words that an accepted event may answer with, but a request
abbrev pub is_answer : Event → Words → Bool
is_answer (Apply n) (One v) = true
is_answer (Ack n) (One v) = true
is_answer (SyncAck n) (One v) = true
is_answer (Clean n) (One v) = true
is_answer (Sync n) (One v) = true
is_answer (Sync n) (Idle read least) = true
is_answer (Work n) (Two rows blocks) = true
is_answer (Collect n) (Two begun left) = true
is_answer (Apply n) Empty = false
is_answer (Ack n) Empty = false
is_answer (SyncAck n) Empty = false
is_answer (Clean n) Empty = false
is_answer (Sync n) Empty = false
is_answer (Work n) Empty = false
is_answer (Collect n) Empty = false
is_answer event Empty = true
is_answer event words = false

-- the kinds of requests that finish with this word
abbrev pub is_word_of : DoneWord → Kind → Bool
is_word_of done.Put kind.Put = true
is_word_of done.Get kind.Get = true
is_word_of done.Head kind.Head = true
is_word_of done.Delete kind.Delete = true
is_word_of done.Copy kind.Copy = true
is_word_of word other = false

-- ---- what was heard

-- a list that finished, with so many keys still to come, and those that came
pub record Listing : Type 0 where
  pub request : ℕ
  pub left : ℕ
  pub keys : List (List ℕ × Version)

-- the requests that lines said to have begun, the newest first; the records; and a list whose keys are still to come
pub record Heard : Type 0 where
  pub asked : List (ℕ × Kind)
  pub history : List Record
  pub listing : Option Listing

-- before the first line
abbrev pub nothing_heard : Heard
nothing_heard = record { asked = []; history = []; listing = None }

-- the kind of the request, where one has begun
abbrev pub kind_at : List (ℕ × Kind) → ℕ → Option Kind
kind_at [] q = None
kind_at (a ∷ as') q = if a.0 == q then Some a.1 else kind_at as' q

-- one record more
abbrev pub recorded : Heard → Record → Heard
recorded h r = record h { history = h.history ++ r ∷ [] }

-- a request that passes, of which this is recorded
abbrev pub of_request : Heard → (Kind → Bool) → Option Kind → Record → Option Heard
of_request h test None r = None
of_request h test (Some k) r = cond (test k) (Some (recorded h r)) None

-- an event was accepted
abbrev pub accepts : Heard → Event → Option Asking → Words → Option Heard
accepts h event (Some a) (One q) = Some (record h { asked = (q, a.kind) ∷ h.asked; history = h.history ++ Began q a.node a.kind a.bucket a.key ∷ [] })
accepts h event (Some a) words = None
accepts h event None words = cond (is_answer event words) (Some h) None

-- an event of the schedule, or of no schedule, told this
abbrev pub tells : Heard → Option Event → Told → Option Heard
tells h None told = None
tells h (Some event) (Accepted words) = accepts h event (asking_of event) words
tells h (Some event) (Refused reason) = Some h

-- a version by its timestamp and its identifier
abbrev pub version_of : ℕ × ℕ → Version
version_of v = record { ts = v.0; id = v.1 }

-- the answer that a record has, without size and MD5
abbrev pub answer_of : Answered → Answer
answer_of (answered.Version version size md5) = answer.Version (version_of version)
answer_of answered.None = answer.None

-- freshness looks at no cause, so an overwritten version is told without its identifier
abbrev pub cause_of : EndWord → Cause
cause_of ending.Expired = cause.Expired
cause_of ending.Restarted = cause.Restarted
cause_of ending.Superseded = cause.Superseded 0

-- a list finished, with so many keys
abbrev pub lists : Heard → ℕ → ℕ → Option Kind → Option Heard
lists h q zero k = of_request h is_list k (Finished q (answer.Listed []))
lists h q (suc n) None = None
lists h q (suc n) (Some k) = cond (is_list k) (Some (record h { listing = Some (record { request = q; left = suc n; keys = [] }) })) None

-- a key of it came
abbrev pub comes : Heard → Listing → ℕ → List (List ℕ × Version) → Heard
comes h l zero keys = recorded (record h { listing = None }) (Finished l.request (answer.Listed keys))
comes h l (suc n) keys = record h { listing = Some (record l { left = suc n; keys = keys }) }

-- while keys are still to come there is nothing else
abbrev pub listed : Heard → Listing → Said → Option Heard
listed h l (said.Key key version size) = Some (comes h l (l.left - 1) (l.keys ++ (key, version_of version) ∷ []))
listed h l other = None

-- what a line adds to what was heard; none where it names an event or a request that there isn't
abbrev pub heard : List Numbered → Heard → Said → Option Heard
heard events h (said.Event line name told) = tells h (event_at events line name) told
heard events h (said.Done q word a) = of_request h (is_word_of word) (kind_at h.asked q) (Finished q (answer_of a))
heard events h (said.Listed q count) = lists h q count (kind_at h.asked q)
heard events h (said.Ended q word) = of_request h (λ k. true) (kind_at h.asked q) (HasEnded q (cause_of word))
heard events h (said.Key key version size) = None
heard events h other = Some h

-- a line is a key where a list waits for one, else anything but a key
abbrev pub hears_in : List Numbered → Heard → Option Listing → Said → Option Heard
hears_in events h None s = heard events h s
hears_in events h (Some l) s = listed h l s

-- what is heard after one line more, none where it can't be heard
abbrev pub hears : List Numbered → Heard → Said → Option Heard
hears events h s = hears_in events h h.listing s

-- ---- all lines

-- these lines say this, one by one, and from what was heard before to what is heard then
pub data Hears (events : List Numbered) : Heard → List (List ℕ) → List Said → Heard → Type 0 where
  none : (h : Heard) → Hears events h [] [] h
  line_first : (h next last : Heard) (line : List ℕ) (lines : List (List ℕ)) (s : Said) (saids : List Said) → Says line s → hears events h s ≡ Some next → Hears events next lines saids last → Hears events h (line ∷ lines) (s ∷ saids) last

-- all lines can be read: they say this, and give this account
pub record AreReadable (events : List Numbered) (lines : List (List ℕ)) (saids : List Said) (history : List Record) : Type 0 where
  pub last : Heard
  pub hears : Hears events nothing_heard lines saids last
  pub history_is : last.history ≡ history
  pub no_more : last.listing ≡ None

-- nothing that the line says can be heard now
abbrev pub IsDeaf : List Numbered → Heard → List ℕ → Type 0
IsDeaf events h line = (s : Said) → Says line s → hears events h s ≡ None

-- the next line, or that there is none, can't be read
abbrev pub StopsAt : List Numbered → Heard → List (List ℕ) → Type 0
StopsAt events h [] = h.listing ≡ None → ⊥
StopsAt events h (line ∷ later) = IsDeaf events h line

-- line k is the first that can't be read; where keys of a list are still to come at the end, it is the one past the last
pub record IsUnreadable (events : List Numbered) (lines : List (List ℕ)) (k : ℕ) : Type 0 where
  pub before : List (List ℕ)
  pub later : List (List ℕ)
  pub whole : lines ≡ before ++ later
  pub saids : List Said
  pub last : Heard
  pub hears : Hears events nothing_heard before saids last
  pub stops : StopsAt events last later
  pub place : k ≡ suc (length before)

-- what is heard after all of these, one by one
abbrev pub hears_all : List Numbered → Heard → List Said → Option Heard
hears_all events h [] = Some h
hears_all events h (s ∷ saids) = option_and_then (λ next. hears_all events next saids) (hears events h s)

-- what was heard, where no keys are to come
abbrev pub quiet : List (ℕ × Kind) → List Record → Heard
quiet asked history = record { asked = asked; history = history; listing = None }
