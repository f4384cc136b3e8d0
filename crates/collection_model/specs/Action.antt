-- What may happen to the rows of one key, and what it changes.
use Rattle.std.specs.Prelude.{◌≡◌, ◌≢◌, ◌⊎◌, ℕ, ◌+◌, ◌≤◌, ◌==◌, if◌then◌else◌, true, Option, Some, None, List, [], ◌∷◌, length, ⊤}
use Rattle.crdt_core.specs.Members.{Has}
use Rattle.crdt_core.specs.Order.{option_join}
use Rattle.plane_model.specs.Control.{Gives, led_to}
use Rattle.collection_model.specs.Site.{Site}
use Rattle.collection_model.specs.World.{Sent, Begun, Witness, Ready, Second, World, first}

-- what may happen
pub data Action (E R V : Type 0) : Type 0 where
  ticks : (ms : ℕ) → Action E R V  -- time goes on by so many milliseconds
  moves : (events : List E) (rows : ℕ → Option R) → Action E R V  -- the control plane makes these steps, and these rows are left
  takes : (node : ℕ) (sent : Sent R) → Action E R V  -- a message brings a row
  shows : (node : ℕ) (row : R) → Action E R V  -- a node sends its row of now
  stores : (row : R) → Action E R V  -- a coordinator sends a row of a store phase
  begins : (node : ℕ) (row : R) (version : V) → Action E R V  -- a node begins to collect its row, a tombstone with this marker
  confirms : (begun : Begun R V) (node : ℕ) → Action E R V  -- a node confirms the first round
  completes : (begun : Begun R V) (first : List Witness) (clock : ℕ) → Action E R V  -- the first round is complete
  seconds : (ready : Ready R V) → Action E R V  -- the second round begins
  answers : (second : Second R V) (node : ℕ) → Action E R V  -- a node confirms the second round
  ends : (second : Second R V) → Action E R V  -- the collection ends: its row is collected
  drops : (node : ℕ) (row : R) → Action E R V  -- a node drops the row of a collection that ended

-- a function that is another value at one number
abbrev pub changed : {X : Type 0} → (ℕ → X) → ℕ → X → ℕ → X
changed f n x m = if m == n then x else f m

module _ {C E R V : Type 0} (site : Site C E R V) where
  -- the world after an action
  abbrev pub step : World C R V → Action E R V → World C R V
  step w (ticks ms) = record w { time = w.time + ms }
  step w (moves es rows) = record w { control = led_to site.control w.control es; row = rows }
  step w (takes n s) = record w { row = changed w.row n (option_join site.marks.join (w.row n) (Some s.row)) }
  step w (shows n x) = record w { shown = record { row = x; moment = w.time } ∷ w.shown }
  step w (stores x) = record w { stored = record { row = x; moment = w.time } ∷ w.stored }
  step w (begins n x v) = record w { begun = record { node = n; row = x; version = v; newest = site.control.newest w.control n } ∷ w.begun }
  step w (confirms b n) = record w { tombed = record { begun = b; node = n; newest = site.control.newest w.control n } ∷ w.tombed }
  step w (completes b us c) = record w { ready = record { begun = b; first = us; clock = c } ∷ w.ready }
  step w (seconds r) = record w { second = record { number = length w.second; ready = r } ∷ w.second }
  step w (answers s n) = record w { again = record { second = s; node = n; newest = site.control.newest w.control n } ∷ w.again }
  step w (ends s) = record w { dropped = s.ready.begun.row ∷ w.dropped }
  step w (drops n x) = record w { row = changed w.row n None }

  -- a stored version gives the node the key's partition
  abbrev pub IsGiven : C → ℕ → Type 0
  IsGiven c n = Gives site.control c n site.partition

  -- steps of the control plane take a row away exactly where the node is not given it any more
  abbrev pub Stays : C → Option R → Option R → ℕ → Type 0
  Stays c old new n = ((new ≡ old) × ((old ≡ None) ⊎ IsGiven c n)) ⊎ ((new ≡ None) × (IsGiven c n → ⊥))

  -- the message comes within an hour
  abbrev pub IsLive : World C R V → Sent R → Type 0
  IsLive w s = w.time ≤ s.moment + site.times.hour

  -- a message brings a row that was sent, within an hour, to a node that a stored version gives the partition, and which collections ask
  pub record MayTake (w : World C R V) (n : ℕ) (s : Sent R) : Type 0 where
    pub sent : Has w.shown s ⊎ Has w.stored s
    pub live : IsLive w s
    pub given : IsGiven w.control n
    pub asked : Has site.asked n

  -- a store phase sends a row within an hour of the moment from which its request drew
  abbrev pub MayStore : World C R V → R → Type 0
  MayStore w x = (v : V) → site.marks.below x v ≡ true → w.time ≤ site.marks.time v + site.times.hour

  -- a node begins to collect a tombstone that is old by its clock, which is ahead by at most an hour
  pub record MayBegin (w : World C R V) (n : ℕ) (x : R) (v : V) : Type 0 where
    pub has : w.row n ≡ Some x
    pub marked : site.marks.marker x ≡ Some v
    pub aged : site.marks.time v + site.times.age ≤ w.time + site.times.hour

  -- no stored version gives the node the partition, or its row's newest complete version is not below v
  abbrev pub Shuts : World C R V → ℕ → V → Type 0
  Shuts w n v = (IsGiven w.control n → ⊥) ⊎ ((x : R) × ((w.row n ≡ Some x) × (site.marks.tops x v ≡ true)))

  -- a node confirms a tombstone whose versions it shuts out, mostly since it has just merged it
  pub record MayConfirm (w : World C R V) (b : Begun R V) (n : ℕ) : Type 0 where
    pub began : Has w.begun b
    pub shuts : Shuts w n b.version

  -- the beginner is a witness with its newest version of then, every other one confirmed
  abbrev pub IsWitness : World C R V → Begun R V → Witness → Type 0
  IsWitness w b u =
      ((u.node ≡ b.node) × (u.newest ≡ b.newest))
      ⊎ ((u.node ≢ b.node) × Has w.tombed (record { begun = b; node = u.node; newest = u.newest }))

  -- a first round is complete when each node that is asked is a witness
  pub record MayComplete (w : World C R V) (b : Begun R V) (us : List Witness) (clock : ℕ) : Type 0 where
    pub began : Has w.begun b
    pub each : (n : ℕ) → Has site.asked n → (k : ℕ) × Has us (record { node = n; newest = k })
    pub witnesses : (u : Witness) → Has us u → IsWitness w b u
    pub behind : w.time ≤ clock
    pub ahead : clock ≤ w.time + site.times.hour

  -- a second round begins after the pause, where the beginner has learnt of no version
  pub record MaySecond (w : World C R V) (r : Ready R V) : Type 0 where
    pub is_ready : Has w.ready r
    pub paused : r.clock + site.times.pause ≤ w.time + site.times.hour
    pub same : site.control.newest w.control r.begun.node ≡ r.begun.newest

  -- it comes to its end when every witness but the beginner has named the newest version that it named in the first round
  pub record MayEnd (w : World C R V) (s : Second R V) : Type 0 where
    pub began : Has w.second s
    pub all : (u : Witness) → Has s.ready.first u → (u.node ≡ s.ready.begun.node) ⊎ Has w.again (record { second = s; node = u.node; newest = u.newest })

  -- the action may happen in this world
  abbrev pub May : World C R V → Action E R V → Type 0
  May w (ticks ms) = ⊤
  May w (moves es rows) = (n : ℕ) → Stays (led_to site.control w.control es) (w.row n) (rows n) n
  May w (takes n s) = MayTake w n s
  May w (shows n x) = w.row n ≡ Some x
  May w (stores x) = MayStore w x
  May w (begins n x v) = MayBegin w n x v
  May w (confirms b n) = MayConfirm w b n
  May w (completes b us c) = MayComplete w b us c
  May w (seconds r) = MaySecond w r
  May w (answers s n) = Has w.second s
  May w (ends s) = MayEnd w s
  May w (drops n x) = (w.row n ≡ Some x) × Has w.dropped x

  -- the world after these actions
  abbrev pub run : World C R V → List (Action E R V) → World C R V
  run w [] = w
  run w (a ∷ more) = run (step w a) more

  -- each action of the list may happen when it comes
  abbrev pub Happens : World C R V → List (Action E R V) → Type 0
  Happens w [] = ⊤
  Happens w (a ∷ more) = May w a × Happens (step w a) more

  -- a run: actions of which each may happen when it comes, from the first world on
  abbrev pub IsRun : List (Action E R V) → Type 0
  IsRun acts = Happens (first site.control.start) acts

  -- the world that they lead to
  abbrev pub after : List (Action E R V) → World C R V
  after acts = run (first site.control.start) acts
