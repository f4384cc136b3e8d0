-- The words in which the laws say what holds of each world that steps lead to, and what each step does.
use Rattle.std.specs.Prelude.{◌≡◌, ◌⊎◌, ◌<◌, ◌≤◌, ℕ, suc, pred, List, Some, IsTrue}
use Rattle.crdt_core.specs.Members.{Has, TwoOf}
use Rattle.layout_trackers.specs.declared.which.Which.{Which}
use Rattle.layout_trackers.specs.declared.which.Which.TheVariants.{Ack, SyncAck}
use Rattle.layout_trackers.specs.Trackers.{counts}
use Rattle.view_model.specs.View.{Reading, View, is_gapless, oldest, newest, layout_at, read_version, GrewFrom}
use Rattle.control_model.specs.Layouts.{IsMember, set_in, is_lawful}
use Rattle.control_model.specs.World.{Request, Round, World, view_of, layout_of}
use Rattle.control_model.specs.Steps.{round_of}

-- a node's version in a view, 0 where it has no entry: no version is 0
abbrev pub entry_of : {L : Type 0} → Which → View L → ℕ → ℕ
entry_of which v node = counts 0 which v.trackers node

module _ {L : Type 0} (r : Reading L) where
  -- the node stores the version
  abbrev pub Stores : World L → ℕ → ℕ → Type 0
  Stores w n i = (oldest r (view_of w n) ≤ i) × (i ≤ newest r (view_of w n))

  -- the version at which the node reads
  abbrev pub read_of : World L → ℕ → ℕ
  read_of w n = read_version r (view_of w n)

  -- i is at most the greatest read version
  abbrev pub IsRead : World L → ℕ → Type 0
  IsRead w i = (n : ℕ) × (i ≤ read_of w n)

  -- i is at least the greatest oldest version: no node has dropped it, or a later one
  abbrev pub IsRecent : World L → ℕ → Type 0
  IsRecent w i = (n : ℕ) → oldest r (view_of w n) ≤ i

  -- the nodes of a partition in the version that was applied as i
  abbrev pub IsSet : World L → ℕ → ℕ → List ℕ → Type 0
  IsSet w i p set = set_in r (layout_of w i) p ≡ Some set

  -- a request in flight at node n
  pub record InFlight (w : World L) (n : ℕ) (q : Request) : Type 0 where
    pub member : IsMember r n (layout_of w q.start)  -- its coordinator is a member of its start version
    pub real : 1 ≤ q.start
    pub known : q.start ≤ newest r (view_of w n)
    pub acked : entry_of Ack (view_of w n) n ≤ q.start  -- it holds back the ack
    pub least : (m : ℕ) → read_of w m ≤ q.start  -- and each read version
    pub late : (t : Round) → Has w.began t → t.version ≤ q.start  -- and each round
    pub recent : IsRecent w (read_of w n)  -- what it reads no node is past

  -- a round that ever began
  pub record Begun (w : World L) (t : Round) : Type 0 where
    pub reached : IsRead w (pred t.version)
    pub known : t.version ≤ w.top
    pub on : (j m : ℕ) → j < t.version → IsMember r m (layout_of w j) → j < newest r (view_of w m)  -- the members of each version before know a later one

  -- an open round of node n to version i
  pub record Open (w : World L) (n i : ℕ) : Type 0 where
    pub began : Has w.began (round_of n i)
    pub stores_it : oldest r (view_of w n) < i  -- the node stores a version before it
    pub knows_it : i ≤ newest r (view_of w n)

  -- there is a greatest read version: it is at most 1, or some node reads it
  pub record Greatest (w : World L) : Type 0 where
    pub version : ℕ
    pub above : (n : ℕ) → read_of w n ≤ version
    pub reached : (version ≤ 1) ⊎ IsRead w version

  -- version i is read for the first time: some node read the one before, and in each partition two of the nodes of the version before have completed a round to it
  pub record Rises (w new : World L) (i : ℕ) : Type 0 where
    pub by_one : (n : ℕ) × (suc (read_of w n) ≡ i)
    pub two : (p : ℕ) (set : List ℕ) → IsSet new (pred i) p set → TwoOf (λ n. Has new.completed (round_of n i)) set

  -- what a step does: nothing falls, and the greatest read version rises by one at a time
  pub record Moves (w new : World L) : Type 0 where
    pub views : (n : ℕ) → GrewFrom r (view_of w n) (view_of new n)
    pub reads : (n : ℕ) → read_of w n ≤ read_of new n
    pub top : w.top ≤ new.top
    pub layouts : (i : ℕ) → i ≤ w.top → layout_of w i ≡ layout_of new i
    pub sent : (v : View L) → Has w.sent v → Has new.sent v
    pub began : (t : Round) → Has w.began t → Has new.began t
    pub completed : (t : Round) → Has w.completed t → Has new.completed t
    pub rises : (n : ℕ) → 2 ≤ read_of new n → ((m : ℕ) → read_of w m < read_of new n) → Rises w new (read_of new n)

  -- how a view, of a node or of a message, stands to what was applied
  pub record Travels (w : World L) (v : View L) : Type 0 where
    pub gapless : IsTrue (is_gapless r v.layouts)
    pub under : newest r v ≤ w.top
    pub layouts : (i : ℕ) → oldest r v ≤ i → i ≤ newest r v → layout_at r v i ≡ layout_of w i
    -- a view that knows a version grew from the view with which that version was applied
    pub since : (i : ℕ) → 2 ≤ i → i ≤ newest r v → GrewFrom r (w.applied i).origin v
    -- one that doesn't know it has no greater entry of the node that applied it than that node had then
    pub before : (i : ℕ) → 2 ≤ i → newest r v < i → i ≤ w.top → (k : Which) → entry_of k v (w.applied i).by ≤ entry_of k (w.applied i).origin (w.applied i).by
    -- and no view has a greater entry of a node than that node
    pub own : (k : Which) (n : ℕ) → entry_of k v n ≤ entry_of k (view_of w n) n

  module _ (partitions : ℕ) where
    -- what holds of a world
    pub record Safe (w : World L) : Type 0 where
      pub gapless : (n : ℕ) → IsTrue (is_gapless r (view_of w n).layouts)
      -- oldest, read and newest version, and how many were applied
      pub stored : (n : ℕ) → oldest r (view_of w n) ≤ read_of w n
      pub known : (n : ℕ) → read_of w n ≤ newest r (view_of w n)
      pub applied : (n : ℕ) → newest r (view_of w n) ≤ w.top
      -- a stored layout is the one that was applied, and that one is lawful
      pub layouts : (n i : ℕ) → oldest r (view_of w n) ≤ i → i ≤ newest r (view_of w n) → layout_at r (view_of w n) i ≡ layout_of w i
      pub lawful : (i : ℕ) → 1 ≤ i → i ≤ w.top → (l : L) × (layout_of w i ≡ Some l) × IsTrue (is_lawful r partitions i l)
      -- own entries bound all entries
      pub own : (n : ℕ) (k : Which) (m : ℕ) → entry_of k (view_of w n) m ≤ entry_of k (view_of w m) m
      pub acks : (n : ℕ) → entry_of Ack (view_of w n) n ≤ newest r (view_of w n)
      pub syncacks : (n : ℕ) → entry_of SyncAck (view_of w n) n ≤ read_of w n
      -- the members of a version that a node dropped read a later one; those of a version that a node is past in reading know a later one
      pub passed : (n j m : ℕ) → j < oldest r (view_of w n) → IsMember r m (layout_of w j) → j < read_of w m
      pub behind : (n j m : ℕ) → j < read_of w n → IsMember r m (layout_of w j) → j < newest r (view_of w m)
      pub requests : (n : ℕ) (q : Request) → Has (w.nodes n).requests q → InFlight w n q
      -- a member of its newest version reads one that no node is past
      pub members : (n : ℕ) → IsMember r n (layout_at r (view_of w n) (newest r (view_of w n))) → IsRecent w (read_of w n)
      pub rounds : (t : Round) → Has w.began t → Begun w t
      pub open_rounds : (n i : ℕ) → (w.nodes n).round ≡ Some i → Open w n i
      pub completed : (t : Round) → Has w.completed t → Has w.began t
      pub greatest : Greatest w
