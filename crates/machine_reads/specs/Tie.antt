-- What the machine's messages, calls, rounds and rows are in a world of the data plane.
use Rattle.std.specs.Prelude.{◌≡◌, ◌≤◌, ◌<◌, ◌⊎◌, ℕ, nat_eq, suc, ◌+◌, true, Option, Some, None, List, [], ◌∷◌, ◌++◌, length, map, IsTrue, ⊤}
use Rattle.std.specs.List.{Contains, AllByRecursion, starts_with}
use Rattle.control_model.specs.World as control
use Rattle.control_model.specs.Steps.{Step}
use Rattle.crdt_core.specs.Members.{Has}
use Rattle.blake2_hash.specs.Blake2b.{blake2b}
use Rattle.blake2_hash.specs.declared.digest.Hash32.{Hash32}
use Rattle.table_schema.specs.Words.{Words, partition_of}
use Rattle.table_model.specs.Rows.{row_at}
use Rattle.walk_model.specs.Sets.{value_at, children_at}
use Rattle.walk_model.specs.Walking.{plain}
use Rattle.walk_model.specs.Account.{Noted, UnderOpen}
use Rattle.quorum_model.specs.Quorum.{StoreSlot}
use Rattle.quorum_model.specs.declared.range.RangeAnswer.{RangeAnswer}
use Rattle.range_laws.specs.Scans.{answer as found_in}
use Rattle.wire_messages.specs.declared.message.Message.{Message}
use Rattle.wire_messages.specs.declared.message.Message.TheVariants.{Get, Row as GaveRow, Range, Rows as GaveRows, Store as PleaseStore, Stored as HasStored, Walk as AsksValue, Same as HasSame, Differ}
use Rattle.wire_messages.specs.declared.message.Tag.{Tag}
use Rattle.wire_messages.specs.declared.message.Tag.TheVariants.{Call as ForCall, Round as ForRound, Item as ForItem}
use Rattle.plane_model.specs.Plane.{Plane}
use Rattle.plane_model.specs.World as plane
use Rattle.plane_model.specs.World.{row_at as log_at, collected_at, row_in, kept_at}
use Rattle.plane_model.specs.Rows.{IsAtLeast, IsOver as PlaneOver}
use Rattle.plane_model.specs.Kept.{Holds, IsGone}
use Rattle.plane_model.specs.Action.{HasPushed}
use Rattle.plane_meets.specs.Joint.{joint}
use Rattle.cluster_machine.specs.Layouts.{Layouts}
use Rattle.cluster_machine.specs.Node as machine
use Rattle.cluster_machine.specs.Node.{Scan, Present, asking, scanning, storing, Call, Packet, says, shows, Node}
use Rattle.cluster_machine.specs.Receives.{most_rows}
use Rattle.cluster_machine.specs.Kept.{GaveKept}
use Rattle.cluster_machine.specs.World.{Sent, World}
use Rattle.machine_laws.specs.Follows.{Controlled}
use Rattle.machine_reads.specs.Places.{Place, keys, place_of, at_place}
use Rattle.machine_reads.specs.Hashed.{trie, AreHashed}

-- a question of the data plane, over the machine's views
abbrev pub Question : Type 0 → Type 0 → Type 0
Question R L = plane.Question (control.World L) Place R

-- what a phase asks in the data plane, and what it names there: a read phase a table and a key, a range phase a
-- position, a prefix and a start key
pub data Asked (R L : Type 0) : Type 0 where
  a_key : Question R L → (table : ℕ) (key : List ℕ) → Asked R L
  a_range : Question R L → (position prefix after : List ℕ) → Asked R L

-- a key under the position and prefix that a range phase names
abbrev pub IsUnder : {R : Type 0} → Scan R → List ℕ → Type 0
IsUnder q key = IsTrue (starts_with nat_eq key (q.position ++ q.prefix))

-- what a node began under a number: a round that isn't complete, or what owes nothing, a repair or a round that is complete
pub data Begun (R : Type 0) : Type 0 where
  a_round : plane.Round Place R → Begun R
  a_repair : Begun R

-- what stands behind numbers: who opened a request and when, what its phases began, and what a node's rounds are
pub record Issued (R L : Type 0) : Type 0 where
  pub owner : ℕ → ℕ
  pub start : ℕ → ℕ
  pub asks : ℕ → ℕ → Option (Asked R L)  -- of a request and a phase
  pub stores : ℕ → ℕ → ℕ → Option (plane.Store Place R)  -- of a request, a phase and a slot
  pub rounds : ℕ → ℕ → Option (Begun R)  -- of a node and a number

-- nothing was begun
abbrev pub none_issued : {R L : Type 0} → Issued R L
none_issued = record { owner = λ _. 0; start = λ _. 0; asks = λ _ _. None; stores = λ _ _ _. None; rounds = λ _ _. None }

module _ {R L : Type 0} (join : R → R → R) (s : Words R) (k : Layouts L) (partitions : ℕ) (H : List ℕ → Type 0) where
  -- the plane of the machine's views and rows
  abbrev pub both : Plane (control.World L) (Step L) Place R
  both = joint k.reading partitions keys join

  -- worlds of that plane
  abbrev pub State : Type 0
  State = plane.World (control.World L) Place R

  -- the rows that bytes are read as
  abbrev pub with_read : Option R → List R → List R
  with_read None rs = rs
  with_read (Some r) rs = r ∷ rs

  -- the rows that these bytes spell
  abbrev pub rows_read : List (List ℕ × Option (List ℕ)) → List R
  rows_read [] = []
  rows_read (b ∷ bs) = with_read (s.read b.0) (rows_read bs)

  -- a row under its place
  abbrev pub placed : R → plane.Row Place R
  placed r = record { key = place_of s r; row = r }

  -- the row was at a place of the partition when the round began, or one above it was
  abbrev pub HadThere : plane.Round Place R → ℕ → Place → R → Type 0
  HadThere round partition q x = (q.0 ≡ partition) × IsAtLeast join (log_at both round.log round.node q) x

  -- a key hash that begins with a prefix of a table
  pub record IsBelow (table : ℕ) (prefix : List ℕ) (q : Place) : Type 0 where
    pub of_table : q.1.0 ≡ table
    pub short : length prefix < 32
    pub starts : starts_with nat_eq (blake2b 32 q.1.1) prefix ≡ true

  module _ (p : State) (g : Issued R L) where
    -- a node answered a question
    pub record Answered (question : Question R L) (n : ℕ) : Type 0 where
      pub answer : plane.Answer (control.World L) Place R
      pub is_there : Contains p.answers answer
      pub of_it : answer.question ≡ question
      pub at_node : answer.node ≡ n

    -- with this row at a table and key
    pub record AtKey (question : Question R L) (table : ℕ) (key : List ℕ) (n : ℕ) (row : Option R) : Type 0 where
      pub answered : Answered question n
      pub row_is : answered.answer.rows (question.partition, (table, key)) ≡ row

    -- with the first rows of a range that its contents had then
    pub record InRange (question : Question R L) (position prefix after : List ℕ) (n : ℕ) (found : RangeAnswer R) : Type 0 where
      pub answered : Answered question n
      pub contents : List R
      pub proper : AllByRecursion (λ r. IsTrue (s.is_proper r)) contents
      pub rows_are : (q : Place) → answered.answer.rows q ≡ at_place s join contents q
      pub found_is : found ≡ found_in join s position prefix after most_rows contents

    -- node n answered a question about one key, with this row
    abbrev pub AnsweredRow : Asked R L → ℕ → Option R → Type 0
    AnsweredRow (a_key question table key) n row = AtKey question table key n row
    AnsweredRow (a_range question position prefix after) n row = ⊥

    -- node n answered a question about a range, with these rows
    abbrev pub AnsweredRows : Asked R L → ℕ → RangeAnswer R → Type 0
    AnsweredRows (a_key question table key) n found = ⊥
    AnsweredRows (a_range question position prefix after) n found = InRange question position prefix after n found

    -- a phase asks this at a version, and the node is one of those that it asks
    pub record IsAsked (request phase at : ℕ) (asked : Question R L → Asked R L) (to : ℕ) : Type 0 where
      pub question : Question R L
      pub issued : g.asks request phase ≡ Some (asked question)
      pub is_there : Contains p.questions question
      pub version : question.version ≡ at
      pub given : Contains (both.control.set question.control question.version question.partition) to

    -- a phase asks for one key, and all rows of that table and key are in its partition
    pub record MeansGet (request phase at table : ℕ) (key : List ℕ) (to : ℕ) : Type 0 where
      pub asked : IsAsked request phase at (λ question. a_key question table key) to
      pub one_partition : (r : R) → IsTrue (s.is_proper r) → s.table r ≡ table → s.key r ≡ key → partition_of s r ≡ asked.question.partition

    -- a phase asks for a range
    abbrev pub MeansRange : (request phase at : ℕ) (position prefix after : List ℕ) (to : ℕ) → Type 0
    MeansRange request phase at position prefix after to = IsAsked request phase at (λ question. a_range question position prefix after) to

    -- the phase asked for a key, and this row is what the node answered
    pub record MeansRow (request phase from : ℕ) (row : Option R) : Type 0 where
      pub asked : Asked R L
      pub issued : g.asks request phase ≡ Some asked
      pub answered : AnsweredRow asked from row

    -- the phase asked for a range, and these rows are what the node answered
    pub record MeansRows (request phase from : ℕ) (found : RangeAnswer R) : Type 0 where
      pub asked : Asked R L
      pub issued : g.asks request phase ≡ Some asked
      pub answered : AnsweredRows asked from found

    -- a store that was issued, of this one row
    pub record MeansStore (request phase slot named partition : ℕ) (rows : List (List ℕ × Option (List ℕ))) : Type 0 where
      pub store : plane.Store Place R
      pub issued : g.stores request phase slot ≡ Some store
      pub is_there : Contains p.stores store
      pub newest : store.newest ≡ named
      pub key : store.key ≡ place_of s store.row
      pub partition_is : partition_of s store.row ≡ partition
      pub rows_are : rows_read rows ≡ store.row ∷ []

    -- that store's row was confirmed by this node
    pub record MeansStored (request phase slot from : ℕ) : Type 0 where
      pub store : plane.Store Place R
      pub issued : g.stores request phase slot ≡ Some store
      pub confirmed : Contains p.stored (record { store = store; node = from })

    -- the node holds for the version that the round leads to what the round's node had at a place when the round began, or it was collected
    abbrev pub HoldsFor : plane.Round Place R → ℕ → Place → R → Type 0
    HoldsFor round n q x = Holds both p.control p.log (suc round.from) q x n ⊎ IsGone both p.log q x

    -- all that the round's node had of a partition when the round began was collected
    abbrev pub IsAllGone : plane.Round Place R → ℕ → Type 0
    IsAllGone round partition = (q : Place) → q.0 ≡ partition → PlaneOver join (collected_at both p.log q) (log_at both round.log round.node q)

    -- the node confirmed a partition of the round, or nothing is left to be confirmed
    abbrev pub IsConfirmed : plane.Round Place R → ℕ → ℕ → Type 0
    IsConfirmed round partition node = HasPushed p round partition node ⊎ IsAllGone round partition

    -- what the plane's round shows of a partition: what its node had when it began, under a version that is at most this one
    pub record HasBase (round : plane.Round Place R) (partition named : ℕ) : Type 0 where
      pub push : plane.Push Place R
      pub is_there : Contains p.pushes push
      pub of_it : push.round ≡ round
      pub partition_is : push.partition ≡ partition
      pub newest : push.newest ≤ named
      pub next : suc round.from ≤ push.newest
      pub mine : Contains (both.control.set p.control round.from partition) round.node
      pub known : suc round.from ≤ both.control.newest p.control round.node
      pub rows_are : (q : Place) → q.0 ≡ partition → row_in both push.rows q ≡ log_at both round.log round.node q

    -- the next version gives a node the partition
    abbrev pub GivesNext : plane.Round Place R → ℕ → ℕ → Type 0
    GivesNext round partition n = Contains (both.control.set p.control (suc round.from) partition) n

    -- these rows, with what the node holds, are at least what the round's node had when the round began
    pub record IsPush (round : plane.Round Place R) (partition named : ℕ) (rows : List (List ℕ × Option (List ℕ))) (to : ℕ) : Type 0 where
      pub base : HasBase round partition named
      pub covers : (q : Place) (x : R) → HadThere round partition q x → IsAtLeast join (at_place s join (rows_read rows) q) x ⊎ HoldsFor round to q x

    -- a round pushes what a walk left, and a repair owes nothing
    abbrev pub IsPushOf : Begun R → ℕ → ℕ → List (List ℕ × Option (List ℕ)) → ℕ → Type 0
    IsPushOf (a_round round) partition named rows to = IsPush round partition named rows to
    IsPushOf a_repair partition named rows to = ⊤

    -- these rows were pushed under a number that this node's rounds have
    pub record MeansPush (from number partition named : ℕ) (rows : List (List ℕ × Option (List ℕ))) (to : ℕ) : Type 0 where
      pub begun : Begun R
      pub issued : g.rounds from number ≡ Some begun
      pub push : IsPushOf begun partition named rows to

    -- the value is that of rows that the round's node had since the round began, at least what it had then and wasn't collected
    pub record IsAsk (round : plane.Round Place R) (partition named table : ℕ) (prefix hash : List ℕ) (to : ℕ) : Type 0 where
      pub base : HasBase round partition named
      pub given : GivesNext round partition to
      pub contents : List R
      pub hashed : AreHashed join s H contents partition
      pub over : (q : Place) (x : R) → HadThere round partition q x → IsAtLeast join (at_place s join contents q) x ⊎ IsGone both p.log q x
      pub hash_is : hash ≡ value_at (blake2b 32) prefix (trie join s H contents table partition)

    -- a walk of a round, and one of a repair, which owes nothing
    abbrev pub IsAskOf : Begun R → ℕ → ℕ → ℕ → List ℕ → List ℕ → ℕ → Type 0
    IsAskOf (a_round round) partition named table prefix hash to = IsAsk round partition named table prefix hash to
    IsAskOf a_repair partition named table prefix hash to = ⊤

    -- a value was asked for a walk under a number that this node's rounds have
    pub record MeansAsk (from number partition named table : ℕ) (prefix hash : List ℕ) (to : ℕ) : Type 0 where
      pub begun : Begun R
      pub issued : g.rounds from number ≡ Some begun
      pub ask : IsAskOf begun partition named table prefix hash to

    -- `same`: below the prefix the node holds what the round's node had when the round began
    pub record SaysSame (round : plane.Round Place R) (partition table : ℕ) (prefix : List ℕ) (from : ℕ) : Type 0 where
      pub base : HasBase round partition (both.control.newest p.control from)
      pub given : GivesNext round partition from
      pub holds : (q : Place) (x : R) → HadThere round partition q x → IsBelow table prefix q → HoldsFor round from q x

    -- `differ`: these are the children of rows that the node holds
    pub record SaysDiffer (round : plane.Round Place R) (partition table : ℕ) (prefix : List ℕ) (pairs : List (ℕ × Hash32)) (from : ℕ) : Type 0 where
      pub base : HasBase round partition (both.control.newest p.control from)
      pub given : GivesNext round partition from
      pub contents : List R
      pub hashed : AreHashed join s H contents partition
      pub children_are : map plain pairs ≡ children_at (blake2b 32) prefix (trie join s H contents table partition)
      pub holds : (q : Place) (x : R) → q.0 ≡ partition → IsAtLeast join (at_place s join contents q) x → HoldsFor round from q x

    -- an answer to a walk of a round
    abbrev pub IsAnswer : plane.Round Place R → ℕ → ℕ → List ℕ → Option (List (ℕ × Hash32)) → ℕ → Type 0
    IsAnswer round partition table prefix None from = SaysSame round partition table prefix from
    IsAnswer round partition table prefix (Some pairs) from = SaysDiffer round partition table prefix pairs from

    -- to a walk of a repair an answer owes nothing
    abbrev pub IsAnswerOf : Begun R → ℕ → ℕ → List ℕ → Option (List (ℕ × Hash32)) → ℕ → Type 0
    IsAnswerOf (a_round round) partition table prefix answer from = IsAnswer round partition table prefix answer from
    IsAnswerOf a_repair partition table prefix answer from = ⊤

    -- an answer to a walk under a number that this node's rounds have
    pub record MeansAnswer (to number partition table : ℕ) (prefix : List ℕ) (answer : Option (List (ℕ × Hash32))) (from : ℕ) : Type 0 where
      pub begun : Begun R
      pub issued : g.rounds to number ≡ Some begun
      pub says : IsAnswerOf begun partition table prefix answer from

    -- the node confirmed the round's partition, and to a repair it owes nothing
    abbrev pub IsPushedOf : Begun R → ℕ → ℕ → Type 0
    IsPushedOf (a_round round) partition node = Contains p.pushed (record { round = round; partition = partition; node = node })
    IsPushedOf a_repair partition node = ⊤

    -- this node confirmed what that number pushed
    pub record MeansPushed (to number partition from : ℕ) : Type 0 where
      pub begun : Begun R
      pub issued : g.rounds to number ≡ Some begun
      pub pushed : IsPushedOf begun partition from

    -- what a message of rows means, by what it is for
    abbrev pub MeansTag : ℕ → ℕ → Tag → ℕ → ℕ → List (List ℕ × Option (List ℕ)) → Type 0
    MeansTag from to (ForCall request phase slot) named partition rows = MeansStore request phase slot named partition rows
    MeansTag from to (ForRound number part) named partition rows = (part ≡ partition) × MeansPush from number partition named rows to
    MeansTag from to (ForItem number) named partition rows = ⊤

    -- what a confirmation means, by what it is for
    abbrev pub MeansDone : ℕ → ℕ → Tag → Type 0
    MeansDone from to (ForCall request phase slot) = MeansStored request phase slot from
    MeansDone from to (ForRound number partition) = MeansPushed to number partition from
    MeansDone from to (ForItem number) = ⊤

    -- what a question of a walk means: it is for a round or a repair
    abbrev pub MeansValue : ℕ → ℕ → Tag → ℕ → ℕ → ℕ → List ℕ → List ℕ → Type 0
    MeansValue from to (ForRound number part) named partition table prefix hash = (part ≡ partition) × MeansAsk from number partition named table prefix hash to
    MeansValue from to _ named partition table prefix hash = ⊤

    -- what an answer to it means
    abbrev pub MeansReply : ℕ → ℕ → Tag → ℕ → List ℕ → Option (List (ℕ × Hash32)) → Type 0
    MeansReply from to (ForRound number partition) table prefix answer = MeansAnswer to number partition table prefix answer from
    MeansReply from to _ table prefix answer = ⊤

    -- what a message stands for
    abbrev pub MeansMessage : ℕ → ℕ → Message R → Type 0
    MeansMessage from to (Get request phase at table key) = MeansGet request phase at table key to
    MeansMessage from to (GaveRow request phase row) = MeansRow request phase from row
    MeansMessage from to (Range request phase at position prefix after) = MeansRange request phase at position.0 prefix after to
    MeansMessage from to (GaveRows request phase rows more) = MeansRows request phase from (record { rows = rows; more = more })
    MeansMessage from to (PleaseStore tag named partition rows) = MeansTag from to tag named partition rows
    MeansMessage from to (HasStored tag) = MeansDone from to tag
    MeansMessage from to (AsksValue tag named partition table prefix hash) = MeansValue from to tag named partition table prefix hash.0
    MeansMessage from to (HasSame tag table prefix) = MeansReply from to tag table prefix None
    MeansMessage from to (Differ tag table prefix pairs) = MeansReply from to tag table prefix (Some pairs)
    MeansMessage from to _ = ⊤

    -- what a packet means, where a view means nothing here
    abbrev pub MeansPacket : ℕ → ℕ → Packet R L → Type 0
    MeansPacket from to (says m) = MeansMessage from to m
    MeansPacket from to (shows v) = ⊤

    -- what a message means
    abbrev pub Means : Sent R L → Type 0
    Means x = MeansPacket x.from x.to x.packet

    -- a read phase that waits for answers
    pub record IsAsking (request phase : ℕ) (q : machine.Question R) (answers : List (ℕ × Option R)) : Type 0 where
      pub question : Question R L
      pub issued : g.asks request phase ≡ Some (a_key question q.table q.key)
      pub one_partition : (r : R) → IsTrue (s.is_proper r) → s.table r ≡ q.table → s.key r ≡ q.key → partition_of s r ≡ question.partition
      pub kept : kept_at both question.kept (question.partition, (q.table, q.key)) ≡ row_at join s q.kept q.table q.key
      pub answered : AllByRecursion (λ a. AtKey question q.table q.key a.0 a.1) answers

    -- a range phase that waits for answers
    pub record IsScanning (request phase : ℕ) (q : Scan R) (answers : List (ℕ × RangeAnswer R)) : Type 0 where
      pub question : Question R L
      pub issued : g.asks request phase ≡ Some (a_range question q.position q.prefix q.after)
      pub long : length q.position ≡ 32
      pub one_partition : (r : R) → IsTrue (s.is_proper r) → s.table r ≡ 1 → IsUnder q (s.key r) → partition_of s r ≡ question.partition
      pub kept : (key : List ℕ) → IsUnder q key → kept_at both question.kept (question.partition, (1, key)) ≡ row_at join s q.kept 1 key
      pub answered : AllByRecursion (λ a. InRange question q.position q.prefix q.after a.0 a.1) answers

    -- the sets of consecutive versions
    abbrev pub AreSets : ℕ → ℕ → List (List ℕ) → Type 0
    AreSets partition first [] = ⊤
    AreSets partition first (set ∷ sets) = (both.control.set p.control first partition ≡ set) × AreSets partition (suc first) sets

    -- a row of a store phase that waits for confirmations
    pub record IsSlot (n request phase slot : ℕ) (r : R) (t : StoreSlot) : Type 0 where
      pub store : plane.Store Place R
      pub issued : g.stores request phase slot ≡ Some store
      pub is_there : Contains p.stores store
      pub proper : IsTrue (s.is_proper r)
      pub row : store.row ≡ r
      pub key : store.key ≡ place_of s r
      pub node : store.node ≡ n
      pub start : store.start ≡ g.start request
      pub known : store.newest ≤ both.control.newest p.control n
      pub old : t.first ≤ both.control.oldest p.control n
      pub sets : AreSets (partition_of s r) t.first t.sets
      pub long : t.first + length t.sets ≡ suc store.newest
      pub confirmed : AllByRecursion (λ m. Contains p.stored (record { store = store; node = m })) t.nodes

    -- each row of a store phase has its slot
    abbrev pub IsStoring : ℕ → ℕ → ℕ → ℕ → List R → List StoreSlot → Type 0
    IsStoring n request phase slot [] [] = ⊤
    IsStoring n request phase slot [] (t ∷ ts) = ⊥
    IsStoring n request phase slot (r ∷ rs) [] = ⊥
    IsStoring n request phase slot (r ∷ rs) (t ∷ ts) = IsSlot n request phase slot r t × IsStoring n request phase (suc slot) rs ts

    -- what a request's phase is in the plane
    abbrev pub IsPresent : ℕ → ℕ → ℕ → Present R → Type 0
    IsPresent n request phase (asking q answers) = IsAsking request phase q answers
    IsPresent n request phase (scanning q answers) = IsScanning request phase q answers
    IsPresent n request phase (storing rows slots) = IsStoring n request phase 0 rows slots
    IsPresent n request phase _ = ⊤

    -- an open call of node n, where so many requests began
    pub record IsCall (requests n : ℕ) (c : Call R) : Type 0 where
      pub owner : g.owner c.request ≡ n
      pub start : g.start c.request ≡ c.start
      pub begun : c.request ≤ requests
      pub not_asked : (phase : ℕ) → c.phases < phase → g.asks c.request phase ≡ None
      pub not_stored : (phase slot : ℕ) → c.phases < phase → g.stores c.request phase slot ≡ None
      pub present : IsPresent n c.request c.phases c.present

    -- a partition that a round moves, with its set in the version that it leads to
    pub record HasPart (parts : List machine.Part) (target partition : ℕ) : Type 0 where
      pub part : machine.Part
      pub is_there : Has parts part
      pub partition_is : part.partition ≡ partition
      pub set_is : part.set ≡ both.control.set p.control target partition

    -- an open walk of a round: what the round's node had at a key when the round began the other node holds, or it is noted, or it
    -- lies under an open prefix
    pub record IsWalk (round : plane.Round Place R) (w : machine.Walk) : Type 0 where
      pub base : HasBase round w.state.partition (both.control.newest p.control round.node)
      pub given : GivesNext round w.state.partition w.node
      pub covers : (q : Place) (x : R) → HadThere round w.state.partition q x →
          HoldsFor round w.node q x ⊎ (Noted w.state.noted q.1.0 (blake2b 32 q.1.1) ⊎ UnderOpen w.state.prefixes q.1.0 (blake2b 32 q.1.1))

    -- what a round moves of a partition, to the set of the next version
    pub record IsPart (round : plane.Round Place R) (part : machine.Part) : Type 0 where
      pub base : HasBase round part.partition (both.control.newest p.control round.node)
      pub set_is : part.set ≡ both.control.set p.control (suc round.from) part.partition

    -- the plane has the node's round: what it pushes, and who confirmed
    pub record IsRound (n : ℕ) (x : machine.Round) : Type 0 where
      pub round : plane.Round Place R
      pub issued : g.rounds n x.number ≡ Some (a_round round)
      pub is_there : Contains p.rounds round
      pub node : round.node ≡ n
      pub target : suc round.from ≡ x.target
      pub known : x.target ≤ both.control.newest p.control n
      pub confirmed : AllByRecursion (λ (c : machine.Confirmed). IsConfirmed round c.partition c.node) x.confirmed
      pub parts : (partition : ℕ) → Contains (both.control.set p.control round.from partition) n → IsAllGone round partition ⊎ HasPart x.parts x.target partition
      pub all_parts : AllByRecursion (IsPart round) x.parts
      pub walks : AllByRecursion (IsWalk round) x.walks

    -- the plane has the round that is open, if one is
    abbrev pub IsRoundIn : ℕ → Option machine.Round → Type 0
    IsRoundIn n None = ⊤
    IsRoundIn n (Some x) = IsRound n x

    -- the number of the last repair is that of a repair, and so is that of a round which is complete: it owes nothing any more
    abbrev pub IsMending : ℕ → Option machine.Mending → Type 0
    IsMending n None = ⊤
    IsMending n (Some x) = g.rounds n x.number ≡ Some a_repair

    -- what a node is
    pub record IsNode (requests n : ℕ) (x : Node R L) : Type 0 where
      pub rows : (q : Place) → log_at both p.log n q ≡ at_place s join x.accepted q
      pub proper : AllByRecursion (λ r. IsTrue (s.is_proper r)) x.accepted
      pub calls : AllByRecursion (IsCall requests n) x.calls
      pub round : IsRoundIn n x.round
      pub mending : IsMending n x.mending
      pub lasting : IsMending n x.lasting
      pub later_rounds : (number : ℕ) → x.rounds < number → g.rounds n number ≡ None

  -- a proper row of which the plane kept a store, at its place
  pub record IsKept (p : State) (r : R) : Type 0 where
    pub proper : IsTrue (s.is_proper r)
    pub store : plane.Store Place R
    pub is_there : Contains p.kept store
    pub key : store.key ≡ place_of s r
    pub row : store.row ≡ r

  -- the machine's world and the plane's say the same, of nodes, messages, kept rows and reads
  pub record IsTied (w : World R L) (p : State) (g : Issued R L) : Type 0 where
    pub control : Controlled k partitions w p.control
    pub nodes : (n : ℕ) → IsNode p g (length w.requests) n (w.nodes n)
    pub kept : (q : Place) → kept_at both p.kept q ≡ at_place s join w.kept q
    pub kept_rows : AllByRecursion (IsKept p) w.kept
    pub messages : AllByRecursion (Means p g) w.messages
    pub not_asked : (request phase : ℕ) → length w.requests < request → g.asks request phase ≡ None
    pub not_stored : (request phase slot : ℕ) → length w.requests < request → g.stores request phase slot ≡ None
    pub collected : (q : Place) → collected_at both p.log q ≡ at_place s join w.collected q
    pub proper_collected : AllByRecursion (λ r. IsTrue (s.is_proper r)) w.collected
    pub reads : AllByRecursion (GaveKept join s w.collected) w.reads
