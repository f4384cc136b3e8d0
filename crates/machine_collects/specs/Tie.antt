-- What the machine's rows, messages and collections are in the world of one key's collections.
use Rattle.std.specs.Prelude.{◌≡◌, ◌≢◌, ◌⊎◌, ℕ, ◌≤◌, ◌<◌, List, [], ◌∷◌, Option, Some, None, IsTrue, length, map, ⊤}
use Rattle.std.specs.List.{AllByRecursion}
use Rattle.blake2_hash.specs.Blake2b.{blake2b}
use Rattle.control_model.specs.World as control
use Rattle.crdt_core.specs.Members.{Has}
use Rattle.table_schema.specs.Words.{Words, partition_of}
use Rattle.table_model.specs.Rows.{row_at}
use Rattle.gc_model.specs.declared.collection.Collection.{Collection}
use Rattle.wire_messages.specs.declared.message.Message.{Message}
use Rattle.wire_messages.specs.declared.message.Message.TheVariants.{Row, Rows, Store, Tomb, Tombed, Forget}
use Rattle.collection_model.specs.World as past
use Rattle.collection_model.specs.World.{Begun, Witness, Ready, Second}
use Rattle.collection_model.specs.Action.{IsWitness}
use Rattle.cluster_machine.specs.Layouts.{Layouts}
use Rattle.cluster_machine.specs.Node.{Item, Node, Packet, says, shows}
use Rattle.cluster_machine.specs.Collects.{all_nodes}
use Rattle.cluster_machine.specs.World.{Sent, World}
use Rattle.machine_laws.specs.Follows.{Controlled}
use Rattle.machine_collects.specs.Versions.{Version, Versions, hour, site}

-- the world of one key, over the machine's views
abbrev pub State : Type 0 → Type 0 → Type 0
State R L = past.World (control.World L) R Version

-- what stands behind numbers: of each node how many collections began, and which began under a number, and its second round
pub record Issued (R : Type 0) : Type 0 where
  pub last : ℕ → ℕ
  pub begun : ℕ → ℕ → Option (Begun R Version)
  pub second : ℕ → ℕ → Option (Second R Version)

-- nothing was begun
abbrev pub none_issued : {R : Type 0} → Issued R
none_issued = record { last = λ _. 0; begun = λ _ _. None; second = λ _ _. None }

-- an answer of a first round, as a witness
abbrev pub witness : ℕ × ℕ → Witness
witness a = record { node = a.0; newest = a.1 }

-- the node of an answer
abbrev pub node_of : ℕ × ℕ → ℕ
node_of a = a.0

-- no number is there twice
abbrev pub AreDifferent : List ℕ → Type 0
AreDifferent [] = ⊤
AreDifferent (n ∷ ns) = (Has ns n → ⊥) × AreDifferent ns

-- a collection's number
abbrev pub number_of : Collection → ℕ
number_of c = c.number

module _ {R : Type 0} (s : Words R) where
  -- no item of an outbox is an object row
  abbrev pub IsNoObject : Item R → Type 0
  IsNoObject i = s.table i.row ≢ 1

  -- the rows that bytes are read as
  abbrev pub with_read : Option R → List R → List R
  with_read None rs = rs
  with_read (Some r) rs = r ∷ rs

  -- the rows that these bytes spell
  abbrev pub rows_read : List (List ℕ × Option (List ℕ)) → List R
  rows_read [] = []
  rows_read (b ∷ bs) = with_read (s.read b.0) (rows_read bs)

module _ {R L : Type 0} (join : R → R → R) (s : Words R) (v : Versions R) (k : Layouts L) (partitions : ℕ) (key : List ℕ) (partition : ℕ) where
  -- a proper row of table 1 and the key
  pub record IsOf (r : R) : Type 0 where
    pub proper : IsTrue (s.is_proper r)
    pub table : s.table r ≡ 1
    pub key_is : s.key r ≡ key

  module _ (w : State R L) where
    -- the row was shown at a moment, if it is of the key
    abbrev pub IsShown : ℕ → R → Type 0
    IsShown moment r = IsOf r → Has w.shown (record { row = r; moment = moment })

    -- the row was shown or stored at a moment, if it is of the key
    abbrev pub IsBrought : ℕ → R → Type 0
    IsBrought moment r = IsOf r → Has w.shown (record { row = r; moment = moment }) ⊎ Has w.stored (record { row = r; moment = moment })

    -- a row of a message of rows
    abbrev pub IsStored : ℕ → ℕ → R → Type 0
    IsStored moment part r = (partition_of s r ≡ part) × IsBrought moment r

    -- what an answer with one row, if any, means
    abbrev pub MeansRow : ℕ → Option R → Type 0
    MeansRow moment None = ⊤
    MeansRow moment (Some r) = IsShown moment r

    -- a row that was collected
    pub record IsCollected (r : R) : Type 0 where
      pub proper : IsTrue (s.is_proper r)
      pub table : s.table r ≡ 1
      pub dropped : s.key r ≡ key → Has w.dropped r

    module _ (g : Issued R) where
      -- a round of a collection of the key
      pub record MeansRound (from number round : ℕ) (row : List ℕ) (b : Begun R Version) : Type 0 where
        pub there : Has w.begun b
        pub row_is : s.spelling b.row ≡ Some row
        pub second : round ≡ 2 → (t : Second R Version) × ((g.second from number ≡ Some t) × Has w.second t)

      -- a tombstone on its way, for a collection that began
      pub record MeansTomb (from moment number round : ℕ) (row : List ℕ) : Type 0 where
        pub low : number ≤ g.last from
        pub shown : (r : R) → s.read row ≡ Some r → IsShown moment r
        pub means : (b : Begun R Version) → g.begun from number ≡ Some b → MeansRound from number round row b

      -- node n has confirmed a round of a collection of the key
      pub record HasTombed (to number round n named : ℕ) (b : Begun R Version) : Type 0 where
        pub first : round ≡ 1 → Has w.tombed (record { begun = b; node = n; newest = named })
        pub second : round ≡ 2 → (t : Second R Version) × ((g.second to number ≡ Some t) × Has w.again (record { second = t; node = n; newest = named }))

      pub record MeansTombed (from to number round named : ℕ) : Type 0 where
        pub low : number ≤ g.last to
        pub asked : Has all_nodes from
        pub means : (b : Begun R Version) → g.begun to number ≡ Some b → HasTombed to number round from named b

      -- a collected row that another node is to drop
      pub record MeansForget (collected : List R) (table : ℕ) (its_key hash : List ℕ) : Type 0 where
        pub objects : table ≡ 1
        pub row : R
        pub there : Has collected row
        pub key_is : s.key row ≡ its_key
        pub bytes : List ℕ
        pub spelled : s.spelling row ≡ Some bytes
        pub hash_is : hash ≡ blake2b 32 bytes

      abbrev pub MeansMessage : List R → ℕ → ℕ → ℕ → Message R → Type 0
      MeansMessage collected from to moment (Row request phase row) = MeansRow moment row
      MeansMessage collected from to moment (Rows request phase rows more) = AllByRecursion (IsShown moment) rows
      MeansMessage collected from to moment (Store tag named part rows) = AllByRecursion (IsStored moment part) (rows_read s rows)
      MeansMessage collected from to moment (Tomb number round row) = MeansTomb from moment number round row
      MeansMessage collected from to moment (Tombed number round named) = MeansTombed from to number round named
      MeansMessage collected from to moment (Forget table its_key hash) = MeansForget collected table its_key hash.0
      MeansMessage collected from to moment _ = ⊤

      abbrev pub MeansPacket : List R → ℕ → ℕ → ℕ → Packet R L → Type 0
      MeansPacket collected from to moment (says m) = MeansMessage collected from to moment m
      MeansPacket collected from to moment (shows view) = ⊤

      -- what a message means
      abbrev pub Means : List R → Sent R L → Type 0
      Means collected x = MeansPacket collected x.from x.to x.moment x.packet

      -- a collection's first round is complete
      pub record IsReady (c : Collection) (b : Begun R Version) : Type 0 where
        pub ready : Ready R Version
        pub there : Has w.ready ready
        pub of_it : ready.begun ≡ b
        pub first : ready.first ≡ map witness c.first
        pub clock : c.ready ≡ Some ready.clock
        pub full : length c.first ≡ 16

      -- a node has confirmed the second round: the beginner, or one that named what it named before
      abbrev pub HasAgain : Collection → Second R Version → ℕ → ℕ → Type 0
      HasAgain c t n m = (m ≡ n) ⊎ ((named : ℕ) × (Has c.first (m, named) × Has w.again (record { second = t; node = m; newest = named })))

      pub record IsSecond (n : ℕ) (c : Collection) (b : Begun R Version) : Type 0 where
        pub round : c.round ≡ 2
        pub ready : IsReady c b
        pub second : Second R Version
        pub issued : g.second n c.number ≡ Some second
        pub there : Has w.second second
        pub of_it : second.ready ≡ ready.ready
        pub again : AllByRecursion (HasAgain c second n) c.again
        pub different : AreDifferent c.again
        pub among : AllByRecursion (Has (map node_of c.first)) c.again

      pub record IsFirst (n : ℕ) (c : Collection) (b : Begun R Version) : Type 0 where
        pub round : c.round ≡ 1
        pub none : g.second n c.number ≡ None
        pub ready : (c.ready ≡ None) ⊎ IsReady c b

      -- an open collection of the key
      pub record IsMine (n : ℕ) (c : Collection) : Type 0 where
        pub key_is : c.key ≡ key
        pub begun : Begun R Version
        pub issued : g.begun n c.number ≡ Some begun
        pub there : Has w.begun begun
        pub at_node : begun.node ≡ n
        pub bytes : s.spelling begun.row ≡ Some c.row
        pub of_key : IsOf begun.row
        pub newest : begun.newest ≡ c.newest
        pub self : Has (map node_of c.first) n
        pub first : AllByRecursion (λ a. IsWitness (site join s v key k partitions partition) w begun (witness a)) c.first
        pub different : AreDifferent (map node_of c.first)
        pub among : AllByRecursion (λ a. Has all_nodes a.0) c.first
        pub phase : IsFirst n c begun ⊎ IsSecond n c begun

      pub record IsOpen (n : ℕ) (c : Collection) : Type 0 where
        pub low : c.number ≤ g.last n
        pub own : c.own ≡ n
        pub mine : c.key ≡ key → IsMine n c
        pub other : c.key ≢ key → g.begun n c.number ≡ None

      pub record IsNode (n : ℕ) (x : Node R L) : Type 0 where
        pub row : w.row n ≡ row_at join s x.accepted 1 key
        pub proper : AllByRecursion (λ r. IsTrue (s.is_proper r)) x.accepted
        pub items : AllByRecursion (IsNoObject s) x.items
        pub last : g.last n ≡ x.gc.begun
        pub unissued : (m : ℕ) → x.gc.begun < m → (g.begun n m ≡ None) × (g.second n m ≡ None)
        pub collections : AllByRecursion (IsOpen n) x.gc.collections
        pub different : AreDifferent (map number_of x.gc.collections)

  -- the machine's world and the world of the key
  pub record IsTied (m : World R L) (w : State R L) (g : Issued R) : Type 0 where
    pub control : Controlled k partitions m w.control
    pub time : w.time ≡ m.time
    pub skews : (n : ℕ) → m.skew_of n ≤ hour
    pub nodes : (n : ℕ) → IsNode w g n (m.nodes n)
    pub messages : AllByRecursion (Means w g m.collected) m.messages
    pub collected : AllByRecursion (IsCollected w) m.collected
