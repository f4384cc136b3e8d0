-- Rows that are handed on to the nodes of the newer version, where all nodes of a partition had the same.
use Rattle.std.specs.Prelude.{◌≡◌, ◌⊎◌, ◌<◌, ℕ, nat_eq, true, IsTrue, ⊤, Option, Some, None, List, [], length, map}
use Rattle.std.specs.List.{AllByRecursion, starts_with}
use Rattle.blake2_hash.specs.Blake2b.{blake2b}
use Rattle.blake2_hash.specs.declared.digest.Hash32.{Hash32}
use Rattle.table_schema.specs.Words.{Words, partition_of}
use Rattle.table_model.specs.Root.{Pair}
use Rattle.table_model.specs.Rows.{row_at, rows}
use Rattle.table_model.specs.Top.{pairs_of}
use Rattle.quorum_model.specs.Quorum.{is_among}
use Rattle.walk_model.specs.Account.{Noted, UnderOpen}
use Rattle.walk_model.specs.Sets.{value_at, children_at}
use Rattle.walk_model.specs.Walking.{plain}
use Rattle.wire_messages.specs.declared.message.Message.{Message}
use Rattle.wire_messages.specs.declared.message.Message.TheVariants.{Store, Walk as AsksValue, Same, Differ}
use Rattle.wire_messages.specs.declared.message.Tag.{Tag}
use Rattle.wire_messages.specs.declared.message.Tag.TheVariants.{Round as ForRound}
use Rattle.cluster_machine.specs.Hashes.{Hashes, NoClash}
use Rattle.cluster_machine.specs.Node.{Block, Node, Packet, says, shows, Walk}
use Rattle.cluster_machine.specs.Rounds.{walk_at}
use Rattle.cluster_machine.specs.World.{Sent, World}
use Rattle.drained_laws.specs.Waiting.{SomeOf}
use Rattle.drained_laws.specs.Accounts.{Carries}
use Rattle.change_laws.specs.Rounds.{walks_in}

-- a row that stays as it is calls for no other
abbrev pub IsQuiet : {R : Type 0} → Words R → Type 0
IsQuiet s = (r : _) → s.triggered r r ≡ []

-- the bytes beside a row, if any
abbrev pub AreGiven : (List ℕ → Type 0) → Option (List ℕ) → Type 0
AreGiven kept None = ⊤
AreGiven kept (Some bytes) = kept bytes

-- each block
abbrev pub AllKept : (List ℕ → Type 0) → List Block → Type 0
AllKept kept blocks = AllByRecursion (λ (b : Block). kept b.bytes) blocks

-- some node has these bytes as a block
abbrev pub IsKeptIn : {R L : Type 0} → World R L → List ℕ → Type 0
IsKeptIn w bytes = (n : ℕ) × SomeOf (λ (b : Block). b.bytes ≡ bytes) (w.nodes n).blocks

module _ {R : Type 0} (join : R → R → R) (s : Words R) (good : R → Type 0) where
  -- of these rows that were accepted, each at its place is one of those
  pub record HasGood (accepted : List R) : Type 0 where
    pub proper : AllByRecursion (λ r. IsTrue (s.is_proper r)) accepted
    pub each : (table : ℕ) (key : List ℕ) (r : R) → row_at join s accepted table key ≡ Some r → good r × (s.table r ≡ table) × (s.key r ≡ key)

  -- these accepted rows have this one at its place
  abbrev pub Holds : R → List R → Type 0
  Holds r accepted = row_at join s accepted (s.table r) (s.key r) ≡ Some r

  -- a node has it
  abbrev pub Has : {L : Type 0} → R → Node R L → Type 0
  Has r x = Holds r x.accepted

  -- the message asks to store this row
  abbrev pub StoresIt : R → Message R → Type 0
  StoresIt r (Store tag named p rows) = SomeOf (λ (b : List ℕ × Option (List ℕ)). s.read b.0 ≡ Some r) rows
  StoresIt r _ = ⊥

  module _ (H : List ℕ → Type 0) where
    -- the pairs that the trie of a table and partition has of these rows
    abbrev pub trie : List R → ℕ → ℕ → List Pair
    trie accepted table p = pairs_of s table p (rows join s accepted)

    -- each of these rows is one of those, and what is hashed for the tries of a partition is among these strings
    pub record IsHashed (p : ℕ) (accepted : List R) : Type 0 where
      pub good_rows : HasGood accepted
      pub hashed : (x : List ℕ) → Hashes s p (rows join s accepted) x → H x

    -- the row is of this table and partition, and its key hash begins with the prefix
    pub record IsUnder (p table : ℕ) (prefix : List ℕ) (r : R) : Type 0 where
      pub good_one : good r
      pub of_part : partition_of s r ≡ p
      pub of_table : s.table r ≡ table
      pub short : length prefix < 32
      pub begins : starts_with nat_eq (blake2b 32 (s.key r)) prefix ≡ true

    module _ (kept : List ℕ → Type 0) where
      -- these bytes are those of one of those rows, and beside them stands such a block, if any
      abbrev pub IsGoodRow : List ℕ × Option (List ℕ) → Type 0
      IsGoodRow b = (r : R) × (s.read b.0 ≡ Some r) × good r × AreGiven kept b.1

      module _ {L : Type 0} (was nodes : ℕ → Node R L) where
        -- node n asks for its value at a prefix: it had these rows then, and among them what it had before
        pub record IsQuestion (n p table : ℕ) (prefix hash : List ℕ) : Type 0 where
          pub rows_then : List R
          pub is_hashed : IsHashed p rows_then
          pub hash_is : hash ≡ value_at (blake2b 32) prefix (trie rows_then table p)
          pub over : (r : R) → good r → Has r (was n) → Holds r rows_then

        -- node m has what node n had under the prefix, if no digests clash
        abbrev pub SaysSame : ℕ → ℕ → Tag → ℕ → List ℕ → Type 0
        SaysSame m n (ForRound number p) table prefix = NoClash H → (r : R) → IsUnder p table prefix r → Has r (was n) → Has r (nodes m)
        SaysSame m n _ table prefix = ⊤

        -- node m tells the children at a prefix of rows that it had then, and has
        pub record IsTold (m p table : ℕ) (prefix : List ℕ) (children : List (ℕ × Hash32)) : Type 0 where
          pub rows_then : List R
          pub is_hashed : IsHashed p rows_then
          pub children_are : map plain children ≡ children_at (blake2b 32) prefix (trie rows_then table p)
          pub still : (r : R) → good r → Holds r rows_then → Has r (nodes m)

        -- the same of an answer under this tag
        abbrev pub SaysDiffer : ℕ → Tag → ℕ → List ℕ → List (ℕ × Hash32) → Type 0
        SaysDiffer m (ForRound number p) table prefix children = IsTold m p table prefix children
        SaysDiffer m _ table prefix children = ⊤

        -- what a message from one node to another means
        abbrev pub MeansMessage : ℕ → ℕ → Message R → Type 0
        MeansMessage from to (Store tag named p rows) = AllByRecursion IsGoodRow rows
        MeansMessage from to (AsksValue tag named p table prefix hash) = IsQuestion from p table prefix hash.0
        MeansMessage from to (Same tag table prefix) = SaysSame from to tag table prefix
        MeansMessage from to (Differ tag table prefix children) = SaysDiffer from tag table prefix children
        MeansMessage from to _ = ⊤

        -- the same of a packet
        abbrev pub MeansPacket : ℕ → ℕ → Packet R L → Type 0
        MeansPacket from to (says m) = MeansMessage from to m
        MeansPacket from to (shows v) = ⊤

        -- the message means it
        abbrev pub Means : Sent R L → Type 0
        Means x = MeansPacket x.from x.to x.packet

        -- some node that has begun its round has this row, and walks with this node, and the walk notes the row's key, or asks for a prefix of its hash
        pub record IsSought (begun : ℕ → Type 0) (r : R) (m : ℕ) : Type 0 where
          pub by : ℕ
          pub began : begun by
          pub good_one : good r
          pub there : Has r (was by)
          pub walk : Walk
          pub is_open : walk_at (partition_of s r) m (walks_in (nodes by).round (nodes by).lasting) ≡ Some walk
          pub sought : Noted walk.state.noted (s.table r) (blake2b 32 (s.key r)) ⊎ UnderOpen walk.state.prefixes (s.table r) (blake2b 32 (s.key r))

      module _ {L : Type 0} (part : List ℕ) (was : ℕ → Node R L) (begun : ℕ → Type 0) where
        -- nodes that take part have such rows alone, such blocks, and what they had, outboxes are as they were, and if no digests clash
        -- what a node is owed it has, or a message that waits brings it, or it is sought
        pub record AreHanded (owes : R → ℕ → Type 0) (nodes : ℕ → Node R L) (ws : List (Sent R L)) : Type 0 where
          pub rows : (n : ℕ) → IsTrue (is_among n part) → HasGood (nodes n).accepted
          pub stays : (n : ℕ) → IsTrue (is_among n part) → (r : R) → Has r (was n) → Has r (nodes n)
          pub items : (n : ℕ) → (nodes n).items ≡ (was n).items
          pub blocks : (n : ℕ) → AllKept kept (nodes n).blocks
          pub owed : NoClash H → (r : R) (n : ℕ) → owes r n → Has r (nodes n) ⊎ (SomeOf (λ (x : Sent R L). (x.to ≡ n) × Carries (StoresIt r) x.packet) ws ⊎ IsSought was nodes begun r n)
          pub messages : AllByRecursion (Means was nodes) ws
