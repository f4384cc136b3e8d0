-- How many messages a message leads to at most, where the tries of nodes have no key hashes but these.
use Rattle.std.specs.Prelude.{ℕ, suc, ◌+◌, ◌*◌, ◌-◌, nat_eq, List, [], ◌∷◌, length, filter}
use Rattle.std.specs.List.{AllByRecursion, starts_with}
use Rattle.crdt_core.specs.Members.{Has}
use Rattle.table_schema.specs.Words.{Words}
use Rattle.wire_messages.specs.declared.message.Message.{Message}
use Rattle.wire_messages.specs.declared.message.Message.TheVariants.{Get, Range, Store, BlockGet, Walk, Same, Differ, Tomb, Tombed}
use Rattle.wire_messages.specs.declared.message.Tag.{Tag}
use Rattle.wire_messages.specs.declared.message.Tag.TheVariants.{Round as ForRound}
use Rattle.cluster_machine.specs.Node.{Node, Packet, says, shows}
use Rattle.cluster_machine.specs.Rounds.{pairs_at}
use Rattle.cluster_machine.specs.World.{Sent}

-- key hashes, by partition and table
abbrev pub Keys : Type 0
Keys = ℕ → ℕ → List (List ℕ)

-- the node's tries have no key hashes but these
abbrev pub HasKeys : {R L : Type 0} → (R → R → R) → Words R → Keys → Node R L → Type 0
HasKeys join s keys x = (p table : ℕ) → AllByRecursion (λ pair. Has (keys p table) pair.0) (pairs_at join s x table p)

-- how many key hashes begin with a prefix
abbrev pub under : List ℕ → List (List ℕ) → ℕ
under prefix keys = length (filter (λ key. starts_with nat_eq key prefix) keys)

-- how many messages follow an answer to a walk at a prefix: a push and its answer; or for each key hash below it, at each byte that is left, a question with its answer, twice at most
abbrev pub answer_load : List ℕ → List (List ℕ) → ℕ
answer_load prefix keys = 2 + 4 * (under prefix keys * (32 - length prefix))

module _ (keys : Keys) where
  -- the same by the answer's tag: it goes on with a round or a repair alone
  abbrev pub tag_load : Tag → ℕ → List ℕ → ℕ
  tag_load (ForRound number p) table prefix = answer_load prefix (keys p table)
  tag_load tag table prefix = 0

  -- of a message: an answer to each question, and what follows an answer to a walk; a tombstone is confirmed, and the confirmation may bring that each other node forgets the row
  abbrev pub message_load : {R : Type 0} → Message R → ℕ
  message_load (Get request phase at table key) = 1
  message_load (Range request phase at bucket prefix after) = 1
  message_load (Store tag named p rows) = 1
  message_load (BlockGet request phase at hash) = 1
  message_load (Walk tag named p table prefix hash) = suc (tag_load tag table prefix)
  message_load (Same tag table prefix) = tag_load tag table prefix
  message_load (Differ tag table prefix pairs) = tag_load tag table prefix
  message_load (Tomb number round row) = 17
  message_load (Tombed number round named) = 16
  message_load _ = 0

  module _ {R L : Type 0} where
    -- of a packet: nothing follows a view
    abbrev pub packet_load : Packet R L → ℕ
    packet_load (says m) = message_load m
    packet_load (shows v) = 0

    -- of these messages together
    abbrev pub load : List (Sent R L) → ℕ
    load [] = 0
    load (x ∷ xs) = packet_load x.packet + load xs
