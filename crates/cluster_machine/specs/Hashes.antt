-- What a run hashes for its walks, and that no two of these strings have one digest.
use Rattle.std.specs.Prelude.{◌≡◌, ◌≢◌, ◌⊎◌, ℕ, false, Some, List, [], ◌∷◌, replicate}
use Rattle.blake2_hash.specs.Blake2b.{blake2b}
use Rattle.crdt_core.specs.Members.{Has, OneOf}
use Rattle.layout_roles.specs.declared.role.Role.{Role}
use Rattle.table_schema.specs.Words.{Words}
use Rattle.table_model.specs.Rows.{rows, rows_in}
use Rattle.table_model.specs.Top.{pairs_of}
use Rattle.walk_model.specs.Equal.{inputs_at}
use Rattle.wire_messages.specs.declared.message.Message.TheVariants.{Walk, Same, Differ}
use Rattle.wire_messages.specs.declared.message.Tag.{Tag}
use Rattle.wire_messages.specs.declared.message.Tag.TheVariants.{Round as ForRound}
use Rattle.cluster_machine.specs.declared.step.Step.{Step}
use Rattle.cluster_machine.specs.declared.step.Step.TheVariants.{Deliver}
use Rattle.cluster_machine.specs.Layouts.{Layouts}
use Rattle.cluster_machine.specs.Node.{Packet, says}
use Rattle.cluster_machine.specs.World.{Sent, Mark, World, numbered}
use Rattle.cluster_machine.specs.Run.{Move, does, next}

-- a tag of a round or a repair, with this partition
abbrev pub IsTagOf : ℕ → Tag → Type 0
IsTagOf p (ForRound number q) = q ≡ p
IsTagOf p tag = ⊥

module _ {R L : Type 0} where
  -- another node's value at a prefix is asked for, in this partition
  abbrev pub AsksOver : ℕ → Packet R L → Type 0
  AsksOver p (says (Walk tag newest q table prefix hash)) = q ≡ p
  AsksOver p packet = ⊥

  -- a message of a walk over this partition: such a question, or an answer to one
  abbrev pub IsOfWalk : ℕ → Packet R L → Type 0
  IsOfWalk p (says (Walk tag newest q table prefix hash)) = q ≡ p
  IsOfWalk p (says (Same tag table prefix)) = IsTagOf p tag
  IsOfWalk p (says (Differ tag table prefix pairs)) = IsTagOf p tag
  IsOfWalk p packet = ⊥

  -- message m, which was not lost, is for node n, and is of a walk over this partition
  pub record IsFor (w : World R L) (m n p : ℕ) : Type 0 where
    pub message : Sent R L
    pub was_sent : numbered w.messages m ≡ Some message
    pub mark : Mark
    pub marked : numbered w.marks m ≡ Some mark
    pub not_lost : mark.is_lost ≡ false
    pub to_it : message.to ≡ n
    pub of_walk : IsOfWalk p message.packet

  -- in this step such a message comes to node n
  abbrev pub Hears : World R L → Step R → ℕ → ℕ → Type 0
  Hears w (Deliver m) n p = IsFor w m n p
  Hears w step n p = ⊥

  -- node n asks another over this partition
  abbrev pub Asks : List (Sent R L) → ℕ → ℕ → Type 0
  Asks sends n p = OneOf (λ (x : Sent R L). (x.from ≡ n) × AsksOver p x.packet) sends

module _ {R : Type 0} (s : Words R) where
  -- a row's key and its bytes are hashed
  abbrev pub HashesRow : List ℕ → R → Type 0
  HashesRow x r = (s.key r ≡ x) ⊎ (s.spelling r ≡ Some x)

  -- and what stands behind the values at the prefixes of the tries of a partition
  abbrev pub HashesTrie : ℕ → List R → List ℕ → Type 0
  HashesTrie p there x = (table : ℕ) × ((prefix : List ℕ) × Has (inputs_at (blake2b 32) prefix (pairs_of s table p there)) x)

  -- the strings that are hashed for these rows' tries of a partition
  abbrev pub Hashes : ℕ → List R → List ℕ → Type 0
  Hashes p there x = OneOf (HashesRow x) (rows_in s p there) ⊎ HashesTrie p there x

  module _ {L : Type 0} (join : R → R → R) {A C : Type 0} (k : Layouts L) (trio : L) (trio_roles : List Role → List Role) where
    -- those that a step hashes: each node to which a message of a walk comes, or which asks another, hashes its rows of that partition
    abbrev pub StepHashes : World R L → Move R L A C → List ℕ → Type 0
    StepHashes w m x =
        (n : ℕ) × ((p : ℕ) × ((Hears w m.step n p ⊎ Asks (does join s k trio trio_roles w m).sends n p) × Hashes p (rows join s (w.nodes n).accepted) x))

    -- those that the steps of a run hash
    abbrev pub RunHashes : World R L → List (Move R L A C) → List ℕ → Type 0
    RunHashes w [] x = ⊥
    RunHashes w (m ∷ ms) x = StepHashes w m x ⊎ RunHashes (next join s k trio trio_roles w m) ms x

-- no two of these strings have one digest, and none has the value of a trie without pairs
pub record NoClash (Hashed : List ℕ → Type 0) : Type 0 where
  pub apart : (x y : List ℕ) → Hashed x → Hashed y → blake2b 32 x ≡ blake2b 32 y → x ≡ y
  pub some : (x : List ℕ) → Hashed x → blake2b 32 x ≢ replicate 32 0
