-- When the rounds of the code stand for those of a node of the model.
use Rattle.std.specs.Prelude.{◌≡◌, ℕ, Bool, not, Option, Some, None, List, [], ◌∷◌, ◌++◌, map, ⊤}
use Rattle.std.specs.List.{filter}
use Rattle.layout_roles.specs.declared.layout.Layout.{Layout}
use Rattle.table_schema.specs.Words.{Words}
use Rattle.cluster_machine.specs.Layouts.{layouts}
use Rattle.cluster_machine.specs.Node.{Node, Part, Confirmed, Walk, Round as Moved, Mending}
use Rattle.cluster_machine.specs.Rounds.{is_empty, has_rows, open_nodes, emptied_parts, confirmations}
use Rattle.sync_round.specs.Stands.{IsRound}
use Rattle.node_parts.specs.declared.contents.Contents.{Contents}
use Rattle.node_parts.specs.declared.rounds.Moving.{Moving}
use Rattle.node_parts.specs.declared.rounds.Rounds.{Rounds}
use Rattle.node_parts.specs.Contents.{IsContents}
use Rattle.node_parts.specs.Sends.{AreMended}
use Rattle.node_parts.specs.Walks.{AreWalks}

-- a partition with its set
abbrev pub pair_of : Part → ℕ × List ℕ
pair_of part = (part.partition, part.set)

-- a confirmation of a partition by a node
abbrev pub confirmed_by : ℕ × ℕ → Confirmed
confirmed_by c = record { partition = c.0; node = c.1 }

-- the node itself has confirmed each partition, and others what they were told for
pub record IsMoving (node : ℕ) (m : Moving) (r : Moved) : Type 0 where
  pub told : List (ℕ × ℕ)
  pub number : m.number ≡ r.number
  pub round : IsRound m.round r.target (map pair_of r.parts) node told
  pub confirmed : r.confirmed ≡ map (λ part. record { partition = part.partition; node = node }) r.parts ++ map confirmed_by told
  pub walks : AreWalks m.walks r.walks

-- a round is open in both, or in neither
abbrev pub IsOpen : ℕ → Option Moving → Option Moved → Type 0
IsOpen node None None = ⊤
IsOpen node (Some m) (Some r) = IsMoving node m r
IsOpen node _ _ = ⊥

-- the open round, how many rounds and repairs ever began, the last repair, and the last round where it is complete
pub record AreRounds (node : ℕ) (c : Rounds) (round : Option Moved) (rounds : ℕ) (mending lasting : Option Mending) : Type 0 where
  pub is_open : IsOpen node c.round round
  pub begun : c.begun ≡ rounds
  pub mending_is : AreMended c.mending mending
  pub lasting_is : AreMended c.lasting lasting

-- a round begins
abbrev pub begun_round : ℕ → ℕ → List Part → ℕ → List Walk → Moved
begun_round number target parts node walks =
    record { number = number; target = target; parts = parts; confirmed = map (λ part. record { partition = part.partition; node = node }) parts; walks = walks }

-- a node confirms a partition of a round
abbrev pub confirmed_round : Moved → ℕ → ℕ → Moved
confirmed_round r p from = record r { confirmed = r.confirmed ++ record { partition = p; node = from } ∷ [] }

-- these nodes confirm a partition of a round
abbrev pub confirmed_all : Moved → ℕ → List ℕ → Moved
confirmed_all r p nodes = record r { confirmed = r.confirmed ++ map (λ n. record { partition = p; node = n }) nodes }

-- the set has a node
abbrev pub has_any : ℕ × List ℕ → Bool
has_any part = not (is_empty part.1)

-- each partition that some node hasn't confirmed, with these nodes
abbrev pub open_parts_of : Moved → List (ℕ × List ℕ)
open_parts_of r = filter has_any (map (λ part. (part.partition, open_nodes r part)) r.parts)

module _ {R : Type 0} (join : R → R → R) (s : Words R) where
  -- those of which the node has rows are left; each other one all its nodes have confirmed
  pub record Emptied (node : ℕ) (new : Moving) (filled : List (ℕ × List ℕ)) (x : Node R Layout) (r : Moved) : Type 0 where
    pub moving : IsMoving node new (record r { confirmed = r.confirmed ++ confirmations (open_nodes r) (emptied_parts join s layouts x r) })
    pub filled_are : filled ≡ filter (λ part. has_rows join s x part.0) (open_parts_of r)

  -- whatever round it is, whose open partitions these are
  abbrev pub Empties : {S : Type 0} → Contents S R → Moving → Moving → List (ℕ × List ℕ) → List (ℕ × List ℕ) → Type 0
  Empties contents old new parts filled =
      (node : ℕ) (x : Node R Layout) (r : Moved) → IsContents join s contents x → IsMoving node old r → parts ≡ open_parts_of r → Emptied node new filled x r
