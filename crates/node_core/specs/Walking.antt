-- What a node does as a round or a repair begins.
use Rattle.std.specs.Prelude.{◌≡◌, ℕ, true, false, Some, List, map}
use Rattle.std.specs.List.Sorted.{IsStrictlyIncreasing}
use Rattle.layout_roles.specs.declared.layout.Layout.{Layout}
use Rattle.table_schema.specs.Words.{Words}
use Rattle.view_model.specs.Layouts.{reading}
use Rattle.view_model.specs.View.{layout_at}
use Rattle.cluster_machine.specs.Layouts.{layouts}
use Rattle.cluster_machine.specs.Node.{Node as Model}
use Rattle.cluster_machine.specs.Rounds.{parts_of, other_nodes, walks_of, starts, are_spelled}
use Rattle.node_parts.specs.declared.packet.Envelope.{Envelope}
use Rattle.node_parts.specs.declared.walks.NodeWalk.{NodeWalk}
use Rattle.node_parts.specs.Posts.{Posts}
use Rattle.node_parts.specs.Sends.{part_of}
use Rattle.node_parts.specs.Walks.{walk_of}
use Rattle.node_core.specs.declared.node.Node.{Node}
use Rattle.node_core.specs.Stands.{StandsFor}

module _ {R : Type 0} (join : R → R → R) (s : Words R) where
  -- these are the partitions that move from one stored version to another
  abbrev pub Moves : {S : Type 0} → Node S R → ℕ → ℕ → List (ℕ × List ℕ) → Type 0
  Moves node here there parts =
      (id : ℕ) (x : Model R Layout) (l m : Layout) → StandsFor join s node id x → layout_at reading x.view here ≡ Some l → layout_at reading x.view there ≡ Some m →
      (map part_of parts ≡ parts_of join s layouts id x (Some l) (Some m)) × IsStrictlyIncreasing (map (λ part. part.0) parts)

  -- walks over these partitions began with the other nodes of their sets
  pub record Started (number id : ℕ) (parts : List (ℕ × List ℕ)) (old new : List (Envelope R)) (begun : List NodeWalk) (x : Model R Layout) : Type 0 where
    pub posts : Posts id old new (starts join s layouts x number (walks_of join s x (other_nodes join s layouts id) (map part_of parts)))
    pub begun_are : map walk_of begun ≡ walks_of join s x (other_nodes join s layouts id) (map part_of parts)
    pub spelled : are_spelled join s layouts x (map part_of parts) ≡ true

  -- whatever node it is
  abbrev pub Starts : {S : Type 0} → Node S R → ℕ → List (ℕ × List ℕ) → List (Envelope R) → List (Envelope R) → List NodeWalk → Type 0
  Starts node number parts old new begun = (id : ℕ) (x : Model R Layout) → StandsFor join s node id x → Started number id parts old new begun x

  -- some row of these partitions has no spelling
  abbrev pub CannotStart : {S : Type 0} → Node S R → List (ℕ × List ℕ) → Type 0
  CannotStart node parts = (id : ℕ) (x : Model R Layout) → StandsFor join s node id x → are_spelled join s layouts x (map part_of parts) ≡ false
