-- How a node walks with other nodes and what it pushes, in the words of the model.
use Rattle.std.specs.Prelude.{◌≡◌, ◌==◌, ◌++◌, ℕ, true, false, cond, Bool, Option, Some, None, List, [], ◌∷◌, map, ⊤}
use Rattle.std.specs.List.{flat_map, filter}
use Rattle.std.specs.List.Sorted.{IsStrictlyIncreasing}
use Rattle.blake2_hash.specs.declared.digest.Hash32.{Hash32}
use Rattle.block_store.specs.Contents.{Contents as Kept, block_at as kept_at}
use Rattle.layout_roles.specs.declared.layout.Layout.{Layout}
use Rattle.view_model.specs.Layouts.{reading}
use Rattle.view_model.specs.View.{newest}
use Rattle.table_schema.specs.Words.{Words}
use Rattle.cluster_machine.specs.Node.{Node, Part, Walk, Mending, Post}
use Rattle.cluster_machine.specs.Phases.{bytes_of}
use Rattle.cluster_machine.specs.Rounds.{rows_at, walk_with, starts, asks_at, pushes_rows, are_spelled, parts_of}
use Rattle.walk_model.specs.Noting.{is_noted}
use Rattle.node_parts.specs.declared.contents.Contents.{Contents}
use Rattle.node_parts.specs.declared.packet.Envelope.{Envelope}
use Rattle.node_parts.specs.declared.sender.Sender.{Sender}
use Rattle.node_parts.specs.declared.walks.Answer.{Answer}
use Rattle.node_parts.specs.declared.walks.NodeWalk.{NodeWalk}
use Rattle.node_parts.specs.declared.walks.Walks.{Walks}
use Rattle.node_parts.specs.declared.rounds.Mending.{Mending as Mended}
use Rattle.cluster_machine.specs.Layouts.{layouts}
use Rattle.node_parts.specs.Contents.{IsContents}
use Rattle.node_parts.specs.Posts.{Posts}
use Rattle.node_parts.specs.Sets.{others_of}
use Rattle.node_parts.specs.Walks.{AreWalks, walk_of, Outcome, idle, outcome}

-- a partition with nodes
abbrev pub part_of : ℕ × List ℕ → Part
part_of p = record { partition = p.0; set = p.1 }

-- these partitions with the other nodes of their sets
abbrev pub with_others : ℕ → List (ℕ × List ℕ) → List (ℕ × List ℕ)
with_others node parts = map (λ part. (part.0, others_of node part.1)) parts

-- the block of this hash, if it is there and one is asked for
abbrev pub found_in : Kept → Option (List ℕ) → Option (List ℕ)
found_in kept None = None
found_in kept (Some hash) = kept_at kept (record { 0 = hash })

-- rows as they are sent, each with the block that it needs
abbrev pub rows_with_blocks : {R : Type 0} → Words R → Kept → List R → List (List ℕ × Option (List ℕ))
rows_with_blocks s kept rs = map (λ r. (bytes_of s r, found_in kept (s.live_block r))) rs

-- a repair or a complete round is kept by both, or by neither
pub record IsMended (c : Mended) (m : Mending) : Type 0 where
  pub number : c.number ≡ m.number
  pub walks : AreWalks c.walks m.walks

-- the same of one that may not be
abbrev pub AreMended : Option Mended → Option Mending → Type 0
AreMended None None = ⊤
AreMended (Some c) (Some m) = IsMended c m
AreMended _ _ = ⊥

-- it has this number
abbrev pub is_of : ℕ → Option Mending → Bool
is_of number None = false
is_of number (Some m) = m.number == number

-- it has these walks
abbrev pub walking : List Walk → Option Mending → Option Mending
walking walks None = None
walking walks (Some m) = Some (record m { walks = walks })

-- its walks
abbrev pub walks_in : Option Mending → List Walk
walks_in None = []
walks_in (Some m) = m.walks

module _ {R : Type 0} (join : R → R → R) (s : Words R) where
  -- walks over these partitions with these nodes
  abbrev pub walks_over : Node R Layout → List (ℕ × List ℕ) → List Walk
  walks_over x places = flat_map (λ place. map (walk_with join s x place.0) place.1) places

  -- the partitions of which the node has rows, among those that one layout gives it, with their sets in another
  abbrev pub moved : Sender → Layout → Layout → Node R Layout → List Part
  moved sender here there x = parts_of join s layouts sender.node x (Some here) (Some there)

  -- walks began, and asked
  pub record Began (sender : Sender) (walks : List Walk) (old new : List (Envelope R)) (old_begun new_begun : List NodeWalk) (x : Node R Layout) : Type 0 where
    pub posts : Posts sender.node old new (starts join s layouts x sender.round walks)
    pub begun : map walk_of new_begun ≡ map walk_of old_begun ++ walks

  -- what the answer makes of a repair, or of a complete round, where it has the number
  abbrev pub mended : Node R Layout → ℕ → Answer → Option Mending → Outcome R
  mended x number a m = cond (is_of number m) (outcome join s x number a (walks_in m)) (idle (walks_in m))

  -- an answer made this of walks, and this was sent
  pub record Walked (sender : Sender) (new : Walks) (old_out new_out : List (Envelope R)) (is_same : Bool) (o : Outcome R) : Type 0 where
    pub walks : AreWalks new o.walks
    pub posts : Posts sender.node old_out new_out o.posts
    pub same : is_same ≡ o.is_same
    pub spelled : o.is_spelled ≡ true

  -- the same of a repair or a complete round
  pub record WalkedLate (sender : Sender) (new : Option Mended) (old_out new_out : List (Envelope R)) (taken : Bool) (m : Option Mending) (o : Outcome R) : Type 0 where
    pub mending : AreMended new (walking o.walks m)
    pub posts : Posts sender.node old_out new_out o.posts
    pub taken_is : taken ≡ is_of sender.round m
    pub spelled : o.is_spelled ≡ true

  module _ {S : Type 0} where
    -- the sender sends the rows of this node, which has these contents
    pub record Sends (sender : Sender) (contents : Contents S R) (x : Node R Layout) : Type 0 where
      pub is : IsContents join s contents x
      pub newest_is : newest reading x.view ≡ sender.newest

    -- whatever node it is, this was sent
    abbrev pub Sent : Sender → Contents S R → List (Envelope R) → List (Envelope R) → (Node R Layout → List (Post R Layout)) → Type 0
    Sent sender contents old new posts = (x : Node R Layout) → Sends sender contents x → Posts sender.node old new (posts x)

    -- another node was asked for each of these prefixes of a table
    abbrev pub Asks : Sender → Contents S R → List (Envelope R) → List (Envelope R) → ℕ → ℕ → ℕ → List (List ℕ) → Type 0
    Asks sender contents old new to p table prefixes = Sent sender contents old new (λ x. map (asks_at join s layouts x sender.round p to table) prefixes)

    -- the rows that were noted were pushed
    abbrev pub Pushes : Sender → Contents S R → List (Envelope R) → List (Envelope R) → ℕ → ℕ → List (ℕ × Hash32) → Type 0
    Pushes sender contents old new to p noted = Sent sender contents old new (λ x. pushes_rows join s layouts x sender.round p (to ∷ []) (filter (is_noted s noted) (rows_at join s x p)))

    -- whatever node it is, these are the partitions that move
    abbrev pub AreMoved : Sender → Contents S R → Layout → Layout → List (ℕ × List ℕ) → Type 0
    AreMoved sender contents here there parts =
        (x : Node R Layout) → IsContents join s contents x → (map part_of parts ≡ moved sender here there x) × IsStrictlyIncreasing (map (λ part. part.0) parts)

    -- whatever node it is, walks over a partition began with these nodes
    abbrev pub Starts : Sender → Contents S R → ℕ → List ℕ → List (Envelope R) → List (Envelope R) → List NodeWalk → List NodeWalk → Type 0
    Starts sender contents p nodes old new old_begun new_begun = (x : Node R Layout) → Sends sender contents x → Began sender (map (walk_with join s x p) nodes) old new old_begun new_begun x

    -- whatever node it is, walks over these partitions began with their nodes
    abbrev pub StartsAll : Sender → Contents S R → List (ℕ × List ℕ) → List (Envelope R) → List (Envelope R) → List NodeWalk → Type 0
    StartsAll sender contents places old new begun = (x : Node R Layout) → Sends sender contents x → Began sender (walks_over x places) old new [] begun x × (are_spelled join s layouts x (map part_of places) ≡ true)

    -- some row of these partitions has no spelling
    abbrev pub CannotStart : Contents S R → List (ℕ × List ℕ) → Type 0
    CannotStart contents places = (x : Node R Layout) → IsContents join s contents x → are_spelled join s layouts x (map part_of places) ≡ false

    -- whatever walks they are, the answer made this of them
    abbrev pub WalksOn : Sender → Contents S R → Walks → Walks → Answer → List (Envelope R) → List (Envelope R) → Bool → Type 0
    WalksOn sender contents old new a old_out new_out is_same =
        (x : Node R Layout) (walks : List Walk) → Sends sender contents x → AreWalks old walks → Walked sender new old_out new_out is_same (outcome join s x sender.round a walks)

    -- some row has no spelling for that
    abbrev pub CannotWalk : Sender → Contents S R → Walks → Answer → Type 0
    CannotWalk sender contents old a = (x : Node R Layout) (walks : List Walk) → Sends sender contents x → AreWalks old walks → (outcome join s x sender.round a walks).is_spelled ≡ false

    -- the same of a repair or a complete round
    abbrev pub WalksLate : Sender → Contents S R → Option Mended → Option Mended → Answer → List (Envelope R) → List (Envelope R) → Bool → Type 0
    WalksLate sender contents old new a old_out new_out taken =
        (x : Node R Layout) (m : Option Mending) → Sends sender contents x → AreMended old m → WalkedLate sender new old_out new_out taken m (mended x sender.round a m)

    -- some row has no spelling for that
    abbrev pub CannotWalkLate : Sender → Contents S R → Option Mended → Answer → Type 0
    CannotWalkLate sender contents old a = (x : Node R Layout) (m : Option Mending) → Sends sender contents x → AreMended old m → (mended x sender.round a m).is_spelled ≡ false
