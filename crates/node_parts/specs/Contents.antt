-- When the rows, the outbox and the blocks of the code stand for those of a node of the model, and what is done to them.
use Rattle.std.specs.Prelude.{◌≡◌, ◌<◌, ◌^◌, ◌==◌, ℕ, Bool, IsTrue, Option, Some, List, All, count_by, length}
use Rattle.std.specs.List.{AllZip, filter, find, flat_map}
use Rattle.blake2_hash.specs.declared.digest.Hash32.{Hash32}
use Rattle.block_store.specs.Contents.{Contents as Kept, block_at as kept_at, live_count, note_at}
use Rattle.layout_roles.specs.declared.layout.Layout.{Layout}
use Rattle.layout_history.specs.declared.view.View.{View}
use Rattle.layout_history.specs.Views.{known}
use Rattle.table_schema.specs.Words.{Words, partition_of}
use Rattle.table_model.specs.Rows.{AllProper, rows}
use Rattle.quorum_model.specs.Quorum.{is_among}
use Rattle.block_resync.specs.declared.item.Item.{Item}
use Rattle.cluster_machine.specs.Node.{Node, Item as Waiting, Block, Note}
use Rattle.cluster_machine.specs.Ties as ties
use Rattle.cluster_machine.specs.Phases.{is_spelled}
use Rattle.cluster_machine.specs.Rows.{accepts_all, drops, block_at, count_of, note_of}
use Rattle.cluster_machine.specs.Receives.{item_came}
use Rattle.cluster_machine.specs.Acts.{item_posts, is_due}
use Rattle.node_parts.specs.declared.contents.Contents.{Contents}
use Rattle.node_parts.specs.declared.packet.Envelope.{Envelope}
use Rattle.cluster_machine.specs.Layouts.{layouts}
use Rattle.node_parts.specs.Posts.{Posts}

-- the item has the row's bytes and partition, and the same nodes have confirmed it
pub record IsItem {R : Type 0} (s : Words R) (i : Item) (m : Waiting R) : Type 0 where
  pub number : i.number ≡ m.number
  pub row : s.spelling m.row ≡ Some i.row
  pub partition : i.partition ≡ partition_of s m.row
  pub confirmed : (n : ℕ) → is_among n i.confirmed ≡ is_among n m.confirmed

-- the item with this number
abbrev pub item_at : {R : Type 0} → List (Waiting R) → ℕ → Option (Waiting R)
item_at ms number = find (λ m. m.number == number) ms

-- the code's blocks are those of a node with these rows, blocks and notes
pub record AreBlocks {R : Type 0} (join : R → R → R) (s : Words R) (kept : Kept) (accepted : List R) (there : List Block) (noted : List Note) : Type 0 where
  -- the same bytes under each hash
  pub bytes : (h : Hash32) → kept_at kept h ≡ block_at there h.0
  -- as many live references to each block as the node's rows have
  pub counts : (h : Hash32) → live_count kept h ≡ count_of join s accepted h.0
  -- the same moment when the last of them ended
  pub notes : (h : Hash32) → note_at kept h ≡ note_of noted h.0
  -- whatever is asked of a hash, as many blocks have such a hash
  pub number : (test : List ℕ → Bool) → count_by (λ b. test b.0.0) kept.blocks ≡ count_by (λ b. test b.hash) there

-- the table has the rows of the node, the outbox its items, and the blocks are its blocks
pub record IsContents {S R : Type 0} (join : R → R → R) (s : Words R) (c : Contents S R) (x : Node R Layout) : Type 0 where
  pub proper : AllProper s x.accepted
  pub table : c.table ≡ rows join s x.accepted
  pub items : AllZip (IsItem s) c.outbox.items x.items
  pub queued : c.outbox.pushed ≡ x.queued
  pub blocks : AreBlocks join s c.blocks x.accepted x.blocks x.notes

-- x became y, and its view, its requests, its rounds, its walks and its collections stayed as they were
pub record KeepsRest {R : Type 0} (x y : Node R Layout) : Type 0 where
  pub view : y.view ≡ x.view
  pub calls : y.calls ≡ x.calls
  pub round : y.round ≡ x.round
  pub rounds : y.rounds ≡ x.rounds
  pub mending : y.mending ≡ x.mending
  pub lasting : y.lasting ≡ x.lasting
  pub gc : y.gc ≡ x.gc

-- x became y, which has these contents
pub record Became {S R : Type 0} (join : R → R → R) (s : Words R) (c : Contents S R) (x y : Node R Layout) : Type 0 where
  pub contents : IsContents join s c y
  pub rest : KeepsRest x y

-- each row that waits has a spelling, and their count a number
pub record Holds {R : Type 0} (s : Words R) (x : Node R Layout) : Type 0 where
  pub spelled : All (λ (m : Waiting R). IsTrue (is_spelled s m.row)) x.items
  pub queued : x.queued < 2 ^ 64

module _ {S R : Type 0} (join : R → R → R) (s : Words R) where
  -- whatever node the contents stood for, they stand for the one that f leaves
  abbrev pub Turns : Contents S R → Contents S R → (Node R Layout → Node R Layout) → Type 0
  Turns old new f = ties.Steps (IsContents join s) old (λ x. Became join s new x (f x))

  -- the node that f leaves has too much for the code
  abbrev pub Exceeds : Contents S R → (Node R Layout → Node R Layout) → Type 0
  Exceeds old f = ties.Overflows (IsContents join s) old (λ x. Holds s (f x))

  -- the contents took these rows with their blocks, at this moment
  abbrev pub Accepts : Contents S R → Contents S R → ℕ → List (List ℕ × Option (List ℕ)) → Type 0
  Accepts old new now stored = Turns old new (λ x. accepts_all join s now x stored)

  -- the contents can't take these rows
  abbrev pub CannotAccept : Contents S R → ℕ → List (List ℕ × Option (List ℕ)) → Type 0
  CannotAccept old now stored = Exceeds old (λ x. accepts_all join s now x stored)

  -- the node drops what its stored sets don't give it
  abbrev pub Drops : Contents S R → Contents S R → View → ℕ → ℕ → Type 0
  Drops old new view node now = (x : Node R Layout) → known view ≡ x.view → IsContents join s old x → Became join s new x (drops join s layouts node now x)

  -- this many blocks of the node are due
  abbrev pub CountsDue : Contents S R → ℕ → ℕ → Type 0
  CountsDue c now number = ties.Steps (IsContents join s) c (λ x. number ≡ length (filter (λ b. is_due join s now x b.hash) x.blocks))

  -- a node confirms an item
  abbrev pub Confirms : Contents S R → Contents S R → View → ℕ → ℕ → Type 0
  Confirms old new view number node = (x : Node R Layout) → known view ≡ x.view → IsContents join s old x → IsContents join s new (record x { items = item_came join s layouts x.view node number x.items })

  -- the node sends its items
  abbrev pub SendsItems : Contents S R → View → ℕ → List (Envelope R) → List (Envelope R) → Type 0
  SendsItems c view node old new = (x : Node R Layout) → known view ≡ x.view → IsContents join s c x → Posts node old new (flat_map (item_posts join s layouts x.view) x.items)
