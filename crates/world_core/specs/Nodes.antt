-- When the nodes of the code stand for those of a world, and what is done at one of them.
use Rattle.std.specs.Prelude.{◌≡◌, ℕ, Bool, true, false, cond, length, option_map, Option, Some, None, List}
use Rattle.std.specs.Ordering.{nat_cmp}
use Rattle.std.specs.BTreeMap.{get}
use Rattle.layout_roles.specs.declared.layout.Layout.{Layout}
use Rattle.layout_trackers.specs.declared.which.Which.TheVariants.{Sync}
use Rattle.layout_trackers.specs.Trackers.{counts}
use Rattle.view_model.specs.Layouts.{reading}
use Rattle.layout_history.specs.Views.{known}
use Rattle.view_model.specs.View.{newest, appended}
use Rattle.quorum_model.specs.Quorum.{is_among}
use Rattle.table_schema.specs.Words.{Words}
use Rattle.table_model.specs.Rows.{rows}
use Rattle.table_model.specs.Top.{top}
use Rattle.wire_messages.specs.declared.phase.PhaseEnd.{PhaseEnd}
use Rattle.cluster_machine.specs.declared.step.LocalEnd.{LocalEnd}
use Rattle.cluster_machine.specs.Layouts.{has_none, is_member, layouts}
use Rattle.cluster_machine.specs.Node.{Node as Model, Did, new_node}
use Rattle.cluster_machine.specs.Ties as ties
use Rattle.cluster_machine.specs.Phases.{opened}
use Rattle.cluster_machine.specs.World as machine
use Rattle.cluster_machine.specs.Acts.{Acted, appends}
use Rattle.cluster_machine.specs.Step.{only, changed}
use Rattle.node_parts.specs.declared.packet.Envelope.{Envelope}
use Rattle.node_parts.specs.Posts.{Posts}
use Rattle.node_core.specs.declared.node.Node.{Node}
use Rattle.node_core.specs.Stands.{StandsFor, AreSized, ends_of, Fits, view_of}
use Rattle.world_core.specs.declared.node_line.NodeLine.{NodeLine}
use Rattle.world_core.specs.declared.nodes.Nodes.{Nodes}
use Rattle.world_core.specs.declared.first.Prepared.{Prepared}

-- a node that nothing happened to is a new one
abbrev pub IsNodeAt : {S R : Type 0} → (R → R → R) → Words R → Option (Node S R) → ℕ → Model R Layout → Type 0
IsNodeAt join s None n x = x ≡ new_node
IsNodeAt join s (Some c) n x = StandsFor join s c n x

-- each node of the code is that of the world
abbrev pub AreNodes : {S R : Type 0} → (R → R → R) → Words R → Nodes S R → (ℕ → Model R Layout) → Type 0
AreNodes join s nodes xs = (n : ℕ) → IsNodeAt join s (get nat_cmp nodes.by_number n) n (xs n)

-- whatever nodes these stand for, this is what node n has as its own sync entry
abbrev pub IsSyncAt : {S R : Type 0} → (R → R → R) → Words R → Nodes S R → ℕ → ℕ → Type 0
IsSyncAt {S} {R} join s nodes n sync = (xs : ℕ → Model R Layout) → AreNodes join s nodes xs → sync ≡ counts 0 Sync (xs n).view.trackers n

-- the newest version that node n knows
abbrev pub newest_of : {S R : Type 0} → Option (Node S R) → ℕ
newest_of None = 0
newest_of (Some c) = newest reading (view_of c)

-- the newest version that node n knows
abbrev pub newest_in : {S R : Type 0} → Nodes S R → ℕ → ℕ
newest_in nodes n = newest_of (get nat_cmp nodes.by_number n)

-- each node that is there stays as it is
abbrev pub StayThere : {S R : Type 0} → Nodes S R → Nodes S R → Type 0
StayThere {S} {R} old new = (n : ℕ) (c : Node S R) → Some c ≡ get nat_cmp old.by_number n → Some c ≡ get nat_cmp new.by_number n

-- no node knows a layout version
abbrev pub KnowNone : {S R : Type 0} → (R → R → R) → Words R → Nodes S R → Type 0
KnowNone {S} {R} join s nodes = (xs : ℕ → Model R Layout) × AreNodes join s nodes xs × ((n : ℕ) → newest reading (xs n).view ≡ 0)

-- these nodes with the layout as one version more, and the others as they were
abbrev pub given_to : {R : Type 0} → List ℕ → Layout → (ℕ → Model R Layout) → ℕ → Model R Layout
given_to nodes first xs n = cond (is_among n nodes) (appends layouts (xs n) first) (xs n)

-- the node is there and knows no version, and this is its view with the layout as its first
pub record IsPrepared {S R : Type 0} (nodes : Nodes S R) (first : Layout) (one : Prepared) : Type 0 where
  pub node : Node S R
  pub there : Some node ≡ get nat_cmp nodes.by_number one.node
  pub none : newest reading (view_of node) ≡ 0
  pub view : known one.view ≡ appended reading (view_of node) first

-- the nodes with another one in the place of node n
abbrev pub with_node : {R : Type 0} → ℕ → Model R Layout → (ℕ → Model R Layout) → ℕ → Model R Layout
with_node n x xs = changed (only n x) xs

-- node n became the one that d leaves, and sent its messages. That each row sent has a spelling shows in the sizes
pub record DidAt {S R : Type 0} (join : R → R → R) (s : Words R) (new : Nodes S R) (n : ℕ) (xs : ℕ → Model R Layout) (old_out new_out : List (Envelope R)) (given : Option (ℕ × PhaseEnd R)) (d : Did R Layout) : Type 0 where
  pub nodes : AreNodes join s new (with_node n d.node xs)
  pub posts : Posts n old_out new_out d.posts
  pub ends : d.ends ≡ ends_of given
  pub spelled : AreSized s d.posts → d.is_spelled ≡ true

module _ {S R : Type 0} (join : R → R → R) (s : Words R) where
  -- whatever nodes they stood for, node n did what f does
  abbrev pub DoesAt : Nodes S R → Nodes S R → ℕ → List (Envelope R) → List (Envelope R) → Option (ℕ × PhaseEnd R) → (Model R Layout → Did R Layout) → Type 0
  DoesAt old new n old_out new_out given f = ties.Steps (AreNodes join s) old (λ xs. DidAt join s new n xs old_out new_out given (f (xs n)))

  -- node n acts as the model says, and answers so
  abbrev pub ActsAt : Nodes S R → Nodes S R → ℕ → List (Envelope R) → List (Envelope R) → LocalEnd → (Model R Layout → Acted R Layout) → Type 0
  ActsAt old new n old_out new_out how f = ties.Steps (AreNodes join s) old (λ xs. DidAt join s new n xs old_out new_out None (f (xs n)).did × (how ≡ (f (xs n)).how))

  -- node n became this, and the others stay
  abbrev pub BecomesAt : Nodes S R → Nodes S R → ℕ → (Model R Layout → Model R Layout) → Type 0
  BecomesAt old new n f = ties.Steps (AreNodes join s) old (λ xs. AreNodes join s new (with_node n (f (xs n)) xs))

  -- the row that node n dropped in what f does, if it did, has this delete marker
  abbrev pub DropsAt : Nodes S R → ℕ → Option (ℕ × ℕ) → (Model R Layout → Did R Layout) → Type 0
  DropsAt old n dropped f = ties.Steps (AreNodes join s) old (λ xs. dropped ≡ (f (xs n)).dropped)

  -- after what f does some number or row would not fit
  abbrev pub OverflowsAt : Nodes S R → ℕ → (Model R Layout → Did R Layout) → Type 0
  OverflowsAt old n f = ties.Overflows (AreNodes join s) old (λ xs. Fits s (f (xs n)))

-- a line in the words of the machine
abbrev pub shown_line : NodeLine → machine.NodeLine
shown_line line = record { node = line.node; rows = line.rows; blocks = line.blocks; top = line.top.0 }

-- what a node shows of itself, none where it knows no version
abbrev pub line_of : {R : Type 0} → (R → R → R) → Words R → ℕ → Model R Layout → Option machine.NodeLine
line_of join s n x =
    let there = rows join s x.accepted in
    cond (has_none layouts x.view) None (Some (record { node = n; rows = length there; blocks = length x.blocks; top = top s there }))

-- the line is that of this node
abbrev pub IsLineOf : {R : Type 0} → (R → R → R) → Words R → ℕ → Model R Layout → Option NodeLine → Type 0
IsLineOf join s n x line = option_map shown_line line ≡ line_of join s n x

-- a request began at node n where it is a member; else nothing changed
abbrev pub Opens : {S R : Type 0} → (R → R → R) → Words R → Nodes S R → ℕ → ℕ → (ℕ → Model R Layout) → Bool → Type 0
Opens join s new n request xs true = (is_member layouts (xs n).view n ≡ true) × AreNodes join s new (with_node n (opened request (newest reading (xs n).view) (xs n)) xs)
Opens join s new n request xs false = (is_member layouts (xs n).view n ≡ false) × AreNodes join s new xs
