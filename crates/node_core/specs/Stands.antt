-- When a node of the code stands for a node of the model, and when a call does what the model says.
use Rattle.std.specs.Prelude.{◌≡◌, ◌<◌, ◌^◌, ℕ, true, leb, IsTrue, IsSome, Option, None, Some, List, [], ◌∷◌, ⊤}
use Rattle.std.specs.List.{AllByRecursion}
use Rattle.layout_roles.specs.declared.layout.Layout.{Layout}
use Rattle.layout_history.specs.Views.{known}
use Rattle.view_model.specs.Layouts.{reading}
use Rattle.view_model.specs.View.{View, newest}
use Rattle.table_schema.specs.Words.{Words}
use Rattle.wire_messages.specs.declared.phase.Phase.{Phase}
use Rattle.wire_messages.specs.declared.phase.PhaseEnd.{PhaseEnd}
use Rattle.cluster_machine.specs.declared.step.LocalEnd.{LocalEnd}
use Rattle.cluster_machine.specs.Node.{Node as Model, Call as Opened, Post, Ended, Did, quiet}
use Rattle.cluster_machine.specs.Ties as ties
use Rattle.cluster_machine.specs.Phases.{begins}
use Rattle.cluster_machine.specs.Acts.{Acted}
use Rattle.cluster_machine.specs.World.{packet_size}
use Rattle.node_core.specs.declared.node.Node.{Node}
use Rattle.node_parts.specs.declared.packet.Envelope.{Envelope}
use Rattle.node_parts.specs.declared.sender.Sender.{Sender}
use Rattle.cluster_machine.specs.Layouts.{layouts}
use Rattle.node_parts.specs.Posts.{Posts}
use Rattle.node_parts.specs.Calls.{AreCalls}
use Rattle.node_parts.specs.Contents.{IsContents, Holds}
use Rattle.node_parts.specs.Rounds.{AreRounds}
use Rattle.node_parts.specs.Sends.{AreMended}

-- where a request is open a version is stored
abbrev pub HasVersion : {R : Type 0} → View Layout → List (Opened R) → Type 0
HasVersion v [] = ⊤
HasVersion v (c ∷ cs) = IsTrue (leb 1 (newest reading v))

-- what the node knows of the versions
abbrev pub view_of : {S R : Type 0} → Node S R → View Layout
view_of node = known node.view

-- the delete marker that is to be handed out
abbrev pub dropped_of : {S R : Type 0} → Node S R → Option (ℕ × ℕ)
dropped_of node = node.dropped

-- what the node sends in a round or a repair with this number
abbrev pub sender_of : {S R : Type 0} → Node S R → ℕ → Sender
sender_of node round = record { node = node.id; newest = newest reading (known node.view); round = round; alloc = node.alloc }

-- the code's node is this node of the model
pub record StandsFor {S R : Type 0} (join : R → R → R) (s : Words R) (c : Node S R) (id : ℕ) (x : Model R Layout) : Type 0 where
  pub id_is : c.id ≡ id
  pub view : known c.view ≡ x.view
  pub contents : IsContents join s c.contents x
  pub calls : AreCalls c.calls x.calls
  pub rounds : AreRounds id c.rounds x.round x.rounds x.mending x.lasting
  pub gc : c.gc ≡ x.gc
  pub has_version : HasVersion x.view x.calls

-- the same, whatever round is open
pub record StandsApart {S R : Type 0} (join : R → R → R) (s : Words R) (c : Node S R) (id : ℕ) (x : Model R Layout) : Type 0 where
  pub id_is : c.id ≡ id
  pub view : known c.view ≡ x.view
  pub contents : IsContents join s c.contents x
  pub calls : AreCalls c.calls x.calls
  pub begun : c.rounds.begun ≡ x.rounds
  pub mending_is : AreMended c.rounds.mending x.mending
  pub lasting_is : AreMended c.rounds.lasting x.lasting
  pub gc : c.gc ≡ x.gc
  pub has_version : HasVersion x.view x.calls

-- the same of a node whose view has just become v
pub record StandsButView {S R : Type 0} (join : R → R → R) (s : Words R) (c : Node S R) (id : ℕ) (x : Model R Layout) (v : View Layout) : Type 0 where
  pub id_is : c.id ≡ id
  pub view : known c.view ≡ v
  pub contents : IsContents join s c.contents x
  pub calls : AreCalls c.calls x.calls
  pub rounds : AreRounds id c.rounds x.round x.rounds x.mending x.lasting
  pub gc : c.gc ≡ x.gc
  pub has_version : HasVersion v x.calls

-- a request, and how its phase ended, where one did
abbrev pub ends_of : {R : Type 0} → Option (ℕ × PhaseEnd R) → List (Ended R)
ends_of None = []
ends_of (Some e) = record { request = e.0; how = e.1 } ∷ []

-- the size of each packet is a number
abbrev pub AreSized : {R : Type 0} → Words R → List (Post R Layout) → Type 0
AreSized s posts = AllByRecursion (λ p. IsSome (packet_size s p.packet)) posts

-- the node stands for the one that d leaves, and d's messages were sent. That each row sent has a spelling shows in the sizes
pub record Done {S R : Type 0} (join : R → R → R) (s : Words R) (new : Node S R) (id : ℕ) (old_out new_out : List (Envelope R)) (given : Option (ℕ × PhaseEnd R)) (d : Did R Layout) : Type 0 where
  pub stands : StandsFor join s new id d.node
  pub posts : Posts id old_out new_out d.posts
  pub ends : d.ends ≡ ends_of given
  pub spelled : AreSized s d.posts → d.is_spelled ≡ true

-- what d leaves and sends has numbers and bytes in the code
pub record Fits {R : Type 0} (s : Words R) (d : Did R Layout) : Type 0 where
  pub items : Holds s d.node
  pub rounds : d.node.rounds < 2 ^ 64
  pub collections : d.node.gc.begun < 2 ^ 64
  pub phases : AllByRecursion (λ (c : Opened R). c.phases < 2 ^ 32) d.node.calls
  pub spelled : IsTrue d.is_spelled

module _ {S R : Type 0} (join : R → R → R) (s : Words R) where
  -- whatever node the code's node stood for, the call did what f does to it
  abbrev pub Does : Node S R → Node S R → List (Envelope R) → List (Envelope R) → Option (ℕ × PhaseEnd R) → (ℕ → Model R Layout → Did R Layout) → Type 0
  Does old new old_out new_out given f = (id : ℕ) → ties.Steps (λ v x. StandsFor join s v id x) old (λ x. Done join s new id old_out new_out given (f id x))

  -- the row that f drops, if it does, has this delete marker
  abbrev pub HasDropped : Node S R → Option (ℕ × ℕ) → (ℕ → Model R Layout → Did R Layout) → Type 0
  HasDropped old dropped f = (id : ℕ) → ties.Steps (λ v x. StandsFor join s v id x) old (λ x. dropped ≡ (f id x).dropped)

  -- the call did what f does, and the row that it dropped had this delete marker
  abbrev pub Drops : Node S R → Node S R → List (Envelope R) → List (Envelope R) → Option (ℕ × ℕ) → (ℕ → Model R Layout → Did R Layout) → Type 0
  Drops old new old_out new_out dropped f = Does old new old_out new_out None f × HasDropped old dropped f

  -- the same of an action, which ends so
  abbrev pub Acts : Node S R → Node S R → List (Envelope R) → List (Envelope R) → LocalEnd → (ℕ → Model R Layout → Acted R Layout) → Type 0
  Acts old new old_out new_out how f = (id : ℕ) → ties.Steps (λ v x. StandsFor join s v id x) old (λ x. Done join s new id old_out new_out None (f id x).did × (how ≡ (f id x).how))

  -- the same of a change without messages
  abbrev pub Becomes : Node S R → Node S R → (ℕ → Model R Layout → Model R Layout) → Type 0
  Becomes old new f = (id : ℕ) → ties.Steps (λ v x. StandsFor join s v id x) old (λ x. StandsFor join s new id (f id x))

  -- after what f does some number or row would not fit
  abbrev pub Overflows : Node S R → (ℕ → Model R Layout → Did R Layout) → Type 0
  Overflows old f = (id : ℕ) → ties.Overflows (λ v x. StandsFor join s v id x) old (λ x. Fits s (f id x))

-- a phase of an open request begins; of another one none does
abbrev pub begins_at : {R : Type 0} → Words R → List R → Model R Layout → Phase R → Option (Opened R) → Did R Layout
begins_at s kept x phase None = quiet x
begins_at s kept x phase (Some c) = begins s layouts kept x c phase
