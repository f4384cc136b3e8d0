-- Worlds whose nodes, messages, requests and staged roles name places alone, and steps that do.
use Rattle.std.specs.Prelude.{ℕ, List, Option, Some, None, ⊤}
use Rattle.std.specs.List.{AllByRecursion}
use Rattle.layout_roles.specs.declared.role.Role.{Role}
use Rattle.cluster_machine.specs.declared.step.Step.{Step}
use Rattle.cluster_machine.specs.declared.step.Step.TheVariants.{Role as Stage, Gossip, Ack, Sync, SyncAck, Clean, Work, Repair, Collect, Open}
use Rattle.cluster_machine.specs.Layouts.{Layouts}
use Rattle.cluster_machine.specs.Node.{Part, Walk, Round, Mending, Node, Packet, says, shows, Post}
use Rattle.cluster_machine.specs.World.{Sent, Request, World}
use Rattle.cluster_machine.specs.Step.{Choice, given, none_given}

module _ (IsPlace : ℕ → Type 0) where
  -- the step is told to a place, or gives one a role
  abbrev pub StepNames : {R : Type 0} → Step R → Type 0
  StepNames (Stage n role) = IsPlace n
  StepNames (Gossip from to) = IsPlace from × IsPlace to
  StepNames (Ack n) = IsPlace n
  StepNames (Sync n) = IsPlace n
  StepNames (SyncAck n) = IsPlace n
  StepNames (Clean n) = IsPlace n
  StepNames (Work n) = IsPlace n
  StepNames (Repair n) = IsPlace n
  StepNames (Collect n) = IsPlace n
  StepNames (Open n) = IsPlace n
  StepNames _ = ⊤

  -- each of these roles is one of a place
  abbrev pub RolesName : List Role → Type 0
  RolesName roles = AllByRecursion (λ r. IsPlace r.node) roles

  -- a walk asks a place
  abbrev pub WalkNames : Walk → Type 0
  WalkNames w = IsPlace w.node

  -- a partition is moved to places
  abbrev pub PartNames : Part → Type 0
  PartNames part = AllByRecursion IsPlace part.set

  -- an open round
  pub record RoundNames (round : Round) : Type 0 where
    pub parts : AllByRecursion PartNames round.parts
    pub walks : AllByRecursion WalkNames round.walks

  -- the open round of a node, if there is one
  abbrev pub OpenNames : Option Round → Type 0
  OpenNames None = ⊤
  OpenNames (Some round) = RoundNames round

  -- a repair or a complete round, if there is one
  abbrev pub MendingNames : Option Mending → Type 0
  MendingNames None = ⊤
  MendingNames (Some mending) = AllByRecursion WalkNames mending.walks

  module _ {L : Type 0} (k : Layouts L) where
    -- the sets of a layout
    abbrev pub LayoutNames : L → Type 0
    LayoutNames l = AllByRecursion (AllByRecursion IsPlace) (k.reading.sets l)

    -- what is given to an apply
    abbrev pub ChoiceNames : {A C : Type 0} → Choice L A C → Type 0
    ChoiceNames (given l shown) = LayoutNames l
    ChoiceNames (none_given r) = ⊤

    -- a view on its way
    abbrev pub PacketNames : {R : Type 0} → Packet R L → Type 0
    PacketNames (says m) = ⊤
    PacketNames (shows v) = AllByRecursion LayoutNames v.layouts

    -- a node's view, rounds and repairs
    pub record NodeNames {R : Type 0} (x : Node R L) : Type 0 where
      pub layouts : AllByRecursion LayoutNames x.view.layouts
      pub round : OpenNames x.round
      pub mending : MendingNames x.mending
      pub lasting : MendingNames x.lasting

    -- a packet that a node sends
    pub record PostNames {R : Type 0} (p : Post R L) : Type 0 where
      pub to : IsPlace p.to
      pub packet : PacketNames p.packet

    -- a message
    pub record SentNames {R : Type 0} (x : Sent R L) : Type 0 where
      pub from : IsPlace x.from
      pub to : IsPlace x.to
      pub packet : PacketNames x.packet

    -- all that a world names, of nodes, are places
    pub record WorldNames {R : Type 0} (w : World R L) : Type 0 where
      pub nodes : (n : ℕ) → NodeNames (w.nodes n)
      pub messages : AllByRecursion SentNames w.messages
      pub requests : AllByRecursion (λ (r : Request). IsPlace r.coordinator) w.requests
      pub roles : RolesName w.roles
