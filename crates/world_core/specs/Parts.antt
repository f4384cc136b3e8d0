-- When the parts of the code stand for those of a world of the machine.
use Rattle.std.specs.Prelude.{◌≡◌, ◌⊎◌, ◌<◌, ◌≤◌, ◌+◌, ◌^◌, ℕ, suc, Bool, true, false, not, ◌&&◌, cond, Option, Some, None, is_some, is_none, List, [], ◌∷◌, ◌++◌, length, map, slice_get, slice_index_or, ⊤}
use Rattle.std.specs.List.{AllZip, AllByRecursion}
use Rattle.layout_roles.specs.declared.layout.Layout.{Layout}
use Rattle.layout_roles.specs.declared.cut.Cut.{Cut}
use Rattle.table_schema.specs.Words.{Words}
use Rattle.cluster_machine.specs.declared.line.SentKind.{SentKind}
use Rattle.cluster_machine.specs.declared.line.Line.TheVariants.{Sent as WasSent}
use Rattle.cluster_machine.specs.declared.step.Refusal.{Refusal}
use Rattle.cluster_machine.specs.declared.step.Refusal.TheVariants.{NoSuchMessage, Lost}
use Rattle.cluster_machine.specs.World as machine
use Rattle.cluster_machine.specs.World.{Sent, Mark, numbered, packet_size, sent_bytes}
use Rattle.cluster_machine.specs.Step.{kind_of as kind_told}
use Rattle.cluster_machine.specs.declared.line.Line.{Line}
use Rattle.node_parts.specs.declared.packet.Packet.{Packet}
use Rattle.node_parts.specs.declared.packet.Envelope.{Envelope}
use Rattle.node_parts.specs.Posts.{told}
use Rattle.cluster_machine.specs.declared.applied.Applied.{Applied}
use Rattle.world_core.specs.declared.clocks.Clocks.{Clocks}
use Rattle.world_core.specs.declared.requests.Request.{Request}
use Rattle.world_core.specs.declared.post.Slot.{Slot}
use Rattle.world_core.specs.declared.post.Post.{Post}

-- ---- requests

-- a request in the words of the machine
abbrev pub asked : Request → machine.Request
asked r = record { coordinator = r.coordinator; is_open = r.is_open }

-- ---- clocks

-- every clock is a u64
abbrev pub NoneLate : ℕ → (ℕ → ℕ) → Type 0
NoneLate time skew_of = (time < 2 ^ 64) × ((n : ℕ) → time + skew_of n < 2 ^ 64)

-- the time and each node's clock
pub record AreClocks (c : Clocks) (time : ℕ) (skew_of : ℕ → ℕ) : Type 0 where
  pub time_is : c.time ≡ time
  pub skews : (n : ℕ) → slice_index_or c.skews n 0 ≡ skew_of n
  pub none_late : NoneLate time skew_of

-- ---- messages

module _ {R : Type 0} where
  -- what kind of message a packet is
  abbrev pub kind_of : Packet R → SentKind
  kind_of packet = kind_told (told packet)

  -- a line for each message, the first of which has this number
  abbrev pub lines_from : ℕ → List (Envelope R) → List (Line Applied)
  lines_from number [] = []
  lines_from number (e ∷ es) = WasSent number (kind_of e.packet) e.from e.to ∷ lines_from (suc number) es

  -- the envelope is this message
  pub record IsSent (e : Envelope R) (m : Sent R Layout) : Type 0 where
    pub from : e.from ≡ m.from
    pub to : e.to ≡ m.to
    pub packet : told e.packet ≡ m.packet

  -- the envelopes are these messages, in order
  abbrev pub AreSent : List (Envelope R) → List (Sent R Layout) → Type 0
  AreSent es ms = AllZip IsSent es ms

  -- what is marked of a message
  abbrev pub mark_of : Slot R → Mark
  mark_of slot = record { is_delivered = slot.is_delivered; is_lost = is_none slot.envelope }

  -- the message waits to be delivered
  abbrev pub is_waiting : Slot R → Bool
  is_waiting slot = not slot.is_delivered && is_some slot.envelope

  -- a delivered message counts as lost
  abbrev pub forgotten : Slot R → Slot R
  forgotten slot = cond slot.is_delivered (record { envelope = None; is_delivered = slot.is_delivered }) slot

  -- a message that wasn't lost is held
  abbrev pub IsHeldIn : Option (Envelope R) → Sent R Layout → Type 0
  IsHeldIn None m = ⊤
  IsHeldIn (Some e) m = IsSent e m

  -- the slot holds this message, or it is lost
  abbrev pub IsHeld : Slot R → Sent R Layout → Type 0
  IsHeld slot m = IsHeldIn slot.envelope m

  -- none of the first n messages waits
  abbrev pub AreGone : List (Slot R) → ℕ → Type 0
  AreGone slots n = (i : ℕ) (slot : Slot R) → i < n → slice_get slots i ≡ Some slot → is_waiting slot ≡ false

  -- the message is lost
  abbrev pub IsOver : Slot R → Type 0
  IsOver slot = slot.envelope ≡ None

  -- the first message that waits stands here, or none waits and this is the end
  pub record IsFirst (slots : List (Slot R)) (n : ℕ) : Type 0 where
    pub within : n ≤ length slots
    pub before : AreGone slots n
    pub here : (slot : Slot R) → slice_get slots n ≡ Some slot → is_waiting slot ≡ true

  -- the post counts all messages and their bytes, and has the slots of all but the first ones, which are lost; those had the slots `over`
  pub record IsPost (s : Words R) (post : Post R) (messages : List (Sent R Layout)) (marks : List Mark) : Type 0 where
    pub over : List (Slot R)
    pub lost : AllByRecursion IsOver over
    pub marks_are : map mark_of (over ++ post.slots.items) ≡ marks
    pub held : AllZip IsHeld (over ++ post.slots.items) messages
    pub first : IsFirst post.slots.items post.first
    pub sent : length messages ≡ post.sent
    pub bytes : sent_bytes s messages ≡ Some post.bytes
    pub few : length messages < 2 ^ 64
    pub small : post.bytes < 2 ^ 64

  -- the slot of the message with this number stands here; the slots are those of the last messages
  pub record IsPlace (post : Post R) (number place : ℕ) : Type 0 where
    pub within : place < length post.slots.items
    pub at : number + length post.slots.items ≡ suc (post.sent + place)

  -- the message with this number was never sent, or is one of those before all slots
  abbrev pub HasNoPlace : Post R → ℕ → Type 0
  HasNoPlace post number = (post.sent < number) ⊎ (number + length post.slots.items ≤ post.sent)

  -- messages that were just sent
  abbrev pub not_yet : List (Sent R Layout) → List Mark
  not_yet sent = map (λ m. record { is_delivered = false; is_lost = false }) sent

  -- how many bytes a packet counts
  abbrev pub packet_bytes : Words R → Packet R → Option ℕ
  packet_bytes s packet = packet_size s (told packet)

  -- the message with this number, which wasn't lost; or why there is none
  pub record IsFound (number : ℕ) (messages : List (Sent R Layout)) (marks : List Mark) (e : Envelope R) : Type 0 where
    pub message : Sent R Layout
    pub mark : Mark
    pub is_there : numbered messages number ≡ Some message
    pub is_marked : numbered marks number ≡ Some mark
    pub not_lost : mark.is_lost ≡ false
    pub is : IsSent e message

  -- the message was sent and is lost
  pub record IsLost (number : ℕ) (messages : List (Sent R Layout)) (marks : List Mark) : Type 0 where
    pub message : Sent R Layout
    pub mark : Mark
    pub is_there : numbered messages number ≡ Some message
    pub is_marked : numbered marks number ≡ Some mark
    pub lost : mark.is_lost ≡ true

  -- why a message can't be delivered: it was never sent, or is lost
  abbrev pub IsMissing : ℕ → List (Sent R Layout) → List Mark → Refusal Cut → Type 0
  IsMissing number messages marks NoSuchMessage = numbered messages number ≡ None
  IsMissing number messages marks Lost = IsLost number messages marks
  IsMissing number messages marks _ = ⊥
