-- The events of a schedule are meant, as are all that its grammar allows.
use Rattle.std.specs.Prelude.{IsTrue}
use Rattle.std.proofs.Common.{◌≡◌, ◌≤◌, ℕ, false, true, length, List, [], ◌∷◌, arith}
use Rattle.std.specs.List.{All}
use Rattle.std.proofs.lemmas.List.Elements.{All-from_recursion}
use Rattle.layout_roles.specs.declared.redundancy.Redundancy.TheVariants.{AtLeast, Maximum}
use Rattle.store_model.specs.declared.event.Event.{Event}
use Rattle.store_model.specs.declared.event.Event.TheVariants.{Trio, Block, Bucket, Role, Redundancy, Apply, Tick, Skew, Put, Get, Head, Delete, Copy, List as Keys, Deliver, Lose, Drain, Expire, Restart, Gossip, Ack, Sync, SyncAck, Clean, Work, Repair, Collect}
use Rattle.store_model.specs.declared.event.Numbered.{Numbered}
use Rattle.text_model.specs.Grammar.{IsAllowed, is_key}
use Rattle.text_model.specs.Reading.{IsSchedule}
use Rattle.text_model.specs.Played.{AreScheduled}
use Rattle.text_model.proofs.Schedules.{schedule_allowed}
use Rattle.s3_world.specs.Stands.{IsMeantEvent}

-- a key of a schedule isn't empty
key_has_bytes : (key : List ℕ) → IsTrue (is_key key) → 1 ≤ length key
key_has_bytes [] h = let no : false ≡ true = h in cc
key_has_bytes (b ∷ bs) h = omega arith

pub allowed_is_meant : (e : Event) → IsAllowed e → IsMeantEvent e
allowed_is_meant (Role n role) h = (h.0.0, omega arith)
allowed_is_meant (Redundancy (AtLeast r)) h = h
allowed_is_meant (Redundancy Maximum) h = tt
allowed_is_meant (Block size) h = omega (arith, h.0)
allowed_is_meant Trio h = tt
allowed_is_meant (Bucket name) h = tt
allowed_is_meant (Apply n) h = tt
allowed_is_meant (Tick ms) h = tt
allowed_is_meant (Skew n ms) h = tt
allowed_is_meant (Put n bucket key size fill) h = key_has_bytes key h.0.1.1
allowed_is_meant (Get n bucket key) h = tt
allowed_is_meant (Head n bucket key) h = tt
allowed_is_meant (Delete n bucket key) h = key_has_bytes key h.1.1
allowed_is_meant (Copy n from_bucket from_key bucket key) h = key_has_bytes key h.1.1
allowed_is_meant (Keys n bucket prefix) h = tt
allowed_is_meant (Deliver m) h = tt
allowed_is_meant (Lose m) h = tt
allowed_is_meant (Drain n) h = tt
allowed_is_meant (Expire q) h = tt
allowed_is_meant (Restart n) h = tt
allowed_is_meant (Gossip from to) h = tt
allowed_is_meant (Ack n) h = tt
allowed_is_meant (Sync n) h = tt
allowed_is_meant (SyncAck n) h = tt
allowed_is_meant (Clean n) h = tt
allowed_is_meant (Work n) h = tt
allowed_is_meant (Repair n) h = tt
allowed_is_meant (Collect n) h = tt

-- the events of a schedule are meant
pub schedule_is_meant : (input : List ℕ) (events : List Numbered) → IsSchedule input events → All (λ (e : Numbered). IsMeantEvent e.event) events
schedule_is_meant input events h k d lt = allowed_is_meant _ (schedule_allowed input events h k d lt)

-- and so are those of any list of events within the limits of a schedule
pub schedules_are_meant : (events : List Numbered) → AreScheduled events → All (λ (e : Numbered). IsMeantEvent e.event) events
schedules_are_meant events h k d lt = allowed_is_meant _ (All-from_recursion (λ (e : Numbered). IsAllowed e.event) events h.allowed k d lt)
