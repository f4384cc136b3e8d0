-- What an event leaves in the records of requests, and what its lines tell of keys.
use Rattle.std.proofs.Common.{◌≡◌, ℕ, Bool, true, None, List, [], ◌∷◌, map, refl}
use Rattle.std.specs.Prelude.{IsTrue}
use Rattle.std.specs.List.{AllByRecursion}
use Rattle.crdt_rows.specs.declared.any_row.AnyRow.{AnyRow}
use Rattle.cluster_machine.specs.declared.step.Step.{Step}
use Rattle.cluster_machine.specs.declared.step.Step.TheVariants as step
use Rattle.cluster_machine.specs.Choices.{Decision}
use Rattle.cluster_machine.specs.Worlds.{Done as Effect}
use Rattle.history_model.specs.declared.record.Cause.{Cause}
use Rattle.history_model.specs.declared.record.Record.TheVariants.{Ended}
use Rattle.flow_model.specs.declared.order.Order.TheVariants as order
use Rattle.store_model.specs.declared.event.Event.{Event}
use Rattle.store_model.specs.declared.event.Event.TheVariants.{Trio, Block, Bucket, Role as Stage, Redundancy, Apply, Tick, Skew, Put, Get, Head, Delete, Copy, List as Keys, Deliver, Lose, Drain, Expire, Restart, Gossip, Ack, Sync, SyncAck, Clean, Work, Repair, Collect}
use Rattle.store_model.specs.Run.{Moving, State, plainly, effect}
use Rattle.store_model.specs.Acts.{endings, plain}
use Rattle.store_model.specs.Events.{object_bytes, outcome}
use Rattle.text_model.specs.Grammar.{is_key, IsAllowed}
use Rattle.store_laws.proofs.Deeds.{Deed}
use Rattle.store_laws.proofs.Every.{EveryWorld}
use Rattle.store_laws.proofs.Sound.{IsSound}
use Rattle.store_laws.proofs.Hashing.{FitIn}
use Rattle.cluster_machine.specs.declared.applied.Applied.{Applied}
use Rattle.cluster_machine.specs.declared.line.Line.{Line}
use Rattle.cluster_machine.specs.declared.line.Line.TheVariants.{Listed as Shown}
use Rattle.audit_runs.proofs.Telling.{GivenTells, HasPlain, step_tells}
use Rattle.audit_runs.proofs.Keys.{AreOfKeys, and_keyed, begins_keyed, delivers_keyed, drains_keyed, begins_whole, delivers_whole, drains_whole}

module _ (test : List ℕ → Bool) where
  all_ended : (cause : Cause) (qs : List ℕ) → AreOfKeys test (map (λ q. Ended q cause) qs)
  all_ended cause [] = tt
  all_ended cause (q ∷ qs) = (tt, all_ended cause qs)

  endings_keyed : (st : Step AnyRow) (e : Effect AnyRow) → AreOfKeys test (endings st e)
  endings_keyed (step.Expire q) e = all_ended _ e.closes
  endings_keyed (step.Restart n) e = all_ended _ e.lost
  endings_keyed _ e = tt

  plain_keyed : (s : State) (m : Moving) → AreOfKeys test s.history → AreOfKeys test (plain s m).state.history
  plain_keyed s m h = and_keyed test s.history (endings m.step (effect s m)) h (endings_keyed m.step (effect s m))

  -- requests that begin are of keys that the grammar allows, and these are such keys
  pub event_keyed : ((key : List ℕ) → IsTrue (is_key key) → test key ≡ true) → (s : State) (e : Event) (c : Decision) → IsAllowed e → AreOfKeys test s.history → AreOfKeys test (outcome s e c).state.history
  event_keyed allows s Trio c allowed h = plain_keyed s (plainly step.Trio) h
  event_keyed allows s (Block size) c allowed h = h
  event_keyed allows s (Bucket name) c allowed h = h
  event_keyed allows s (Stage n role) c allowed h = plain_keyed s (plainly (step.Role n role)) h
  event_keyed allows s (Redundancy wanted) c allowed h = plain_keyed s (plainly (step.Redundancy wanted)) h
  event_keyed allows s (Apply n) c allowed h = plain_keyed s (record { step = step.Apply n; choice = c }) h
  event_keyed allows s (Tick ms) c allowed h = plain_keyed s (plainly (step.Tick ms)) h
  event_keyed allows s (Skew n ms) c allowed h = plain_keyed s (plainly (step.Skew n ms)) h
  event_keyed allows s (Put n bucket key size fill) c allowed h = begins_keyed test s n (order.Put bucket key (object_bytes size fill) []) (λ w. allows key allowed.0.1.1) h
  event_keyed allows s (Get n bucket key) c allowed h = begins_keyed test s n (order.Get bucket key) (λ w. cc) h
  event_keyed allows s (Head n bucket key) c allowed h = begins_keyed test s n (order.Head bucket key) (λ w. cc) h
  event_keyed allows s (Delete n bucket key) c allowed h = begins_keyed test s n (order.Delete bucket key) (λ w. cc) h
  event_keyed allows s (Copy n from_bucket from_key bucket key) c allowed h = begins_keyed test s n (order.Copy from_bucket from_key bucket key None) (λ w. allows key allowed.1.1) h
  event_keyed allows s (Keys n bucket prefix) c allowed h = begins_keyed test s n (order.List bucket prefix) (λ w. cc) h
  event_keyed allows s (Deliver m) c allowed h = delivers_keyed test s m h
  event_keyed allows s (Lose m) c allowed h = plain_keyed s (plainly (step.Lose m)) h
  event_keyed allows s (Drain n) c allowed h = drains_keyed test n s h
  event_keyed allows s (Expire q) c allowed h = plain_keyed s (plainly (step.Expire q)) h
  event_keyed allows s (Restart n) c allowed h = plain_keyed s (plainly (step.Restart n)) h
  event_keyed allows s (Gossip from to) c allowed h = plain_keyed s (plainly (step.Gossip from to)) h
  event_keyed allows s (Ack n) c allowed h = plain_keyed s (plainly (step.Ack n)) h
  event_keyed allows s (Sync n) c allowed h = plain_keyed s (plainly (step.Sync n)) h
  event_keyed allows s (SyncAck n) c allowed h = plain_keyed s (plainly (step.SyncAck n)) h
  event_keyed allows s (Clean n) c allowed h = plain_keyed s (plainly (step.Clean n)) h
  event_keyed allows s (Work n) c allowed h = plain_keyed s (plainly (step.Work n)) h
  event_keyed allows s (Repair n) c allowed h = plain_keyed s (plainly (step.Repair n)) h
  event_keyed allows s (Collect n) c allowed h = plain_keyed s (plainly (step.Collect n)) h

  module _ (P : Line Applied → Type 0) (other : HasPlain P) (told_list : (q : ℕ) (keys : List (List ℕ × ℕ × ℕ × ℕ)) → AllByRecursion (λ k. test k.0 ≡ true) keys → P (Shown q keys)) where
    -- of keys of such puts and copies alone, where an apply is given what has the property
    module _ {H : Deed → Type 0} (every : EveryWorld H) where
      pub event_tells : (s : State) (e : Event) (c d : Decision) → ((n : ℕ) → e ≡ Apply n → GivenTells P c) → FitIn H s.world (outcome s e d).moves → IsSound H s → AreOfKeys test s.history → AllByRecursion P (outcome s e c).lines
      event_tells s Trio c d given fits sound keyed = step_tells P other s.world step.Trio (plainly step.Trio).choice tt
      event_tells s (Block size) c d given fits sound keyed = tt
      event_tells s (Bucket name) c d given fits sound keyed = tt
      event_tells s (Stage n role) c d given fits sound keyed = step_tells P other s.world (step.Role n role) (plainly (step.Role n role)).choice tt
      event_tells s (Redundancy wanted) c d given fits sound keyed = step_tells P other s.world (step.Redundancy wanted) (plainly (step.Redundancy wanted)).choice tt
      event_tells s (Apply n) c d given fits sound keyed = step_tells P other s.world (step.Apply n) c (given n refl)
      event_tells s (Tick ms) c d given fits sound keyed = step_tells P other s.world (step.Tick ms) (plainly (step.Tick ms)).choice tt
      event_tells s (Skew n ms) c d given fits sound keyed = step_tells P other s.world (step.Skew n ms) (plainly (step.Skew n ms)).choice tt
      event_tells s (Put n bucket key size fill) c d given fits sound keyed = begins_whole test P other told_list s n (order.Put bucket key (object_bytes size fill) [])
      event_tells s (Get n bucket key) c d given fits sound keyed = begins_whole test P other told_list s n (order.Get bucket key)
      event_tells s (Head n bucket key) c d given fits sound keyed = begins_whole test P other told_list s n (order.Head bucket key)
      event_tells s (Delete n bucket key) c d given fits sound keyed = begins_whole test P other told_list s n (order.Delete bucket key)
      event_tells s (Copy n from_bucket from_key bucket key) c d given fits sound keyed = begins_whole test P other told_list s n (order.Copy from_bucket from_key bucket key None)
      event_tells s (Keys n bucket prefix) c d given fits sound keyed = begins_whole test P other told_list s n (order.List bucket prefix)
      event_tells s (Deliver m) c d given fits sound keyed = delivers_whole test P other told_list every s m fits sound keyed
      event_tells s (Lose m) c d given fits sound keyed = step_tells P other s.world (step.Lose m) (plainly (step.Lose m)).choice tt
      event_tells s (Drain n) c d given fits sound keyed = drains_whole test P other told_list every n s fits sound keyed
      event_tells s (Expire q) c d given fits sound keyed = step_tells P other s.world (step.Expire q) (plainly (step.Expire q)).choice tt
      event_tells s (Restart n) c d given fits sound keyed = step_tells P other s.world (step.Restart n) (plainly (step.Restart n)).choice tt
      event_tells s (Gossip from to) c d given fits sound keyed = step_tells P other s.world (step.Gossip from to) (plainly (step.Gossip from to)).choice tt
      event_tells s (Ack n) c d given fits sound keyed = step_tells P other s.world (step.Ack n) (plainly (step.Ack n)).choice tt
      event_tells s (Sync n) c d given fits sound keyed = step_tells P other s.world (step.Sync n) (plainly (step.Sync n)).choice tt
      event_tells s (SyncAck n) c d given fits sound keyed = step_tells P other s.world (step.SyncAck n) (plainly (step.SyncAck n)).choice tt
      event_tells s (Clean n) c d given fits sound keyed = step_tells P other s.world (step.Clean n) (plainly (step.Clean n)).choice tt
      event_tells s (Work n) c d given fits sound keyed = step_tells P other s.world (step.Work n) (plainly (step.Work n)).choice tt
      event_tells s (Repair n) c d given fits sound keyed = step_tells P other s.world (step.Repair n) (plainly (step.Repair n)).choice tt
      event_tells s (Collect n) c d given fits sound keyed = step_tells P other s.world (step.Collect n) (plainly (step.Collect n)).choice tt
