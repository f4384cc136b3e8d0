-- The turns of a schedule are prompt, if they are timely and clear.
use Rattle.std.proofs.Common.{ℕ, zero, suc, None, List, [], ◌∷◌, refl, arith}
use Rattle.cluster_machine.specs.declared.step.Step.TheVariants as step
use Rattle.cluster_machine.specs.Layouts.{layouts}
use Rattle.cluster_machine.specs.Choices.{Decision}
use Rattle.cluster_machine.specs.Worlds.{newest_at, comes_to_layout}
use Rattle.receiver_laws.specs.Places.{WorldNames}
use Rattle.flow_model.specs.declared.order.Order.TheVariants as order
use Rattle.store_model.specs.declared.event.Event.{Event}
use Rattle.store_model.specs.declared.event.Event.TheVariants as event
use Rattle.store_model.specs.Run.{State, start, plainly}
use Rattle.store_model.specs.Acts.{IsLawfulAct}
use Rattle.store_model.specs.Events.{object_bytes, act_of, outcome, Turn, acts_of}
use Rattle.store_model.specs.Turns.{AreLawful}
use Rattle.store_collects.specs.Prompt.{ArePromptActs}
use Rattle.store_collects.specs.Times.{AreTimelyActs, ForgetsAreClear}
use Rattle.text_model.specs.Grammar.{IsFrom, IsAllowed}
use Rattle.text_model.specs.Played.{AreAllowed}
use Rattle.prompt_laws.proofs.Places.{IsPlace, between_place, choice_places}
use Rattle.prompt_laws.proofs.Timed.{NamesStay}
use Rattle.prompt_laws.proofs.Moves.{over}
use Rattle.prompt_laws.proofs.Requests.{AreLate, IsDue, Goes, plain_goes, begins_goes, delivers_goes, drains_goes}

place : (n : ℕ) → IsFrom 1 16 n → IsPlace n
place n h = between_place n h.0 h.1

-- nobody has asked yet
nobody_late : AreLate [] []
nobody_late zero a began at is = absurd cc
nobody_late (suc q) a began at is = absurd cc

module _ (stays : NamesStay) where
  event_goes : (moments : List ℕ) (s : State) (e : Event) (choice : Decision) → IsDue moments s.world s.asked → IsAllowed e → IsLawfulAct s (act_of e choice) → Goes moments s (outcome s e choice)
  event_goes moments s event.Trio choice h allowed lawful = plain_goes stays moments s h (plainly step.Trio) tt tt tt
  event_goes moments s (event.Block size) choice h allowed lawful = record { prompt = λ timely clear. tt; after = h }
  event_goes moments s (event.Bucket name) choice h allowed lawful = record { prompt = λ timely clear. tt; after = h }
  event_goes moments s (event.Role n role) choice h allowed lawful = plain_goes stays moments s h (plainly (step.Role n role)) (place n allowed.0) tt tt
  event_goes moments s (event.Redundancy wanted) choice h allowed lawful = plain_goes stays moments s h (plainly (step.Redundancy wanted)) tt tt tt
  event_goes moments s (event.Apply n) choice h allowed lawful =
      let w = s.world in
      plain_goes stays moments s h (record { step = step.Apply n; choice = choice }) tt (choice_places (comes_to_layout w n) w.roles w.redundancy (suc (newest_at w n)) choice h.timed.names.roles lawful.2) tt
  event_goes moments s (event.Tick ms) choice h allowed lawful = plain_goes stays moments s h (plainly (step.Tick ms)) tt tt tt
  event_goes moments s (event.Skew n ms) choice h allowed lawful = plain_goes stays moments s h (plainly (step.Skew n ms)) tt tt allowed.1.1
  event_goes moments s (event.Put n bucket key size fill) choice h allowed lawful = begins_goes stays moments s h n (order.Put bucket key (object_bytes size fill) []) (place n allowed.0.0)
  event_goes moments s (event.Get n bucket key) choice h allowed lawful = begins_goes stays moments s h n (order.Get bucket key) (place n allowed.0)
  event_goes moments s (event.Head n bucket key) choice h allowed lawful = begins_goes stays moments s h n (order.Head bucket key) (place n allowed.0)
  event_goes moments s (event.Delete n bucket key) choice h allowed lawful = begins_goes stays moments s h n (order.Delete bucket key) (place n allowed.0)
  event_goes moments s (event.Copy n from_bucket from_key bucket key) choice h allowed lawful = begins_goes stays moments s h n (order.Copy from_bucket from_key bucket key None) (place n allowed.0.0)
  event_goes moments s (event.List n bucket prefix) choice h allowed lawful = begins_goes stays moments s h n (order.List bucket prefix) (place n allowed.0)
  event_goes moments s (event.Deliver m) choice h allowed lawful = delivers_goes stays moments s m h
  event_goes moments s (event.Lose m) choice h allowed lawful = plain_goes stays moments s h (plainly (step.Lose m)) tt tt tt
  event_goes moments s (event.Drain n) choice h allowed lawful = drains_goes stays n moments s h
  event_goes moments s (event.Expire q) choice h allowed lawful = plain_goes stays moments s h (plainly (step.Expire q)) tt tt tt
  event_goes moments s (event.Restart n) choice h allowed lawful = plain_goes stays moments s h (plainly (step.Restart n)) tt tt tt
  event_goes moments s (event.Gossip from to) choice h allowed lawful = plain_goes stays moments s h (plainly (step.Gossip from to)) (place from allowed.0, place to allowed.1) tt tt
  event_goes moments s (event.Ack n) choice h allowed lawful = plain_goes stays moments s h (plainly (step.Ack n)) (place n allowed) tt tt
  event_goes moments s (event.Sync n) choice h allowed lawful = plain_goes stays moments s h (plainly (step.Sync n)) (place n allowed) tt tt
  event_goes moments s (event.SyncAck n) choice h allowed lawful = plain_goes stays moments s h (plainly (step.SyncAck n)) (place n allowed) tt tt
  event_goes moments s (event.Clean n) choice h allowed lawful = plain_goes stays moments s h (plainly (step.Clean n)) (place n allowed) tt tt
  event_goes moments s (event.Work n) choice h allowed lawful = plain_goes stays moments s h (plainly (step.Work n)) (place n allowed) tt tt
  event_goes moments s (event.Repair n) choice h allowed lawful = plain_goes stays moments s h (plainly (step.Repair n)) (place n allowed) tt tt
  event_goes moments s (event.Collect n) choice h allowed lawful = plain_goes stays moments s h (plainly (step.Collect n)) (place n allowed) tt tt

  turns_prompt : (moments : List ℕ) (s : State) (ts : List Turn) → IsDue moments s.world s.asked → AreAllowed ts → AreLawful s ts → AreTimelyActs moments s (acts_of ts) → ForgetsAreClear s (acts_of ts) → ArePromptActs moments s (acts_of ts)
  turns_prompt moments s [] h allowed lawful timely clear = tt
  turns_prompt moments s (t ∷ ts) h allowed lawful timely clear =
      let o = outcome s t.numbered.event t.choice in
      let goes = event_goes moments s t.numbered.event t.choice h allowed.0 lawful.0 in
      (goes.prompt timely.0 clear.0, turns_prompt (over moments s.world o.moves) o.state ts goes.after allowed.1 lawful.1 timely.1 clear.1)

  pub all_prompt : WorldNames IsPlace layouts start.world → (ts : List Turn) → AreAllowed ts → AreLawful start ts → AreTimelyActs [] start (acts_of ts) → ForgetsAreClear start (acts_of ts) → ArePromptActs [] start (acts_of ts)
  all_prompt names ts allowed lawful timely clear = turns_prompt [] start ts (record { timed = record { names = names; counts = refl; past = tt }; few = omega arith; late = nobody_late }) allowed lawful timely clear
