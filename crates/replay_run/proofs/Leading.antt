-- The moves of a step lead to its state, and how many bytes were sent is known after steps that go on.
use Rattle.std.proofs.Common.{◌≡◌, ℕ, zero, suc, ◌<◌, ◌^◌, Bool, true, false, if◌then◌else◌, Option, Some, None, List, [], ◌∷◌, refl, sym, subst, arith}
use Rattle.std.specs.Prelude.{⊤}
use Rattle.std.specs.List.{AllByRecursion}
use Rattle.crdt_rows.specs.AnyRow.{any_join}
use Rattle.object_schema.specs.Schema.{words}
use Rattle.cluster_machine.specs.declared.step.Refusal.TheVariants.{NotMember, NoSuchBucket}
use Rattle.cluster_machine.specs.Choices.{Decision}
use Rattle.cluster_machine.specs.Fits.{IsWord}
use Rattle.cluster_machine.specs.Layouts.{layouts}
use Rattle.cluster_machine.specs.World.{is_member_at, sent_bytes, undelivered}
use Rattle.cluster_machine.specs.Worlds.{next, FitAll, run as world_run}
use Rattle.flow_model.specs.declared.order.Order.{Order}
use Rattle.flow_model.specs.declared.order.Order.TheVariants as order
use Rattle.store_model.specs.Orders.{buckets_of}
use Rattle.store_model.specs.declared.event.Event.{Event}
use Rattle.store_model.specs.declared.event.Event.TheVariants.{Put, Get, Head, Delete, Copy, List as Keys, Deliver, Drain}
use Rattle.store_model.specs.Run.{World, Moving, State, Outcome, silent, refusal, are_buckets, opened, begins, delivers, then_drains, drains, start}
use Rattle.store_model.specs.Events.{object_bytes, outcome, after}
use Rattle.store_model.proofs.Leads.{Leads, delivers_lead, drains_lead}
use Rattle.text_model.specs.Played.{Step, deliveries, steps_of, HasSent, GoesOn}

one_leads : (s : State) (b : Bool) (x y : Outcome) → Leads s x → Leads s y → Leads s (if b then x else y)
one_leads s true x y h k = h
one_leads s false x y h k = k

begins_leads : (s : State) (n : ℕ) (order : Order) → Leads s (begins s n order)
begins_leads s n order =
    let found = are_buckets s.buckets (buckets_of order) in
    one_leads s (is_member_at layouts s.world n) (if found then opened s n order else refusal s NoSuchBucket) (refusal s NotMember) (one_leads s found (opened s n order) (refusal s NoSuchBucket) refl refl) refl

pub event_leads : (s : State) (event : Event) (choice : Decision) → Leads s (outcome s event choice)
event_leads s (Put n bucket key size fill) choice = begins_leads s n (order.Put bucket key (object_bytes size fill) [])
event_leads s (Get n bucket key) choice = begins_leads s n (order.Get bucket key)
event_leads s (Head n bucket key) choice = begins_leads s n (order.Head bucket key)
event_leads s (Delete n bucket key) choice = begins_leads s n (order.Delete bucket key)
event_leads s (Copy n from_bucket from_key bucket key) choice = begins_leads s n (order.Copy from_bucket from_key bucket key None)
event_leads s (Keys n bucket prefix) choice = begins_leads s n (order.List bucket prefix)
event_leads s (Deliver m) choice = delivers_lead s m
event_leads s (Drain n) choice = drains_lead n s
event_leads s event choice = refl

-- each step begins where the one before ended, and its moves lead to its state
abbrev pub AreSteps : State → List Step → Type 0
AreSteps s [] = ⊤
AreSteps s (x ∷ xs) = (x.from ≡ s) × Leads x.from x.outcome × AreSteps x.outcome.state xs

-- the state after steps
abbrev pub end_of : State → List Step → State
end_of s [] = s
end_of s (x ∷ xs) = end_of x.outcome.state xs

delivered_in_steps : (n : ℕ) (s : State) → AreSteps s (deliveries n s)
delivered_in_steps zero s = tt
delivered_in_steps (suc n) s =
    elim (undelivered s.world) as (λ o. AreSteps s (elim o as (λ o. List Step) [ None ↦ [] | Some m ↦ record { from = s; outcome = delivers s m } ∷ deliveries n (delivers s m).state ])) [
      | None ↦ tt
      | Some m ↦ (refl, delivers_lead s m, delivered_in_steps n (delivers s m).state)
    ]

pub are_steps : (s : State) (event : Event) (choice : Decision) → AreSteps s (steps_of s event choice)
are_steps s (Drain n) choice = delivered_in_steps n s
are_steps s event choice = (refl, event_leads s event choice, tt)

delivered_end : (n : ℕ) (s : State) → end_of s (deliveries n s) ≡ (drains n s).state
delivered_end zero s = refl
delivered_end (suc n) s =
    elim (undelivered s.world) as (λ o. end_of s (elim o as (λ o. List Step) [ None ↦ [] | Some m ↦ record { from = s; outcome = delivers s m } ∷ deliveries n (delivers s m).state ])
    ≡ (elim o as (λ o. Outcome) [ None ↦ silent s | Some m ↦ let o = delivers s m in then_drains o (drains n o.state) ]).state) [
      | None ↦ refl
      | Some m ↦ delivered_end n (delivers s m).state
    ]

pub steps_end : (s : State) (event : Event) (choice : Decision) → end_of s (steps_of s event choice) ≡ (outcome s event choice).state
steps_end s (Drain n) choice = delivered_end n s
steps_end s event choice = refl

-- it is known how many bytes were sent
abbrev pub IsCounted : World → Type 0
IsCounted w = IsWord (sent_bytes words w.messages)

pub start_counted : IsCounted start.world
start_counted = let none : 0 < 2 ^ 64 = omega arith in none

-- and so it is after moves that fit
pub run_counted : (w : World) (ms : List Moving) → FitAll any_join words w ms → IsCounted w → IsCounted (world_run any_join words w ms)
run_counted w [] h k = k
run_counted w (m ∷ ms) h k = run_counted (next any_join words w m) ms h.1 h.0.0.bytes

bytes_of : (o : Option ℕ) → IsWord o → (bytes : ℕ) × (o ≡ Some bytes)
bytes_of None h = absurd h
bytes_of (Some n) h = (n, refl)

pub counted : (s : State) → IsCounted s.world → (bytes : ℕ) × HasSent s bytes
counted s h = bytes_of (sent_bytes words s.world.messages) h

all_end : (s : State) (xs : List Step) → AreSteps s xs → AllByRecursion GoesOn xs → IsCounted s.world → IsCounted (end_of s xs).world
all_end s [] are h k = k
all_end s (x ∷ xs) are h k =
    all_end x.outcome.state xs are.2 h.1 (subst IsCounted are.1 (run_counted x.from.world x.outcome.moves h.0.fits (subst (λ (y : State). IsCounted y.world) (sym are.0) k)))

-- and after an event whose steps go on
pub event_counted : (s : State) (event : Event) (choice : Decision) → AllByRecursion GoesOn (steps_of s event choice) → IsCounted s.world → IsCounted (outcome s event choice).state.world
event_counted s event choice h k =
    subst (λ (y : State). IsCounted y.world) (steps_end s event choice) (all_end s (steps_of s event choice) (are_steps s event choice) h k)
