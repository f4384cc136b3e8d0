-- The moves of a step lead to its state, and how many bytes were sent is known after steps that go on.
use Rattle.std.proofs.Common.{◌≡◌, ℕ, zero, suc, ◌<◌, ◌^◌, Bool, true, false, if◌then◌else◌, Option, Some, None, List, [], ◌∷◌, refl, sym, subst, arith}
use Rattle.std.specs.Prelude.{⊤}
use Rattle.std.specs.List.{AllByRecursion}
use Rattle.cluster_machine.specs.declared.step.Refusal.TheVariants.{NotMember, NoSuchBucket}
use Rattle.cluster_machine.specs.Choices.{Decision}
use Rattle.cluster_machine.specs.Fits.{IsWord}
use Rattle.cluster_machine.specs.Layouts.{layouts}
use Rattle.cluster_machine.specs.World.{is_member_at, sent_bytes, undelivered}
use Rattle.cluster_machine.specs.Worlds.{next, FitAll, run as world_run}
use Rattle.store_model.specs.declared.event.Event.{Event}
use Rattle.store_model.specs.declared.event.Event.TheVariants.{Deliver, Drain}
use Rattle.store_model.specs.Events.{object_bytes}
use Rattle.k2v_rows.specs.Row.{row_join}
use Rattle.k2v_rows.specs.declared.value.K2vValue.TheVariants.{Deleted, Value}
use Rattle.k2v_schema.specs.Schema.{words}
use Rattle.k2v_model.specs.declared.order.Ask.{Ask}
use Rattle.k2v_model.specs.declared.order.Ask.TheVariants.{Write, Read}
use Rattle.k2v_model.specs.declared.order.Order.{Order}
use Rattle.k2v_model.specs.declared.line.ItemRefusal.TheVariants.{Cluster, NoSuchToken}
use Rattle.k2v_model.specs.Orders.{key_of}
use Rattle.k2v_model.specs.Run.{World, Moving, State, Outcome, start, silent, refusal, is_bucket, is_token, busy_from, unless_busy, admits, begins, delivers, then_drains, drains}
use Rattle.k2v_text.specs.declared.event.ItemEvent.{ItemEvent}
use Rattle.k2v_text.specs.declared.event.ItemEvent.TheVariants.{Common, Put, Delete, Get}
use Rattle.k2v_text.specs.Played.{Step, outcome, deliveries, steps_of, HasSent, GoesOn}
use Rattle.k2v_model.proofs.Leads.{Leads, delivers_lead, drains_lead}

one_leads : (s : State) (b : Bool) (x y : Outcome) → Leads s x → Leads s y → Leads s (if b then x else y)
one_leads s true x y h k = h
one_leads s false x y h k = k

unless_leads : (s : State) (n : ℕ) (order : Order) (busy : Option ℕ) → Leads s (unless_busy s n order busy)
unless_leads s n order None = refl
unless_leads s n order (Some q) = refl

admits_leads : (s : State) (n : ℕ) (order : Order) (ask : Ask) → Leads s (admits s n order ask)
admits_leads s n order (Write value token) =
    let key = key_of order.item in
    let busy = busy_from 1 s.requests n key in
    one_leads s (is_token s.requests key token) (unless_busy s n order busy) (refusal s (NoSuchToken token)) (unless_leads s n order busy) refl
admits_leads s n order Read = refl

begins_leads : (s : State) (n : ℕ) (order : Order) → Leads s (begins s n order)
begins_leads s n order =
    let found = is_bucket s.buckets order.item.bucket in
    let inner = admits s n order order.ask in
    let unfound = refusal s (Cluster NoSuchBucket) in
    one_leads s (is_member_at layouts s.world n) (if found then inner else unfound) (refusal s (Cluster NotMember)) (one_leads s found inner unfound (admits_leads s n order order.ask) refl) refl

common_leads : (s : State) (event : Event) (choice : Decision) → Leads s (outcome s (Common event) choice)
common_leads s (Deliver m) choice = delivers_lead s m
common_leads s (Drain n) choice = drains_lead n s
common_leads s event choice = refl

pub event_leads : (s : State) (event : ItemEvent) (choice : Decision) → Leads s (outcome s event choice)
event_leads s (Common event) choice = common_leads s event choice
event_leads s (Put n item size fill token) choice = begins_leads s n (record { item = item; ask = Write (Value (object_bytes size fill)) token })
event_leads s (Delete n item token) choice = begins_leads s n (record { item = item; ask = Write Deleted token })
event_leads s (Get n item) choice = begins_leads s n (record { item = item; ask = Read })

-- each step begins where the one before ended, and its moves lead to its state
abbrev pub AreSteps : State → List Step → Type 0
AreSteps s [] = ⊤
AreSteps s (x ∷ xs) = (x.from ≡ s) × Leads x.from x.outcome × AreSteps x.outcome.state xs

-- the state after steps
abbrev pub end_of : State → List Step → State
end_of s [] = s
end_of s (x ∷ xs) = end_of x.outcome.state xs

delivered_in_steps : (n : ℕ) (s : State) → AreSteps s (deliveries n s)
delivered_in_steps zero s = tt
delivered_in_steps (suc n) s =
    elim (undelivered s.world) as (λ o. AreSteps s (elim o as (λ o. List Step) [ None ↦ [] | Some m ↦ record { from = s; outcome = delivers s m } ∷ deliveries n (delivers s m).state ])) [
      | None ↦ tt
      | Some m ↦ (refl, delivers_lead s m, delivered_in_steps n (delivers s m).state)
    ]

pub are_steps : (s : State) (event : ItemEvent) (choice : Decision) → AreSteps s (steps_of s event choice)
are_steps s (Common (Drain n)) choice = delivered_in_steps n s
are_steps s event choice = (refl, event_leads s event choice, tt)

delivered_end : (n : ℕ) (s : State) → end_of s (deliveries n s) ≡ (drains n s).state
delivered_end zero s = refl
delivered_end (suc n) s =
    elim (undelivered s.world) as (λ o. end_of s (elim o as (λ o. List Step) [ None ↦ [] | Some m ↦ record { from = s; outcome = delivers s m } ∷ deliveries n (delivers s m).state ])
    ≡ (elim o as (λ o. Outcome) [ None ↦ silent s | Some m ↦ let o = delivers s m in then_drains o (drains n o.state) ]).state) [
      | None ↦ refl
      | Some m ↦ delivered_end n (delivers s m).state
    ]

pub steps_end : (s : State) (event : ItemEvent) (choice : Decision) → end_of s (steps_of s event choice) ≡ (outcome s event choice).state
steps_end s (Common (Drain n)) choice = delivered_end n s
steps_end s event choice = refl

-- it is known how many bytes were sent
abbrev pub IsCounted : World → Type 0
IsCounted w = IsWord (sent_bytes words w.messages)

pub start_counted : IsCounted start.world
start_counted = let none : 0 < 2 ^ 64 = omega arith in none

-- and so it is after moves that fit
pub run_counted : (w : World) (ms : List Moving) → FitAll row_join words w ms → IsCounted w → IsCounted (world_run row_join words w ms)
run_counted w [] h k = k
run_counted w (m ∷ ms) h k = run_counted (next row_join words w m) ms h.1 h.0.0.bytes

bytes_of : (o : Option ℕ) → IsWord o → (bytes : ℕ) × (o ≡ Some bytes)
bytes_of None h = absurd h
bytes_of (Some n) h = (n, refl)

pub counted : (s : State) → IsCounted s.world → (bytes : ℕ) × HasSent s bytes
counted s h = bytes_of (sent_bytes words s.world.messages) h

all_end : (s : State) (xs : List Step) → AreSteps s xs → AllByRecursion GoesOn xs → IsCounted s.world → IsCounted (end_of s xs).world
all_end s [] are h k = k
all_end s (x ∷ xs) are h k =
    all_end x.outcome.state xs are.2 h.1 (subst IsCounted are.1 (run_counted x.from.world x.outcome.moves h.0.fits (subst (λ (y : State). IsCounted y.world) (sym are.0) k)))

-- and after an event whose steps go on
pub event_counted : (s : State) (event : ItemEvent) (choice : Decision) → AllByRecursion GoesOn (steps_of s event choice) → IsCounted s.world → IsCounted (outcome s event choice).state.world
event_counted s event choice h k =
    subst (λ (y : State). IsCounted y.world) (steps_end s event choice) (all_end s (steps_of s event choice) (are_steps s event choice) h k)
