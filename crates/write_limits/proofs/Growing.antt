-- What phases gave, and what was drawn, is only added to.
use Rattle.std.specs.Prelude.{◌≡◌, ℕ, zero, suc, Bool, true, false, if◌then◌else◌, Option, Some, None, List, [], ◌∷◌, ◌++◌, refl}
use Rattle.std.specs.List.{Contains}
use Rattle.std.proofs.Common.{subst}
use Rattle.std.proofs.lemmas.List.Elements.{Contains-append_right}
use Rattle.crdt_rows.specs.declared.any_row.AnyRow.{AnyRow}
use Rattle.wire_messages.specs.declared.phase.PhaseEnd.{PhaseEnd}
use Rattle.cluster_machine.specs.declared.step.Refusal.TheVariants.{NotMember, NoSuchBucket}
use Rattle.cluster_machine.specs.declared.step.Step.TheVariants as step
use Rattle.cluster_machine.specs.Layouts.{layouts}
use Rattle.cluster_machine.specs.Node.{Ended}
use Rattle.cluster_machine.specs.World.{clock, numbered, undelivered, is_member_at}
use Rattle.flow_model.specs.declared.order.Order.{Order}
use Rattle.flow_model.specs.declared.flow.Flow.{Flow}
use Rattle.flow_model.specs.declared.flow.FlowStep.{FlowStep}
use Rattle.flow_model.specs.declared.flow.FlowStep.TheVariants.{More, Need, Wait, End}
use Rattle.flow_model.specs.Next.{next}
use Rattle.flow_model.specs.Streams as stream
use Rattle.store_model.specs.Orders.{buckets_of}
use Rattle.store_model.specs.Run.{Asked, Draw, Saw, State, Outcome, silent, refusal, plainly, effect, doing, are_buckets, opened, begins, draws_of, takes, follows, follow, goes_on, delivers, then_drains, drains, hears, heard_in, heard, fills_at}
use Rattle.store_model.specs.Acts.{Act, moves, installs, asks, delivery, drain, forgets, takes as takes_end, adds, cuts, feeds, keeps, gives_up, acted, after_acts}

-- all that was seen and drawn then is there now
pub record Grows (s t : State) : Type 0 where
  pub saw : (x : Saw) → Contains s.saw x → Contains t.saw x
  pub draws : (d : Draw) → Contains s.draws d → Contains t.draws d

same : (s t : State) → s.saw ≡ t.saw → s.draws ≡ t.draws → Grows s t
same s t saw draws = record { saw = λ x c. subst (λ (l : List Saw). Contains l x) saw c; draws = λ d c. subst (λ (l : List Draw). Contains l d) draws c }

pub grows_on : (s t u : State) → Grows s t → Grows t u → Grows s u
grows_on s t u a b = record { saw = λ x c. b.saw x (a.saw x c); draws = λ d c. b.draws d (a.draws d c) }

pub takes_grow : (s : State) (q : ℕ) (a : Asked) (ds : List Draw) (st : FlowStep) → Grows s (takes s q a ds st).state
takes_grow s q a ds (More flow phase) = record { saw = λ x c. c; draws = λ d c. Contains-append_right ds s.draws d c }
takes_grow s q a ds (Need flow wanted) = same s (takes s q a ds (Need flow wanted)).state refl refl
takes_grow s q a ds (Wait flow) = same s (takes s q a ds (Wait flow)).state refl refl
takes_grow s q a ds (End end) = same s (takes s q a ds (End end)).state refl refl

follows_grow : (s : State) (q : ℕ) (a : Asked) (end : PhaseEnd AnyRow) (flow : Option Flow) → Grows s (follows s q a end flow).state
follows_grow s q a end None = same s s refl refl
follows_grow s q a end (Some flow) =
    let now = clock s.world a.node in
    let new : Saw = record { request = q; end = end } in
    let seen : State = record s { saw = new ∷ s.saw } in
    let more : Grows s seen = record { saw = λ x c. Contains-append_right (new ∷ []) s.saw x c; draws = λ d c. c } in
    grows_on s seen _ more (takes_grow seen q a (draws_of s q flow.block flow.stage end now) (next flow end now))

follow_grows : (s : State) (q : ℕ) (o : Option Asked) (end : PhaseEnd AnyRow) → Grows s (follow s q o end).state
follow_grows s q None end = same s s refl refl
follow_grows s q (Some a) end = follows_grow s q a end a.flow

goes_on_grows : (s : State) (ends : List (Ended AnyRow)) → Grows s (goes_on s ends).state
goes_on_grows s [] = same s s refl refl
goes_on_grows s (e ∷ es) = follow_grows s e.request (numbered s.asked e.request) e.how

pub delivers_grow : (s : State) (m : ℕ) → Grows s (delivers s m).state
delivers_grow s m =
    let d = plainly (step.Deliver m) in
    grows_on s (doing s d) (delivers s m).state (same s (doing s d) refl refl) (goes_on_grows (doing s d) (effect s d).ends)

pub drains_grow : (n : ℕ) (s : State) → Grows s (drains n s).state
drains_grow zero s = same s s refl refl
drains_grow (suc n) s =
    elim (undelivered s.world) as (λ o. Grows s (elim o as (λ o. Outcome) [ None ↦ silent s | Some m ↦ let o = delivers s m in then_drains o (drains n o.state) ]).state) [
      | None ↦ same s s refl refl
      | Some m ↦ grows_on s (delivers s m).state (drains n (delivers s m).state).state (delivers_grow s m) (drains_grow n (delivers s m).state)
    ]

heard_grows : (s : State) (q : ℕ) (says : Flow → stream.Step) (o : Option Asked) → Grows s (heard s q says o).state
heard_grows s q says None = same s s refl refl
heard_grows s q says (Some a) = by_flow a.flow
  where
    by_step : (o : stream.Step) → Grows s (hears s q a o).state
    by_step None = same s s refl refl
    by_step (Some n) = takes_grow s q a [] (More n.0 n.1)

    by_flow : (o : Option Flow) → Grows s (heard_in s q says a o).state
    by_flow None = same s s refl refl
    by_flow (Some flow) = by_step (says flow)

begins_grow : (s : State) (n : ℕ) (o : Order) → Grows s (begins s n o).state
begins_grow s n o = by_test (is_member_at layouts s.world n) (are_buckets s.buckets (buckets_of o))
  where
    by_test : (x y : Bool) → Grows s (if x then (if y then opened s n o else refusal s NoSuchBucket) else refusal s NotMember).state
    by_test true true = same s (opened s n o).state refl refl
    by_test true false = same s s refl refl
    by_test false y = same s s refl refl

pub act_grows : (s : State) (a : Act) → Grows s (acted s a).state
act_grows s (moves m) = same s (acted s (moves m)).state refl refl
act_grows s (installs first) = same s (acted s (installs first)).state refl refl
act_grows s (asks n o) = begins_grow s n o
act_grows s (delivery m) = delivers_grow s m
act_grows s (drain n) = drains_grow n s
act_grows s forgets = same s (acted s forgets).state refl refl
act_grows s (takes_end q) = same s (acted s (takes_end q)).state refl refl
act_grows s (adds name) = same s (acted s (adds name)).state refl refl
act_grows s (cuts block) = same s (acted s (cuts block)).state refl refl
act_grows s (feeds q bytes) = heard_grows s q (λ flow. stream.fed flow bytes) (numbered s.asked q)
act_grows s (keeps q) =
    let fills = fills_at s q (numbered s.asked q) in
    let filled : State = record s { draws = fills ++ s.draws } in
    let more : Grows s filled = record { saw = λ x c. c; draws = λ d c. Contains-append_right fills s.draws d c } in
    grows_on s filled (acted s (keeps q)).state more (heard_grows filled q stream.finished (numbered s.asked q))
act_grows s (gives_up q) = heard_grows s q stream.given_up (numbered s.asked q)

pub acts_grow : (s : State) (as' : List Act) → Grows s (after_acts s as')
acts_grow s [] = same s s refl refl
acts_grow s (a ∷ as') = grows_on s (acted s a).state (after_acts (acted s a).state as') (act_grows s a) (acts_grow (acted s a).state as')
