-- What a run does on which the freshness of its reads rests: it hashes strings for walks, it may collect, and its steps come in worlds.
use Rattle.std.specs.Prelude.{◌≡◌, ◌⊎◌, ℕ, zero, suc, true, false, if◌then◌else◌, List, [], ◌∷◌, ◌++◌, length, take, Option, Some, None, ⊤}
use Rattle.std.proofs.Common.{inl, inr, subst}
use Rattle.crdt_core.proofs.Each.{all_append}
use Rattle.crdt_rows.specs.declared.any_row.AnyRow.{AnyRow}
use Rattle.crdt_rows.specs.AnyRow.{any_join}
use Rattle.object_schema.specs.Schema.{words}
use Rattle.wire_messages.specs.declared.phase.PhaseEnd.{PhaseEnd}
use Rattle.cluster_machine.specs.declared.step.Refusal.TheVariants.{NotMember, NoSuchBucket}
use Rattle.cluster_machine.specs.declared.step.Step.{Step}
use Rattle.cluster_machine.specs.declared.step.Step.TheVariants as step
use Rattle.cluster_machine.specs.declared.step.Step.TheVariants.{Collect}
use Rattle.cluster_machine.specs.Hashes.{NoClash, StepHashes}
use Rattle.cluster_machine.specs.Layouts.{layouts}
use Rattle.cluster_machine.specs.Node.{Ended}
use Rattle.cluster_machine.specs.Trio.{trio, stage_trio}
use Rattle.cluster_machine.specs.World.{numbered, clock, undelivered, is_member_at}
use Rattle.cluster_machine.specs.Worlds.{does, next}
use Rattle.machine_collects.specs.Prompt.{moments_after}
use Rattle.machine_collects.specs.Without.{IsOther, AreOther}
use Rattle.flow_model.specs.declared.flow.Flow.{Flow}
use Rattle.flow_model.specs.declared.flow.FlowStep.{FlowStep}
use Rattle.flow_model.specs.declared.flow.FlowStep.TheVariants.{More, Need, Wait, End}
use Rattle.flow_model.specs.declared.order.Order.{Order}
use Rattle.flow_model.specs.Next.{next as flow_next}
use Rattle.flow_model.specs.Streams as stream
use Rattle.flow_model.specs.Streams.{fed, finished, given_up}
use Rattle.store_model.specs.Orders.{buckets_of}
use Rattle.store_model.specs.Run.{World, Moving, State, Asked, Draw, Outcome, silent, refusal, plainly, doing, effect, are_buckets, opened, begins, draws_of, takes, follows, follow, goes_on, delivers, then_drains, drains, hears, heard_in, heard, fills_at}
use Rattle.store_model.specs.Acts.{Act, moves, installs, asks, delivery, drain, forgets, takes as takes_end, adds, cuts, feeds, keeps, gives_up, acted}
use Rattle.store_model.specs.Moments.{IsMoment, between, within}
use Rattle.world_reads.proofs.Installed.{clear_within}
use Rattle.store_collects.specs.Prompt.{IsPromptMove}
use Rattle.store_laws.specs.Hashed.{StepsHash, ActsHash, IsOtherAct, NeverCollect}

pub data Deed : Type 0 where
  hashes : List ℕ → Deed
  collects : Deed
  comes : World → Moving → Deed

-- the deed is done in a world with lost messages where it is in one in which they are not
abbrev pub IsOfAny : Deed → Type 0
IsOfAny (comes w m) = ⊥
IsOfAny _ = ⊤

-- the moments of a world's requests, among those of all requests of a run
abbrev pub moments_in : List ℕ → World → List ℕ
moments_in all w = take (length w.requests) all

-- the step is prompt in a run whose requests begin at these moments, and its own requests begin at them
pub record IsPromptIn (all : List ℕ) (w : World) (m : Moving) : Type 0 where
  pub prompt : IsPromptMove (moments_in all w) w m
  pub after : moments_in all (next any_join words w m) ≡ moments_after (moments_in all w) w (does any_join words w m)

-- and so is each step among these deeds
abbrev pub ArePromptIn : (Deed → Type 0) → List ℕ → Type 0
ArePromptIn H all = (w : World) (m : Moving) → H (comes w m) → IsPromptIn all w m

-- among these deeds nothing is collected, or each step is prompt
abbrev pub IsSafe : (Deed → Type 0) → Type 0
IsSafe H = (¬ H collects) ⊎ ((all : List ℕ) × ArePromptIn H all)

-- among these deeds no two strings have one digest, and what is collected is collected safely
pub record IsClear (H : Deed → Type 0) : Type 0 where
  pub apart : NoClash (λ x. H (hashes x))
  pub safe : IsSafe H

-- the step collects
abbrev pub IsCollect : Step AnyRow → Type 0
IsCollect (Collect n) = ⊤
IsCollect _ = ⊥

-- what one step does
abbrev pub OneDoes : World → Moving → Deed → Type 0
OneDoes w m (hashes x) = StepHashes words any_join layouts trio stage_trio w m x
OneDoes w m collects = IsCollect m.step
OneDoes w m (comes v n) = (v ≡ w) × (n ≡ m)

-- what these steps do
abbrev pub StepsDo : World → List Moving → Deed → Type 0
StepsDo w [] d = ⊥
StepsDo w (m ∷ ms) d = OneDoes w m d ⊎ StepsDo (next any_join words w m) ms d

-- and these acts
abbrev pub ActsDo : State → List Act → Deed → Type 0
ActsDo s [] d = ⊥
ActsDo s (a ∷ as') d = StepsDo s.world (acted s a).moves d ⊎ ActsDo (acted s a).state as' d

-- ---- steps that are not `collect`

other_step : (st : Step AnyRow) → ¬ IsCollect st → IsOther st
other_step (Collect n) h = h tt
other_step _ h = tt

never_step : (st : Step AnyRow) → IsOther st → ¬ IsCollect st
never_step (Collect n) h is = h
never_step _ h is = is

-- one that is refused isn't
pub refused_other : (st : Step AnyRow) → st ≡ step.Deliver 0 → ¬ IsCollect st
refused_other st e is = subst IsCollect e is

pub others : (w : World) (ms : List Moving) → ¬ StepsDo w ms collects → AreOther ms
others w [] h = tt
others w (m ∷ ms) h = (other_step m.step (λ is. h (inl is)), others (next any_join words w m) ms (λ is. h (inr is)))

never_steps : (w : World) (ms : List Moving) → AreOther ms → ¬ StepsDo w ms collects
never_steps w [] h d = d
never_steps w (m ∷ ms) h (inl d) = never_step m.step h.0 d
never_steps w (m ∷ ms) h (inr d) = never_steps (next any_join words w m) ms h.1 d

-- ---- acts that are not: neither are their steps

takes_other : (s : State) (q : ℕ) (a : Asked) (draws : List Draw) (f : FlowStep) → AreOther (takes s q a draws f).moves
takes_other s q a draws (More flow phase) = (tt, tt)
takes_other s q a draws (Need flow wanted) = tt
takes_other s q a draws (Wait flow) = tt
takes_other s q a draws (End end) = (tt, tt)

follows_other : (s : State) (q : ℕ) (a : Asked) (end : PhaseEnd AnyRow) (o : Option Flow) → AreOther (follows s q a end o).moves
follows_other s q a end None = tt
follows_other s q a end (Some f) =
    let now : ℕ = clock s.world a.node in
    takes_other (record s { saw = record { request = q; end = end } ∷ s.saw }) q a (draws_of s q f.block f.stage end now) (flow_next f end now)

follow_other : (s : State) (q : ℕ) (o : Option Asked) (end : PhaseEnd AnyRow) → AreOther (follow s q o end).moves
follow_other s q None end = tt
follow_other s q (Some a) end = follows_other s q a end a.flow

goes_other : (s : State) (ends : List (Ended AnyRow)) → AreOther (goes_on s ends).moves
goes_other s [] = tt
goes_other s (e ∷ es) = follow_other s e.request (numbered s.asked e.request) e.how

delivers_other : (s : State) (m : ℕ) → AreOther (delivers s m).moves
delivers_other s m = let d = plainly (step.Deliver m) in (tt, goes_other (doing s d) (effect s d).ends)

drains_other : (n : ℕ) (s : State) → AreOther (drains n s).moves
drains_other zero s = tt
drains_other (suc n) s =
    elim (undelivered s.world) as (λ o. AreOther (elim o as (λ o. Outcome) [ None ↦ silent s | Some m ↦ let o = delivers s m in then_drains o (drains n o.state) ]).moves) [
      | None ↦ tt
      | Some m ↦ let first : Outcome = delivers s m in all_append (λ (m : Moving). IsOther m.step) first.moves (drains n first.state).moves (delivers_other s m) (drains_other n first.state)
    ]

begins_other : (s : State) (n : ℕ) (o : Order) → AreOther (begins s n o).moves
begins_other s n o =
    elim (is_member_at layouts s.world n) as (λ b. AreOther (if b then (if are_buckets s.buckets (buckets_of o) then opened s n o else refusal s NoSuchBucket) else refusal s NotMember).moves) [
      | true ↦ elim (are_buckets s.buckets (buckets_of o)) as (λ b. AreOther (if b then opened s n o else refusal s NoSuchBucket).moves) [ true ↦ (tt, (tt, tt)) | false ↦ tt ]
      | false ↦ tt
    ]

hears_other : (s : State) (q : ℕ) (a : Asked) (next : stream.Step) → AreOther (hears s q a next).moves
hears_other s q a None = tt
hears_other s q a (Some next) = (tt, tt)

heard_in_other : (s : State) (q : ℕ) (says : Flow → stream.Step) (a : Asked) (flow : Option Flow) → AreOther (heard_in s q says a flow).moves
heard_in_other s q says a None = tt
heard_in_other s q says a (Some flow) = hears_other s q a (says flow)

heard_other : (s : State) (q : ℕ) (says : Flow → stream.Step) (asked : Option Asked) → AreOther (heard s q says asked).moves
heard_other s q says None = tt
heard_other s q says (Some a) = heard_in_other s q says a a.flow

acted_other : (s : State) (a : Act) → IsOtherAct a → AreOther (acted s a).moves
acted_other s (moves m) h = (h, tt)
acted_other s (asks n o) h = begins_other s n o
acted_other s (delivery m) h = delivers_other s m
acted_other s (drain n) h = drains_other n s
acted_other s (installs first) h = tt
acted_other s forgets h = tt
acted_other s (takes_end q) h = tt
acted_other s (adds name) h = tt
acted_other s (cuts block) h = tt
acted_other s (feeds q bytes) h = heard_other s q (λ flow. fed flow bytes) (numbered s.asked q)
acted_other s (keeps q) h = heard_other (record s { draws = fills_at s q (numbered s.asked q) ++ s.draws }) q finished (numbered s.asked q)
acted_other s (gives_up q) h = heard_other s q given_up (numbered s.asked q)

pub never_acts : (s : State) (as' : List Act) → NeverCollect as' → ¬ ActsDo s as' collects
never_acts s [] h d = d
never_acts s (a ∷ as') h (inl d) = never_steps s.world (acted s a).moves (acted_other s a h.0) d
never_acts s (a ∷ as') h (inr d) = never_acts (acted s a).state as' h.1 d

-- ---- strings that are hashed

pub hashed_done : (w : World) (ms : List Moving) (x : List ℕ) → StepsHash w ms x → StepsDo w ms (hashes x)
hashed_done w [] x h = absurd h
hashed_done w (m ∷ ms) x (inl h) = inl h
hashed_done w (m ∷ ms) x (inr h) = inr (hashed_done (next any_join words w m) ms x h)

steps_hash : (w : World) (ms : List Moving) (x : List ℕ) → StepsDo w ms (hashes x) → StepsHash w ms x
steps_hash w [] x h = absurd h
steps_hash w (m ∷ ms) x (inl h) = inl h
steps_hash w (m ∷ ms) x (inr h) = inr (steps_hash (next any_join words w m) ms x h)

acts_hash : (s : State) (as' : List Act) (x : List ℕ) → ActsDo s as' (hashes x) → ActsHash s as' x
acts_hash s [] x h = absurd h
acts_hash s (a ∷ as') x (inl h) = inl (steps_hash s.world (acted s a).moves x h)
acts_hash s (a ∷ as') x (inr h) = inr (acts_hash (acted s a).state as' x h)

-- where no digests clash, they don't among deeds
pub deeds_apart : (s : State) (as' : List Act) → NoClash (ActsHash s as') → NoClash (λ x. ActsDo s as' (hashes x))
deeds_apart s as' clear = clear_within (λ x. ActsDo s as' (hashes x)) (ActsHash s as') (acts_hash s as') clear

-- ---- moments

never_first : (before after : List Act) → NeverCollect (before ++ after) → NeverCollect before
never_first [] after h = tt
never_first (a ∷ before) after h = (h.0, never_first before after h.1)

never_last : (before after : List Act) (a : Act) → NeverCollect (before ++ after) → IsOtherAct a → NeverCollect (before ++ a ∷ [])
never_last [] after a h is = (is, tt)
never_last (b ∷ before) after a h is = (h.0, never_last before after a h.1 is)

pub never_by_then : (acts moment : List Act) → IsMoment acts moment → NeverCollect acts → NeverCollect moment
never_by_then acts moment (between before after is) h = never_first before after (subst NeverCollect is h)
never_by_then acts moment (within before after n k is low) h = never_last before (drain n ∷ after) (drain k) (subst NeverCollect is h) tt
