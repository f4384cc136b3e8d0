-- Prompt acts: each step that comes in them is prompt, what they collect is collected safely, and a moment of them is prompt.
use Rattle.std.specs.Prelude.{◌≡◌, ◌≤◌, ℕ, zero, suc, true, false, if◌then◌else◌, List, [], ◌∷◌, ◌++◌, length, map, take, Option, Some, None, refl}
use Rattle.std.proofs.Common.{ap, sym, subst, ◌∙◌, inl, inr, arith}
use Rattle.std.proofs.lemmas.List.{append-nil, append_assoc}
use Rattle.crdt_core.specs.Members.{Has}
use Rattle.crdt_rows.specs.declared.any_row.AnyRow.{AnyRow}
use Rattle.crdt_rows.specs.AnyRow.{any_join}
use Rattle.object_schema.specs.Schema.{words}
use Rattle.cluster_machine.specs.Hashes.{NoClash}
use Rattle.cluster_machine.specs.Layouts.{layouts}
use Rattle.cluster_machine.specs.World.{Request, is_member_at, numbered, undelivered}
use Rattle.cluster_machine.specs.Worlds.{does, next, run}
use Rattle.cluster_machine.specs.declared.step.Refusal.TheVariants.{NotMember, NoSuchBucket}
use Rattle.machine_collects.specs.Prompt.{moments_after}
use Rattle.flow_model.specs.declared.flow.Flow.{Flow}
use Rattle.flow_model.specs.declared.order.Order.{Order}
use Rattle.flow_model.specs.Streams as stream
use Rattle.flow_model.specs.Streams.{fed, finished, given_up}
use Rattle.store_model.specs.Orders.{buckets_of}
use Rattle.store_model.specs.Run.{World, Moving, State, start, Asked, Outcome, silent, refusal, are_buckets, opened, begins, delivers, then_drains, drains, hears, heard_in, heard, fills_at}
use Rattle.store_model.specs.Acts.{Act, moves, installs, asks, delivery, drain, forgets, takes as takes_end, adds, cuts, feeds, keeps, gives_up, acted, after_acts}
use Rattle.store_model.specs.Moments.{IsMoment, between, within}
use Rattle.store_model.proofs.Acts.{acts_after}
use Rattle.store_model.proofs.Leads.{Leads, delivers_lead, drains_lead}
use Rattle.store_collects.specs.Prompt.{IsPromptMove, ArePromptMoves, ArePromptActs}
use Rattle.store_collects.proofs.Machine.{moments_then}
use Rattle.store_laws.specs.Hashed.{ActsHash, CollectsSafely}
use Rattle.store_laws.proofs.Deeds.{comes, IsPromptIn, ArePromptIn, IsClear, StepsDo, ActsDo, never_acts, deeds_apart}
use Rattle.store_laws.proofs.Elements.{has_right}
use Rattle.store_laws.proofs.Prompt.{AreOf, more_of, many_of, moments_grow, take_front, prompt_parts, prompt_both}

-- ---- the steps of an act lead to its world, but for what is installed and forgotten

-- worlds with as many requests, in which the same was collected
record IsKin (w v : World) : Type 0 where
  requests : length w.requests ≡ length v.requests
  collected : w.collected ≡ v.collected

kin_same : (s : State) (o : Outcome) → Leads s o → IsKin (run any_join words s.world o.moves) o.state.world
kin_same s o e = record { requests = ap (λ (w : World). length w.requests) e; collected = ap (λ (w : World). w.collected) e }

hears_lead : (s : State) (q : ℕ) (a : Asked) (next : stream.Step) → Leads s (hears s q a next)
hears_lead s q a None = refl
hears_lead s q a (Some next) = refl

heard_in_leads : (s : State) (q : ℕ) (says : Flow → stream.Step) (a : Asked) (flow : Option Flow) → Leads s (heard_in s q says a flow)
heard_in_leads s q says a None = refl
heard_in_leads s q says a (Some flow) = hears_lead s q a (says flow)

heard_leads : (s : State) (q : ℕ) (says : Flow → stream.Step) (asked : Option Asked) → Leads s (heard s q says asked)
heard_leads s q says None = refl
heard_leads s q says (Some a) = heard_in_leads s q says a a.flow

begins_lead : (s : State) (n : ℕ) (o : Order) → Leads s (begins s n o)
begins_lead s n o =
    elim (is_member_at layouts s.world n) as (λ b. Leads s (if b then (if are_buckets s.buckets (buckets_of o) then opened s n o else refusal s NoSuchBucket) else refusal s NotMember)) [
      | true ↦ elim (are_buckets s.buckets (buckets_of o)) as (λ b. Leads s (if b then opened s n o else refusal s NoSuchBucket)) [ true ↦ refl | false ↦ refl ]
      | false ↦ refl
    ]

acted_kin : (s : State) (a : Act) → IsKin (run any_join words s.world (acted s a).moves) (acted s a).state.world
acted_kin s (moves m) = record { requests = refl; collected = refl }
acted_kin s (asks n o) = kin_same s (begins s n o) (begins_lead s n o)
acted_kin s (delivery m) = kin_same s (delivers s m) (delivers_lead s m)
acted_kin s (drain n) = kin_same s (drains n s) (drains_lead n s)
acted_kin s (installs first) = record { requests = ap (λ (rs : List Request). length rs) (sym (append-nil s.world.requests)); collected = refl }
acted_kin s forgets = record { requests = refl; collected = refl }
acted_kin s (takes_end q) = record { requests = refl; collected = refl }
acted_kin s (adds name) = record { requests = refl; collected = refl }
acted_kin s (cuts block) = record { requests = refl; collected = refl }
acted_kin s (feeds q bytes) = kin_same s (acted s (feeds q bytes)) (heard_leads s q (λ flow. fed flow bytes) (numbered s.asked q))
acted_kin s (keeps q) =
    let filled : State = record s { draws = fills_at s q (numbered s.asked q) ++ s.draws } in
    kin_same filled (heard filled q finished (numbered s.asked q)) (heard_leads filled q finished (numbered s.asked q))
acted_kin s (gives_up q) = kin_same s (acted s (gives_up q)) (heard_leads s q given_up (numbered s.asked q))

-- ---- what was collected stays so

run_collected : (w : World) (ms : List Moving) (r : AnyRow) → Has w.collected r → Has (run any_join words w ms).collected r
run_collected w [] r h = h
run_collected w (m ∷ ms) r h = run_collected (next any_join words w m) ms r (has_right (does any_join words w m).collects w.collected r h)

acts_collected : (s : State) (acts : List Act) (r : AnyRow) → Has s.world.collected r → Has (after_acts s acts).world.collected r
acts_collected s [] r h = h
acts_collected s (a ∷ acts) r h =
    acts_collected (acted s a).state acts r (subst (λ (rows : List AnyRow). Has rows r) (acted_kin s a).collected (run_collected s.world (acted s a).moves r h))

pub collected_by_then : (acts before later : List Act) → acts ≡ before ++ later → (r : AnyRow) → Has (after_acts start before).world.collected r → Has (after_acts start acts).world.collected r
collected_by_then acts before later is r h =
    subst (λ (as' : List Act). Has (after_acts start as').world.collected r) (sym is)
    (subst (λ (s : State). Has s.world.collected r) (sym (acts_after start before later)) (acts_collected (after_acts start before) later r h))

-- ---- steps that come are prompt

steps_prompt_in : (moments : List ℕ) (w : World) (ms : List Moving) (more : List ℕ) → AreOf moments w → ArePromptMoves moments w ms → (v : World) (n : Moving) → StepsDo w ms (comes v n) → IsPromptIn (moments_then moments w ms ++ more) v n
steps_prompt_in moments w [] more of p v n h = absurd h
steps_prompt_in moments w (m ∷ ms) more of p v n (inl h) =
    let new : List ℕ = map (λ (r : Request). w.time) (does any_join words w m).opens in
    let after : World = next any_join words w m in
    let rest = moments_grow (moments ++ new) after ms in
    let all : List ℕ = moments_then moments w (m ∷ ms) ++ more in
    let whole : all ≡ (moments ++ new) ++ (rest.0 ++ more) = ap (λ (ts : List ℕ). ts ++ more) rest.1 ∙ append_assoc (moments ++ new) rest.0 more in
    let first : take (length w.requests) all ≡ moments = ap (take (length w.requests)) (whole ∙ append_assoc moments new (rest.0 ++ more)) ∙ take_front moments (new ++ (rest.0 ++ more)) (length w.requests) of in
    let second : take (length after.requests) all ≡ moments ++ new = ap (take (length after.requests)) whole ∙ take_front (moments ++ new) (rest.0 ++ more) (length after.requests) (more_of moments w m of) in
    let here : IsPromptIn all w m = record {
      prompt = subst (λ (ts : List ℕ). IsPromptMove ts w m) (sym first) p.0;
      after = second ∙ sym (ap (λ (ts : List ℕ). moments_after ts w (does any_join words w m)) first);
    } in
    subst (λ (u : World). IsPromptIn all u n) (sym h.0) (subst (λ (k : Moving). IsPromptIn all w k) (sym h.1) here)
steps_prompt_in moments w (m ∷ ms) more of p v n (inr h) = steps_prompt_in (moments_after moments w (does any_join words w m)) (next any_join words w m) ms more (more_of moments w m of) p.1 v n h

-- the moments of requests after these acts
abbrev acts_moments : List ℕ → State → List Act → List ℕ
acts_moments moments s [] = moments
acts_moments moments s (a ∷ acts) = acts_moments (moments_then moments s.world (acted s a).moves) (acted s a).state acts

acts_grow : (moments : List ℕ) (s : State) (acts : List Act) → (more : List ℕ) × (acts_moments moments s acts ≡ moments ++ more)
acts_grow moments s [] = ([], sym (append-nil moments))
acts_grow moments s (a ∷ acts) =
    let first = moments_grow moments s.world (acted s a).moves in
    let rest = acts_grow (moments_then moments s.world (acted s a).moves) (acted s a).state acts in
    (first.0 ++ rest.0, rest.1 ∙ (ap (λ (ts : List ℕ). ts ++ rest.0) first.1 ∙ append_assoc moments first.0 rest.0))

acts_prompt_in : (moments : List ℕ) (s : State) (acts : List Act) → AreOf moments s.world → ArePromptActs moments s acts → (v : World) (n : Moving) → ActsDo s acts (comes v n) → IsPromptIn (acts_moments moments s acts) v n
acts_prompt_in moments s [] of p v n h = absurd h
acts_prompt_in moments s (a ∷ acts) of p v n (inl h) =
    let rest = acts_grow (moments_then moments s.world (acted s a).moves) (acted s a).state acts in
    subst (λ (all : List ℕ). IsPromptIn all v n) (sym rest.1) (steps_prompt_in moments s.world (acted s a).moves rest.0 of p.0 v n h)
acts_prompt_in moments s (a ∷ acts) of p v n (inr h) =
    acts_prompt_in (moments_then moments s.world (acted s a).moves) (acted s a).state acts (many_of moments s.world (acted s a).moves of ∙ (acted_kin s a).requests) p.1 v n h

-- each step of prompt acts is prompt
pub deeds_prompt : (acts : List Act) → ArePromptActs [] start acts → (all : List ℕ) × ArePromptIn (ActsDo start acts) all
deeds_prompt acts p = (acts_moments [] start acts, λ v n h. acts_prompt_in [] start acts refl p v n h)

-- where no digests clash and what is collected is collected safely, all is clear
pub deeds_clear : (acts : List Act) → NoClash (ActsHash start acts) → CollectsSafely acts → IsClear (ActsDo start acts)
deeds_clear acts clear safely = record {
  apart = deeds_apart start acts clear;
  safe = elim safely [ inl never ↦ inl (never_acts start acts never) | inr prompt ↦ inr (deeds_prompt acts prompt) ];
}

-- ---- moments

prompt_first : (moments : List ℕ) (s : State) (before after : List Act) → ArePromptActs moments s (before ++ after) → ArePromptActs moments s before
prompt_first moments s [] after p = tt
prompt_first moments s (a ∷ before) after p = (p.0, prompt_first (moments_then moments s.world (acted s a).moves) (acted s a).state before after p.1)

prompt_last : (moments : List ℕ) (s : State) (before : List Act) (a : Act) (after : List Act) (last : Act) → ArePromptActs moments s (before ++ a ∷ after) →
    ((ts : List ℕ) → ArePromptMoves ts (after_acts s before).world (acted (after_acts s before) a).moves → ArePromptActs ts (after_acts s before) (last ∷ [])) → ArePromptActs moments s (before ++ last ∷ [])
prompt_last moments s [] a after last p f = f moments p.0
prompt_last moments s (b ∷ before) a after last p f = (p.0, prompt_last (moments_then moments s.world (acted s b).moves) (acted s b).state before a after last p.1 f)

-- some of a drain's deliveries are prompt where all are
fewer_prompt : (k n : ℕ) (s : State) (moments : List ℕ) → k ≤ n → ArePromptMoves moments s.world (drains n s).moves → ArePromptMoves moments s.world (drains k s).moves
fewer_prompt zero n s moments low p = tt
fewer_prompt (suc k) zero s moments low p = absurd (omega (arith, low))
fewer_prompt (suc k) (suc n) s moments low p =
    elim (undelivered s.world) as (λ o.
    ArePromptMoves moments s.world (elim o as (λ o. Outcome) [ None ↦ silent s | Some m ↦ let o = delivers s m in then_drains o (drains n o.state) ]).moves →
    ArePromptMoves moments s.world (elim o as (λ o. Outcome) [ None ↦ silent s | Some m ↦ let o = delivers s m in then_drains o (drains k o.state) ]).moves) [
      | None ↦ λ p. p
      | Some m ↦ λ p.
          let first : Outcome = delivers s m in
          let later : List ℕ = moments_then moments s.world first.moves in
          let parts = prompt_parts moments s.world first.moves (drains n first.state).moves p in
          let leads = delivers_lead s m in
          prompt_both moments s.world first.moves (drains k first.state).moves parts.0
          (subst (λ (w : World). ArePromptMoves later w (drains k first.state).moves) (sym leads)
          (fewer_prompt k n first.state later (omega (arith, low)) (subst (λ (w : World). ArePromptMoves later w (drains n first.state).moves) leads parts.1)))
    ] p

pub prompt_by_then : (acts moment : List Act) → IsMoment acts moment → ArePromptActs [] start acts → ArePromptActs [] start moment
prompt_by_then acts moment (between before after is) p = prompt_first [] start before after (subst (ArePromptActs [] start) is p)
prompt_by_then acts moment (within before after n k is low) p =
    prompt_last [] start before (drain n) after (drain k) (subst (ArePromptActs [] start) is p) (λ ts all. (fewer_prompt k n (after_acts start before) ts low all, tt))
