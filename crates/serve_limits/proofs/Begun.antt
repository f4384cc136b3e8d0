-- Along acts of which none collects no collection begins.
use Rattle.std.specs.Prelude.{◌≤◌, ℕ, Bool, true, false, if◌then◌else◌, Option, Some, None, List, [], ◌∷◌, ◌++◌, refl}
use Rattle.std.proofs.Common.{sym, subst, inl}
use Rattle.crdt_rows.specs.AnyRow.{any_join}
use Rattle.object_schema.specs.Schema.{words}
use Rattle.layout_roles.specs.declared.role.Role.{Role}
use Rattle.machine_collects.specs.Without.{AreOther}
use Rattle.cluster_machine.specs.declared.step.Refusal.TheVariants.{NotMember, NoSuchBucket}
use Rattle.cluster_machine.specs.Layouts.{layouts}
use Rattle.cluster_machine.specs.World.{numbered, is_member_at}
use Rattle.flow_model.specs.declared.order.Order.{Order}
use Rattle.flow_model.specs.declared.flow.Flow.{Flow}
use Rattle.flow_model.specs.Streams as stream
use Rattle.store_model.specs.Orders.{buckets_of}
use Rattle.store_model.specs.Run.{Asked, State, Outcome, refusal, are_buckets, opened, begins, hears, heard_in, heard, fills_at}
use Rattle.store_model.specs.Acts.{Act, moves, installs, asks, delivery, drain, forgets, takes as takes_end, adds, cuts, feeds, keeps, gives_up, acted, after_acts}
use Rattle.store_model.proofs.Leads.{Leads, delivers_lead, drains_lead}
use Rattle.store_laws.proofs.Deeds.{others, never_acts}
use Rattle.store_laws.specs.Hashed.{IsOtherAct, NeverCollect}
use Rattle.serve_limits.specs.Counts.{HaveBegun, AllHaveBegun}
use Rattle.serve_limits.proofs.Collections.{trio_same, along_begun}

moves_other : (s : State) (a : Act) → IsOtherAct a → AreOther (acted s a).moves
moves_other s a other = others s.world (acted s a).moves (λ d. never_acts s (a ∷ []) (other, tt) (inl d))

-- ---- steps lead to the state

begins_lead : (s : State) (n : ℕ) (o : Order) → Leads s (begins s n o)
begins_lead s n o = by_test (is_member_at layouts s.world n) (are_buckets s.buckets (buckets_of o))
  where
    by_test : (x y : Bool) → Leads s (if x then (if y then opened s n o else refusal s NoSuchBucket) else refusal s NotMember)
    by_test true true = refl
    by_test true false = refl
    by_test false y = refl

heard_leads : (s : State) (q : ℕ) (says : Flow → stream.Step) (o : Option Asked) → Leads s (heard s q says o)
heard_leads s q says None = refl
heard_leads s q says (Some a) = by_flow a.flow
  where
    by_step : (o : stream.Step) → Leads s (hears s q a o)
    by_step None = refl
    by_step (Some n) = refl

    by_flow : (o : Option Flow) → Leads s (heard_in s q says a o)
    by_flow None = refl
    by_flow (Some flow) = by_step (says flow)

-- ---- acts

pub never_parts : (before later : List Act) → NeverCollect (before ++ later) → NeverCollect before × NeverCollect later
never_parts [] later h = (tt, h)
never_parts (a ∷ before) later h = let rest = never_parts before later h.1 in ((h.0, rest.0), rest.1)

module _ (k : ℕ) where
  record Begun (s : State) (o : Outcome) : Type 0 where
    moves : AllHaveBegun k s.world o.moves
    state : HaveBegun k o.state.world

  by_moves : (s : State) (o : Outcome) → AreOther o.moves → Leads s o → HaveBegun k s.world → Begun s o
  by_moves s o other leads h = let along = along_begun k s.world o.moves other h in record { moves = along.0; state = subst (HaveBegun k) leads along.1 }

  act_begun : (s : State) (a : Act) → IsOtherAct a → HaveBegun k s.world → Begun s (acted s a)
  act_begun s (moves m) other h = by_moves s (acted s (moves m)) (moves_other s (moves m) other) refl h
  act_begun s (asks n o) other h = by_moves s (acted s (asks n o)) (moves_other s (asks n o) other) (begins_lead s n o) h
  act_begun s (delivery m) other h = by_moves s (acted s (delivery m)) (moves_other s (delivery m) other) (delivers_lead s m) h
  act_begun s (drain n) other h = by_moves s (acted s (drain n)) (moves_other s (drain n) other) (drains_lead n s) h
  act_begun s (installs first) other h = record { moves = tt; state = λ n. subst (λ (b : ℕ). b ≤ k) (sym (trio_same any_join words s.world first (λ (roles : List Role). roles) n)) (h n) }
  act_begun s forgets other h = record { moves = tt; state = h }
  act_begun s (takes_end q) other h = record { moves = tt; state = h }
  act_begun s (adds name) other h = record { moves = tt; state = h }
  act_begun s (cuts block) other h = record { moves = tt; state = h }
  act_begun s (feeds q bytes) other h = by_moves s (acted s (feeds q bytes)) (moves_other s (feeds q bytes) other) (heard_leads s q (λ flow. stream.fed flow bytes) (numbered s.asked q)) h
  act_begun s (keeps q) other h = by_moves s (acted s (keeps q)) (moves_other s (keeps q) other) (heard_leads (record s { draws = fills_at s q (numbered s.asked q) ++ s.draws }) q stream.finished (numbered s.asked q)) h
  act_begun s (gives_up q) other h = by_moves s (acted s (gives_up q)) (moves_other s (gives_up q) other) (heard_leads s q stream.given_up (numbered s.asked q)) h

  after_begun : (s : State) (as' : List Act) → NeverCollect as' → HaveBegun k s.world → HaveBegun k (after_acts s as').world
  after_begun s [] never h = h
  after_begun s (a ∷ as') never h = after_begun (acted s a).state as' never.1 (act_begun s a never.0 h).state

  pub acts_begun : (s : State) (before : List Act) (act : Act) (later : List Act) → HaveBegun k s.world → NeverCollect (before ++ act ∷ later) → AllHaveBegun k (after_acts s before).world (acted (after_acts s before) act).moves
  acts_begun s before act later h never =
      let parts = never_parts before (act ∷ later) never in
      (act_begun (after_acts s before) act parts.1.0 (after_begun s before parts.0 h)).moves
