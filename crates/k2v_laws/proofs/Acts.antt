-- What each act keeps, up to the run of a list of acts.
use Rattle.std.specs.Prelude.{◌≡◌, ℕ, zero, suc, Bool, true, false, cond, Option, Some, None, List, [], ◌∷◌, refl}
use Rattle.std.specs.Option.{unwrap_or}
use Rattle.std.specs.List.{All}
use Rattle.std.proofs.Common.{inl, inr, subst}
use Rattle.std.proofs.lemmas.List.Elements.{All-nil}
use Rattle.wire_messages.specs.declared.phase.PhaseEnd.{PhaseEnd}
use Rattle.wire_messages.specs.declared.phase.PhaseEnd.TheVariants.{Row as Answered, Window, Kept, Block}
use Rattle.cluster_machine.specs.declared.step.Step.{Step}
use Rattle.cluster_machine.specs.declared.step.Step.TheVariants.{Deliver, Open, Phase, Close}
use Rattle.cluster_machine.specs.Node.{Ended}
use Rattle.cluster_machine.specs.Run.{IsStep}
use Rattle.cluster_machine.specs.World.{numbered, undelivered}
use Rattle.cluster_machine.specs.Worlds.{run}
use Rattle.machine_origins.specs.Origins.{stored_by}
use Rattle.k2v_rows.specs.declared.k2v_row.K2vRow.{K2vRow}
use Rattle.k2v_rows.specs.Row.{row_join, can_put, after_put}
use Rattle.k2v_schema.specs.Schema.{words}
use Rattle.k2v_model.specs.declared.order.Ask.{Ask}
use Rattle.k2v_model.specs.declared.order.Ask.TheVariants.{Write, Read}
use Rattle.k2v_model.specs.Orders.{empty_row}
use Rattle.k2v_model.specs.Run.{Moving, ItemRequest, Stage, reading, storing, stored, shown, over, is_open, token_at, State, start, Outcome, set_stage, silent, plainly, effect, doing, stores, reads_on, follows, follow, goes_on, delivers, then_drains, drains}
use Rattle.k2v_model.specs.Acts.{Act, moves, asks, delivery, drain, adds, ends_one, ends_all, plain, acted, after_acts, IsOuter, IsLawfulAct, AreLawfulActs, ActsFit}
use Rattle.k2v_laws.proofs.Acting.{is_calm, calm_sound, goes_on_sound}
use Rattle.machine_origins.proofs.Calm.{IsCalmStep}
use Rattle.k2v_laws.proofs.Every.{EveryWorld}
use Rattle.k2v_laws.proofs.Grown.{IsAfter}
use Rattle.k2v_laws.specs.Hashed.{ActsHash}
use Rattle.k2v_laws.proofs.Hashing.{FitIn, fit_in, in_parts}
use Rattle.k2v_laws.proofs.Opening.{begins_sound}
use Rattle.k2v_laws.proofs.Sound.{IsGoodRow, IsSound}
use Rattle.k2v_laws.proofs.Steps.{calm_ends, fits_closed, set_at, set_sound}

-- ---- the steps of an outcome lead to its world

abbrev pub Leads : State → Outcome → Type 0
Leads s o = run row_join words s.world o.moves ≡ o.state.world

writes_lead : (s : State) (q : ℕ) (a : ItemRequest) (row : K2vRow) (b : Bool) → Leads s (cond b (stores s q a row) (silent s))
writes_lead s q a row true = refl
writes_lead s q a row false = refl

reads_lead : (s : State) (q : ℕ) (a : ItemRequest) (given : Option K2vRow) (ask : Ask) → Leads s (reads_on s q a given ask)
reads_lead s q a given (Write value token) = let base = unwrap_or given (empty_row a.order.item) in let times = token_at (numbered s.requests token) in writes_lead s q a (after_put base a.node q value times) (can_put base a.node q times)
reads_lead s q a given Read = refl

follows_lead : (s : State) (q : ℕ) (a : ItemRequest) (end : PhaseEnd K2vRow) (stage : Stage) → Leads s (follows s q a end stage)
follows_lead s q a (Answered given) reading = reads_lead s q a given a.order.ask
follows_lead s q a (Answered given) (storing row) = refl
follows_lead s q a (Answered given) (stored row) = refl
follows_lead s q a (Answered given) (shown g begun) = refl
follows_lead s q a (Answered given) over = refl
follows_lead s q a (Window rows more) stage = refl
follows_lead s q a Kept reading = refl
follows_lead s q a Kept (storing row) = refl
follows_lead s q a Kept (stored row) = refl
follows_lead s q a Kept (shown g begun) = refl
follows_lead s q a Kept over = refl
follows_lead s q a (Block bytes) stage = refl

follow_leads : (s : State) (q : ℕ) (a : Option ItemRequest) (end : PhaseEnd K2vRow) → Leads s (follow s q a end)
follow_leads s q None end = refl
follow_leads s q (Some a) end = follows_lead s q a end a.stage

goes_on_leads : (s : State) (ends : List (Ended K2vRow)) → Leads s (goes_on s ends)
goes_on_leads s [] = refl
goes_on_leads s (e ∷ es) = follow_leads s e.request (numbered s.requests e.request) e.how

delivers_lead : (s : State) (m : ℕ) → Leads s (delivers s m)
delivers_lead s m = goes_on_leads (doing s (plainly (Deliver m))) (effect s (plainly (Deliver m))).ends

-- ---- steps that are no request's

outer_calm : (st : Step K2vRow) → IsOuter st → IsCalmStep st
outer_calm (Deliver m) h = absurd h
outer_calm (Open n) h = absurd h
outer_calm (Phase q phase) h = absurd h
outer_calm (Close q) h = absurd h
outer_calm _ h = tt

outer_is_step : (st : Step K2vRow) → IsOuter st → IsStep words 256 st
outer_is_step (Phase q phase) h = absurd h
outer_is_step _ h = tt

outer_stores : (P : K2vRow → Type 0) (st : Step K2vRow) → IsOuter st → All P (stored_by st)
outer_stores P (Phase q phase) h = absurd h
outer_stores P _ h = All-nil P

over_after : (stage : Stage) → is_open stage ≡ true → IsAfter stage over
over_after reading e = tt
over_after (storing row) e = tt
over_after (stored row) e = cc
over_after (shown given begun) e = cc
over_after over e = cc

no_entry : {A : Type 0} (q : ℕ) (a : ItemRequest) → numbered [] q ≡ Some a → A
no_entry zero a e = cc
no_entry (suc i) a e = cc

module _ {H : List ℕ → Type 0} where
  -- a request that is open is over
  end_sound : (s : State) (q : ℕ) (a : Option ItemRequest) → numbered s.requests q ≡ a → IsSound H s → IsSound H (record s { requests = ends_one s.requests q a })
  end_sound s q None at sound = sound
  end_sound s q (Some a) at sound =
      elim (is_open a.stage) as (λ b. is_open a.stage ≡ b → IsSound H (record s { requests = cond b (set_stage s.requests q a over) s.requests })) [
        | true ↦ λ opened_now.
            set_sound s q a at over opened_now (over_after a.stage opened_now) sound tt
            (λ n c h is. fits_closed (set_stage s.requests q a over) q (record a { stage = over }) (set_at s q a at over opened_now (over_after a.stage opened_now)) refl c.present)
        | false ↦ λ closed. sound
      ] refl

  ends_sound : (s : State) (qs : List ℕ) → IsSound H s → IsSound H (record s { requests = ends_all s.requests qs })
  ends_sound s [] sound = sound
  ends_sound s (q ∷ qs) sound = ends_sound (record s { requests = ends_one s.requests q (numbered s.requests q) }) qs (end_sound s q (numbered s.requests q) refl sound)

  start_sound : IsSound H start
  start_sound = record {
    reached = record { moves = []; lawful = tt; is = refl; hashed = λ x h. absurd h; good = All-nil _ };
    lengths = refl;
    presents = λ n c h. absurd h;
    entries = λ q a at. no_entry q a at;
    passed = λ key n p q v w lt. no_entry p v.one v.is_there;
  }

module _ {H : List ℕ → Type 0} (every : EveryWorld) where
  plain_sound : (s : State) (m : Moving) → IsLawfulAct s (moves m) → FitIn H s.world (plain s m).moves → IsSound H s → IsSound H (plain s m).state
  plain_sound s m lawful fits sound =
      ends_sound (doing s m) (effect s m).closes
      (calm_sound every s m (is_calm every s m (outer_calm m.step lawful.0) sound) (lawful.1, outer_is_step m.step lawful.0, lawful.2, fits.0.1, tt) fits.0.2 (outer_stores (IsGoodRow H s.requests) m.step lawful.0) sound)

  delivers_sound : (s : State) (m : ℕ) → FitIn H s.world (delivers s m).moves → IsSound H s → IsSound H (delivers s m).state
  delivers_sound s m fits sound =
      let d : Moving = plainly (Deliver m) in
      let calm = is_calm every s d tt sound in
      goes_on_sound every (doing s d) (effect s d).ends fits.1 (calm_sound every s d calm (tt, tt, tt, fits.0.1, tt) fits.0.2 (All-nil _) sound) (calm_ends s d sound calm)

  drains_sound : (n : ℕ) (s : State) → FitIn H s.world (drains n s).moves → IsSound H s → IsSound H (drains n s).state
  drains_sound zero s fits sound = sound
  drains_sound (suc n) s fits sound =
      elim (undelivered s.world) as (λ o. FitIn H s.world (elim o as (λ o. Outcome) [ None ↦ silent s | Some m ↦ let o = delivers s m in then_drains o (drains n o.state) ]).moves →
      IsSound H (elim o as (λ o. Outcome) [ None ↦ silent s | Some m ↦ let o = delivers s m in then_drains o (drains n o.state) ]).state) [
        | None ↦ λ fits. sound
        | Some m ↦ λ fits.
            let first : Outcome = delivers s m in
            let parts = in_parts H s.world first.moves (drains n first.state).moves fits in
            drains_sound n first.state (subst (λ w. FitIn H w (drains n first.state).moves) (delivers_lead s m) parts.1) (delivers_sound s m parts.0 sound)
      ] fits

  act_sound : (s : State) (a : Act) → IsLawfulAct s a → FitIn H s.world (acted s a).moves → IsSound H s → IsSound H (acted s a).state
  act_sound s (moves m) lawful fits sound = plain_sound s m lawful fits sound
  act_sound s (asks n order) lawful fits sound = begins_sound every s n order sound fits
  act_sound s (delivery m) lawful fits sound = delivers_sound s m fits sound
  act_sound s (drain n) lawful fits sound = drains_sound n s fits sound
  act_sound s (adds name) lawful fits sound = record { reached = sound.reached; lengths = sound.lengths; presents = sound.presents; entries = sound.entries; passed = sound.passed }

  acts_from : (s : State) (acts : List Act) → AreLawfulActs s acts → ActsFit s acts → ((x : List ℕ) → ActsHash s acts x → H x) → IsSound H s → IsSound H (after_acts s acts)
  acts_from s [] lawful fits all sound = sound
  acts_from s (a ∷ acts) lawful fits all sound =
      acts_from (acted s a).state acts lawful.1 fits.1 (λ x h. all x (inr h)) (act_sound s a lawful.0 (fit_in H s.world (acted s a).moves fits.0 (λ x h. all x (inl h))) sound)

-- the state that acts lead to is sound, over what they hash for walks
pub acts_sound : (every : EveryWorld) (acts : List Act) → AreLawfulActs start acts → ActsFit start acts → IsSound (ActsHash start acts) (after_acts start acts)
acts_sound every acts lawful fits = acts_from every start acts lawful fits (λ x h. h) start_sound
